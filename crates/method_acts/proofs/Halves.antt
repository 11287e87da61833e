-- A list asked in halves, so that a call that the first half refuses does not pay for the second; what status 0 tells of the first rung; and how long a call's string is.
use mathlib.Core.Path.{◌≡◌, refl, sym, ◌∙◌}
use mathlib.Core.Bool.{Bool, true, false, not, cond}
use mathlib.Core.List.{List, [], ◌∷◌, ◌++◌}
use Prim.Native.Nat.{ℕ, zero, suc, ◌+◌, ◌≤◌}
use native.Mathlib.Omega.{arith}
use lib.ListN.{length}
use Rattle.paper.specs.Bytes.{two, string_at}
use Rattle.paper.specs.Form.{Form, no, test, Fault, ◌gives◌, settle}
use Rattle.paper.proofs.Forms.{contrary}
use Rattle.laws.proofs.Bytes.{part_short}
use Rattle.paper.specs.Refusal.{number}
use Rattle.paper.specs.declared.Refusal.{Refusal}
use Rattle.method_acts.specs.Rungs.{status, proper}
use Rattle.method_acts.proofs.Climbs.{no-zero}

first_stands : (fs gs : List Fault) → (status fs ≡ 0 → ⊥) → status fs ≡ status (fs ++ gs)
unfolding status
first_stands [] gs h = absurd (h refl)
first_stands ((φ gives s) ∷ fs) gs h = go (test φ) (first_stands fs gs) h
  where
    go : (b : Bool) → ((status fs ≡ 0 → ⊥) → status fs ≡ status (fs ++ gs))
        → (cond b s (status fs) ≡ 0 → ⊥) → cond b s (status fs) ≡ cond b s (status (fs ++ gs))
    go true w h = refl
    go false w h = w h

second_asked : (fs gs : List Fault) → proper fs ≡ true → status fs ≡ 0 → status gs ≡ status (fs ++ gs)
unfolding status
second_asked [] gs e z = refl
second_asked ((φ gives zero) ∷ fs) gs e z = contrary (sym e)
second_asked ((φ gives suc s) ∷ fs) gs e z = go (test φ) (second_asked fs gs e) z
  where
    go : (b : Bool) → (status fs ≡ 0 → status gs ≡ status (fs ++ gs))
        → cond b (suc s) (status fs) ≡ 0 → status gs ≡ cond b (suc s) (status (fs ++ gs))
    go true w z = absurd (omega arith)
    go false w z = w z

module _ (fs gs : List Fault) where
  pub half_refused : {n : ℕ} (e : Refusal) → n ≡ number e → number e ≡ status fs → n ≡ status (fs ++ gs)
  half_refused e r f = r ∙ f ∙ first_stands fs gs (λ z. no-zero e (f ∙ z))

  pub half_passed : proper fs ≡ true → 0 ≡ status fs → {m : ℕ} → m ≡ status gs → m ≡ status (fs ++ gs)
  half_passed p z g = g ∙ second_asked fs gs p (sym z)

-- the first rung is the form
pub form_held : (φ : Form) (n : ℕ) (fs : List Fault) → status ((no φ gives suc n) ∷ fs) ≡ 0 → test φ ≡ true
unfolding status
form_held φ n fs z = go (test φ) z
  where
    go : (b : Bool) → cond (not b) (suc n) (settle fs (λ m. m) 0) ≡ 0 → b ≡ true
    go true z = refl
    go false z = absurd (omega arith)

-- a string is no longer than its two bytes say
pub string_short : (k : ℕ) (c : List ℕ) → length (string_at k c) ≤ two k c
unfolding string_at
string_short k c = part_short (k + 2) (two k c) c
