-- Tests asked one after the other come to the status of their list, and the status says what the paper's outcome is.
use mathlib.Core.Path.{◌≡◌, refl, sym, ◌∙◌}
use mathlib.Core.Bool.{Bool, true, false, cond}
use mathlib.Core.List.{List, [], ◌∷◌}
use Prim.Native.Nat.{ℕ, zero, suc}
use native.Mathlib.Omega.{arith}
use Rattle.paper.specs.Form.{test, Fact, Fault, ◌gives◌, settle}
use Rattle.paper.specs.Refusal.{number}
use Rattle.paper.specs.declared.Refusal.{Refusal}
use Rattle.paper.specs.declared.Refusal.TheVariants.{Wrong, NoRoom, MacDiffers, NotVerified, NotOpen, NotFit, NoKey, NoAlgorithm, NoForm, BreaksRule, Unsound, NoParent, ShortReply}
use Rattle.paper.proofs.Forms.{both, contrary, Clear}
use Rattle.method_acts.specs.Rungs.{status, proper}

-- no refusal has the number 0
pub no-zero : (e : Refusal) → number e ≡ 0 → ⊥
no-zero Wrong z = absurd (omega arith)
no-zero NoRoom z = absurd (omega arith)
no-zero MacDiffers z = absurd (omega arith)
no-zero NotVerified z = absurd (omega arith)
no-zero NotOpen z = absurd (omega arith)
no-zero NotFit z = absurd (omega arith)
no-zero NoKey z = absurd (omega arith)
no-zero NoAlgorithm z = absurd (omega arith)
no-zero NoForm z = absurd (omega arith)
no-zero BreaksRule z = absurd (omega arith)
no-zero Unsound z = absurd (omega arith)
no-zero NoParent z = absurd (omega arith)
no-zero ShortReply z = absurd (omega arith)

-- what is refused with n, and what is done where none applies
abbrev pub on_status : {A : Type 0} → ℕ → (ℕ → A) → A → A
on_status zero refused done = done
on_status (suc n) refused done = refused (suc n)

settle-status : {A : Type 0} (fs : List Fault) (refused : ℕ → A) (done : A) → proper fs ≡ true → settle fs refused done ≡ on_status (status fs) refused done
unfolding status
settle-status [] refused done e = refl
settle-status ((φ gives zero) ∷ fs) refused done e = contrary (sym e)
settle-status {A} ((φ gives suc s) ∷ fs) refused done e = go (test φ) (settle-status fs refused done e)
  where
    go : (b : Bool) → settle fs refused done ≡ on_status (settle fs (λ n. n) 0) refused done
        → cond b (refused (suc s)) (settle fs refused done) ≡ on_status (cond b (suc s) (settle fs (λ n. n) 0)) refused done
    go true w = refl
    go false w = w

module _ {A : Type 0} (fs : List Fault) (refused : ℕ → A) (done : A) (e : proper fs ≡ true) where
  pub settle-done : status fs ≡ 0 → settle fs refused done ≡ done
  settle-done z = settle-status fs refused done e ∙ rw z

  pub settle_not : (status fs ≡ 0 → ⊥) → settle fs refused done ≡ refused (status fs)
  settle_not h = settle-status fs refused done e ∙ go (status fs) h
    where
      go : (n : ℕ) → (n ≡ 0 → ⊥) → on_status n refused done ≡ refused n
      go zero h = absurd (h refl)
      go (suc n) h = refl

-- the same by what the code has told: a refusal, or none
module _ {A : Type 0} (fs : List Fault) (refused : ℕ → A) (done : A) (p : proper fs ≡ true) where
  pub told_not : (e : Refusal) → number e ≡ status fs → settle fs refused done ≡ refused (number e)
  told_not e f = settle_not fs refused done p (λ z. no-zero e (f ∙ z)) ∙ rw f

  pub told-done : 0 ≡ status fs → settle fs refused done ≡ done
  told-done z = settle-done fs refused done p (sym z)

-- status 0 tells that no refusal of the list applies
pub cleared : (fs : List Fault) → proper fs ≡ true → status fs ≡ 0 → Clear fs
unfolding status
cleared [] e z = tt
cleared ((φ gives zero) ∷ fs) e z = contrary (sym e)
cleared ((φ gives suc n) ∷ fs) e z = go (test φ) refl z (λ w. cleared fs e w)
  where
    go : (b : Bool) → test φ ≡ b → cond b (suc n) (settle fs (λ m. m) 0) ≡ 0 → (settle fs (λ m. m) 0 ≡ 0 → Clear fs) → (Fact φ → ⊥) × Clear fs
    go true t z k = absurd (omega arith)
    go false t z k = ((λ p. contrary (sym ((both φ).1 p) ∙ t)), k z)
