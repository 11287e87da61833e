-- Who goes when keys are removed: all such records are lost, or one remains. And what the effect makes of a record, case by case.
use mathlib.Core.Path.{◌≡◌, refl, ◌∙◌}
use mathlib.Core.Bool.{true, cond}
use mathlib.Core.List.{List, Memᴰ}
use mathlib.Core.Logic.{◌⊎◌, inl, inr}
use Prim.Native.Nat.{ℕ, ◌≤◌}
use native.Mathlib.Omega.{arith}
use Rattle.paper.specs.Form.{Rec, Form, ◌equals◌, no, ◌and◌, ◌or◌, some, test, Fact}
use Rattle.paper.specs.Records.{kind, SESSION, PUK, POLICY, KEY, CLOSED, own, session, parent, state, zeros}
use Rattle.paper.specs.Pin.{clear}
use Rattle.paper.specs.Closing.{Keys, lost, key_goes, policy_goes, puk_goes, session_goes, goes, key_unlocked, puk_unlocked, stale, pending_on, effect}
use Rattle.paper.proofs.Forms.{cases}
use Rattle.laws.proofs.Choice.{choose}

module _ (rs : List Rec) (such gone : Rec → Form) where
  pub remains : Fact (some rs such) → (Fact (lost rs such gone) → ⊥) → Fact (some rs (λ x. such x and no (gone x)))
  remains w n = cases (some rs (λ x. such x and no (gone x))) (λ p. p) (λ h. cases (gone w.0)
      (λ g. absurd (n ((w.0, w.1, (w.2, g)), h))) (λ g. (w.0, w.1, (w.2, g))))

  pub all_lost : Fact (lost rs such gone) → (x : Rec) → Memᴰ x rs → Fact (such x) → Fact (gone x)
  all_lost l x m q = cases (gone x) (λ g. g) (λ g. absurd (l.1 (x, m, (q, g))))

-- those that are lost, by name
abbrev pub keys_under : Rec → Rec → Form
keys_under p x = kind x equals KEY and parent x equals own p and session x equals session p

abbrev pub policies_under : Rec → Rec → Form
policies_under p x = kind x equals POLICY and parent x equals own p and session x equals session p

abbrev pub keys_in : Rec → Rec → Form
keys_in p x = kind x equals KEY and session x equals own p

-- who goes, by name
pub data Going (d : Keys) (rs : List Rec) (x : Rec) : Type 0 where
  a_key : Fact (key_goes d rs x) → Going d rs x
  a_policy : Fact (policy_goes d rs x) → Going d rs x
  a_puk : Fact (puk_goes d rs x) → Going d rs x
  a_session : Fact (session_goes d rs x) → Going d rs x

-- a key that is removed, at x or there, of x's session
pub record NamedKey (d : Keys) (rs : List Rec) (x : Rec) : Type 0 where
  pub key : Rec
  pub there : (key ≡ x) ⊎ Memᴰ key rs
  pub is : kind key ≡ KEY
  pub named : d (own key) ≡ true
  pub its : (t : ℕ) → session x ≡ t → (kind x ≡ SESSION → own x ≡ t) → session key ≡ t

module _ (d : Keys) (rs : List Rec) (x : Rec) where
  pub who : Fact (goes d rs x) → Going d rs x
  who (inl w) = a_key w
  who (inr (inl w)) = a_policy w
  who (inr (inr (inl w))) = a_puk w
  who (inr (inr (inr w))) = a_session w

  pub going : Going d rs x → Fact (goes d rs x)
  going (a_key w) = inl w
  going (a_policy w) = inr (inl w)
  going (a_puk w) = inr (inr (inl w))
  going (a_session w) = inr (inr (inr w))

  pub goes_key : kind x ≡ KEY → Fact (goes d rs x) → d (own x) ≡ true
  goes_key k g = at (who g)
    where
      at : Going d rs x → d (own x) ≡ true
      at (a_key w) = w.1
      at (a_policy w) = let j = w.0 in absurd (omega arith)
      at (a_puk w) = let j = w.0 in absurd (omega arith)
      at (a_session w) = let j = w.0 in absurd (omega arith)

  pub goes_policy : kind x ≡ POLICY → Fact (goes d rs x) → Fact (lost rs (keys_under x) (key_goes d rs))
  goes_policy k g = at (who g)
    where
      at : Going d rs x → Fact (lost rs (keys_under x) (key_goes d rs))
      at (a_key w) = let j = w.0 in absurd (omega arith)
      at (a_policy w) = w.1
      at (a_puk w) = let j = w.0 in absurd (omega arith)
      at (a_session w) = let j = w.0 in absurd (omega arith)

  pub goes_puk : kind x ≡ PUK → Fact (goes d rs x) → Fact (lost rs (policies_under x) (policy_goes d rs))
  goes_puk k g = at (who g)
    where
      at : Going d rs x → Fact (lost rs (policies_under x) (policy_goes d rs))
      at (a_key w) = let j = w.0 in absurd (omega arith)
      at (a_policy w) = let j = w.0 in absurd (omega arith)
      at (a_puk w) = w.1
      at (a_session w) = let j = w.0 in absurd (omega arith)

  pub goes_session : kind x ≡ SESSION → Fact (goes d rs x) → (state x ≡ CLOSED) × Fact (lost rs (keys_in x) (key_goes d rs))
  goes_session k g = at (who g)
    where
      at : Going d rs x → (state x ≡ CLOSED) × Fact (lost rs (keys_in x) (key_goes d rs))
      at (a_key w) = let j = w.0 in absurd (omega arith)
      at (a_policy w) = let j = w.0 in absurd (omega arith)
      at (a_puk w) = let j = w.0 in absurd (omega arith)
      at (a_session (j, (c, l))) = (c, l)

  -- nobody else goes
  pub goes_among : Fact (goes d rs x) → (SESSION ≤ kind x) × (kind x ≤ KEY)
  goes_among g = at (who g)
    where
      at : Going d rs x → (SESSION ≤ kind x) × (kind x ≤ KEY)
      at (a_key w) = let j = w.0 in (omega arith, omega arith)
      at (a_policy w) = let j = w.0 in (omega arith, omega arith)
      at (a_puk w) = let j = w.0 in (omega arith, omega arith)
      at (a_session w) = let j = w.0 in (omega arith, omega arith)

  -- where anybody goes, a key is removed
  pub named_key : Fact (goes d rs x) → NamedKey d rs x
  named_key g = at (who g)
    where
      at : Going d rs x → NamedKey d rs x
      at (a_key (k, e)) = record { key = x; there = inl refl; is = k; named = e; its = λ t i o. i }
      at (a_policy (k, ((z, m, ((kz, (p, q)), w)), n))) = record { key = z; there = inr m; is = kz; named = w.1; its = λ t i o. q ∙ i }
      at (a_puk (k, ((y, l, ((ky, (a, b)), (j, ((z, m, ((kz, (p, q)), w)), u)))), n))) = record { key = z; there = inr m; is = kz; named = w.1; its = λ t i o. q ∙ b ∙ i }
      at (a_session (k, (c, ((z, m, ((kz, q), w)), n)))) = record { key = z; there = inr m; is = kz; named = w.1; its = λ t i o. q ∙ o k }

-- freed, a count cleared, stale, or the same
pub effect_is : (d u : Keys) (rs : List Rec) (P : Rec → Type 0) (x : Rec)
    → (Fact (goes d rs x) → P zeros)
    → ((Fact (goes d rs x) → ⊥) → Fact (key_unlocked u x) → P (clear 2 x))
    → ((Fact (goes d rs x) → ⊥) → Fact (puk_unlocked u rs x) → P (clear 3 x))
    → ((Fact (goes d rs x) → ⊥) → Fact (pending_on d x or pending_on u x) → P (stale x))
    → ((Fact (goes d rs x) → ⊥) → (Fact (key_unlocked u x) → ⊥) → (Fact (puk_unlocked u rs x) → ⊥) → (Fact (pending_on d x or pending_on u x) → ⊥) → P x)
    → P (effect d u rs x)
unfolding effect
effect_is d u rs P x gone key puk pending none =
    choose P (goes d rs x) zeros
    (cond (test (key_unlocked u x)) (clear 2 x) (cond (test (puk_unlocked u rs x)) (clear 3 x) (cond (test (pending_on d x or pending_on u x)) (stale x) x))) gone
    (λ g.
    choose P (key_unlocked u x) (clear 2 x) (cond (test (puk_unlocked u rs x)) (clear 3 x) (cond (test (pending_on d x or pending_on u x)) (stale x) x))
    (key g) (λ a.
    choose P (puk_unlocked u rs x) (clear 3 x) (cond (test (pending_on d x or pending_on u x)) (stale x) x) (puk g) (λ b.
    choose P (pending_on d x or pending_on u x) (stale x) x (pending g) (λ c. none g a b c))))
