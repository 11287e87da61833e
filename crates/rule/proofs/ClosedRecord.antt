-- What a close makes of one record: the session's own are sealed, the others meet the effect of what it holds.
use mathlib.Core.Path.{◌≡◌, refl}
use mathlib.Core.Bool.{cond}
use mathlib.Core.List.{List}
use Prim.Native.Nat.{ℕ}
use Rattle.paper.specs.Form.{Rec, ◌equals◌, test, Fact}
use Rattle.paper.specs.Records.{kind, SESSION, PENDING, session, bears, zeros}
use Rattle.paper.specs.Closing.{shut, has_key, sealed, closing, effect, holds}
use Rattle.laws.proofs.Choice.{choose}
use Rattle.laws.proofs.Places.{four_kept}
use Rattle.laws.proofs.Edits.{shut_at, shut-same}

module _ (s : ℕ) (rs : List Rec) where
  abbrev pub struck : Rec → Rec
  struck = effect (holds s 50 rs) (holds s 51 rs) rs

  pub closing-is : (P : Rec → Type 0) (x : Rec) → (session x ≡ s → P (sealed s rs x)) → ((session x ≡ s → ⊥) → P (struck x)) → P (closing s rs x)
  unfolding closing
  closing-is P x f g = choose P (bears s x) (sealed s rs x) (struck x) f g

  pub closing_in : (x : Rec) → session x ≡ s → closing s rs x ≡ sealed s rs x
  closing_in x e = closing-is (λ y. y ≡ sealed s rs x) x (λ i. refl) (λ n. absurd (n e))

  pub closing_out : (x : Rec) → (session x ≡ s → ⊥) → closing s rs x ≡ struck x
  closing_out x n = closing-is (λ y. y ≡ struck x) x (λ i. absurd (n i)) (λ m. refl)

  pub sealed-is : (P : Rec → Type 0) (x : Rec) → (kind x ≡ PENDING → P zeros) → (kind x ≡ SESSION → Fact (has_key s rs) → P (shut x))
      → (kind x ≡ SESSION → (Fact (has_key s rs) → ⊥) → P zeros) → ((kind x ≡ PENDING → ⊥) → (kind x ≡ SESSION → ⊥) → P x) → P (sealed s rs x)
  unfolding sealed
  sealed-is P x p q z o =
      choose P (kind x equals PENDING) zeros (cond (test (kind x equals SESSION)) (cond (test (has_key s rs)) (shut x) zeros) x) p (λ n.
      choose P (kind x equals SESSION) (cond (test (has_key s rs)) (shut x) zeros) x (λ k. choose P (has_key s rs) (shut x) zeros (q k) (z k)) (o n))

pub shut-kind : (x : Rec) → kind (shut x) ≡ kind x
shut-kind x = (shut-same x).at 0 refl

pub shut-session : (x : Rec) → session (shut x) ≡ session x
shut-session x = four_kept shut_at x (shut x) (shut-same x) 8 refl
