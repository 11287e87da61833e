-- A session's pendings on a key are found in the whole store.
use mathlib.Core.Path.{◌≡◌, refl, ◌∙◌}
use mathlib.Core.Bool.{Bool, true, false, ◌&&◌}
use mathlib.Core.List.{List, [], ◌∷◌}
use Prim.Native.Nat.{ℕ}
use lib.Dec.{eqb}
use Rattle.paper.specs.Form.{Rec, Form, ◌and◌, some, test}
use Rattle.paper.specs.Records.{kind, PENDING, session, parent, is_stale, bears, block}
use Rattle.paper.specs.Closing.{held}
use Rattle.method_acts.proofs.Blocks.{some_block}

-- a statement that names the session itself
some_same : (φ ψ : Rec → Form) (rs : List Rec) → ((x : Rec) → test (φ x) ≡ test (ψ x)) → test (some rs φ) ≡ test (some rs ψ)
some_same φ ψ [] h = refl
some_same φ ψ (x ∷ xs) h = rw (h x, some_same φ ψ xs h)

twice : (a b x : Bool) → (a && (b && x)) ≡ (b && (a && (b && x)))
twice true true x = refl
twice true false x = refl
twice false true x = refl
twice false false x = refl

pub held_block : (t k : ℕ) (rs : List Rec) → test (some rs (held t k)) ≡ test (some (block t rs) (held t k))
held_block t k rs =
    some_same (held t k) (λ r. bears t r and held t k r) rs
    (λ x. twice (eqb (kind x) PENDING) (eqb (session x) t) (eqb (is_stale x) 0 && eqb (parent x) k))
    ∙ some_block t (held t k) rs
