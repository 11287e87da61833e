-- Whether some record of a session is such: asked of the whole store, with the session in the statement.
use mathlib.Core.Path.{◌≡◌, refl, sym}
use mathlib.Core.Bool.{Bool, true, false, cond, ◌&&◌, ◌||◌}
use mathlib.Core.List.{List, [], ◌∷◌}
use Prim.Native.Nat.{ℕ}
use Rattle.paper.specs.Form.{Rec, Form, test, ◌and◌, some, keep}
use Rattle.paper.specs.Records.{bears, block}

some_keep : (φ ψ : Rec → Form) (rs : List Rec) → test (some (keep φ rs) ψ) ≡ test (some rs (λ r. φ r and ψ r))
some_keep φ ψ [] = refl
some_keep φ ψ (x ∷ xs) = go (test (φ x)) (some_keep φ ψ xs)
  where
    go : (b : Bool) → test (some (keep φ xs) ψ) ≡ test (some xs (λ r. φ r and ψ r))
        → test (some (cond b (x ∷ keep φ xs) (keep φ xs)) ψ) ≡ ((b && test (ψ x)) || test (some xs (λ r. φ r and ψ r)))
    go true e = rw e
    go false e = e

pub some_block : (t : ℕ) (ψ : Rec → Form) (rs : List Rec) → test (some rs (λ r. bears t r and ψ r)) ≡ test (some (block t rs) ψ)
unfolding block
some_block t ψ rs = sym (some_keep (bears t) ψ rs)
