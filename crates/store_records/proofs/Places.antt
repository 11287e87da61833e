-- Laws of look-ups: the first record of which a statement holds stands at its place.
use mathlib.Core.Bool.{Bool, true, false, cond, ◌||◌}
use mathlib.Core.Path.{◌≡◌, refl, sym, ap, ◌∙◌}
use mathlib.Core.List.{List, [], ◌∷◌}
use Prim.Native.Nat.compare
use Prim.Native.Nat.{ℕ, suc}
use native.Mathlib.Omega.{arith}
use borrow.Author.Tests.{lt-ltb}
use lib.Dec.{ltb}
use lib.ListN.{length, get_or, set}
use Rattle.paper.specs.Form.{Rec, Form, say, test, some, seek}
use Rattle.paper.specs.Records.{is_free, insert}
use Rattle.store_records.specs.View.{index}

-- what a test of a record that was shown says of the record
pub told : (φ : Rec → Form) {x y : Rec} {b t : Bool} → x ≡ y → b ≡ test (φ x) → b ≡ t → test (φ y) ≡ t
told φ e f g = rw (← e) (sym f ∙ g)

module _ (φ : Rec → Form) where
  pub seek-index : (rs : List Rec) → seek φ rs ≡ get_or rs (index φ rs) []
  unfolding index
  seek-index [] = refl
  seek-index (r ∷ rs) = go (test (φ r)) (seek-index rs)
    where
      go : (b : Bool) → seek φ rs ≡ get_or rs (index φ rs) [] → cond b r (seek φ rs) ≡ get_or (r ∷ rs) (cond b 0 (suc (index φ rs))) []
      go true e = refl
      go false e = e

  pub some_index : (rs : List Rec) → test (some rs φ) ≡ ltb (index φ rs) (length rs)
  unfolding index
  some_index [] = refl
  some_index (r ∷ rs) = go (test (φ r)) (some_index rs)
    where
      go : (b : Bool) → test (some rs φ) ≡ ltb (index φ rs) (length rs)
          → (b || test (some rs φ)) ≡ ltb (cond b 0 (suc (index φ rs))) (suc (length rs))
      go true e = sym (lt-ltb 0 (suc (length rs)) (omega arith))
      go false e = rw (compare.suc-suc (suc (index φ rs)) (length rs)) e

-- a new record is put at the place of the first free one
pub insert-index : (n : Rec) (rs : List Rec) → insert n rs ≡ set rs (index (λ r. say (is_free r)) rs) n
unfolding index
insert-index n [] = refl
insert-index n (r ∷ rs) = go (is_free r) (insert-index n rs)
  where
    go : (b : Bool) → insert n rs ≡ set rs (index (λ r. say (is_free r)) rs) n
        → cond b (n ∷ rs) (r ∷ insert n rs) ≡ set (r ∷ rs) (cond b 0 (suc (index (λ r. say (is_free r)) rs))) n
    go true e = refl
    go false e = ap (λ (t : List Rec). r ∷ t) e
