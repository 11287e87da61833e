-- Laws of tests of every pair: what is left of one at a place and one place further; and of a test that every record passes.
use mathlib.Core.Bool.{Bool, true, false}
use mathlib.Core.Path.{◌≡◌, refl}
use mathlib.Core.List.{List, [], ◌∷◌}
use Prim.Native.Nat.{ℕ, ◌+◌, ◌/◌, ◌≤◌, ◌<◌}
use lib.ListN.{length, get_or, drop}
use Rattle.paper.specs.Form.{Rec, every, pairs}
use Rattle.paper.specs.Records.{records}
use Rattle.store_records.proofs.Views.{records_from, records_end}

module _ (p : Rec → Rec → Bool) (s : List ℕ) (i : ℕ) where
  pub pairs_stop : i < length s / 256 → every (p (get_or (records s) i [])) (drop (i + 1) (records s)) ≡ false → pairs p (drop i (records s)) ≡ false
  pairs_stop h t = rw (records_from s i h, t)

  pub pairs_next : i < length s / 256 → every (p (get_or (records s) i [])) (drop (i + 1) (records s)) ≡ true
      → pairs p (drop i (records s)) ≡ pairs p (drop (i + 1) (records s))
  pairs_next h t = rw (records_from s i h, t)

  pub pairs_end : length s / 256 ≤ i → pairs p (drop i (records s)) ≡ true
  pairs_end h = rw (records_end s i h)

-- a test that every record passes
pub every_true : (p : Rec → Bool) (rs : List Rec) → ((r : Rec) → p r ≡ true) → every p rs ≡ true
every_true p [] h = refl
every_true p (r ∷ rs) h = rw (h r) (every_true p rs h)
