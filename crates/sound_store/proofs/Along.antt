-- A pass over the records (`along`) record by record: its invariant is that the pass over all is the pass from place i on over what the
-- list is by then. And the place of the first record with a handle.
use mathlib.Core.Bool.{Bool, true, false, cond}
use mathlib.Core.Path.{◌≡◌, refl, ap, ◌∙◌}
use mathlib.Core.List.{List, []}
use Prim.Native.Nat.{ℕ, ◌+◌, ◌/◌, ◌≤◌, ◌<◌}
use native.Mathlib.Omega.{arith}
use denote.Param.Members.{Mut}
use denote.Ref.{Bor}
use borrow.Author.Tests.{eq-eqb, ne_eqb, ltb-true}
use lib.Dec.{ltb}
use lib.ListN.{length, get_or, drop}
use Rattle.std.proofs.lemmas.Iterator.Search.{position_from_yields_List}
use Rattle.std.specs.Fn.{Called}
use Rattle.std.specs.Iterator.{FindsPosition}
use Rattle.std.specs.Option.{unwrap_or}
use Rattle.std.specs.Slice.Iter.{chunks_exact_steps}
use Rattle.std.specs.declared.option.Option.{Option}
use Rattle.std.specs.declared.option.Option.TheVariants.{Some, None}
use Rattle.std.specs.declared.slice.ChunksExact.{ChunksExact}
use Rattle.paper.specs.Bytes.{byte, four}
use Rattle.paper.specs.Form.{Rec, Form, ◌equals◌, test}
use Rattle.paper.specs.Records.{records, own}
use Rattle.store_records.specs.View.{index, Shows}
use Rattle.store_records.proofs.Places.{some_index}
use Rattle.store_records.proofs.Shown.{yields, position-index}
use Rattle.store_records.proofs.Views.{length-records, records_from, records_end}
use Rattle.sound_store.specs.Guesses.{along, slot_of, place_of, seat_of}

module _ (f : ℕ → Rec → List ℕ → List ℕ) (s : List ℕ) (i : ℕ) (p : List ℕ) where
  pub along_next : i < length (records s) → along f i (drop i (records s)) p ≡ along f (i + 1) (drop (i + 1) (records s)) (f i (get_or (records s) i []) p)
  unfolding along
  along_next h = let l : i < length s / 256 = omega (arith, length-records s) in rw (records_from s i l)

  pub along_end : length (records s) ≤ i → along f i (drop i (records s)) p ≡ p
  unfolding along
  along_end h = let l : length s / 256 ≤ i = omega (arith, length-records s) in rw (records_end s i l)

-- the place of the first record with the handle h, or 0
module _ (h : ℕ) where
  abbrev with_it : Rec → Form
  with_it r = own r equals h

  pub place_le : (rs : List Rec) → length rs ≤ 256 → place_of h rs ≤ 255
  place_le rs l = rw (some_index with_it rs) (go (ltb (index with_it rs) (length rs)) refl)
    where
      go : (b : Bool) → ltb (index with_it rs) (length rs) ≡ b → cond b (index with_it rs) 0 ≤ 255
      go true e = omega (arith, l, ltb-true (index with_it rs) (length rs) e)
      go false e = omega arith

  or_none : (k : ℕ) (b : Bool) → unwrap_or (cond b (Some k) None) 0 ≡ cond b k 0
  or_none k true = refl
  or_none k false = refl

  pub place-records : {F : Type 0} {g : Mut F (Bor (List ℕ) × Unit {0}) Bool} {s : List ℕ} {it u : ChunksExact ℕ} {f : F} {r : Option ℕ}
      → Shows it s → ((x : Bor (List ℕ)) (b : Bool) (q : F) → Called g f (x, tt) b q → (q ≡ f) × (b ≡ test (own x.now equals h)))
      → FindsPosition chunks_exact_steps g it f r u → unwrap_or r 0 ≡ place_of h (records s)
  place-records {s = s} {it = it} {u = u} {f = f} shows tests ran =
      let rs : List Rec = records s in
      ap (λ o. unwrap_or o 0) (position_from_yields_List (λ x. test (with_it x)) u f _ ran (yields s it shows) tests)
      ∙ rw (position-index with_it rs, some_index with_it rs) (or_none (index with_it rs) (ltb (index with_it rs) (length rs)))
