-- What a chain over a store's records comes to: `records` gives them one by one, so that `any`, `all` and `position` answer as
-- the statements `some` and `each` and the place `index` do. The closure is a test of one record: each call of it leaves it as it was.
use Rattle.std.proofs.lemmas.Iterator.{YieldsList}
use Rattle.std.proofs.lemmas.Iterator.Search.{all_from_yields_List, any_from_yields_List, position_from_yields_List}
use Rattle.std.specs.Iterator.{AlwaysYields, ChecksAll, ChecksAny, FindsPosition}
use Rattle.std.specs.Slice.Iter.{chunks_exact_rest, chunks_exact_size, chunks_exact_steps}
use Rattle.std.specs.declared.slice.ChunksExact.{ChunksExact}
use Rattle.std.specs.declared.option.Option.{Option}
use Rattle.std.specs.declared.option.Option.TheVariants.{Some, None}
use Rattle.std.specs.Option.{unwrap_or}
use Rattle.std.specs.List.{list_all, list_any, position_or_len}
use Rattle.std.specs.Fn.{Called}
use denote.Param.Members.{Mut}
use denote.Ref.{Bor}
use mathlib.Core.Bool.{Bool, true, false, cond, not, ◌&&◌, ◌||◌}
use mathlib.Core.Path.{◌≡◌, refl, sym, ap, subst, ◌∙◌}
use mathlib.Core.List.{List, [], ◌∷◌, ◌++◌}
use Prim.Native.Nat.{ℕ, zero, suc, ◌+◌, ◌/◌, ◌≤◌}
use native.Mathlib.Omega.{arith}
use lib.Dec.{ltb}
use Rattle.std.proofs.lemmas.Bool.{ltb-false}
use lib.ListN.{length, take, drop, length-append}
use lib.Seq.{drop_at, take_at}
use Rattle.paper.specs.Form.{Rec, Form, test, every, exists}
use Rattle.paper.specs.Records.{records, records_of}
use Rattle.store_records.specs.View.{index, Shows}

-- the records are what the iterator gives
gives : (n : ℕ) (it : ChunksExact ℕ) → length (chunks_exact_rest it) / 256 ≡ n → chunks_exact_size it ≡ 256
    → AlwaysYields chunks_exact_steps (λ x. x.now) it (records_of n (chunks_exact_rest it))
unfolding records_of
gives zero it e z = λ x j h. omega (arith, e, z, ap length h.1.0, length-append x.now (chunks_exact_rest j), h.1.1)
gives (suc n) it e z = (
  λ j h. omega (arith, e, z, h.1.0),
  λ x j h. let l : length x.now ≡ 256 = h.1.1 ∙ z in
      let w : chunks_exact_rest it ≡ x.now ++ chunks_exact_rest j = h.1.0 in
      let r : drop 256 (chunks_exact_rest it) ≡ chunks_exact_rest j = ap (drop 256) w ∙ drop_at x.now (chunks_exact_rest j) 256 l in
      let m : length (chunks_exact_rest j) / 256 ≡ n = omega (arith, e, l, ap length w, length-append x.now (chunks_exact_rest j)) in
      (sym (ap (take 256) w ∙ take_at x.now (chunks_exact_rest j) 256 l), subst (λ k. AlwaysYields chunks_exact_steps (λ y. y.now) j (records_of n k)) (sym r) (gives n j m (h.0 ∙ z))),
)

pub yields : (s : List ℕ) (it : ChunksExact ℕ) → Shows it s → YieldsList chunks_exact_steps (λ x. x.now) it (records s)
unfolding records
yields s it h = record { runs = subst (λ k. AlwaysYields chunks_exact_steps (λ x. x.now) it (records_of (length k / 256) k)) h.0 (gives _ it refl h.1) }

any-exists : (p : Rec → Bool) (rs : List Rec) → list_any p rs ≡ exists p rs
any-exists p [] = refl
any-exists p (r ∷ rs) = ap (λ b. p r || b) (any-exists p rs)

pub all-every : (p : Rec → Bool) (rs : List Rec) → list_all p rs ≡ every p rs
all-every p [] = refl
all-every p (r ∷ rs) = ap (λ b. p r && b) (all-every p rs)

module _ {F : Type 0} {g : Mut F (Bor (List ℕ) × Unit {0}) Bool} {s : List ℕ} {it u : ChunksExact ℕ} {f : F} (p : Rec → Bool)
    (h : Shows it s) (tests : (x : Bor (List ℕ)) (b : Bool) (q : F) → Called g f (x, tt) b q → (q ≡ f) × (b ≡ p x.now)) where
  pub any-records : {r : Bool} → ChecksAny chunks_exact_steps g it f r u → r ≡ exists p (records s)
  any-records ran = any_from_yields_List p u f _ ran (yields s it h) tests ∙ any-exists p (records s)

  pub all-records : {r : Bool} → ChecksAll chunks_exact_steps g it f r u → r ≡ every p (records s)
  all-records ran = all_from_yields_List p u f _ ran (yields s it h) tests ∙ all-every p (records s)

-- a place below the number of records is one at which the test holds
pub position-index : (φ : Rec → Form) (rs : List Rec) → position_or_len (λ r. test (φ r)) rs ≡ index φ rs
unfolding index
position-index φ [] = refl
position-index φ (r ∷ rs) = go (test (φ r)) (position-index φ rs)
  where
    go : (b : Bool) → position_or_len (λ q. test (φ q)) rs ≡ index φ rs → cond (not b) (1 + position_or_len (λ q. test (φ q)) rs) 0 ≡ cond b 0 (suc (index φ rs))
    go true e = refl
    go false e = omega (arith, e)

or_else-cond : (k n : ℕ) → k ≤ n → unwrap_or (cond (ltb k n) (Some k) None) n ≡ k
or_else-cond k n h = go (ltb k n) refl
  where
    go : (b : Bool) → ltb k n ≡ b → unwrap_or (cond b (Some k) None) n ≡ k
    go true e = refl
    go false e = omega (arith, ltb-false k n e)

index-le : (φ : Rec → Form) (rs : List Rec) → index φ rs ≤ length rs
unfolding index
index-le φ [] = omega arith
index-le φ (r ∷ rs) = go (test (φ r)) (index-le φ rs)
  where
    go : (b : Bool) → index φ rs ≤ length rs → cond b 0 (suc (index φ rs)) ≤ suc (length rs)
    go true h = omega arith
    go false h = omega arith

module _ {F : Type 0} {g : Mut F (Bor (List ℕ) × Unit {0}) Bool} {s : List ℕ} {it u : ChunksExact ℕ} {f : F} (φ : Rec → Form)
    (h : Shows it s) (tests : (x : Bor (List ℕ)) (b : Bool) (q : F) → Called g f (x, tt) b q → (q ≡ f) × (b ≡ test (φ x.now))) where
  pub position-records : {r : Option ℕ} → FindsPosition chunks_exact_steps g it f r u → unwrap_or r (length (records s)) ≡ index φ (records s)
  position-records ran = ap (λ o. unwrap_or o (length (records s))) (position_from_yields_List (λ r. test (φ r)) u f _ ran (yields s it h) tests)
      ∙ rw (position-index φ (records s)) (or_else-cond (index φ (records s)) (length (records s)) (index-le φ (records s)))
