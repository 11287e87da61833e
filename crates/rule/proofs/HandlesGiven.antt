-- Handles given before: below the counter's number, and below the next number of their session while that is there. No edit of a
-- record takes that back, and of a handle that names a record it holds.
use mathlib.Core.Path.{◌≡◌, refl, sym, ◌∙◌}
use mathlib.Core.Bool.{Bool, false}
use mathlib.Core.List.{List, map, Memᴰ}
use mathlib.Core.Logic.{inl, inr}
use Prim.Native.Nat.{ℕ, ◌+◌, ◌*◌, ◌≤◌, ◌<◌}
use native.Mathlib.Omega.{arith}
use lib.Dec.{lit≤}
use Rattle.paper.specs.Limits.{handle_step}
use Rattle.paper.specs.Bytes.{enc4, over}
use Rattle.paper.specs.Form.{Rec, Form, ◌equals◌, ◌or◌, Fact, only}
use Rattle.paper.specs.Records.{kind, SESSION, COUNTER, own, session, bears, session_of, next_object, next_session, zeros, insert}
use Rattle.paper.specs.Sound.{is_object, has_handle}
use Rattle.paper.specs.Pin.{clear}
use Rattle.paper.specs.Closing.{Keys, stale, pending_on, effect, holds, shut, sealed, closing}
use Rattle.paper.specs.Sessions.{counted}
use Rattle.paper.specs.Act.{moved}
use Rattle.paper.proofs.Forms.{cases}
use Rattle.laws.proofs.Choice.{choose, only-is}
use Rattle.laws.proofs.Edits.{clear-same, stale-same, moved_at, moved_same, moved_next, shut_at, shut-same, onward_same}
use Rattle.laws.proofs.Facts.{Alone, Facts}
use Rattle.laws.proofs.Handles.{carries}
use Rattle.laws.proofs.Inserting.{byte-zeros, insert_all}
use Rattle.laws.proofs.Lists.{map_all}
use Rattle.laws.proofs.Losses.{effect_is}
use Rattle.laws.proofs.Places.{Same, hit, two_kept, four_kept}
use Rattle.rule.proofs.RecordEdits.{long, next_range, next_onward}
use Rattle.rule.proofs.ClosedRecord.{sealed-is}

pub record Before (h : ℕ) (z : Rec) : Type 0 where
  pub counter : kind z ≡ COUNTER → h < next_session z * handle_step
  pub session : kind z ≡ SESSION → own z ≡ session_of h → h < own z + next_object z

abbrev pub Past : ℕ → List Rec → Type 0
Past h rs = (z : Rec) → Memᴰ z rs → Before h z

-- ---- what no edit takes back

pub record Rises (x y : Rec) : Type 0 where
  pub counter : kind y ≡ COUNTER → (kind x ≡ COUNTER) × (next_session x ≤ next_session y)
  pub session : kind y ≡ SESSION → (kind x ≡ SESSION) × ((own x ≡ own y) × (next_object x ≤ next_object y))

pub past_map : (h : ℕ) (f : Rec → Rec) (rs : List Rec) → ((x : Rec) → Memᴰ x rs → Rises x (f x)) → Past h rs → Past h (map f rs)
past_map h f rs R P = map_all (Before h) f rs (λ x m. risen x (f x) (R x m) (P x m))
  where
    risen : (x y : Rec) → Rises x y → Before h x → Before h y
    risen x y r b =
        record {
          counter = λ k. let w = r.counter k in let l = w.1 in let c = b.counter w.0 in omega arith;
          session = λ k e. let w = r.session k in let o = w.1.0 in let l = w.1.1 in let c = b.session w.0 (o ∙ e) in omega arith;
        }

pub past_insert : (h : ℕ) (n : Rec) (rs : List Rec) → Before h n → Past h rs → Past h (insert n rs)
past_insert h n rs b P = insert_all (Before h) n rs b P

-- a new object
pub before-object : (h : ℕ) (n : Rec) → Fact (is_object n) → Before h n
before-object h n (a, b) = record { counter = λ k. absurd (omega arith); session = λ k e. absurd (omega arith) }

-- ---- edits of a record

module _ (x : Rec) where
  pub rises_self : Rises x x
  rises_self = record { counter = λ k. (k, omega arith); session = λ k. (k, (refl, omega arith)) }

  pub rises_zeros : Rises x zeros
  rises_zeros = record { counter = λ k. let z = byte-zeros 0 in absurd (omega arith); session = λ k. let z = byte-zeros 0 in absurd (omega arith) }

  -- an object stays one
  pub rises_object : (y : Rec) → kind y ≡ kind x → Fact (is_object x) → Rises x y
  rises_object y e (a, b) = record { counter = λ k. absurd (omega arith); session = λ k. absurd (omega arith) }

  pub rises_only : (φ : Rec → Form) (e : Rec → Rec) → (Fact (φ x) → Rises x (e x)) → Rises x (only φ e x)
  rises_only φ e f = only-is (Rises x) φ e x f (λ n. rises_self)

  rises_same : (touched : ℕ → Bool) (y : Rec) → Same touched x y → touched 0 ≡ false → hit touched 2 2 ≡ false → hit touched 4 4 ≡ false → Rises x y
  rises_same touched y S a b c =
      let k = S.at 0 a in
      let n = two_kept touched x y S 2 b in
      let o = four_kept touched x y S 4 c in
      record { counter = λ j. (omega arith, omega arith); session = λ j. (omega arith, (sym o, omega arith)) }

  pub rises_effect : (d u : Keys) (rs : List Rec) → Rises x (effect d u rs x)
  rises_effect d u rs =
      effect_is d u rs (Rises x) x (λ g. rises_zeros) (λ g k. let e = k.0 in rises_object (clear 2 x) ((clear-same 2 x).at 0 refl) (omega arith, omega arith))
      (λ g k. let e = k.0 in rises_object (clear 3 x) ((clear-same 3 x).at 0 refl) (omega arith, omega arith)) (λ g k. marked k) (λ g a b c. rises_self)
    where
      marked : Fact (pending_on d x or pending_on u x) → Rises x (stale x)
      marked (inl k) = let e = k.0 in rises_object (stale x) ((stale-same x).at 0 refl) (omega arith, omega arith)
      marked (inr k) = let e = k.0 in rises_object (stale x) ((stale-same x).at 0 refl) (omega arith, omega arith)

  pub rises_closing : (s : ℕ) (rs : List Rec) → Rises x (closing s rs x)
  unfolding closing
  rises_closing s rs =
      choose (Rises x) (bears s x) (sealed s rs x) (effect (holds s 50 rs) (holds s 51 rs) rs x)
      (λ e. sealed-is s rs (Rises x) x (λ k. rises_zeros) (λ k w. rises_same shut_at (shut x) (shut-same x) refl refl refl) (λ k n. rises_zeros) (λ n m. rises_self))
      (λ n. rises_effect (holds s 50 rs) (holds s 51 rs) rs)

  pub rises_moved : Alone x → kind x ≡ SESSION → (objects used : ℕ) → objects ≤ 1 → Rises x (moved objects used x)
  rises_moved A k objects used l =
      let S = moved_same objects used x in
      let j = S.at 0 refl in
      let o = four_kept moved_at x (moved objects used x) S 4 refl in
      let r = next_range x A k in
      let n = moved_next objects used x (rw (long x A) (lit≤ tt)) (omega arith) in
      record { counter = λ i. absurd (omega arith); session = λ i. (k, (sym o, omega arith)) }

  pub rises_counted : Alone x → Rises x (counted x)
  unfolding counted
  rises_counted A = rises_only (λ r. kind r equals COUNTER) (λ r. over 4 (enc4 (next_session r + 1)) r) (λ k.
      let j = (onward_same x).at 0 refl in
      let n = next_onward x A k in
      record { counter = λ i. (k, omega arith); session = λ i. absurd (omega arith) })

pub rises_then : (x y z : Rec) → Rises x y → Rises y z → Rises x z
rises_then x y z r q =
    record {
      counter = λ k. let w = q.counter k in let v = r.counter w.0 in let a = w.1 in let b = v.1 in (v.0, omega arith);
      session = λ k.
          let w = q.session k in
          let v = r.session w.0 in
          let a = w.1.1 in
          let b = v.1.1 in
          (v.0, (v.1.0 ∙ w.1.0, omega arith));
    }

-- ---- a handle that names a record

module _ (rs : List Rec) (F : Facts rs) where
  session_past : (y : Rec) → Memᴰ y rs → kind y ≡ SESSION → Past (own y) rs
  session_past y m k z i =
      record {
        counter = λ j. (F.related z i y m).below_counter j k;
        session = λ j e.
            let c = ((F.alone y m).session_carries k).1.1 in
            let r = next_range z (F.alone z i) j in
            omega arith;
      }

  object_past : (y : Rec) → Memᴰ y rs → Fact (is_object y) → Past (own y) rs
  object_past y m k z i =
      let c = carries rs F y m k in
      let o = (F.alone y m).object_carries k in
      let w = (F.housed y m).session_there k in
      let l = ((F.alone w.0 w.1).session_carries w.2.0).1.1 in
      let a = w.2.1.0 in
      let o1 = o.1 in
      record {
        counter = λ j. let b = (F.related z i w.0 w.1).below_counter j w.2.0 in omega arith;
        session = λ j e. (F.related z i y m).below_next j k (sym c.0 ∙ sym e);
      }

  pub there_past : (y : Rec) → Memᴰ y rs → Fact (has_handle y) → Past (own y) rs
  there_past y m (a, b) = cases (kind y equals SESSION) (session_past y m) (λ n. object_past y m (omega arith, b))
