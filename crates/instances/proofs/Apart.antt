-- The two orders, not for want of such calls: session 2 holds one key's removal and closes, session 3 asks for the unlocking of another
-- key under the same policy. Every premise holds, and the two orders leave the new pending at different places.
use mathlib.Core.Path.{◌≡◌, refl, sym, ap, subst}
use mathlib.Core.Bool.{Bool, true, false, ◌||◌}
use mathlib.Core.List.{List, []}
use mathlib.Core.Logic.{inl, inr}
use Prim.Native.Nat.{ℕ}
use native.Mathlib.Omega.{arith}
use lib.ListN.{get_or}
use lib.Dec.{eqb}
use borrow.Author.Tests.{eqb-true}
use Rattle.hmac.specs.Same.{same}
use Rattle.paper.specs.Limits.{reply_bytes}
use Rattle.paper.specs.Bytes.{byte, two, four, part, text_at, all_within, zeros_of}
use Rattle.paper.specs.Form.{Rec, some, Fact}
use Rattle.paper.specs.Records.{records_of, records, joined, at}
use Rattle.paper.specs.Table.{obeys_table}
use Rattle.paper.specs.Sound.{length_fits, sound}
use Rattle.paper.specs.Calls.{method}
use Rattle.paper.specs.Closing.{held}
use Rattle.paper.specs.Answer.{is_open}
use Rattle.paper.proofs.Forms.{both, contrary}
use Rattle.worked.specs.Hex.{hex}
use Rattle.rule.specs.Runs.{Call}
use Rattle.rule.specs.Stands.{Holds}
use Rattle.rule.specs.Orders.{CallOn, asks, closed_key, NamesOnlyThose, Wants, Premises, SameOutcome}
use Rattle.rule.proofs.Orders.{orders}
use Rattle.instances.proofs.Pair.{with_names, close_first, on_session_lem, no_two}
use Rattle.instances.proofs.ApartCloseFirst as ab
use Rattle.instances.proofs.ApartPostFirst as ba

abbrev store : List ℕ
store = joined ab.store_0

-- sessions 2 and 3
abbrev a : ℕ
a = 131072

abbrev b : ℕ
b = 196608

abbrev p : Call
p = record { bytes = hex ab.call_1; chip = []; reply = zeros_of reply_bytes }

abbrev q : Call
q = record { bytes = hex ab.call_2; chip = hex "01"; reply = zeros_of reply_bytes }

is-sound : sound store ≡ true
unfolding sound length_fits records records_of joined byte two four part text_at all_within obeys_table same
is-sound = refl

open_a : Fact (is_open a (records store))
unfolding records records_of joined at byte four
open_a = refl

open_b : Fact (is_open b (records store))
unfolding records records_of joined at byte four
open_b = refl

on_a : CallOn a p
unfolding all_within byte four
on_a = on_session_lem a p refl refl refl

on_b : CallOn b q
unfolding all_within byte four
on_b = on_session_lem b q refl refl refl

is_close : method p.bytes ≡ 3
unfolding byte
is_close = refl

-- the post names a key of a closed session
asked : (k : ℕ) → Fact (asks q k) → 65540 ≡ k
unfolding byte four
asked k w = w.1.1.0

its_key : Fact (closed_key 65540 (records store))
unfolding records records_of joined byte four
its_key = (both (closed_key 65540 (records store))).0 refl

names_b : NamesOnlyThose b q store
unfolding byte
names_b h (inl w) = absurd (let e : ◌≡◌ {A = ℕ} 51 9 = w.0 in omega arith)
names_b h (inr (inl w)) = absurd (let e : ◌≡◌ {A = ℕ} 51 10 = w.0 in omega arith)
names_b h (inr (inr (inl w))) = absurd (let e : ◌≡◌ {A = ℕ} 51 12 = w.0 in omega arith)
names_b h (inr (inr (inr w))) = inr (subst (λ (n : ℕ). Fact (closed_key n (records store))) (asked h w) its_key)

-- session 2 holds one key, session 3 none
held_by_a : (k : ℕ) → Holds a k store → 65539 ≡ k
unfolding records records_of joined byte four
held_by_a k h = only (eqb 65539 k) refl ((both (some (records store) (held a k))).1 h)
  where
    only : (t : Bool) → eqb 65539 k ≡ t → (t || false) ≡ true → 65539 ≡ k
    only true e i = eqb-true 65539 k e
    only false e i = contrary (sym i)

held_by_b : (k : ℕ) → Holds b k store → ⊥
unfolding records records_of joined byte four
held_by_b k h = contrary (sym ((both (some (records store) (held b k))).1 h))

not_both : (k : ℕ) → Holds a k store → Wants b q k store → ⊥
not_both k h (inl h') = held_by_b k h'
not_both k h (inr w) = let i = held_by_a k h in let j = asked k w in omega arith

pub premises : Premises store a b p q
premises =
    with_names store a b p q
    (close_first p is_close store a b q is-sound (λ e. omega arith) open_a open_b on_a on_b not_both (no_two store p q ab.step_1 ab.step_2 refl refl)
    (no_two store q p ba.step_1 ba.step_2 refl refl))
    names_b

pub outcome : SameOutcome store p q
outcome = orders store a b p q premises

-- the same records, at other places: the new pending is the fifth record, or the last
pub elsewhere : ab.store_2 ≡ ba.store_2 → ⊥
unfolding byte
elsewhere e =
    let i : ◌≡◌ {A = ℕ} 5 0 = ap (λ (rs : List Rec). byte 0 (get_or rs 4 [])) e in
    omega arith
