-- Why the calls may name only their own session's objects and keys of closed sessions: session 1 closes, and session 2 asks for the
-- removal of session 1's own new key. Every other premise holds, and the two orders differ: 0 after the close, 7 before it.
use mathlib.Core.Path.{◌≡◌, refl, sym, ap}
use mathlib.Core.Bool.{true}
use mathlib.Core.List.{List, []}
use Prim.Native.Nat.{ℕ}
use native.Mathlib.Omega.{arith}
use Rattle.hmac.specs.Same.{same}
use Rattle.paper.specs.Limits.{reply_bytes}
use Rattle.paper.specs.Bytes.{byte, two, four, part, text_at, all_within, zeros_of}
use Rattle.paper.specs.Form.{some, Fact}
use Rattle.paper.specs.Records.{records_of, records, joined, at}
use Rattle.paper.specs.Table.{obeys_table}
use Rattle.paper.specs.Sound.{length_fits, sound}
use Rattle.paper.specs.Calls.{method}
use Rattle.paper.specs.Closing.{held}
use Rattle.paper.specs.Answer.{Answer, is_open}
use Rattle.paper.proofs.Forms.{both, contrary}
use Rattle.worked.specs.Hex.{hex}
use Rattle.rule.specs.Runs.{Call, answered}
use Rattle.rule.specs.Stands.{Holds}
use Rattle.rule.specs.Orders.{CallOn, SameOutcome}
use Rattle.instances.proofs.Pair.{ButNames, close_first, on_session_lem, no_two, status_second}
use Rattle.instances.proofs.UnnamedCloseFirst as ab
use Rattle.instances.proofs.UnnamedPostFirst as ba

abbrev store : List ℕ
store = joined ab.store_0

abbrev a : ℕ
a = 65536

abbrev b : ℕ
b = 131072

abbrev p : Call
p = record { bytes = hex ab.call_1; chip = []; reply = zeros_of reply_bytes }

abbrev q : Call
q = record { bytes = hex ab.call_2; chip = hex "01"; reply = zeros_of reply_bytes }

is-sound : sound store ≡ true
unfolding sound length_fits records records_of joined byte two four part text_at all_within obeys_table same
is-sound = refl

open_a : Fact (is_open a (records store))
unfolding records records_of joined at byte four
open_a = refl

open_b : Fact (is_open b (records store))
unfolding records records_of joined at byte four
open_b = refl

on_a : CallOn a p
unfolding all_within byte four
on_a = on_session_lem a p refl refl refl

on_b : CallOn b q
unfolding all_within byte four
on_b = on_session_lem b q refl refl refl

is_close : method p.bytes ≡ 3
unfolding byte
is_close = refl

-- session 1 wants no key at all
held_by_a : (k : ℕ) → Holds a k store → ⊥
unfolding records records_of joined byte four
held_by_a k h = contrary (sym ((both (some (records store) (held a k))).1 h))

pub unnamed : ButNames store a b p q
unnamed =
    close_first p is_close store a b q is-sound (λ e. omega arith) open_a open_b on_a on_b (λ k h v. held_by_a k h)
    (no_two store p q ab.step_1 ab.step_2 refl refl) (no_two store q p ba.step_1 ba.step_2 refl refl)

pub names_needed : ((s : List ℕ) (a b : ℕ) (p q : Call) → ButNames s a b p q → SameOutcome s p q) → ⊥
names_needed h =
    let w = (h store a b p q unnamed).second.status in
    let i : (answered (answered store p).store q).status ≡ 0 = status_second store p q ab.step_1 ab.step_2 in
    let j : (answered store q).status ≡ 7 = ap (λ (x : Answer). x.status) ba.step_1 in
    omega arith
