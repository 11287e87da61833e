-- The first close stands, not for want of such a store: two sessions hold one key, a close of the one answers 0, and the close of the
-- other that follows it answers 6.
use mathlib.Core.Path.{◌≡◌, refl, ap, ◌∙◌}
use mathlib.Core.Bool.{true}
use mathlib.Core.List.{List, [], ◌∷◌}
use mathlib.Core.Logic.{inl}
use Prim.Native.Nat.{ℕ}
use Rattle.hmac.specs.Same.{same}
use Rattle.paper.specs.Limits.{reply_bytes}
use Rattle.paper.specs.Bytes.{byte, two, four, part, text_at, all_within, zeros_of}
use Rattle.paper.specs.Form.{some}
use Rattle.paper.specs.Records.{records_of, records, joined}
use Rattle.paper.specs.Table.{obeys_table}
use Rattle.paper.specs.Sound.{length_fits, sound}
use Rattle.paper.specs.Closing.{held}
use Rattle.paper.specs.Answer.{Answer}
use Rattle.paper.proofs.Forms.{both}
use Rattle.worked.specs.Hex.{hex}
use Rattle.worked.proofs.Conflict.{store_2, call_3, call_4, step_3, step_4}
use Rattle.rule.specs.Runs.{Call, answered, after}
use Rattle.rule.specs.Stands.{Holds, IsClose, Closes}

abbrev store : List ℕ
store = joined store_2

-- sessions 2 and 3, and the key
abbrev a : ℕ
a = 196608

abbrev b : ℕ
b = 131072

abbrev k : ℕ
k = 65539

abbrev first : Call
first = record { bytes = hex call_3; chip = []; reply = zeros_of reply_bytes }

abbrev second : Call
second = record { bytes = hex call_4; chip = []; reply = zeros_of reply_bytes }

pub is-sound : sound store ≡ true
unfolding sound length_fits records records_of joined byte two four part text_at all_within obeys_table same
is-sound = refl

pub a_holds : Holds a k store
unfolding records records_of joined byte four
a_holds = (both (some (records store) (held a k))).0 refl

pub b_holds : Holds b k store
unfolding records records_of joined byte four
b_holds = (both (some (records store) (held b k))).0 refl

a_closes : IsClose a first
unfolding byte four
a_closes = (refl, refl)

b_closes : IsClose b second
unfolding byte four
b_closes = (refl, refl)

pub done : Closes a store (first ∷ second ∷ [])
done = inl (a_closes, ap (λ (x : Answer). x.status) step_3)

pub refused : (answered (after store (first ∷ [])) second).status ≡ 6
refused = ap (λ (s : List ℕ). (answered s second).status) (ap (λ (x : Answer). x.store) step_3) ∙ ap (λ (x : Answer). x.status) step_4
