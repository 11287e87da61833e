-- What becomes of every record at once, and the fate of each that says so.
use Rattle.std.specs.Prelude.{true, cond, ◌≡◌, List, [], ℕ, ◌≤◌, ◌<◌, leb, length, get_or}
use Rattle.paper.specs.Limits.{most_records}
use Rattle.paper.specs.Form.{Rec, Form, ◌equals◌, say, ◌and◌, ◌or◌, some, test, only}
use Rattle.paper.specs.Records.{kind, SESSION, POLICY, KEY, PENDING, is, own, session, parent, grouping, bears}
use Rattle.paper.specs.Pin.{clear}
use Rattle.paper.specs.Closing.{holds, has_key, effect, closing, stale}
use Rattle.paper.specs.Users.{new_pin}
use Rattle.effect_plan.specs.Sets.{keys_of}
use Rattle.effect_plan.specs.declared.Fate.{Fate}
use Rattle.effect_plan.specs.declared.Fate.TheVariants.{Stays, Freed, MadeStale, Shut, NewPin, NewPinCleared}
use Rattle.effect_plan.specs.Fate.{fate}
use Rattle.effect_deeds.specs.declared.Pinned.{Pinned}
use Rattle.effect_deeds.specs.declared.Span.{Span}
use Rattle.effect_deeds.specs.declared.Deed.{Deed}
use Rattle.effect_deeds.specs.declared.Deed.TheVariants.{Effect, Close, Change}

-- At the close of session t: its own pendings are freed, and itself is shut, or freed if it has no key. Another's record has fate f.
unfoldable pub close_fate : ℕ → Fate → List Rec → Rec → Fate
close_fate t f rs r =
    cond (test (bears t r))
    (cond (test (kind r equals PENDING)) Freed (cond (test (kind r equals SESSION)) (cond (test (has_key t rs)) Shut Freed) Stays)) f

-- The paper's change of a PIN by the numbers of the key and its policy: who gets it, and what becomes of every record.
abbrev pub pinned_by : Rec → Rec → Pinned
pinned_by x pol = record { key = own x; home = session x; policy = parent x; shared = test (kind pol equals POLICY and grouping pol equals 1) }

abbrev pub itself : Pinned → Rec → Form
itself g r = is KEY g.key g.home r

abbrev pub given : Pinned → Rec → Form
given g r = itself g r or (say g.shared and (kind r equals KEY and parent r equals g.policy and session r equals g.home))

-- A key of this handle that gets it.
abbrev pub given_as : Pinned → ℕ → Rec → Form
given_as g k y = given g y and own y equals k

unfoldable pub repinned : Pinned → List ℕ → List Rec → Rec → Rec
repinned g v rs r =
    only (λ q. kind q equals PENDING and some rs (given_as g (parent q))) stale (only (itself g) (clear 2) (only (given g) (new_pin v) r))

-- A span of handles, and the same wide enough for one record more.
pub record Widened (g : Pinned) (r : Rec) (s t : Span) : Type 0 where
  pub down : t.low ≤ s.low
  pub up : s.high ≤ t.high
  pub from : test (given g r) ≡ true → t.low ≤ own r
  pub to : test (given g r) ≡ true → own r ≤ t.high

-- All that get the PIN have handles in it.
pub record Spans (g : Pinned) (rs : List Rec) (s : Span) : Type 0 where
  pub from : (j : ℕ) → j < length rs → test (given g (get_or rs j [])) ≡ true → s.low ≤ own (get_or rs j [])
  pub to : (j : ℕ) → j < length rs → test (given g (get_or rs j [])) ≡ true → own (get_or rs j []) ≤ s.high

unfoldable pub pin_fate : Pinned → List Rec → Rec → Fate
pin_fate g rs r =
    cond (test (given g r)) (cond (test (itself g r)) NewPinCleared NewPin)
    (cond (test (kind r equals PENDING and some rs (given_as g (parent r)))) MadeStale Stays)

abbrev pub deed_fate : Deed → List Rec → Rec → Fate
deed_fate (Effect ds us) rs = fate (keys_of ds rs) (keys_of us rs) rs
deed_fate (Close t) rs = λ r. close_fate t (fate (holds t 50 rs) (holds t 51 rs) rs r) rs r
deed_fate (Change g) rs = pin_fate g rs

-- The same as the paper's edits of each record; v is the new PIN.
abbrev pub outcome : List ℕ → Deed → List Rec → Rec → Rec
outcome v (Effect ds us) rs = effect (keys_of ds rs) (keys_of us rs) rs
outcome v (Close t) rs = closing t rs
outcome v (Change g) rs = repinned g v rs

-- A plan has room for 256 records: a store of more stays as it is.
unfoldable pub unless_long : List Rec → List Rec → List Rec
unless_long rs ts = cond (leb (length rs) most_records) ts rs
