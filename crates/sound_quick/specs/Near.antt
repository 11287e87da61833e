-- What a record asks of its neighbours, where someone shows them: the clauses of soundness about one record and another, and about who
-- must be there, each for the one neighbour that it can concern. Shown are the counter c, the record's session x, its parent or target
-- p, the target's session t, a child k, and a key q under the same policy.
use Rattle.paper.specs.Limits.{pin_width}
use Rattle.paper.specs.Bytes.{part}
use Rattle.paper.specs.Form.{Rec, Form, ◌equals◌, say, no, ◌and◌, ◌then◌, Fact}
use Rattle.paper.specs.Records.{kind, SESSION, PUK, POLICY, KEY, PENDING, COUNTER, own, session, parent, is, session_of, grouping}
use Rattle.paper.specs.Sound.{is_object, parentless, closed, related}
use Rattle.hmac.specs.Same.{same}
use Rattle.std.specs.Prelude.{ℕ, ◌<◌, List, [], length, get_or}

-- the session y, if it is closed, has the key k
abbrev pub key_near : Rec → Rec → Form
key_near k y = closed y then kind k equals KEY and session k equals own y

-- the session y stands below the counter c
abbrev pub session_near : Rec → Rec → Rec → Form
session_near c k y = kind y equals SESSION then kind c equals COUNTER and related c y and key_near k y

-- the object y is of the session x
abbrev pub object_near : Rec → Rec → Form
object_near x y = is_object y then is SESSION (session y) (session y) x and related x y

-- the record y of one kind has, in a closed session x, the child k of another
abbrev pub child_near : Rec → Rec → Rec → ℕ → ℕ → Form
child_near x k y sort below =
    kind y equals sort then closed x then kind k equals below and parent k equals own y and session k equals session y

-- the PIN policy y has no PUK, or it is p
abbrev pub puk_near : Rec → Rec → Form
puk_near p y = kind y equals POLICY then no (parentless y) then is PUK (parent y) (session y) p

-- if the policy p is a shared one, the key y has the PIN of q
abbrev pub pin_near : Rec → Rec → Rec → Form
pin_near p q y = grouping p equals 1 then say (same (part 49 pin_width q) (part 49 pin_width y))

-- the key y has no policy, or it is p
abbrev pub policy_near : Rec → Rec → Rec → Form
policy_near p q y = kind y equals KEY then no (parentless y) then is POLICY (parent y) (session y) p and related p y and pin_near p q y

-- the pending y has no target, or it is p, of the session t
abbrev pub target_near : Rec → Rec → Rec → Form
target_near p t y =
    kind y equals PENDING then no (parentless y) then
    is KEY (parent y) (session_of (parent y)) p and related p y
    and is SESSION (session_of (parent y)) (session_of (parent y)) t and related t y

abbrev pub near : Rec → Rec → Rec → Rec → Rec → Rec → Rec → Form
near c x p t k q y =
    session_near c k y and object_near x y and child_near x k y PUK POLICY and child_near x k y POLICY KEY
    and puk_near p y and policy_near p q y and target_near p t y

-- Every record stands so to the record at place m and to those whose places are shown: its session's (up), its parent's or target's
-- (over), a child's (under).
abbrev pub Sited : List Rec → ℕ → (ℕ → ℕ) → (ℕ → ℕ) → (ℕ → ℕ) → Type 0
Sited rs m up over under = (i : ℕ) → i < length rs →
    Fact (near (get_or rs m []) (get_or rs (up i) []) (get_or rs (over i) []) (get_or rs (up (over i)) []) (get_or rs (under i) []) (get_or rs (under (over i)) []) (get_or rs i []))
