-- Nobody waits: what a session call is answered does not depend on the records of any other open session, status 2 apart.
use Rattle.std.specs.Prelude.{◌≡◌, List, ℕ}
use Rattle.paper.specs.Form.{Rec, Form, ◌equals◌, no, ◌and◌, some, Fact, keep}
use Rattle.paper.specs.Records.{records, kind, SESSION, OPEN, own, session, state}
use Rattle.paper.specs.Calls.{subject, is_session_call}
use Rattle.paper.specs.Answer.{answer}
use Rattle.rule.specs.Refusals.{Taken}

-- The record belongs to an open session other than t.
abbrev pub another's : ℕ → List Rec → Rec → Form
another's t rs r = no (session r equals t) and some rs (λ z. kind z equals SESSION and state z equals OPEN and own z equals session r)

-- All records but those: the session's own, and those of closed sessions. Free places and the counter bear no session.
abbrev pub aside : ℕ → List Rec → List Rec
aside t rs = keep (λ r. no (session r equals 0) and no (another's t rs r)) rs

-- Two stores that differ in other open sessions' records, in free places and in the counter answer a call on t alike.
abbrev pub NobodyWaits : Type 0
NobodyWaits =
    (s s' c chip reply : List ℕ) → Taken s c reply → Taken s' c reply → Fact (is_session_call c)
    → aside (subject c) (records s) ≡ aside (subject c) (records s')
    → ((answer s c chip reply).status ≡ 2 → ⊥) → ((answer s' c chip reply).status ≡ 2 → ⊥)
    → ((answer s c chip reply).status ≡ (answer s' c chip reply).status) × ((answer s c chip reply).reply ≡ (answer s' c chip reply).reply)
