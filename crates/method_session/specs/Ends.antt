-- The refusals of method 3 at the store's records, and what methods 3 and 5 come to.
use Rattle.std.specs.Prelude.{List, ℕ}
use Rattle.paper.specs.Form.{Rec, Fault}
use Rattle.paper.specs.Records.{SessionValue, block}
use Rattle.paper.specs.Calls.{subject, close_in}
use Rattle.paper.specs.Act.{Out, perform}
use Rattle.paper.specs.Sessions.{close_faults, close_by, abort_session}

abbrev pub faults3 : SessionValue → List ℕ → List ℕ → List Rec → List Fault
faults3 x c chip rs = close_faults c chip (close_in c) x (block (subject c) rs)

-- What the two calls come to.
abbrev pub ended : SessionValue → List ℕ → List ℕ → List Rec → Out
ended x c chip rs = perform (subject c) (close_by x c chip (block (subject c) rs)) rs

abbrev pub aborted : List ℕ → List ℕ → List Rec → Out
aborted c chip rs = perform (subject c) (abort_session c chip) rs
