-- The refusals of method 2 over the call, the chip bytes and the records, and a session of a client.
use Rattle.std.specs.Prelude.{List, ℕ}
use Rattle.hmac.specs.Same.{same}
use Rattle.paper.specs.Form.{Rec, Form, ◌equals◌, say, ◌and◌, Fault}
use Rattle.paper.specs.Records.{kind, SESSION, client_id}
use Rattle.paper.specs.Calls.{create_in}
use Rattle.paper.specs.Sessions.{create_faults}

abbrev pub faults2 : List ℕ → List ℕ → List Rec → List Fault
faults2 c chip rs = create_faults c chip (create_in c chip) rs

abbrev pub of_client : List ℕ → Rec → Form
of_client name r = kind r equals SESSION and say (same (client_id r) name)
