-- A record of a session that bears a name, as a statement of one record.
use Rattle.std.specs.Prelude.{List, ℕ}
use Rattle.hmac.specs.Same.{same}
use Rattle.paper.specs.Form.{Rec, Form, say, ◌and◌}
use Rattle.paper.specs.Records.{bears, id}
use Rattle.paper.specs.Sound.{has_id}

abbrev pub called : List ℕ → Rec → Form
called name r = has_id r and say (same (id r) name)

abbrev pub named : ℕ → List ℕ → Rec → Form
named t name r = bears t r and called name r
