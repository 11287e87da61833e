-- What a record x asks of the others, so that one pass over them is enough. Keys under a shared policy have equal PINs where each has
-- the PIN of the first: one comparison a key, not one a pair.
use Rattle.std.specs.Prelude.{List}
use Rattle.paper.specs.Limits.{pin_width}
use Rattle.paper.specs.Bytes.{part}
use Rattle.paper.specs.Form.{Rec, Form, ◌equals◌, say, each, ◌and◌, ◌or◌, ◌then◌}
use Rattle.paper.specs.Records.{kind, POLICY, grouping}
use Rattle.paper.specs.Sound.{closed, governs, housed, policies_used, pins_shared}
use Rattle.hmac.specs.Same.{same}

-- the key y, if it is under the shared policy p, has the PIN of f
abbrev pub alike : Rec → Rec → Rec → Form
alike p f y = grouping p equals 1 then governs p y then say (same (part 49 pin_width f) (part 49 pin_width y))

-- what x asks of y is so, where f has the PIN of the keys under x
abbrev pub met : List Rec → Rec → Rec → Rec → Form
met rs x f y = policies_used rs x y and alike x f y

-- only a closed session and a policy ask for more than that others are there
abbrev pub asks : Rec → Form
asks x = closed x or kind x equals POLICY

-- the paper's clauses
abbrev pub settled : List Rec → Rec → Form
settled rs x = housed rs x and each rs (policies_used rs x) and pins_shared rs x
