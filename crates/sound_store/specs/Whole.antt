-- The later clauses of soundness together: those of pairs, and those that ask for other records.
use Rattle.std.specs.Prelude.{List}
use Rattle.paper.specs.Form.{Rec, Form, ◌and◌, each, apart}
use Rattle.paper.specs.Sound.{distinct, related, housed, policies_used, pins_shared}

abbrev pub paired : List Rec → Form
paired rs = apart rs distinct and each rs (λ x. each rs (related x))

abbrev pub agreeing : List Rec → Form
agreeing rs =
    apart rs distinct and each rs (λ x. each rs (related x)) and each rs (housed rs)
    and each rs (λ x. each rs (policies_used rs x)) and each rs (pins_shared rs)
