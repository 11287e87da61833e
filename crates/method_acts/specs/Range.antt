-- A store of more than 256 records is refused with 19 and stays as it is: no plan is that long, and no sound store.
use Rattle.std.specs.Prelude.{cond, List, leb, length}
use Rattle.paper.specs.Limits.{most_records}
use Rattle.paper.specs.Form.{Rec}
use Rattle.paper.specs.Act.{Out, plain}

unfoldable pub in_range : (List Rec → Out) → List Rec → Out
in_range f rs = cond (leb (length rs) most_records) (f rs) (plain 19 rs)
