use Rattle.store_records.proofs.Steps.{pointwise-same}
use mathlib.Core.Path.{◌∙◌}
use Rattle.store_records.proofs.same.Goals as goal

pub returns : goal.returns
returns c = c.eq.ensures ∙ pointwise-same c.args.a.now c.args.b.now
