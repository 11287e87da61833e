use mathlib.Core.Path.{◌∙◌, refl, sym}
use Rattle.store_records.proofs.Steps.{within_more, within-done}
use Rattle.store_records.proofs.all_within.Goals as goal

pub loop-b-init : goal.loop-b-init
loop-b-init c = refl

pub loop-b-preserved : goal.loop-b-preserved
loop-b-preserved c = c.loop-b.invariant ∙ within_more _ _ c.args.s.now _ c.loop-b.ok _ c.loop-b-test.true c.is_within-ok.ensures

pub returns : goal.returns
returns c = sym (c.loop-b.invariant ∙ within-done _ _ _ _ _ c.loop-b-test.false)
