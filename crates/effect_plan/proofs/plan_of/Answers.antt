-- Marks made and read (`plan_fits`), or zeros for a store of more records than a plan has room for (`plan_long`).
use Rattle.effect_plan.proofs.Filled.{plan_fits, plan_long}
use Rattle.paper.specs.Records.{records}
use mathlib.Core.Path.{◌∙◌, sym}
use native.Mathlib.Omega.{arith}
use Rattle.effect_plan.proofs.plan_of.Goals as goal

pub returns-then-count-gt-MOST_RECORDS : goal.returns-then-count-gt-MOST_RECORDS
returns-then-count-gt-MOST_RECORDS c = plan_long _ (records c.args.store.now) (omega (arith, c.if-count-gt-MOST_RECORDS.true))

pub returns : goal.returns
returns c =
    let s = c.args.store.now in
    c.plan_marked.ensures _ _ c.marks_of.ensures c.marks_of-2.ensures
    ∙ sym (plan_fits _ (records s) (omega (arith, c.if-count-gt-MOST_RECORDS.false)))
