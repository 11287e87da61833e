-- Invariant: the fates of the first i records are at their places (`planned_step`).
use Rattle.effect_plan.proofs.Filled.{Planned}
use Rattle.effect_deeds.specs.Outcome.{pin_fate}
use Rattle.effect_plan.specs.declared.Fate.TheVariants.{Stays}
use Rattle.paper.specs.Records.{records}
use Rattle.effect_deeds.proofs.plan_pins.Given as goal

abbrev pub invariant-loop-i : goal.invariant-loop-i
invariant-loop-i l = Planned Stays (pin_fate l.g (records l.store)) (records l.store) l.p l.i
