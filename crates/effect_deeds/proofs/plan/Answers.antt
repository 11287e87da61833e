-- Each deed has its own loop.
use Rattle.effect_plan.proofs.Filled.{fits_plan, plan_at}
use Rattle.effect_deeds.proofs.plan.Goals as goal

pub returns-in-Effect : goal.returns-in-Effect
returns-in-Effect c = rw c.in-Effect.is (fits_plan _ c.args.store.now _ c.requires (plan_at _ _ _ c.plan_of.ensures))

pub returns-in-Close : goal.returns-in-Close
returns-in-Close c = rw c.in-Close.is c.plan_close.ensures

pub returns-in-Change : goal.returns-in-Change
returns-in-Change c = rw c.in-Change.is c.plan_pins.ensures
