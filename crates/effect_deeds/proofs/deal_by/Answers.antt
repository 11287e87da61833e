-- Records are changed one by one, each by its fate (`turns_step`), until none is left (`turns_done`).
use Rattle.effect_deeds.proofs.Turns.{turns_done, turns_step}
use Rattle.effect_deeds.specs.Deeds.{done}
use native.Mathlib.Omega.{arith}
use Rattle.effect_deeds.proofs.deal_by.Goals as goal

pub loop-i-preserved : goal.loop-i-preserved
loop-i-preserved g c = let w = rw c.fate_at.ensures at c.turn_at.ensures in turns_step {g = λ j. done c.args.v.now (g.P.Fates.says c.args.p j)} c.loop-i.invariant _ (omega arith) w c.turn_at.auto.s

pub returns : goal.returns
returns g c = turns_done c.loop-i.invariant (omega arith)
