use Rattle.effect_plan.proofs.Near.{home_next, homes_done}
use native.Mathlib.Omega.{arith}
use Rattle.effect_plan.proofs.homes_of.Goals as goal

pub loop-i-preserved : goal.loop-i-preserved
loop-i-preserved c = home_next c.args.store.now c.args.m.now c.loop-i.hs c.with_home_at-hs.result c.loop-i.i c.loop-i.invariant c.with_home_at-hs.ensures

pub returns : goal.returns
returns c = homes_done c.args.store.now c.args.m.now c.loop-i.hs c.loop-i.i c.loop-i.invariant (omega arith)
