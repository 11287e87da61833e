use Prim.Native.Nat.{◌<◌, ◌≤◌}
use Rattle.effect_plan.proofs.Filled.{planned_done, planned_step}
use Rattle.paper.specs.Bytes.{byte}
use Rattle.paper.specs.Records.{records}
use lib.ListN.{length}
use native.Mathlib.Omega.{arith}
use Rattle.effect_plan.proofs.marks_of.Goals as goal

pub loop-i-preserved : goal.loop-i-preserved
loop-i-preserved c = let h : c.loop-i.i < 256 = omega (arith, c.requires) in planned_step c.loop-i.invariant _ h (rw (← c.record_at.ensures) c.mark_of.ensures)

pub returns : goal.returns
unfolding byte
returns c = let h : length (records c.args.store.now) ≤ c.loop-i.i = omega (arith) in record { at = planned_done c.loop-i.invariant h }
