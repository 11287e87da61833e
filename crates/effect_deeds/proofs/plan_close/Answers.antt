use Prim.Native.Nat.{◌<◌, ◌≤◌}
use Rattle.effect_deeds.proofs.Planning.{shut_start, shut-step, shut-done}
use Rattle.effect_plan.proofs.Filled.{plan_at}
use Rattle.effect_plan.specs.Fate.{planned}
use Rattle.paper.specs.Records.{records}
use lib.ListN.{length}
use mathlib.Core.Path.{refl, ◌≡◌}
use native.Mathlib.Omega.{arith}
use borrow.Author.Rules.{rules}
use Rattle.effect_deeds.proofs.plan_close.Goals as goal

pub loop-i-init : goal.loop-i-init
loop-i-init c = let l : length c.plan_of-p.result ≡ 256 = search rules in shut_start c.args.t c.args.store.now c.plan_of-p.result _ _ l c.requires c.held_keys.ensures c.held_keys-2.ensures (plan_at _ _ _ c.plan_of-p.ensures)

pub loop-i-preserved : goal.loop-i-preserved
unfolding planned
loop-i-preserved c = let h : c.loop-i.i < 256 = omega (arith, c.requires) in let l : c.loop-i.i < length (records c.args.store.now) = omega arith in shut-step c.loop-i.invariant _ _ _ h l refl c.record_at.ensures c.close_fate.ensures

pub returns : goal.returns
returns c = let h : length (records c.args.store.now) ≤ c.loop-i.i = omega arith in shut-done c.loop-i.invariant h
