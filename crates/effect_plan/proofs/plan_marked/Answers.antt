use Prim.Native.Nat.{◌<◌}
use Rattle.effect_plan.proofs.Filled.{fate_more, fates_all}
use Rattle.effect_plan.specs.Fate.{fate}
use Rattle.paper.specs.Records.{records}
use lib.ListN.{length}
use native.Mathlib.Omega.{arith}
use Rattle.effect_plan.proofs.plan_marked.Goals as goal

pub loop-i-preserved : goal.loop-i-preserved
loop-i-preserved c =
    let l = c.loop-i in
    let s = c.args.store.now in
    let h : l.i < 256 = omega (arith, c.requires) in
    let k : l.i < length (records s) = omega arith in
    λ d u w v. fate_more (fate d u (records s)) (records s) _ l.i (l.invariant d u w v) _ h k (c.fate_at.ensures k d u w v (c.homes_of-hd.ensures d w) (c.homes_of-hu.ensures u v))

pub returns : goal.returns
returns c =
    let l = c.loop-i in
    let s = c.args.store.now in
    λ d u w v. fates_all (fate d u (records s)) (records s) _ l.i (l.invariant d u w v) (omega arith) (omega (arith, c.requires))
