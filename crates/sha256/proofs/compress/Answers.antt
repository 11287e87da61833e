use Rattle.std.proofs.Common.{◌≡◌, ◌*◌, ◌∙◌, ap, arith, rules}
use Rattle.sha256.specs.Sha256.{rounds, compressed}
use Rattle.sha256.proofs.Rounds.{four_more}
use Rattle.sha256.proofs.compress.Goals as goal

pub loop-i-init : goal.loop-i-init
unfolding rounds
loop-i-init c = search rules

pub loop-i-preserved : goal.loop-i-preserved
loop-i-preserved c =
    let i = c.loop-i.i in
    let w = c.schedule_of-w.result in
    four_more w c.args.x (i * 4) c.loop-i.invariant
    c.round_of-v.ensures
    c.round_of-v-in-loop-i.ensures
    c.round_of-v-in-loop-i-2.ensures
    c.round_of-v-in-loop-i-3.ensures
    ∙ ap (rounds w c.args.x) (omega arith)

pub returns : goal.returns
unfolding compressed
returns c = let e : c.loop-i.i * 4 ≡ 64 = omega arith in cc
