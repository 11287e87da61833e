use Rattle.sound_quick.proofs.Columns.{hit_next, hit_end}
use mathlib.Core.Path.{sym, ◌∙◌}
use Rattle.sound_quick.proofs.has_twin.Goals as goal

pub loop-y-preserved : goal.loop-y-preserved
loop-y-preserved c = c.loop-y.invariant ∙ hit_next c.args.x c.args.c.now c.loop-y.y-index c.loop-y.hit c.loop-y-test.true

pub returns : goal.returns
returns c = sym (c.loop-y.invariant ∙ hit_end c.args.x c.args.c.now c.loop-y.y-index c.loop-y.hit c.loop-y-test.false)
