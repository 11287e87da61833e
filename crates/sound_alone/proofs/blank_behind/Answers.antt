use Prim.Native.Nat.{◌-◌}
use mathlib.Core.Path.{◌∙◌, refl, sym}
use native.Mathlib.Omega.{arith}
use Rattle.sound_alone.proofs.Padded.{blank_start, blank_more, blank_done}
use Rattle.sound_alone.proofs.blank_behind.Goals as goal

pub loop-b-init : goal.loop-b-init
loop-b-init c = (refl, blank_start c.args.v c.args.s.now)

pub loop-b-preserved : goal.loop-b-preserved
loop-b-preserved c = (omega (arith, c.loop-b.invariant.0, c.loop-b-test.true, c.requires), c.loop-b.invariant.1 ∙ blank_more c.args.v c.args.s.now _ _ c.loop-b.bad c.loop-b.invariant.0 c.loop-b-test.true)

pub returns : goal.returns
returns c = sym (c.loop-b.invariant.1 ∙ blank_done (c.args.v - c.loop-b.b-index) c.args.s.now _ c.loop-b.bad c.loop-b-test.false)
