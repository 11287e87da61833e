use Prim.Native.Nat.{◌-◌}
use mathlib.Core.Path.{◌∙◌, refl, sym}
use native.Mathlib.Omega.{arith}
use Rattle.sound_alone.proofs.Padded.{ident_start, ident_more, ident_done}
use Rattle.sound_alone.proofs.ident_then_blank.Goals as goal

pub loop-b-init : goal.loop-b-init
loop-b-init c = (refl, ident_start c.args.v c.args.s.now)

pub loop-b-preserved : goal.loop-b-preserved
loop-b-preserved c = (omega (arith, c.loop-b.invariant.0, c.loop-b-test.true, c.requires), c.loop-b.invariant.1 ∙ ident_more c.args.v c.args.s.now _ _ c.loop-b.bad _ c.loop-b.invariant.0 c.loop-b-test.true c.is_within.ensures)

pub returns : goal.returns
returns c = sym (c.loop-b.invariant.1 ∙ ident_done (c.args.v - c.loop-b.b-index) c.args.s.now _ c.loop-b.bad c.loop-b-test.false)
