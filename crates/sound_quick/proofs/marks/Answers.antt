use Prim.Native.Nat.{◌<◌}
use Rattle.paper.specs.Records.{records}
use Rattle.sound_quick.proofs.Columns.{filled, filled-step}
use Rattle.sound_quick.specs.Marks.{mark_of}
use lib.ListN.{length}
use mathlib.Core.Path.{◌∙◌}
use borrow.Author.Rules.{rules}
use native.Mathlib.Omega.{arith}
use Rattle.sound_quick.proofs.marks.Goals as goal

pub loop-i-preserved : goal.loop-i-preserved
loop-i-preserved c = let s = c.args.s.now in
    let h : c.loop-i.i < length (records s) = omega arith in
    filled-step (mark_of c.args.named) (records s) _ c.loop-i.i _ h (omega arith) c.loop-i.invariant (search rules)

pub returns : goal.returns
returns c = c.loop-i.invariant ∙ filled c.args.named (records c.args.s.now) c.loop-i.i (omega arith)
