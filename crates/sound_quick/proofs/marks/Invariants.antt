-- Invariant: the first i marks stand in front of zeros (`filled-step`).
use Rattle.paper.specs.Records.{records}
use Rattle.sound_quick.proofs.Columns.{Filled}
use Rattle.sound_quick.specs.Marks.{mark_of}
use mathlib.Core.Path.{◌≡◌}
use Rattle.sound_quick.proofs.marks.Given as goal

abbrev pub invariant-loop-i : goal.invariant-loop-i
invariant-loop-i l = l.p ≡ Filled (mark_of l.named) (records l.s) l.i
