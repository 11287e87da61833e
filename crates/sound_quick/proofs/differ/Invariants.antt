-- Invariant: the rows from i on differ, and their buckets are seen (`row_step`, `seen_more`).
use Rattle.sound_quick.proofs.Columns.{Seen}
use Rattle.sound_quick.specs.Marks.{differing}
use lib.ListN.{drop}
use mathlib.Core.Bool.{true}
use mathlib.Core.Path.{◌≡◌}
use Rattle.sound_quick.proofs.differ.Given as goal

abbrev pub invariant-loop-i : goal.invariant-loop-i
invariant-loop-i l = (differing (drop l.i l.c) ≡ true) × Seen l.seen (drop l.i l.c)
