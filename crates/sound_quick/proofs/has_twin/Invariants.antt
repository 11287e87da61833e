-- Invariant: x occurs exactly if it was hit or occurs from here on (`hit_next`).
use Rattle.sound_quick.specs.Marks.{occurs}
use lib.ListN.{drop}
use mathlib.Core.Bool.{◌||◌}
use mathlib.Core.Path.{◌≡◌}
use Rattle.sound_quick.proofs.has_twin.Given as goal

abbrev pub invariant-loop-y : goal.invariant-loop-y
invariant-loop-y l = occurs l.x l.c ≡ (l.hit || occurs l.x (drop l.y-index l.c))
