use lib.ListN.{drop}
use mathlib.Core.Path.{◌≡◌}
use Rattle.paper.specs.Records.{records}
use Rattle.sound_store.specs.Guesses.{along, by_child}
use Rattle.sound_store.proofs.below.Given as goal

abbrev pub invariant-loop-i : goal.invariant-loop-i
invariant-loop-i l = along (by_child l.up l.over) 0 (records l.s) l.initial.p ≡ along (by_child l.up l.over) l.i (drop l.i (records l.s)) l.p
