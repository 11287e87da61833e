use lib.ListN.{drop}
use mathlib.Core.Path.{◌≡◌}
use Rattle.paper.specs.Records.{records}
use Rattle.sound_store.specs.Guesses.{along, by_slot}
use Rattle.sound_store.proofs.seats.Given as goal

abbrev pub invariant-loop-i : goal.invariant-loop-i
invariant-loop-i l = along by_slot 0 (records l.s) l.initial.t ≡ along by_slot l.i (drop l.i (records l.s)) l.t
