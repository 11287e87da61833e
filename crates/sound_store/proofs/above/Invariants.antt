use lib.ListN.{drop}
use mathlib.Core.Path.{◌≡◌}
use Rattle.paper.specs.Records.{records}
use Rattle.sound_store.specs.Guesses.{along, by_field}
use Rattle.sound_store.proofs.above.Given as goal

abbrev pub invariant-loop-i : goal.invariant-loop-i
invariant-loop-i l = along (by_field (records l.s) l.t l.field) 0 (records l.s) l.initial.p ≡ along (by_field (records l.s) l.t l.field) l.i (drop l.i (records l.s)) l.p
