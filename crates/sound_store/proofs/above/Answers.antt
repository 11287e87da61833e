-- A pass over the records (Along.antt).
use mathlib.Core.Path.{sym, ◌∙◌}
use native.Mathlib.Omega.{arith}
use Rattle.store_records.proofs.Views.{length-records}
use Rattle.sound_store.proofs.Along.{along_end, along_next}
use Rattle.sound_store.proofs.above.Goals as goal

pub bounds-p-i : goal.bounds-p-i
bounds-p-i c = omega (arith, length-records c.args.s.now)

pub loop-i-preserved : goal.loop-i-preserved
loop-i-preserved c = c.loop-i.invariant ∙ along_next _ _ _ _ (omega arith) ∙ rw (c.seat.ensures.0, c.four_at.ensures, c.record_at.ensures)

pub returns : goal.returns
returns c = sym (c.loop-i.invariant ∙ along_end _ _ _ _ (omega arith))
