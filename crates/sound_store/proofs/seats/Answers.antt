-- A pass over the records (Along.antt).
use mathlib.Core.Path.{sym, ◌∙◌}
use native.Mathlib.Omega.{arith}
use Rattle.store_records.proofs.Views.{length-records}
use Rattle.sound_store.proofs.Along.{along_end, along_next}
use Rattle.sound_store.proofs.seats.Goals as goal

pub overflow_cast-t : goal.overflow_cast-t
overflow_cast-t c = omega (arith, length-records c.args.s.now)

pub loop-i-preserved : goal.loop-i-preserved
loop-i-preserved c = c.loop-i.invariant ∙ along_next _ _ _ _ (omega arith) ∙ rw (c.slot.ensures, c.four_at.ensures, c.record_at.ensures)

pub returns : goal.returns
returns c = sym (c.loop-i.invariant ∙ along_end _ _ _ _ (omega arith))
