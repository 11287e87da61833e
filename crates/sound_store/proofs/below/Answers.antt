-- A pass over the records (Along.antt).
use mathlib.Core.Path.{sym, ◌∙◌}
use native.Mathlib.Omega.{arith}
use Rattle.store_records.proofs.Views.{length-records}
use Rattle.sound_store.proofs.Along.{along_end, along_next}
use Rattle.sound_store.proofs.below.Goals as goal

pub note-requires : goal.note-requires
note-requires c = (omega arith, omega (arith, length-records c.args.s.now))

pub note-requires-in-loop-i : goal.note-requires-in-loop-i
note-requires-in-loop-i c = (omega arith, omega (arith, length-records c.args.s.now))

pub loop-i-preserved : goal.loop-i-preserved
loop-i-preserved c = c.loop-i.invariant ∙ along_next _ _ _ _ (omega arith) ∙ rw (c.note-in-loop-i.ensures, c.note.ensures, c.four_at.ensures, c.size_at-in-loop-i.ensures.0, c.size_at.ensures.0, c.byte_at-k.ensures, c.record_at-r.ensures)

pub returns : goal.returns
returns c = sym (c.loop-i.invariant ∙ along_end _ _ _ _ (omega arith))
