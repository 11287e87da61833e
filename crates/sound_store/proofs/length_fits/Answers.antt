-- The statement, written as a test.
use Rattle.paper.specs.Sound.{length_fits}
use Rattle.store_records.proofs.Views.{length-records}
use Rattle.sound_store.proofs.length_fits.Goals as goal

pub returns : goal.returns
unfolding length_fits
returns c = rw (c.count-n.ensures, length-records c.args.s.now)
