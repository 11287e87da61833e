-- The target written over, and then the mark.
use Rattle.paper.specs.Closing.{stale}
use Rattle.effect_deeds.proofs.stale.Goals as goal

pub returns : goal.returns
unfolding stale
returns c = rw (c.with_bytes-2.ensures, c.with_bytes.ensures)
