-- One byte written over.
use Rattle.paper.specs.Pin.{clear}
use Rattle.effect_deeds.proofs.clear.Goals as goal

pub returns : goal.returns
unfolding clear
returns c = c.with_bytes.ensures
