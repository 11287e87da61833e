-- The empty start takes the slice, so the state stands for the slice, and `finish` hashes that.
use Rattle.std.proofs.Common.{[]}
use Rattle.sha256.proofs.sha256.Goals as goal

pub returns : goal.returns
returns c = c.finish.ensures _ (c.update.ensures [] c.start.ensures)
