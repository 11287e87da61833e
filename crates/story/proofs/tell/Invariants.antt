-- `story::tell` ends: behind each order less of the text is left.
use Rattle.std.proofs.Common.{length}
use Rattle.story.proofs.tell.Given as goal

abbrev pub decreases-loop-at : goal.decreases-loop-at
decreases-loop-at g l = length l.rest
