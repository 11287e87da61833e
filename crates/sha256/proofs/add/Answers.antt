-- Each of the eight sums is the one that `sums` has at that field.
use Rattle.sha256.specs.Sha256.{sums}
use Rattle.sha256.proofs.add.Goals as goal

pub returns : goal.returns
unfolding sums
returns c = cc
