-- The three sums are those of `mixed`, over what the two sigma functions ensure.
use Rattle.sha256.specs.Sha256.{mixed}
use Rattle.sha256.proofs.mix.Goals as goal

pub returns : goal.returns
unfolding mixed
returns c = cc
