-- The eight fields are those of `round`, over what `t_1` and `t_2` ensure.
use Rattle.sha256.specs.Sha256.{round}
use Rattle.sha256.proofs.round_of.Goals as goal

pub returns : goal.returns
unfolding round
returns c = cc
