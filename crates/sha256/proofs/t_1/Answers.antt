-- The four sums are those of `T1`, over what `big_sigma_1` and `choose` ensure.
use Rattle.sha256.specs.Sha256.{T1}
use Rattle.sha256.proofs.t_1.Goals as goal

pub returns : goal.returns
unfolding T1
returns c = cc
