-- The sum is that of `T2`, over what `big_sigma_0` and `majority` ensure.
use Rattle.sha256.specs.Sha256.{T2}
use Rattle.sha256.proofs.t_2.Goals as goal

pub returns : goal.returns
unfolding T2
returns c = cc
