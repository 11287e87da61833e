-- The record as the paper lays it, by computing.
use Rattle.paper.specs.Answer.{fresh_counter}
use mathlib.Core.Path.{refl}
use Rattle.token.proofs.counter.Goals as goal

pub returns : goal.returns
unfolding fresh_counter
returns c = refl
