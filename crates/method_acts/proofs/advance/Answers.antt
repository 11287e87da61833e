use Rattle.paper.specs.Act.{advance}
use Rattle.method_acts.proofs.advance.Goals as goal

pub returns : goal.returns
unfolding advance
returns c = c.rewrite_chosen.ensures
