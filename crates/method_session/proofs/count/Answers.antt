use Rattle.paper.specs.Sessions.{counted}
use Rattle.method_session.proofs.count.Goals as goal

pub returns : goal.returns
unfolding counted
returns c = c.rewrite_chosen.ensures
