-- One change after the other (`then_done`).
use Rattle.method_users.specs.Steps.{lost}
use Rattle.method_users.proofs.Methods.{then_done}
use Rattle.method_users.proofs.clear_and_remove.Goals as goal

pub returns : goal.returns
returns c = then_done (lost c.args.k) c.clear_count.ensures c.carry.ensures
