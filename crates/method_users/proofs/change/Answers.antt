-- The step that was found is done.
use Rattle.method_users.proofs.change.Goals as goal

pub returns : goal.returns
returns c = rw (← c.change_step-s.ensures) c.enact.ensures
