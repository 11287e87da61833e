-- The step that was found is done.
use Rattle.method_users.proofs.delete.Goals as goal

pub returns : goal.returns
returns c = rw (← c.delete_step-s.ensures) c.enact.ensures
