-- The step that was found is done.
use Rattle.method_users.proofs.unlock.Goals as goal

pub returns : goal.returns
returns c = rw (← c.unlock_step-s.ensures) c.enact.ensures
