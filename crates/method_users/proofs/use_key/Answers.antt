-- The step that was found is done.
use Rattle.method_users.proofs.use_key.Goals as goal

pub returns : goal.returns
returns c = rw (← c.use_step-s.ensures) c.enact.ensures
