-- The value's length is read.
use Rattle.method_users.proofs.is_given.Goals as goal

pub returns : goal.returns
returns c = rw (← c.typed-v.ensures)
