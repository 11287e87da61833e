-- Two statements joined, of the call's fields and the policy's parent.
use Rattle.method_keys.proofs.is_unprotected.Goals as goal

pub returns : goal.returns
returns c = rw c.four_at.ensures
