-- Two tests joined.
use Rattle.method_acts.proofs.is_missing.Goals as goal

pub returns : goal.returns
returns c = rw c.is_kind.ensures
