-- One comparison.
use Rattle.store_records.proofs.is_kind.Goals as goal

pub returns : goal.returns
returns c = rw c.byte_at.ensures
