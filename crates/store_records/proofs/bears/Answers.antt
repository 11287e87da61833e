-- One comparison.
use Rattle.store_records.proofs.bears.Goals as goal

pub returns : goal.returns
returns c = rw c.four_at.ensures
