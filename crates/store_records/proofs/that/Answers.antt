-- The first record that the choice means is the one looked up.
use Rattle.paper.specs.Records.{at}
use Rattle.store_records.proofs.that.Goals as goal

pub returns : goal.returns
unfolding at
returns c = c.first.ensures
