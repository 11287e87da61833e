-- The length, and then the bytes.
use Rattle.issuer.proofs.Writing.{◌and_then◌}
use Rattle.issuer.proofs.put_string.Goals as goal

pub returns : goal.returns
returns c = c.put_two-n.ensures and_then c.put.ensures
