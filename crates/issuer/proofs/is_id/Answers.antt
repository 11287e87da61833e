-- The length's range and the bytes' range.
use Rattle.issuer.proofs.is_id.Goals as goal

pub returns : goal.returns
returns c = rw (c.all_within.ensures, c.has_length.ensures, c.from.ensures)
