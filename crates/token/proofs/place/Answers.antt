-- One look-up.
use Rattle.token.proofs.place.Goals as goal

pub returns : goal.returns
returns c = rw (c.find.ensures, c.four_at-t.ensures)
