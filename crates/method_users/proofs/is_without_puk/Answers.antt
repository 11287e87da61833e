-- The fields are read at their places, and the tests joined as in the paper.
use Rattle.method_users.proofs.is_without_puk.Goals as goal

pub returns : goal.returns
returns c = rw (c.either.ensures, c.both.ensures, c.four_at.ensures, c.is_kind.ensures, c.four_at-2.ensures)
