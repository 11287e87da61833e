-- The fields are read at their places.
use Rattle.method_users.proofs.pinned.Goals as goal

pub returns : goal.returns
returns c = rw (c.both.ensures, c.is_kind.ensures, c.byte_at.ensures, c.four_at.ensures, c.four_at-2.ensures, c.four_at-3.ensures)
