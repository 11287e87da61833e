-- Two fields, and the tests joined.
use Rattle.method_users.proofs.is_reached.Goals as goal

pub returns : goal.returns
returns c = rw (c.both.ensures, c.byte_at.ensures, c.is_kind.ensures)
