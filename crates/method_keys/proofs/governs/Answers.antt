-- The policy's kind, and the key's kind, parent and session.
use Rattle.method_keys.proofs.governs.Goals as goal

pub returns : goal.returns
returns c = rw (c.is_child.ensures, c.four_at-2.ensures, c.four_at.ensures, c.is_kind.ensures)
