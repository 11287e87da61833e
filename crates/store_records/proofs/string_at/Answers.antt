-- The part behind the two length bytes; past the end it is empty.
use Rattle.paper.specs.Bytes.{string_at}
use Rattle.store_records.proofs.Past.{string_past}
use mathlib.Core.Path.{sym}
use Rattle.store_records.proofs.string_at.Goals as goal

pub returns-then-s-k : goal.returns-then-s-k
returns-then-s-k c = sym (string_past _ _ c.if-s-k.true)

pub returns : goal.returns
unfolding string_at
returns c = rw (c.part_of.ensures, c.two_at.ensures.0)
