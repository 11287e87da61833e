-- The part behind the length byte; past the end it is empty.
use Rattle.paper.specs.Bytes.{text_at}
use Rattle.store_records.proofs.Past.{text_past}
use mathlib.Core.Path.{sym}
use Rattle.store_records.proofs.text_at.Goals as goal

pub returns-then-s-k : goal.returns-then-s-k
returns-then-s-k c = sym (text_past _ _ c.if-s-k.true)

pub returns : goal.returns
unfolding text_at
returns c = rw (c.part_of.ensures, c.size_at.ensures.0)
