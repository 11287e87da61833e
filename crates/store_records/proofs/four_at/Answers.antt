-- Four bytes joined; past the end each is 0.
use Rattle.paper.specs.Bytes.{byte, four}
use Rattle.store_records.proofs.Past.{four_past}
use mathlib.Core.Path.{sym}
use Rattle.store_records.proofs.four_at.Goals as goal

pub returns-then-s-k : goal.returns-then-s-k
returns-then-s-k c = sym (four_past _ _ c.if-s-k.true)

pub returns-then-s-k-lt4 : goal.returns-then-s-k-lt4
unfolding four
returns-then-s-k-lt4 c = rw (c.join4.ensures, c.byte_at.ensures, c.byte_at-b.ensures, c.byte_at-c.ensures, c.byte_at-d.ensures)

pub returns : goal.returns
unfolding four byte
returns c = c.join4-2.ensures
