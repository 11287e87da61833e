-- Two bytes joined; past the end each is 0.
use Rattle.paper.specs.Bytes.{byte, two}
use Rattle.store_records.proofs.Past.{two_past}
use mathlib.Core.Path.{sym}
use native.Mathlib.Omega.{arith}
use Rattle.store_records.proofs.two_at.Goals as goal

pub returns-then-s-k : goal.returns-then-s-k
returns-then-s-k c = (sym (two_past _ _ c.if-s-k.true), omega arith)

pub returns-then-s-k-lt2 : goal.returns-then-s-k-lt2
unfolding two
returns-then-s-k-lt2 c = (rw (c.join2.ensures.0, c.byte_at-then-s-k-lt2.ensures, c.byte_at.ensures), c.join2.ensures.1)

pub returns : goal.returns
unfolding two byte
returns c = c.join2-2.ensures
