-- Both records are looked up, and a byte of each is read.
use borrow.Author.Tests.{eq-eqb, ne_eqb}
use Rattle.store_records.proofs.is_target.Goals as goal

pub returns-then-byte_at-ne-KEY : goal.returns-then-byte_at-ne-KEY
returns-then-byte_at-ne-KEY c =
    let target = c.target in
    let byte_at = c.byte_at in
    rw (← target.ensures, ← byte_at.ensures, ne_eqb _ _ c.if-byte_at-ne-KEY.true)

pub returns : goal.returns
returns c =
    let target = c.target in
    let byte_at = c.byte_at in
    let if1 = c.if-byte_at-ne-KEY in
    let home = c.home in
    rw (← target.ensures, ← byte_at.ensures, eq-eqb _ _ if1.false, ← home.ensures, ← c.byte_at-2.ensures)
