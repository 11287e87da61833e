-- The statement's parts in order: the first that fails decides.
use borrow.Author.Tests.{eq-eqb, ne_eqb}
use Rattle.store_records.proofs.is_that.Goals as goal

pub returns-then-byte_at-kind : goal.returns-then-byte_at-kind
returns-then-byte_at-kind c = rw (← c.byte_at.ensures, ne_eqb _ _ c.if-byte_at-kind.true)

pub returns-then-four_at-own : goal.returns-then-four_at-own
returns-then-four_at-own c = rw (← c.byte_at.ensures, eq-eqb _ _ c.if-byte_at-kind.false, ← c.four_at.ensures, ne_eqb _ _ c.if-four_at-own.true)

pub returns : goal.returns
returns c = rw (← c.byte_at.ensures, eq-eqb _ _ c.if-byte_at-kind.false, ← c.four_at.ensures, eq-eqb _ _ c.if-four_at-own.false, c.four_at-2.ensures)
