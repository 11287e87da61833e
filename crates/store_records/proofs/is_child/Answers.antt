-- The statement's parts in order: the first that fails decides.
use borrow.Author.Tests.{eq-eqb, ne_eqb}
use Rattle.store_records.proofs.is_child.Goals as goal

pub returns-then-byte_at-sort : goal.returns-then-byte_at-sort
returns-then-byte_at-sort c = rw (← c.byte_at.ensures, ne_eqb _ _ c.if-byte_at-sort.true)

pub returns-then-four_at-parent : goal.returns-then-four_at-parent
returns-then-four_at-parent c = rw (← c.byte_at.ensures, eq-eqb _ _ c.if-byte_at-sort.false, ← c.four_at.ensures, ne_eqb _ _ c.if-four_at-parent.true)

pub returns : goal.returns
returns c = rw (← c.byte_at.ensures, eq-eqb _ _ c.if-byte_at-sort.false, ← c.four_at.ensures, eq-eqb _ _ c.if-four_at-parent.false, c.four_at-2.ensures)
