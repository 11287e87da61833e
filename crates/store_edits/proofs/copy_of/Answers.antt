-- The record's part of the store fills the array (`copy_in`); past the last record it stays zero.
use Rattle.store_edits.proofs.Puts.{copy_in, copy_out}
use mathlib.Core.Path.{refl}
use Rattle.store_edits.proofs.copy_of.Goals as goal

pub returns-then-s-i : goal.returns-then-s-i
returns-then-s-i c = copy_out c.args.s.now _ c.if-s-i.true

pub returns : goal.returns
returns c = copy_in c.args.s.now _ c.if-s-i.false _ _ refl c.copy_from_slice.ensures.after
