-- The definition's three parts in order: the first that fails decides.
use Rattle.store_records.proofs.Views.{length-records}
use Rattle.sound_quick.specs.Marks.{marks_differ}
use borrow.Author.Rules.{rules}
use native.Mathlib.Omega.{arith}
use Rattle.sound_quick.proofs.marks_differ.Goals as goal

pub returns-then-count-gt-MOST_RECORDS : goal.returns-then-count-gt-MOST_RECORDS
unfolding marks_differ
returns-then-count-gt-MOST_RECORDS c = search rules

pub column_differs-requires : goal.column_differs-requires
column_differs-requires c = omega (arith, length-records c.args.s.now)

pub returns-then-not-column_differs : goal.returns-then-not-column_differs
unfolding marks_differ
returns-then-not-column_differs c = search rules

pub column_differs-requires-2 : goal.column_differs-requires-2
column_differs-requires-2 c = omega (arith, length-records c.args.s.now)

pub returns : goal.returns
unfolding marks_differ
returns c = search rules
