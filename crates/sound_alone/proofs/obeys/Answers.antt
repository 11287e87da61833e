-- The length, and then the row of its kind.
use Rattle.paper.specs.Table.{obeys_table}
use borrow.Author.Rules.{rules}
use Rattle.sound_alone.proofs.obeys.Goals as goal

pub returns-then-r-ne-RECORD_BYTES : goal.returns-then-r-ne-RECORD_BYTES
unfolding obeys_table
returns-then-r-ne-RECORD_BYTES c = search rules

pub returns : goal.returns
unfolding obeys_table
returns c = search rules
