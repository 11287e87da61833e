-- The definition, case by case; no bytes are taken of the record.
use Rattle.paper.specs.Bytes.{part}
use Rattle.sound_quick.specs.Marks.{pending_mark}
use borrow.Author.Rules.{rules}
use Rattle.sound_quick.proofs.pending_mark.Goals as goal

pub returns-then-target-eq0 : goal.returns-then-target-eq0
unfolding pending_mark
returns-then-target-eq0 c = search rules

pub returns : goal.returns
unfolding pending_mark part
returns c = search rules
