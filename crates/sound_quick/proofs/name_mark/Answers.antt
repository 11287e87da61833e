-- The kind says which.
use borrow.Author.Rules.{rules}
use Rattle.sound_quick.specs.Marks.{name_mark}
use Rattle.sound_quick.proofs.name_mark.Goals as goal

pub returns-in-1 : goal.returns-in-1
unfolding name_mark
returns-in-1 c = search rules

pub returns-in-5 : goal.returns-in-5
unfolding name_mark
returns-in-5 c = search rules

pub returns-in-6 : goal.returns-in-6
unfolding name_mark
returns-in-6 c = search rules

pub returns-in-2 : goal.returns-in-2
unfolding name_mark
returns-in-2 c = search rules

pub returns-in_default : goal.returns-in_default
unfolding name_mark
returns-in_default c = search rules

pub returns-in_default-2 : goal.returns-in_default-2
unfolding name_mark
returns-in_default-2 c = search rules
