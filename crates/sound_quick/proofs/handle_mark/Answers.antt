use borrow.Author.Rules.{rules}
use Rattle.sound_quick.specs.Marks.{handle_mark}
use Rattle.sound_quick.proofs.handle_mark.Goals as goal

pub returns-then-has_handle : goal.returns-then-has_handle
unfolding handle_mark
returns-then-has_handle c = search rules

pub returns : goal.returns
unfolding handle_mark
returns c = search rules
