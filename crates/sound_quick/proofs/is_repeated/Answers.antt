-- A mark of 0 is never repeated, nor is one whose bucket was not seen; any other is where it occurs.
use Rattle.sound_quick.specs.Marks.{repeated}
use borrow.Author.Rules.{rules}
use Rattle.sound_quick.proofs.is_repeated.Goals as goal

pub returns-then-seen : goal.returns-then-seen
unfolding repeated
returns-then-seen c = search rules

pub returns-else-seen : goal.returns-else-seen
unfolding repeated
returns-else-seen c = search rules
