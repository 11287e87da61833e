-- The sum as it stands in the definition, each word read by its place; no product and no sum passes 2^64.
use borrow.Author.Rules.{rules}
use Rattle.sound_quick.specs.Marks.{mixed}
use Rattle.sound_quick.proofs.mix.Goals as goal

pub returns : goal.returns
unfolding mixed
returns c = search rules
