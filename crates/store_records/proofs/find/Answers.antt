use Rattle.std.proofs.Common.{rules}
use Rattle.store_records.proofs.Shown.{position-records}
use Rattle.store_records.specs.Choices.{chosen}
use borrow.Author.Tests.{tests}
use mathlib.Core.Path.{◌∙◌}
use Rattle.store_records.proofs.find.Goals as goal

pub returns : goal.returns
returns c = c.unwrap_or.ensures ∙ rw c.count.ensures (position-records (chosen c.args.c) c.records.ensures (λ x b q k. search (rules, tests)) c.position.ensures.ran)
