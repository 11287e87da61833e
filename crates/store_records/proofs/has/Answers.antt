use Rattle.std.proofs.Common.{rules}
use Rattle.paper.specs.Form.{test}
use Rattle.store_records.proofs.Shown.{any-records}
use Rattle.store_records.specs.Choices.{chosen}
use borrow.Author.Tests.{tests}
use Rattle.store_records.proofs.has.Goals as goal

pub returns : goal.returns
returns c = any-records (λ r. test (chosen c.args.c r)) c.records.ensures (λ x b q k. search (rules, tests)) c.any.ensures.ran
