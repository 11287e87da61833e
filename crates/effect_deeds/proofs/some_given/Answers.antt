use Rattle.std.proofs.Common.{rules}
use Rattle.paper.specs.Form.{test}
use Rattle.store_records.proofs.Shown.{any-records}
use Rattle.effect_deeds.specs.Outcome.{given_as}
use borrow.Author.Tests.{tests}
use Rattle.effect_deeds.proofs.some_given.Goals as goal

pub returns : goal.returns
returns c = any-records (λ r. test (given_as c.args.g c.args.key r)) c.records.ensures (λ x b q k. search (rules, tests)) c.any.ensures.ran
