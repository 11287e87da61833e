use Rattle.std.proofs.Common.{rules}
use Rattle.paper.specs.Form.{test}
use Rattle.paper.specs.Closing.{holds}
use Rattle.store_records.proofs.Shown.{any-records}
use Rattle.effect_plan.specs.Sets.{holding}
use borrow.Author.Tests.{tests}
use Rattle.effect_plan.proofs.holds.Goals as goal

pub returns : goal.returns
unfolding holds
returns c = any-records (λ r. test (holding c.args.session c.args.op c.args.key r)) c.records.ensures (λ x b q k. search (rules, tests)) c.any.ensures.ran
