use Rattle.std.proofs.Common.{rules}
use Rattle.paper.specs.Form.{test}
use Rattle.paper.specs.Records.{records}
use Rattle.store_records.proofs.Shown.{any-records}
use Rattle.effect_plan.specs.Sets.{policy_so}
use borrow.Author.Tests.{tests}
use Rattle.effect_plan.proofs.some_policy.Goals as goal

pub returns : goal.returns
returns c = λ d w. any-records (λ r. test (policy_so d (records c.args.store.now) c.args.own c.args.session c.args.l r)) c.records.ensures (λ x b q k. search (rules, tests)) c.any.ensures.ran
