-- Some record is such a key (`any-records`): asked of the whole store, with the session in the statement (`some_block`).
use borrow.Author.Tests.{tests}
use mathlib.Core.Path.{◌∙◌}
use Rattle.std.proofs.Common.{rules}
use Rattle.paper.specs.Form.{test}
use Rattle.paper.specs.Records.{records}
use Rattle.store_records.proofs.Shown.{any-records}
use Rattle.method_acts.proofs.Blocks.{some_block}
use Rattle.method_keys.specs.Keys.{other_pin, unlike_in}
use Rattle.method_keys.proofs.has_unlike.Goals as goal

pub returns : goal.returns
returns c =
    let x = c.args in
    any-records (λ r. test (unlike_in x.t x.pol.now x.v.now r)) c.records.ensures (λ y b q k. search (rules, tests)) c.any.ensures.ran
    ∙ some_block x.t (other_pin x.pol.now x.v.now) (records x.s.now)
