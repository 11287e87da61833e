-- A chain over the records (store_records' Shown.antt).
use Rattle.std.proofs.Common.{rules}
use Rattle.paper.specs.Form.{test}
use Rattle.paper.specs.Records.{records}
use Rattle.sound_kin.specs.Settled.{settled}
use Rattle.store_records.proofs.Shown.{all-records}
use borrow.Author.Tests.{tests}
use Rattle.sound_store.proofs.all_settled.Goals as goal

pub returns : goal.returns
returns c = all-records (λ r. test (settled (records c.args.s.now) r)) c.records.ensures (λ x b q k. search (rules, tests)) c.all.ensures.ran
