-- Some record is a session of the client (`any-records`).
use borrow.Author.Tests.{tests}
use Rattle.std.proofs.Common.{rules}
use Rattle.paper.specs.Form.{test}
use Rattle.store_records.proofs.Shown.{any-records}
use Rattle.method_session.specs.Births.{of_client}
use Rattle.method_session.proofs.is_client_taken.Goals as goal

pub returns : goal.returns
returns c = any-records (λ r. test (of_client c.args.name.now r)) c.records.ensures (λ x b q k. search (rules, tests)) c.any.ensures.ran
