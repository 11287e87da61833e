-- Zeros, or one store.
use Rattle.paper.specs.Bytes.{byte, over}
use Rattle.paper.specs.Pin.{add_one, clear}
use Rattle.paper.specs.Records.{zeros}
use Rattle.store_edits.proofs.EditRewrite.rewrite.Goals as goal

pub returns-in-Free : goal.returns-in-Free
unfolding zeros
returns-in-Free c = rw c.in-Free.is

pub returns-in-Clear : goal.returns-in-Clear
unfolding clear over
returns-in-Clear c = rw (c.in-Clear.is, c.from.ensures)

pub returns-in-AddOne : goal.returns-in-AddOne
unfolding add_one byte over
returns-in-AddOne c = rw (c.in-AddOne.is, c.from-i.ensures)
