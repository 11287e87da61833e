-- Put at the place of the first free record (`insert-index`).
use Rattle.paper.specs.Records.{records}
use Rattle.store_records.proofs.Places.{insert-index}
use Rattle.store_edits.proofs.insert.Goals as goal

pub returns : goal.returns
returns c = rw (insert-index c.args.r.now (records c.args.s.now), ← c.find-i.ensures) c.put.ensures
