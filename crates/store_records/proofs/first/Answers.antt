-- The record at its place is the first of which the statement holds (`seek-index`).
use Rattle.paper.specs.Records.{records}
use Rattle.store_records.proofs.Places.{seek-index}
use Rattle.store_records.specs.Choices.{chosen}
use mathlib.Core.Path.{◌∙◌, sym}
use Rattle.store_records.proofs.first.Goals as goal

pub returns : goal.returns
returns c = c.record_at.ensures ∙ rw c.find.ensures (sym (seek-index (chosen c.args.c) (records c.args.s.now)))
