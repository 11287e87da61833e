-- A free record has 256 bytes and each of them is 0 (`free_blank`); most records are told apart by the first (`taken_first`).
use Rattle.store_records.proofs.Blanks.{free_blank, not_free, taken_first}
use mathlib.Core.Path.{◌∙◌}
use Rattle.store_records.proofs.is_free.Goals as goal

pub returns-then-r-ne-RECORD_BYTES : goal.returns-then-r-ne-RECORD_BYTES
returns-then-r-ne-RECORD_BYTES c = not_free c.args.r.now c.if-r-ne-RECORD_BYTES.true

pub returns-then-r-ne-FREE : goal.returns-then-r-ne-FREE
returns-then-r-ne-FREE c = taken_first c.args.r.now c.if-r-ne-FREE.true

pub returns : goal.returns
returns c = c.is_blank.ensures ∙ free_blank c.args.r.now c.if-r-ne-RECORD_BYTES.false
