use Rattle.store_records.proofs.Past.{byte_got}
use mathlib.Core.Path.{◌∙◌}
use Rattle.store_records.proofs.byte_at.Goals as goal

pub returns : goal.returns
returns c = c.unwrap_or.ensures ∙ rw c.copied.ensures (byte_got c.args.s.now c.args.k c.get.result c.get.ensures.lookup)
