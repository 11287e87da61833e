-- The start is keyed with no text, so after the update the text is the slice, and `finish` gives its MAC.
use mathlib.Core.List.{[]}
use Rattle.hmac.proofs.hmac.Goals as goal

pub returns : goal.returns
returns c = c.finish.ensures _ _ (c.update.ensures _ [] c.start.ensures)
