-- Piece by piece the data is taken, in the order of the definition.
use Rattle.paper.specs.Mac.{mac_under}
use Rattle.call_mac.proofs.MacKey.close_under.Goals as goal

pub returns : goal.returns
unfolding mac_under
returns c =
    c.finish.ensures _ _ (c.with_string-2.ensures _ _ (c.with_string.ensures _ _
    c.begun-m.ensures))
