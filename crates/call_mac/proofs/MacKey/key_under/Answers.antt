-- Piece by piece the data is taken, in the order of the definition.
use Rattle.paper.specs.Mac.{mac_under}
use Rattle.call_mac.proofs.MacKey.key_under.Goals as goal

pub returns : goal.returns
unfolding mac_under
returns c =
    c.finish.ensures _ _ (c.with_string.ensures _ _ (c.with_string-m-5.ensures _ _
    (c.with_string-m-4.ensures _ _ (c.update-m.ensures _ _
    (c.with_or_none-m.ensures _ _ (c.with_name_or-m.ensures _ _ (c.with_string-m-3.ensures _ _
    (c.with_string-m-2.ensures _ _ (c.with_string-m.ensures _ _
    c.begun-m.ensures)))))))))
