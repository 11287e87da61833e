-- Piece by piece.
use Rattle.issuer.proofs.Writing.{◌and_then◌}
use Rattle.issuer.proofs.KeyOrder.put_front.Goals as goal

pub returns : goal.returns
returns c =
    c.put_head-at.ensures and_then c.put_string-at.ensures and_then c.put_string-at-2.ensures
    and_then c.put_string-at-3.ensures and_then c.put_four-at.ensures and_then c.put_string.ensures
