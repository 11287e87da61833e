-- Piece by piece, behind the text that stands in front.
use Rattle.issuer.proofs.Writing.{◌and_then◌, meant}
use Rattle.issuer.proofs.KeyOrder.put_back.Goals as goal

pub returns : goal.returns
returns c = λ front before w.
    w and_then (rw c.flags.ensures at c.put-at.ensures) and_then c.put_string-at.ensures and_then c.put_string-at-2.ensures
    and_then c.put_string-at-3.ensures and_then meant c.put.ensures c.to_be_bytes.ensures
