-- Piece by piece the call is written, and the last piece is its MAC.
use Rattle.paper.specs.Issuing.{puk_call}
use Rattle.issuer.proofs.Writing.{◌and_then◌, meant}
use Rattle.issuer.proofs.PukOrderOrder.write.Goals as goal

pub returns : goal.returns
unfolding puk_call
returns c =
    c.put_head-at.ensures and_then c.put_string-at.ensures and_then c.put_string-at-2.ensures and_then c.put-at.ensures
    and_then meant c.put.ensures (rw (c.new.ensures, c.key_of-k.ensures) at c.puk_under-m.ensures)
