-- Piece by piece the call is written, and the last piece is its MAC.
use Rattle.paper.specs.Issuing.{close_call}
use Rattle.issuer.proofs.Writing.{◌and_then◌, meant}
use Rattle.issuer.proofs.CloseOrderOrder.write.Goals as goal

pub returns : goal.returns
unfolding close_call
returns c =
    c.put_head-at.ensures and_then c.put_string-at.ensures
    and_then meant c.put.ensures (rw (c.new.ensures, c.key_of-k.ensures) at c.close_under-m.ensures)
