-- Piece by piece the call is written, and the last piece is its MAC.
use Rattle.paper.specs.Issuing.{path_call}
use Rattle.issuer.proofs.Writing.{◌and_then◌, meant}
use Rattle.issuer.proofs.PathOrderOrder.write.Goals as goal

pub returns : goal.returns
unfolding path_call
returns c =
    c.put_head-at.ensures and_then c.put_four-at.ensures and_then c.put-at.ensures and_then c.put-at-2.ensures
    and_then meant c.put.ensures (rw (c.new.ensures, c.key_of-k.ensures) at c.path_under-m.ensures)
