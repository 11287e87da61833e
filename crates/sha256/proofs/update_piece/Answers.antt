-- What does not fill the block waits in it.
use Rattle.std.proofs.Common.{arith}
use Rattle.sha256.proofs.Standing.{stored_part}
use Rattle.sha256.proofs.update_piece.Goals as goal

pub returns : goal.returns
returns c = λ m h. stored_part c.args.s m c.args.d.now h (omega arith) (omega arith) _ _ c.copy_from_slice.ensures.after (omega arith)
