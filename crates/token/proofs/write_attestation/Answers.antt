-- The part of the reply that was lent comes back with the attestation in it (`over_part`).
use native.Mathlib.Omega.{arith}
use Rattle.store_edits.proofs.Puts.{over_part}
use Rattle.token.proofs.write_attestation.Goals as goal

pub returns : goal.returns
returns c = over_part c.args.b.now c.args.a _ 5 32 (omega arith) c.requires c.copy_from_slice.ensures.after
