-- The part that was lent comes back with the piece in it (`pasted`).
use mathlib.Core.Path.{refl}
use Rattle.issuer.proofs.Writing.{pasted}
use Rattle.issuer.proofs.put.Goals as goal

pub returns : goal.returns
returns c = let a = c.args in record { place = refl; bytes = pasted a.k a.v.now a.out.now _ c.requires c.copy_from_slice.ensures.after }
