-- The status, and then the part that was lent comes back with the low four bytes of the handle in it (`over_part`).
use mathlib.Core.Path.{refl, ◌∙◌}
use native.Mathlib.Omega.{arith}
use lib.ListN.{set, length-set}
use Rattle.paper.specs.Bytes.{enc4, over}
use Rattle.store_edits.proofs.Puts.{over_part}
use Rattle.token.proofs.Steps.{low_four}
use Rattle.token.proofs.write_head.Goals as goal

pub returns : goal.returns
unfolding over
returns c =
    let x = c.args in
    over_part (set x.b.now 0 x.n) (enc4 x.h) _ 1 4 refl (simp length-set (omega arith)) (c.copy_from_slice.ensures.after ∙ rw c.to_be_bytes.ensures (low_four x.h))
