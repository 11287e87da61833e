-- The part that was lent comes back with the number in it (`over_part`).
use mathlib.Core.Path.{◌≡◌, refl, ◌∙◌}
use Prim.Native.Nat.{◌+◌, ◌-◌}
use native.Mathlib.Omega.{arith}
use Rattle.store_edits.proofs.Puts.{over_part}
use Rattle.method_acts.proofs.set_two.Goals as goal

pub returns : goal.returns
returns c =
    let e : c.args.k + 2 - c.args.k ≡ 2 = omega arith in
    rw e (over_part c.args.r.now _ _ c.args.k 2 refl (omega arith) (c.copy_from_slice.ensures.after ∙ c.to_be_bytes.ensures))
