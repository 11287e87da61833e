-- The part that was lent comes back with r in it (`put_mid_lem`); past the last record nothing is written.
use Rattle.store_edits.proofs.Puts.{put_mid_lem, put_out}
use lib.ListN.{length}
use mathlib.Core.Path.{◌∙◌, ◌≡◌, ap}
use native.Mathlib.Omega.{arith}
use Rattle.store_edits.proofs.put.Goals as goal

pub returns-then-i-s : goal.returns-then-i-s
returns-then-i-s c =
    let m : length c.args.r.now ≡ 256 = omega arith in
    let e = c.copy_from_slice.ensures.after in
    put_mid_lem _ _ _ _ c.if-i-s.true (ap length e ∙ m) e

pub returns-else-i-s : goal.returns-else-i-s
returns-else-i-s c = put_out c.args.s.now _ _ c.if-i-s.false
