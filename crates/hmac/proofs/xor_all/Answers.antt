use mathlib.Core.Path.{◌≡◌, ◌∙◌}
use mathlib.Core.List.{append-nil}
use Prim.Native.Nat.{ℕ}
use native.Mathlib.Omega.{arith}
use lib.Bits.{bit_xor}
use lib.ListN.{get_or, take}
use Rattle.std.proofs.lemmas.List.{take_all, drop_all, get_or_default}
use Rattle.std.proofs.lemmas.List.Edits.{map_over_more}
use Rattle.hmac.specs.Hmac.{xored}
use Rattle.hmac.proofs.xor_all.Goals as goal

pub loop-x-preserved : goal.loop-x-preserved
loop-x-preserved c =
    let l = c.loop-x in
    map_over_more (λ (x : ℕ). bit_xor x c.args.p) c.args.b l.x-items l.x-index (get_or l.x-items l.x-index 0) (omega arith) l.invariant (get_or_default l.x-items l.x-index 0 _ (omega arith))

pub returns : goal.returns
unfolding xored
returns c =
    let l = c.loop-x in
    let t : take l.x-index c.args.b ≡ c.args.b = take_all l.x-index c.args.b (omega arith) in
    l.invariant ∙ rw (t, drop_all l.x-index c.args.b (omega arith), append-nil)
