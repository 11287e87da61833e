-- The number is read, and one more written over it; it is cut (`enc4-cut`).
use mathlib.Core.Path.{refl, ◌∙◌}
use Prim.Native.Nat.{◌+◌}
use native.Mathlib.Omega.{arith}
use Rattle.paper.specs.Records.{next_session}
use Rattle.store_edits.proofs.Puts.{over_part, enc4-cut}
use Rattle.method_session.proofs.OneMoreRewrite.rewrite.Goals as goal

pub returns : goal.returns
returns c =
    let r = c.args.r.now in
    over_part r _ _ 4 4 refl (omega arith) (c.copy_from_slice.ensures.after ∙ c.to_be_bytes.ensures ∙ rw c.four_at-n.ensures (enc4-cut (next_session r + 1)))
