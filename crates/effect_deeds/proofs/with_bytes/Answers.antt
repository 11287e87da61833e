-- As many bytes as fit (`copied_in`).
use Rattle.std.proofs.Common.{rules}
use Rattle.effect_deeds.proofs.Bytes.{copied_in}
use lib.ListN.{length}
use mathlib.Core.Path.{◌≡◌}
use Rattle.effect_deeds.proofs.with_bytes.Goals as goal

pub returns : goal.returns
returns c =
    let l : length c.args.r ≡ 256 = search rules in
    rw c.copy_from_slice.ensures.after (copied_in c.args.b.now c.args.r c.args.k _ _ l c.min-from.ensures c.min-n.ensures)
