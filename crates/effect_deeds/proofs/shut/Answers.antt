-- The counter written over, then the SessionKey, then the state. The two bytes of a number are those of its rest by 65536 (`two_low`).
use Rattle.paper.specs.Bytes.{two}
use Rattle.paper.specs.Closing.{shut}
use Rattle.effect_deeds.proofs.Bytes.{two_low}
use Prim.Native.Nat.{◌+◌}
use Rattle.effect_deeds.proofs.shut.Goals as goal

pub returns : goal.returns
unfolding shut
returns c =
    let n = two_low (two 114 c.args.r + 2) in
    rw (c.with_bytes.ensures, c.with_bytes-r-2.ensures, c.with_bytes-r.ensures, c.to_be_bytes.ensures, c.two_at.ensures.0, n.0, n.1)
