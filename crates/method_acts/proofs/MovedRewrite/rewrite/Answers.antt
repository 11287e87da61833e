-- Two numbers read, then written over; both are cut (`enc2-cut`).
use Prim.Native.Nat.{◌+◌}
use Rattle.paper.specs.Act.{moved}
use Rattle.paper.specs.Bytes.{two}
use Rattle.store_edits.proofs.Puts.{enc2-cut}
use Rattle.method_acts.proofs.MovedRewrite.rewrite.Goals as goal

pub returns : goal.returns
unfolding moved
returns c =
    let r = c.args.r.now in
    let m = c.args.self.now in
    rw (c.set_two-2.ensures, c.set_two.ensures, c.two_at-next.ensures.0, c.two_at-counter.ensures.0, c.from.ensures, c.from-2.ensures, enc2-cut (two 2 r + m.objects), enc2-cut (two 114 r + m.used))
