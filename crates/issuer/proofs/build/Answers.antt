-- An order out of range, a call that is too long, a buffer that is too short, and a call that was written: one law each.
use mathlib.Core.Path.{sym, ◌∙◌}
use native.Mathlib.Omega.{arith}
use Rattle.issuer.proofs.Cases.{out_of_range, too_long, no_room, written, longer, exact}
use Rattle.issuer.proofs.build.Goals as goal

pub returns-then-not-is_in_range : goal.returns-then-not-is_in_range
returns-then-not-is_in_range g c = out_of_range _ _ _ (sym c.is_in_range.ensures.answer ∙ c.if-not-is_in_range.true)

pub length-n-requires : goal.length-n-requires
length-n-requires g c = (_, c.is_in_range.ensures.holds c.if-not-is_in_range.false)

pub returns-then-n-gt-LONGEST_CALL : goal.returns-then-n-gt-LONGEST_CALL
returns-then-n-gt-LONGEST_CALL g c =
    let f = c.is_in_range.ensures.holds c.if-not-is_in_range.false in
    too_long _ _ _ (c.length-n.ensures.meant _) f (longer c.length-n.ensures.told c.if-n-gt-LONGEST_CALL.true)

pub returns-then-out-n : goal.returns-then-out-n
returns-then-out-n g c =
    let f = c.is_in_range.ensures.holds c.if-not-is_in_range.false in
    let n = exact c.length-n.ensures.told c.if-n-gt-LONGEST_CALL.false in
    no_room _ _ _ (c.length-n.ensures.meant _) f (omega arith) (omega arith)

pub write-requires : goal.write-requires
write-requires g c =
    let f = c.is_in_range.ensures.holds c.if-not-is_in_range.false in
    let n = exact c.length-n.ensures.told c.if-n-gt-LONGEST_CALL.false in
    (g.met.O.Order.keyed _ _ f, omega arith)

pub returns : goal.returns
returns g c =
    let f = c.is_in_range.ensures.holds c.if-not-is_in_range.false in
    let n = exact c.length-n.ensures.told c.if-n-gt-LONGEST_CALL.false in
    written _ _ _ (c.length-n.ensures.meant _) f (omega arith) (omega arith) c.write.ensures
