-- The text from the place on, with n bytes to come, is whole just if the text is; at most 3 are ever to come.
use mathlib.Core.Path.{sym, ◌∙◌}
use native.Mathlib.Omega.{arith}
use borrow.Author.Tests.{le-leb, lt-leb}
use Rattle.std.proofs.lemmas.List.{at_drop_more, at_drop_all}
use Rattle.paper.specs.Text.{utf8_from}
use Rattle.call_text.proofs.Steps.{utf8_more, utf8_end}
use Rattle.call_text.proofs.is_utf_8.Goals as goal

pub returns-then-n-gt3 : goal.returns-then-n-gt3
returns-then-n-gt3 c =
    let loop = c.loop-b in
    let n = c.to_come_behind-n in
    let broken = lt-leb n.result 3 c.if-n-gt3.true in
    sym (loop.invariant.1 ∙ at_drop_more (utf8_from loop.n) c.args.v.now loop.b-index 0 (omega arith) ∙ utf8_more _ _ _ loop.invariant.0 ∙ rw (← n.ensures, broken))

pub loop-b-preserved : goal.loop-b-preserved
loop-b-preserved c =
    let loop = c.loop-b in
    let n = c.to_come_behind-n in
    let on = le-leb n.result 3 c.if-n-gt3.false in
    (c.if-n-gt3.false, loop.invariant.1 ∙ at_drop_more (utf8_from loop.n) c.args.v.now loop.b-index 0 (omega arith) ∙ utf8_more _ _ _ loop.invariant.0 ∙ rw (← n.ensures, on))

pub returns : goal.returns
returns c =
    let loop = c.loop-b in
    sym (loop.invariant.1 ∙ at_drop_all (utf8_from loop.n) c.args.v.now loop.b-index (omega arith) ∙ utf8_end _)
