-- Whatever the form of the call, the session is freed (`aborted_not`, `aborted-done`).
use mathlib.Core.Path.{◌∙◌, sym}
use borrow.Author.Tests.{not-true, not-false}
use Rattle.paper.specs.Records.{records}
use Rattle.method_session.proofs.Ending.{aborted_not, aborted-done}
use Rattle.method_session.proofs.abort.Goals as goal

pub returns-then-not-is_abort : goal.returns-then-not-is_abort
returns-then-not-is_abort c = let a = c.args in
    rw (aborted_not a.c.now a.chip.now (records a.s.now) (sym c.is_abort.ensures ∙ not-true _ c.if-not-is_abort.true-raw), ← c.four_at-t.ensures) c.reject.ensures

pub returns : goal.returns
returns c = let a = c.args in
    rw (aborted-done a.c.now a.chip.now (records a.s.now) (sym c.is_abort.ensures ∙ not-false _ c.if-not-is_abort.false-raw), ← c.four_at-t.ensures)
    (record { reply = c.bare.ensures; store = c.free_session.ensures })
