-- Whose session it is decides first, then the kind; children are looked for among all records (`childless-at`).
use mathlib.Core.Path.{◌∙◌, sym}
use borrow.Author.Tests.{not-true, not-false, eqb-true}
use Rattle.paper.specs.Records.{records}
use Rattle.method_session.proofs.Ending.{childless_puk, childless_policy}
use Rattle.method_session.proofs.is_childless.Goals as goal

pub returns-then-not-bears : goal.returns-then-not-bears
returns-then-not-bears c = rw (sym c.bears.ensures ∙ not-true _ c.if-not-bears.true-raw)

pub returns-in-2 : goal.returns-in-2
returns-in-2 c =
    let e = sym c.bears.ensures ∙ not-false _ c.if-not-bears.false-raw in
    rw (e, ← childless_puk c.args.t (records c.args.s.now) c.args.r.now (eqb-true _ _ e) (sym c.byte_at.ensures ∙ c.in-2.is), c.has.ensures, c.four_at.ensures)

pub returns-in-3 : goal.returns-in-3
returns-in-3 c =
    let e = sym c.bears.ensures ∙ not-false _ c.if-not-bears.false-raw in
    rw (e, ← childless_policy c.args.t (records c.args.s.now) c.args.r.now (eqb-true _ _ e) (sym c.byte_at.ensures ∙ c.in-3.is), c.has-in-3.ensures, c.four_at-in-3.ensures)
