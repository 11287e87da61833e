-- Whose session it is decides first; then the two tests, joined as in the paper.
use mathlib.Core.Path.{◌∙◌, sym}
use borrow.Author.Tests.{not-true, not-false}
use Rattle.method_session.proofs.is_marked.Goals as goal

pub returns-then-not-bears : goal.returns-then-not-bears
returns-then-not-bears c = rw (sym c.bears.ensures ∙ not-true _ c.if-not-bears.true-raw)

pub returns : goal.returns
returns c = rw (sym c.bears.ensures ∙ not-false _ c.if-not-bears.false-raw, c.byte_at-2.ensures, c.byte_at.ensures)
