-- The statement's parts in order: the first that fails decides.
use mathlib.Core.Path.{◌∙◌, sym}
use borrow.Author.Tests.{not-true, not-false}
use Rattle.method_keys.proofs.is_unlike.Goals as goal

pub returns-then-not-bears : goal.returns-then-not-bears
returns-then-not-bears c =
    rw (sym c.bears.ensures ∙ not-true _ c.if-not-bears.true-raw)

pub returns-then-not-governs : goal.returns-then-not-governs
returns-then-not-governs c =
    rw ((sym c.bears.ensures ∙ not-false _ c.if-not-bears.false-raw), (sym c.governs.ensures ∙ not-true _ c.if-not-governs.true-raw))

pub returns : goal.returns
returns c =
    rw ((sym c.bears.ensures ∙ not-false _ c.if-not-bears.false-raw), (sym c.governs.ensures ∙ not-false _ c.if-not-governs.false-raw), c.is_same.ensures, c.text_at.ensures)
