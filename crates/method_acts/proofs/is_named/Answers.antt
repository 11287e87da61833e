-- The statement's parts in order: the first that fails decides.
use mathlib.Core.Path.{◌∙◌, sym}
use borrow.Author.Tests.{not-true, not-false}
use Rattle.method_acts.proofs.is_named.Goals as goal

pub returns-then-not-bears : goal.returns-then-not-bears
returns-then-not-bears c = rw (sym c.bears.ensures ∙ not-true _ c.if-not-bears.true-raw)

pub returns-then-not-is_within : goal.returns-then-not-is_within
returns-then-not-is_within c = rw ((sym c.bears.ensures ∙ not-false _ c.if-not-bears.false-raw), ← c.byte_at.ensures, (sym c.is_within.ensures ∙ not-true _ c.if-not-is_within.true-raw))

pub returns : goal.returns
returns c = rw ((sym c.bears.ensures ∙ not-false _ c.if-not-bears.false-raw), ← c.byte_at.ensures, (sym c.is_within.ensures ∙ not-false _ c.if-not-is_within.false-raw), c.same.ensures, c.text_at.ensures)
