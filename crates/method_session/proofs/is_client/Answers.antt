-- The kind decides first.
use mathlib.Core.Path.{◌∙◌, sym}
use borrow.Author.Tests.{not-true, not-false}
use Rattle.method_session.proofs.is_client.Goals as goal

pub returns-then-not-is_kind : goal.returns-then-not-is_kind
returns-then-not-is_kind c =
    rw (sym c.is_kind.ensures ∙ not-true _ c.if-not-is_kind.true-raw)

pub returns : goal.returns
returns c =
    rw (sym c.is_kind.ensures ∙ not-false _ c.if-not-is_kind.false-raw, c.same.ensures, c.text_at.ensures)
