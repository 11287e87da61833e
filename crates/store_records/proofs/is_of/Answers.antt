-- The kind, and then the session.
use borrow.Author.Tests.{not-false, not-true}
use mathlib.Core.Path.{◌∙◌, sym}
use Rattle.store_records.proofs.is_of.Goals as goal

pub returns-then-not-is_kind : goal.returns-then-not-is_kind
returns-then-not-is_kind c = rw (sym c.is_kind.ensures ∙ not-true _ c.if-not-is_kind.true-raw)

pub returns : goal.returns
returns c = rw (sym c.is_kind.ensures ∙ not-false _ c.if-not-is_kind.false-raw) c.bears.ensures
