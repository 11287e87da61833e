-- The record itself, and then its limit.
use borrow.Author.Tests.{not-false, not-true}
use mathlib.Core.Path.{◌∙◌, sym}
use Rattle.store_records.proofs.is_limited.Goals as goal

pub returns-then-not-is_that : goal.returns-then-not-is_that
returns-then-not-is_that c = rw (sym c.is_that.ensures ∙ not-true _ c.if-not-is_that.true-raw)

pub returns : goal.returns
returns c = rw (sym c.is_that.ensures ∙ not-false _ c.if-not-is_that.false-raw, c.byte_at.ensures)
