-- Whose record it is, and then its kind.
use Rattle.effect_deeds.specs.Outcome.{close_fate}
use borrow.Author.Tests.{not-false, not-true}
use mathlib.Core.Path.{◌∙◌, sym}
use Rattle.effect_deeds.proofs.close_fate.Goals as goal

pub returns-then-not-bears : goal.returns-then-not-bears
unfolding close_fate
returns-then-not-bears c = rw (sym c.bears.ensures ∙ not-true _ c.if-not-bears.true-raw)

pub returns-then-is_kind : goal.returns-then-is_kind
unfolding close_fate
returns-then-is_kind c = rw (sym c.bears.ensures ∙ not-false _ c.if-not-bears.false-raw, sym c.is_kind.ensures ∙ c.if-is_kind.true)

pub returns-then-not-is_kind : goal.returns-then-not-is_kind
unfolding close_fate
returns-then-not-is_kind c = rw (sym c.bears.ensures ∙ not-false _ c.if-not-bears.false-raw, sym c.is_kind.ensures ∙ c.if-is_kind.false, sym c.is_kind-2.ensures ∙ not-true _ c.if-not-is_kind.true-raw)

pub returns-then-has_key : goal.returns-then-has_key
unfolding close_fate
returns-then-has_key c = rw (sym c.bears.ensures ∙ not-false _ c.if-not-bears.false-raw, sym c.is_kind.ensures ∙ c.if-is_kind.false, sym c.is_kind-2.ensures ∙ not-false _ c.if-not-is_kind.false-raw, sym c.has_key.ensures ∙ c.if-has_key.true)

pub returns : goal.returns
unfolding close_fate
returns c = rw (sym c.bears.ensures ∙ not-false _ c.if-not-bears.false-raw, sym c.is_kind.ensures ∙ c.if-is_kind.false, sym c.is_kind-2.ensures ∙ not-false _ c.if-not-is_kind.false-raw, sym c.has_key.ensures ∙ c.if-has_key.false)
