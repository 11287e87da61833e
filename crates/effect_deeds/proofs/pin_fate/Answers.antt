-- The cases of `pin_fate`, one by one.
use mathlib.Core.Path.{◌∙◌, sym}
use borrow.Author.Tests.{not-true, not-false}
use Rattle.effect_deeds.specs.Outcome.{pin_fate}
use Rattle.effect_deeds.proofs.pin_fate.Goals as goal

pub returns-then-is_that : goal.returns-then-is_that
unfolding pin_fate
returns-then-is_that c = λ w. rw (sym c.is_given.ensures ∙ c.if-is_given.true, sym c.is_that.ensures ∙ c.if-is_that.true)

pub returns-then-is_given : goal.returns-then-is_given
unfolding pin_fate
returns-then-is_given c = λ w. rw (sym c.is_given.ensures ∙ c.if-is_given.true, sym c.is_that.ensures ∙ c.if-is_that.false)

pub returns-then-not-is_kind : goal.returns-then-not-is_kind
unfolding pin_fate
returns-then-not-is_kind c = λ w. rw (sym c.is_given.ensures ∙ c.if-is_given.false, sym c.is_kind.ensures ∙ not-true _ c.if-not-is_kind.true-raw)

pub returns-then-is_taken : goal.returns-then-is_taken
unfolding pin_fate
returns-then-is_taken c = λ w. rw (sym c.is_given.ensures ∙ c.if-is_given.false, sym c.is_kind.ensures ∙ not-false _ c.if-not-is_kind.false-raw, ← c.four_at.ensures, sym (c.is_taken.ensures w) ∙ c.if-is_taken.true)

pub returns : goal.returns
unfolding pin_fate
returns c = λ w. rw (sym c.is_given.ensures ∙ c.if-is_given.false, sym c.is_kind.ensures ∙ not-false _ c.if-not-is_kind.false-raw, ← c.four_at.ensures, sym (c.is_taken.ensures w) ∙ c.if-is_taken.false)
