-- A record that is meant is rewritten, any other is left.
use mathlib.Core.Path.{sym, ◌∙◌}
use Rattle.paper.specs.Form.{only}
use Rattle.store_edits.proofs.rewrite_record.Goals as goal

pub returns-then-is_chosen : goal.returns-then-is_chosen
unfolding only
returns-then-is_chosen g c = rw (← c.in-Some.ensures.cases.same, (sym c.is_chosen.ensures ∙ c.if-is_chosen.true)) c.rewrite.ensures

pub returns-else-is_chosen : goal.returns-else-is_chosen
unfolding only
returns-else-is_chosen g c = rw (← c.in-Some.ensures.cases.same, (sym c.is_chosen.ensures ∙ c.if-is_chosen.false))
