-- By the sort of call.
use mathlib.Core.Path.{sym, ◌∙◌}
use Rattle.paper.specs.Records.{records}
use Rattle.paper.specs.Calls.{is_session_call}
use Rattle.paper.proofs.Forms.{both}
use Rattle.token.proofs.Steps.{of_session_lem, step_2, of_user}
use Rattle.token.proofs.step.Goals as goal

pub session_step-requires : goal.session_step-requires
session_step-requires c = (record { whole = c.requires.0.whole; opened = c.requires.0.opened ((both (is_session_call c.args.c.now)).0 (sym c.is_session_call.ensures ∙ c.if-is_session_call.true)) }, c.requires.1)

pub returns-then-is_session_call : goal.returns-then-is_session_call
returns-then-is_session_call c = let a = c.args in
    rw (of_session_lem a.c.now a.chip.now (records a.s.now) (sym c.is_session_call.ensures ∙ c.if-is_session_call.true)) c.session_step.ensures

pub returns-then-byte_at-eq2 : goal.returns-then-byte_at-eq2
returns-then-byte_at-eq2 c = let a = c.args in
    rw (step_2 a.c.now a.chip.now (records a.s.now) (sym c.is_session_call.ensures ∙ c.if-is_session_call.false) (sym c.byte_at.ensures ∙ c.if-byte_at-eq2.true)) c.create.ensures

pub user_step-requires : goal.user_step-requires
user_step-requires c = c.requires.0.whole

pub returns : goal.returns
returns c = let a = c.args in
    rw (of_user a.c.now a.chip.now (records a.s.now) (sym c.is_session_call.ensures ∙ c.if-is_session_call.false) (λ z. c.if-byte_at-eq2.false (c.byte_at.ensures ∙ z)), c.bare.ensures) c.user_step.ensures
