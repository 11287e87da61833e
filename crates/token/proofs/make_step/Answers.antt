-- Each method by its number (`step_8` to `step_12`); a sound store's policies let no long PIN by (`uncut`).
use mathlib.Core.Path.{sym, ◌∙◌}
use native.Mathlib.Omega.{arith}
use Rattle.paper.specs.Records.{records}
use Rattle.paper.specs.Calls.{subject, key_in}
use Rattle.store_session.specs.Decoded.{value_of}
use Rattle.method_keys.proofs.Whole.{uncut, longest_short}
use Rattle.token.proofs.Steps.{proper_store, makes_12, step_8, step_9, step_10, step_12}
use Rattle.token.proofs.make_step.Goals as goal

pub returns-in-8 : goal.returns-in-8
returns-in-8 c = let a = c.args in
    rw (step_8 a.c.now a.chip.now (records a.s.now) c.requires.0.value (sym c.byte_at.ensures ∙ c.in-8.is)) c.make_puk.ensures

pub returns-in-9 : goal.returns-in-9
returns-in-9 c = let a = c.args in
    rw (step_9 a.c.now a.chip.now (records a.s.now) c.requires.0.value (sym c.byte_at.ensures ∙ c.in-9.is)) c.make_policy.ensures

pub returns-in-10 : goal.returns-in-10
returns-in-10 c = let a = c.args in
    rw (step_10 a.c.now a.chip.now (records a.s.now) c.requires.0.value (sym c.byte_at.ensures ∙ c.in-10.is), ← uncut (value_of a.x) a.c.now a.chip.now (records a.s.now) (longest_short (key_in a.c.now a.chip.now).policy (subject a.c.now) (records a.s.now) (proper_store a.s.now c.requires.0.whole))) c.make_key.ensures

pub returns-in_default : goal.returns-in_default
returns-in_default c = let a = c.args in
    let b = c.byte_at.ensures in
    rw (step_12 a.c.now a.chip.now (records a.s.now) c.requires.0.value (makes_12 _ c.requires.1 (λ z. omega arith) (λ z. omega arith) (λ z. omega arith))) c.set_path.ensures
