-- The session that is decoded is the paper's (`found`). Each method by its number; what `make_step` takes, and what is left to the last branch,
-- is what `making` says (`makes_not`). A sound store is in range (`ranged`).
use mathlib.Core.Path.{refl, sym, ◌∙◌}
use native.Mathlib.Omega.{arith}
use Rattle.paper.specs.Records.{records}
use Rattle.method_session.specs.Ends.{ended}
use Rattle.store_session.specs.Decoded.{value_of}
use Rattle.token.proofs.Steps.{ranged, makes_not, step_3, step_5, step_50, step_51}
use Rattle.token.proofs.Found.{found}
use Rattle.token.proofs.session_step.Goals as goal

pub make_step-requires : goal.make_step-requires
make_step-requires c = let a = c.args in
    (rw (← c.requires.1, ← c.record_at.ensures, ← c.decode-x.ensures) at (found a.s.now a.c.now c.requires.0), rw c.byte_at-m.ensures at (sym c.is_making.ensures ∙ c.if-is_making.true))

pub returns-in-3 : goal.returns-in-3
returns-in-3 c = let a = c.args in
    let f = rw (← c.requires.1, ← c.record_at.ensures, ← c.decode-x.ensures) at (found a.s.now a.c.now c.requires.0) in
    rw (step_3 a.c.now a.chip.now (records a.s.now) f.value (sym c.byte_at-m.ensures ∙ c.in-3.is)) (ranged (ended (value_of c.decode-x.result) a.c.now a.chip.now) c.requires.0.whole c.close.ensures)

pub returns-in-5 : goal.returns-in-5
returns-in-5 c = let a = c.args in
    rw (step_5 a.c.now a.chip.now (records a.s.now) (sym c.byte_at-m.ensures ∙ c.in-5.is)) c.abort.ensures

pub returns-in-50 : goal.returns-in-50
returns-in-50 c = let a = c.args in
    let f = rw (← c.requires.1, ← c.record_at.ensures, ← c.decode-x.ensures) at (found a.s.now a.c.now c.requires.0) in
    rw (step_50 a.c.now a.chip.now (records a.s.now) f.value (sym c.byte_at-m.ensures ∙ c.in-50.is)) c.post_delete.ensures

pub returns-in_default : goal.returns-in_default
returns-in_default c = let a = c.args in
    let f = rw (← c.requires.1, ← c.record_at.ensures, ← c.decode-x.ensures) at (found a.s.now a.c.now c.requires.0) in
    let b = c.byte_at-m.ensures in
    let n = makes_not _ (rw b at (sym c.is_making.ensures ∙ c.if-is_making.false)) in
    rw (step_51 a.c.now a.chip.now (records a.s.now) f.value (λ z. omega arith) (λ z. omega arith) (n 8 refl) (n 9 refl) (n 10 refl) (n 12 refl) (λ z. omega arith)) c.post_unlock.ensures
