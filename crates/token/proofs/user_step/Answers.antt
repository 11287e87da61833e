-- Each method by its number (`step_80` to `step_100`); a sound store is in range (`ranged`).
use mathlib.Core.Path.{sym, ◌∙◌}
use native.Mathlib.Omega.{arith}
use Rattle.token.proofs.Steps.{ranged, step_80, step_82, step_83, step_100}
use Rattle.paper.specs.Records.{records}
use Rattle.paper.specs.Users.{delete_key, unlock_key, change_pin}
use Rattle.token.proofs.user_step.Goals as goal

pub returns-in-80 : goal.returns-in-80
returns-in-80 c =
    let args = c.args in
    let pre = c.requires in
    rw (step_80 args.c.now args.chip.now (records args.s.now) (sym c.byte_at.ensures ∙ c.in-80.is)) (ranged (delete_key args.c.now args.chip.now) (pre) c.delete.ensures)

pub returns-in-82 : goal.returns-in-82
returns-in-82 c =
    let args = c.args in
    let pre = c.requires in
    rw (step_82 args.c.now args.chip.now (records args.s.now) (sym c.byte_at.ensures ∙ c.in-82.is)) (ranged (unlock_key args.c.now args.chip.now) (pre) c.unlock.ensures)

pub returns-in-83 : goal.returns-in-83
returns-in-83 c =
    let args = c.args in
    let pre = c.requires in
    rw (step_83 args.c.now args.chip.now (records args.s.now) (sym c.byte_at.ensures ∙ c.in-83.is)) (ranged (change_pin args.c.now args.chip.now) (pre) c.change.ensures)

pub returns-in_default : goal.returns-in_default
returns-in_default c =
    let args = c.args in
    rw (step_100 args.c.now args.chip.now (records args.s.now) (λ z. omega arith) (λ z. omega arith) (λ z. omega arith)) c.use_key.ensures
