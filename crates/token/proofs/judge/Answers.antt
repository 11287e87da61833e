-- Refused before the method (`judged_not`), or the method's own answer (`judged-done`).
use Rattle.token.proofs.Steps.{judged_not, judged-done}
use Rattle.token.proofs.Found.{passed}
use Rattle.token.proofs.judge.Goals as goal

pub returns-in-Err : goal.returns-in-Err
returns-in-Err c = let a = c.args in
    rw c.refused.ensures (judged_not a.s.now a.c.now a.chip.now c.in-Err.e c.in-Err.ensures)

pub step-requires : goal.step-requires
step-requires c = (passed c.args.s.now c.args.c.now c.in_default.ensures, c.place-i.ensures)

pub returns : goal.returns
returns c = let a = c.args in
    judged-done a.s.now a.c.now a.chip.now (passed a.s.now a.c.now c.in_default.ensures).whole c.in_default.ensures c.step.ensures
