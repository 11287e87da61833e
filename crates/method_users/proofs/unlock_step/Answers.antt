-- The range first (`long`), then the refusals (`stopped`), then what is done (`passed`).
use Rattle.paper.specs.Records.{records}
use Rattle.paper.specs.Calls.{typed_new}
use mathlib.Core.Path.{◌∙◌}
use Rattle.paper.specs.Users.{unlock_key}
use Rattle.method_users.proofs.Methods.{seen, method82, stopped, passed, long, ranged, fits}
use Rattle.method_users.proofs.unlock_step.Goals as goal

pub returns-then-store-gt-MOST_RECORDS : goal.returns-then-store-gt-MOST_RECORDS
returns-then-store-gt-MOST_RECORDS c =
    let a = c.args in
    long (unlock_key a.c.now a.chip.now) a.store.now c.if-store-gt-MOST_RECORDS.true

pub returns-in-Err : goal.returns-in-Err
returns-in-Err c =
    let a = c.args in
    let rs = records a.store.now in
    let s = seen a.c.now rs c.four_at-k.ensures c.target-x.ensures c.home.ensures in
    ranged (unlock_key a.c.now a.chip.now) a.store.now c.if-store-gt-MOST_RECORDS.false (stopped (method82 a.c.now a.chip.now rs s) c.in-Err.e (c.in-Err.ensures rs s ∙ rw (c.puk_of-puk.ensures, c.policy_of-pol.ensures)))

pub returns : goal.returns
returns c =
    let a = c.args in
    let rs = records a.store.now in
    let s = seen a.c.now rs c.four_at-k.ensures c.target-x.ensures c.home.ensures in
    ranged (unlock_key a.c.now a.chip.now) a.store.now c.if-store-gt-MOST_RECORDS.false (passed (method82 a.c.now a.chip.now rs s) (c.in_default.ensures rs s ∙ rw (c.puk_of-puk.ensures, c.policy_of-pol.ensures)) (c.by_puk.ensures (typed_new a.c.now) rs ∙ rw (fits a.store.now c.if-store-gt-MOST_RECORDS.false, c.puk_of-puk.ensures, c.policy_of-pol.ensures, c.typed.ensures, c.four_at-k.ensures)))
