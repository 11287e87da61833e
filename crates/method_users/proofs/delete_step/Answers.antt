-- The range first (`long`), then the refusals (`stopped`), then what is done (`passed`).
use Rattle.paper.specs.Records.{records}
use Rattle.paper.specs.Calls.{typed_new}
use mathlib.Core.Path.{◌∙◌}
use borrow.Author.Tests.{eq-eqb, ne_eqb}
use Rattle.paper.specs.Pin.{puk_hit}
use Rattle.paper.specs.Users.{delete_key}
use Rattle.method_users.proofs.Methods.{seen, method80, stopped, passed, long, ranged, fits, fits_puk}
use Rattle.method_users.proofs.delete_step.Goals as goal

pub returns-then-store-gt-MOST_RECORDS : goal.returns-then-store-gt-MOST_RECORDS
returns-then-store-gt-MOST_RECORDS c =
    let a = c.args in
    long (delete_key a.c.now a.chip.now) a.store.now c.if-store-gt-MOST_RECORDS.true

pub returns-in-Err : goal.returns-in-Err
returns-in-Err c =
    let a = c.args in
    let rs = records a.store.now in
    let s = seen a.c.now rs c.four_at-k.ensures c.target-x.ensures c.home.ensures in
    ranged (delete_key a.c.now a.chip.now) a.store.now c.if-store-gt-MOST_RECORDS.false (stopped (method80 a.c.now a.chip.now rs s) c.in-Err.e (c.in-Err.ensures rs s))

pub returns-then-protection-eq0 : goal.returns-then-protection-eq0
returns-then-protection-eq0 c =
    let a = c.args in
    let rs = records a.store.now in
    let s = seen a.c.now rs c.four_at-k.ensures c.target-x.ensures c.home.ensures in
    ranged (delete_key a.c.now a.chip.now) a.store.now c.if-store-gt-MOST_RECORDS.false (passed (method80 a.c.now a.chip.now rs s) (c.in_default.ensures rs s) (rw (← c.byte_at-protection.ensures, eq-eqb _ _ c.if-protection-eq0.true, ← c.four_at-k.ensures, fits a.store.now c.if-store-gt-MOST_RECORDS.false)))

pub returns-then-protection-eq-BY_PIN : goal.returns-then-protection-eq-BY_PIN
returns-then-protection-eq-BY_PIN c =
    let a = c.args in
    let rs = records a.store.now in
    let s = seen a.c.now rs c.four_at-k.ensures c.target-x.ensures c.home.ensures in
    ranged (delete_key a.c.now a.chip.now) a.store.now c.if-store-gt-MOST_RECORDS.false (passed (method80 a.c.now a.chip.now rs s) (c.in_default.ensures rs s) (rw (← c.byte_at-protection.ensures, ne_eqb _ _ c.if-protection-eq0.false, eq-eqb _ _ c.if-protection-eq-BY_PIN.true) (c.by_pin.ensures (typed_new a.c.now) rs ∙ rw (fits a.store.now c.if-store-gt-MOST_RECORDS.false, c.policy_of-pol.ensures, c.typed.ensures, c.four_at-k.ensures))))

pub returns : goal.returns
unfolding puk_hit
returns c =
    let a = c.args in
    let rs = records a.store.now in
    let s = seen a.c.now rs c.four_at-k.ensures c.target-x.ensures c.home.ensures in
    ranged (delete_key a.c.now a.chip.now) a.store.now c.if-store-gt-MOST_RECORDS.false (passed (method80 a.c.now a.chip.now rs s) (c.in_default.ensures rs s) (rw (← c.byte_at-protection.ensures, ne_eqb _ _ c.if-protection-eq0.false, ne_eqb _ _ c.if-protection-eq-BY_PIN.false) (c.by_puk.ensures (typed_new a.c.now) rs ∙ rw (fits_puk a.store.now c.if-store-gt-MOST_RECORDS.false, c.four_at.ensures, c.four_at-2.ensures, c.puk_of-puk.ensures, c.policy_of-pol.ensures, c.typed-2.ensures, c.four_at-k.ensures))))
