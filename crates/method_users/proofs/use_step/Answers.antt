-- The refusals first (`stopped`), then what is done (`passed`).
use Rattle.paper.specs.Records.{records}
use Rattle.paper.specs.Calls.{typed_new}
use mathlib.Core.Path.{sym, ap, ◌∙◌}
use Prim.Native.Nat.{ℕ}
use lib.Dec.{eqb}
use borrow.Author.Tests.{eq-eqb, ne_eqb}
use Rattle.paper.specs.Pin.{pin_hit}
use Rattle.method_users.proofs.Methods.{seen, method100, stopped, passed}
use Rattle.method_users.proofs.use_step.Goals as goal

pub returns-in-Err : goal.returns-in-Err
returns-in-Err c =
    let a = c.args in
    let rs = records a.store.now in
    let s = seen a.c.now rs c.four_at-k.ensures c.target-x.ensures c.home.ensures in
    stopped (method100 a.c.now a.chip.now rs s) c.in-Err.e (c.in-Err.ensures rs s ∙ rw c.policy_of-pol.ensures)

pub returns-then-four_at-eq0 : goal.returns-then-four_at-eq0
returns-then-four_at-eq0 c =
    let a = c.args in
    let rs = records a.store.now in
    let s = seen a.c.now rs c.four_at-k.ensures c.target-x.ensures c.home.ensures in
    passed (method100 a.c.now a.chip.now rs s) (c.in_default.ensures rs s ∙ rw c.policy_of-pol.ensures) (rw (ap (λ (n : ℕ). eqb n 0) (sym c.four_at.ensures) ∙ eq-eqb _ _ c.if-four_at-eq0.true))

pub returns : goal.returns
unfolding pin_hit
returns c =
    let a = c.args in
    let rs = records a.store.now in
    let s = seen a.c.now rs c.four_at-k.ensures c.target-x.ensures c.home.ensures in
    passed (method100 a.c.now a.chip.now rs s) (c.in_default.ensures rs s ∙ rw c.policy_of-pol.ensures) (rw (ap (λ (n : ℕ). eqb n 0) (sym c.four_at.ensures) ∙ ne_eqb _ _ c.if-four_at-eq0.false) (c.by_pin.ensures (typed_new a.c.now) rs ∙ rw (c.policy_of-pol.ensures, c.typed.ensures, c.four_at-2.ensures, c.four_at-3.ensures)))
