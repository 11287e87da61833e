-- The part that was lent comes back rewritten.
use mathlib.Core.Path.{◌≡◌, refl}
use native.Mathlib.Omega.{arith}
use lib.ListN.{length}
use Rattle.store_edits.proofs.Todos.{todo_done, todo_step}
use Rattle.store_edits.proofs.rewrite_chosen.Goals as goal

pub loop-i-init : goal.loop-i-init
loop-i-init g c = record { left = refl; tail = refl }

pub loop-i-preserved : goal.loop-i-preserved
loop-i-preserved g c =
    let w = c.rewrite_record in
    let l : length w.new.r ≡ 256 = omega arith in
    todo_step c.loop-i.invariant c.loop-i.auto.s _ c.loop-i-test.true l w.ensures

pub returns : goal.returns
returns g c = todo_done c.loop-i.invariant c.loop-i.auto.s c.loop-i-test.false
