use Prim.Native.Nat.{◌-◌, ◌<◌}
use Rattle.sound_quick.proofs.Columns.{row, row_step, rows_behind, no_row, some_row, every-row, seen_none, seen_more, unseen}
use mathlib.Core.Path.{refl, sym, ◌∙◌}
use native.Mathlib.Omega.{arith}
use Rattle.sound_quick.proofs.differ.Goals as goal

pub loop-i-init : goal.loop-i-init
loop-i-init c = (no_row c.args.c.now, seen_none _ c.args.c.now refl)

pub is_repeated-requires : goal.is_repeated-requires
is_repeated-requires c = λ e. rw (rows_behind c.args.c.now c.loop-i.i (omega arith) c.loop-i.auto.i) (unseen c.loop-i.invariant.1 _ e)

pub returns-then-is_repeated : goal.returns-then-is_repeated
returns-then-is_repeated c = let s = c.args.c.now in
    let i = c.loop-i.i in
    let p : 0 < i = omega arith in
    sym (some_row (i - 1) s (row_step s i p c.loop-i.auto.i ∙ rw (← rows_behind s i p c.loop-i.auto.i, ← c.is_repeated.ensures, c.if-is_repeated.true)))

pub loop-i-preserved : goal.loop-i-preserved
loop-i-preserved c = let s = c.args.c.now in
    let i = c.loop-i.i in
    let p : 0 < i = omega arith in (
      row_step s i p c.loop-i.auto.i ∙ rw (c.loop-i.invariant.0, ← rows_behind s i p c.loop-i.auto.i, ← c.is_repeated.ensures, c.if-is_repeated.false),
      rw (row s i p c.loop-i.auto.i) (seen_more c.loop-i.invariant.1 _),
    )

pub returns : goal.returns
returns c = sym (every-row c.args.c.now _ (omega arith) c.loop-i.invariant.0)
