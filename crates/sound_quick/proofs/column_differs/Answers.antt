-- The marks are the column's front (`front`).
use Prim.Native.Nat.{◌≤◌}
use Rattle.paper.specs.Records.{records}
use Rattle.store_records.proofs.Views.{length-records}
use Rattle.sound_quick.proofs.Columns.{front}
use Rattle.sound_quick.specs.Marks.{differing}
use lib.ListN.{length}
use lib.Seq.{length-take-le}
use mathlib.Core.Path.{◌∙◌, ap, sym}
use native.Mathlib.Omega.{arith}
use Rattle.sound_quick.proofs.column_differs.Goals as goal

pub slice_bounds-c-end : goal.slice_bounds-c-end
slice_bounds-c-end c = omega (arith, length-records c.args.s.now)

pub slice_bounds-differ-end : goal.slice_bounds-differ-end
slice_bounds-differ-end c = sym (length-take-le _ _ (omega (arith, length-records c.args.s.now)))

pub returns : goal.returns
returns c = let s = c.args.s.now in
    let h : length (records s) ≤ 256 = omega (arith, length-records s) in
    c.differ.ensures ∙ ap differing (rw (c.count.ensures, c.marks-c.ensures) (front c.args.named (records s) h))
