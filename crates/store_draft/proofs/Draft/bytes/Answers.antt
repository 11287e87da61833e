-- As many bytes as there is room for are copied; the others are left out (`bytes_fit`).
use native.Mathlib.Omega.{arith}
use Rattle.store_draft.proofs.Laying.{bytes_fit, shows, whole, within}
use Rattle.store_draft.proofs.Draft.bytes.Goals as goal

pub overflow_sub-at : goal.overflow_sub-at
overflow_sub-at c = within c.self.invariant

pub slice_bounds-copy_from_slice-end : goal.slice_bounds-copy_from_slice-end
slice_bounds-copy_from_slice-end c = omega (arith, within c.self.invariant, c.min-n.ensures)

pub invariant_of-self : goal.invariant_of-self
invariant_of-self c = whole (bytes_fit c.self.invariant c.args.v.now _ _ _ c.min-n.ensures (omega arith) c.copy_from_slice.ensures.after)

pub returns : goal.returns
returns c = rw (← c.self.view_is) (shows (bytes_fit c.self.invariant c.args.v.now _ _ _ c.min-n.ensures (omega arith) c.copy_from_slice.ensures.after))
