-- Zeros stand there already; the place moves on (`zeros_fit`).
use native.Mathlib.Omega.{arith}
use Rattle.store_draft.proofs.Laying.{zeros_fit, shows, whole, within}
use Rattle.store_draft.proofs.Draft.zeros.Goals as goal

pub overflow_add-self-inside : goal.overflow_add-self-inside
overflow_add-self-inside c = omega (arith, within c.self.invariant, c.from.ensures, c.ranges.n.fits)

pub invariant_of-self : goal.invariant_of-self
invariant_of-self c = whole (zeros_fit c.self.invariant c.args.n _ (rw (← c.from.ensures) c.min.ensures))

pub returns : goal.returns
returns c = rw (← c.self.view_is) (shows (zeros_fit c.self.invariant c.args.n _ (rw (← c.from.ensures) c.min.ensures)))
