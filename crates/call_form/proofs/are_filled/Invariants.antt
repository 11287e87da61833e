use mathlib.Core.Path.{◌≡◌}
use Prim.Native.Nat.{◌+◌, ◌-◌, ◌*◌, ◌≤◌}
use Rattle.paper.specs.Calls.{filled_at}
use Rattle.paper.specs.Form.{test}
use Rattle.call_form.proofs.are_filled.Given as goal

abbrev pub invariant-loop : goal.invariant-loop
invariant-loop l = (test (filled_at l.n l.k l.c) ≡ test (filled_at (l.n - l.counter) l.at l.c)) × (l.at ≤ l.k + l.counter * 65537)
