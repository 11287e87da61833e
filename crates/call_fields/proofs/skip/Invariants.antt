use mathlib.Core.Path.{◌≡◌}
use Prim.Native.Nat.{◌+◌, ◌*◌, ◌≤◌}
use Rattle.paper.specs.Calls.{behind_strings}
use Rattle.call_fields.proofs.skip.Given as goal

abbrev pub invariant-loop : goal.invariant-loop
invariant-loop l = (l.at ≡ behind_strings l.counter l.k l.c) × (l.at ≤ l.k + l.counter * 65537)
