-- What was taken, and the certificates left from the place reached, are the text and all n; none is left at the end.
use mathlib.Core.List.{List, ◌++◌}
use mathlib.Core.Path.{◌≡◌}
use Prim.Native.Nat.{ℕ, ◌+◌, ◌-◌, ◌*◌, ◌≤◌}
use Rattle.hmac.specs.Keyed.{Keyed}
use Rattle.paper.specs.Calls.{strings}
use Rattle.paper.specs.Mac.{each_string}
use Rattle.call_mac.proofs.with_certificates.Given as goal

abbrev pub invariant-loop : goal.invariant-loop
invariant-loop l = ((key text : List ℕ) → Keyed l.initial.r key text
    → (t : List ℕ) × Keyed l.r key t × (t ++ each_string (strings (l.n - l.counter) l.at l.c) ≡ text ++ each_string (strings l.n l.k l.c)))
    × (l.at ≤ l.k + l.counter * 65537)
