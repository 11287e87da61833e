-- Invariant: the state is between two blocks, with what the chunks have not yielded left. The tail of that, which is no whole block, stays.
use Rattle.std.proofs.Common.{◌≡◌, ℕ, List, ◌++◌}
use Rattle.sha256.specs.State.{Stands}
use Rattle.sha256.proofs.Standing.{Between, tail}
use Rattle.sha256.proofs.update.Given as goal

abbrev pub invariant-loop-b : goal.invariant-loop-b
invariant-loop-b l =
    let left : List ℕ = l.b-iterator.rest.now in
    (l.b-iterator.size ≡ 64) × (l.tail ≡ tail left) × ((m : List ℕ) → Stands l.fn.s m → Between l.hash l.rest left (m ++ l.d))
