-- Invariant of both loops: the first t words of w are the schedule's first t. Each turn adds the word that the schedule has next: one of the block (`early`), then a mixed one (`late`).
use Rattle.std.proofs.Common.{◌≡◌, length, take}
use Rattle.sha256.specs.Sha256.{schedule}
use Rattle.sha256.proofs.schedule_of.Given as goal

abbrev pub invariant-loop-t : goal.invariant-loop-t
invariant-loop-t l = (length l.w ≡ 64) × (take l.t l.w ≡ schedule l.b l.t)

abbrev pub invariant-loop-t-2 : goal.invariant-loop-t-2
invariant-loop-t-2 l = (length l.w ≡ 64) × (take l.t l.w ≡ schedule l.b l.t)
