-- `story::unhex` hands back no more text than it was given.
use Rattle.std.proofs.Common.{◌≤◌, length}
use Rattle.story.proofs.unhex.Given as goal

abbrev pub invariant-loop : goal.invariant-loop
invariant-loop l = length l.rest ≤ length l.text
