-- No block is taken, so the hash value is the initial one; nothing is counted and nothing waits.
use Rattle.std.proofs.Common.{rules}
use Rattle.sha256.specs.Sha256.{after, initial}
use Rattle.sha256.proofs.start.Goals as goal

pub returns : goal.returns
unfolding after initial
returns c = search rules
