-- The four bytes are below 256, so no product or sum overflows, and the sum is that of `word_at`.
use Rattle.std.proofs.Common.{rules}
use Rattle.sha256.specs.Sha256.{word_at}
use Rattle.sha256.proofs.word_at.Goals as goal

pub returns : goal.returns
unfolding word_at
returns c = search rules
