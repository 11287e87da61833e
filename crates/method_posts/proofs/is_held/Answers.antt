-- The session's pendings on the key are found in the whole store (`held_block`).
use mathlib.Core.Path.{◌∙◌}
use Rattle.paper.specs.Records.{records}
use Rattle.method_posts.proofs.Posts.{held_block}
use Rattle.method_posts.proofs.is_held.Goals as goal

pub returns : goal.returns
returns c = c.has.ensures ∙ held_block c.args.t c.args.k (records c.args.s.now)
