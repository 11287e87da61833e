-- The one string is taken.
use Rattle.paper.specs.Mac.{mac_under}
use Rattle.call_mac.proofs.MacKey.post_under.Goals as goal

pub returns : goal.returns
unfolding mac_under
returns c = c.finish.ensures _ _ (c.with_string.ensures _ _ c.begun_post.ensures)
