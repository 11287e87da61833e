-- Behind the bytes of s stay the zeros that they leave free.
use Rattle.std.proofs.lemmas.List.{drop-replicate}
use Rattle.hmac.specs.Hmac.{filled}
use Rattle.hmac.proofs.fill.Goals as goal

pub returns : goal.returns
unfolding filled
returns c = rw (c.copy_from_slice.ensures.after, drop-replicate)
