-- A short key is filled as it is, a longer one by its hash, as `key_block` chooses.
use mathlib.Core.Path.{ap, ◌∙◌}
use borrow.Author.Tests.{le-leb, lt-leb}
use Rattle.hmac.specs.Hmac.{filled, key_block}
use Rattle.hmac.proofs.key_block.Goals as goal

pub returns-then-key-le64 : goal.returns-then-key-le64
unfolding key_block
returns-then-key-le64 c = rw (le-leb _ _ c.if-key-le64.true) c.fill.ensures

pub returns : goal.returns
unfolding key_block
returns c = rw (lt-leb _ _ c.if-key-le64.false) (c.fill-2.ensures ∙ ap filled c.sha256-h.ensures)
