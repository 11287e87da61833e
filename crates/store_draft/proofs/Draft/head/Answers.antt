-- The bytes and the handles, one after the other: there is room for all 16.
use Rattle.store_draft.specs.Drafts.{kept}
use Rattle.store_draft.proofs.Draft.head.Goals as goal

pub returns : goal.returns
unfolding kept
returns c = rw (c.four-3.ensures, c.four-2.ensures, c.four.ensures, c.bytes.ensures, c.start.ensures, c.from.ensures, c.from-2.ensures)
