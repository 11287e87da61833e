-- The length, the bytes and the zeros, one after the other.
use mathlib.Core.List.{append_assoc}
use Rattle.store_draft.proofs.Laying.{kept_more}
use Rattle.store_draft.proofs.Draft.padded.Goals as goal

pub returns : goal.returns
returns c = simp (c.zeros.ensures, c.bytes.ensures, c.byte.ensures, c.saturating_sub-left.ensures, c.from.ensures, kept_more, append_assoc)
