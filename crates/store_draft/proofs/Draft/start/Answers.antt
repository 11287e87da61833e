-- Nothing is held: 256 zeros.
use mathlib.Core.Path.{refl}
use Rattle.store_draft.specs.Drafts.{laid}
use Rattle.store_draft.proofs.Draft.start.Goals as goal

pub invariant_of-result : goal.invariant_of-result
unfolding laid
invariant_of-result c = record { bytes = refl; next = refl }
