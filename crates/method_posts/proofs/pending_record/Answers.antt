-- Field after field, as the paper lists them (`laid_grown`): 256 bytes (`laid_whole`).
use mathlib.Core.Path.{◌∙◌, refl}
use mathlib.Core.List.{[], ◌∷◌}
use Rattle.paper.specs.Bytes.{zeros_of}
use Rattle.paper.specs.Act.{fresh}
use Rattle.paper.specs.Posting.{pending_record}
use Rattle.store_session.specs.Decoded.{value_of}
use Rattle.store_draft.proofs.Laying.{laid_grown, laid_whole, headed}
use Rattle.method_posts.proofs.pending_record.Goals as goal

pub returns : goal.returns
unfolding pending_record
returns c = let a = c.args in
    rw (c.finish.ensures, c.zeros.ensures, c.head.ensures, c.fresh.ensures)
    (laid_grown (headed 5 a.op 0 0 (fresh a.t (value_of a.x)) a.t a.k) (zeros_of 240 ∷ []) ∙ laid_whole (pending_record a.op a.t a.k (value_of a.x)) refl)
