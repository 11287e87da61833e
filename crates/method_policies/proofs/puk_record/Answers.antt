-- Field after field, as the paper lists them (`laid_grown`).
use mathlib.Core.List.{[], ◌∷◌}
use Rattle.paper.specs.Bytes.{padded_text, zeros_of}
use Rattle.paper.specs.Act.{fresh}
use Rattle.paper.specs.Objects.{puk_record}
use Rattle.store_session.specs.Decoded.{value_of}
use Rattle.store_draft.proofs.Laying.{laid_grown, headed}
use Rattle.call_fields.specs.Fields.{puk_of}
use Rattle.method_policies.proofs.puk_record.Goals as goal

pub returns : goal.returns
unfolding puk_record
returns c = let a = c.args in
    let q = puk_of a.q a.c.now a.chip.now in
    rw (c.finish.ensures, c.zeros.ensures, c.padded-2.ensures, c.padded.ensures, c.head.ensures, c.string_at.ensures, c.fresh.ensures)
    (laid_grown (headed 2 q.format q.retry 0 (fresh a.t (value_of a.x)) a.t 0) (padded_text 32 q.id ∷ padded_text 16 q.value ∷ zeros_of 190 ∷ []))
