-- Field after field, as the paper lists them (`laid_grown`).
use mathlib.Core.List.{[], ◌∷◌}
use Rattle.paper.specs.Bytes.{padded_text, zeros_of}
use Rattle.paper.specs.Act.{fresh}
use Rattle.paper.specs.Objects.{policy_record}
use Rattle.store_session.specs.Decoded.{value_of}
use Rattle.store_draft.proofs.Laying.{laid_grown, headed}
use Rattle.call_fields.specs.Fields.{policy_of}
use Rattle.method_policies.proofs.policy_record.Goals as goal

pub returns : goal.returns
unfolding policy_record
returns c = let a = c.args in
    let q = policy_of a.q a.c.now in
    rw (
      c.finish.ensures,
      c.zeros.ensures,
      c.byte-5.ensures,
      c.byte-4.ensures,
      c.byte-3.ensures,
      c.byte-2.ensures,
      c.byte.ensures,
      c.padded.ensures,
      c.head.ensures,
      c.string_at.ensures,
      c.fresh.ensures,
    )
    (laid_grown (headed 3 q.format q.retry q.grouping (fresh a.t (value_of a.x)) a.t q.puk)
    (padded_text 32 q.id ∷ (q.defined ∷ []) ∷ (q.modifiable ∷ []) ∷ (q.patterns ∷ []) ∷ (q.min_length ∷ []) ∷ (q.max_length ∷ []) ∷ zeros_of 202 ∷ []))
