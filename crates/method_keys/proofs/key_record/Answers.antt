-- Field after field, as the paper lists them (`laid_grown`).
use mathlib.Core.List.{[], ◌∷◌}
use Rattle.paper.specs.Bytes.{padded_text as padded_to, zeros_of}
use Rattle.paper.specs.Calls.{subject}
use Rattle.paper.specs.Act.{fresh as fresh_handle}
use Rattle.paper.specs.Objects.{key_record}
use Rattle.store_draft.proofs.Laying.{laid_grown, headed}
use Rattle.store_session.specs.Decoded.{value_of}
use Rattle.call_fields.specs.Fields.{key_of}
use Rattle.method_keys.proofs.key_record.Goals as goal

pub returns : goal.returns
unfolding key_record
returns c = let a = c.args in
    let q = key_of a.q a.c.now a.chip.now in
    rw (
      c.finish.ensures,
      c.zeros-3.ensures,
      c.byte-3.ensures,
      c.byte-2.ensures,
      c.byte.ensures,
      c.zeros-2.ensures,
      c.padded-3.ensures,
      c.zeros.ensures,
      c.padded-2.ensures,
      c.padded.ensures,
      c.head.ensures,
      c.string_at-2.ensures,
      c.string_at.ensures,
      c.fresh.ensures,
      c.four_at-t.ensures,
    )
    (laid_grown (headed 4 0 0 q.deletion (fresh_handle (subject a.c.now) (value_of a.x)) (subject a.c.now) q.policy)
    (padded_to 32 q.id ∷ padded_to 16 a.v.now ∷ zeros_of 16 ∷ padded_to 96 q.public ∷ zeros_of 32 ∷ (q.caching ∷ []) ∷ (q.export ∷ []) ∷ (q.usage ∷ []) ∷ zeros_of 42 ∷ []))
