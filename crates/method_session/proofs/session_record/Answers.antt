-- Field after field, as the paper lists them (`laid_grown`).
use mathlib.Core.List.{[], ◌∷◌}
use Rattle.paper.specs.Bytes.{enc2, padded_text as padded_to, zeros_of}
use Rattle.paper.specs.Calls.{create_in}
use Rattle.paper.specs.Sessions.{given as given_if, session_record}
use Rattle.store_draft.proofs.Laying.{laid_grown, headed}
use Rattle.method_session.proofs.session_record.Goals as goal

pub returns : goal.returns
unfolding session_record
returns c = let a = c.args in
    let q = create_in a.c.now a.chip.now in
    rw (
      c.finish.ensures,
      c.zeros.ensures,
      c.bytes-2.ensures,
      c.byte-2.ensures,
      c.byte.ensures,
      c.two-2.ensures,
      c.two.ensures,
      c.bytes.ensures,
      c.padded-2.ensures,
      c.padded.ensures,
      c.head.ensures,
      c.from.ensures,
      c.string_at.ensures,
      c.string_at-2.ensures,
      c.part_of.ensures,
      c.given.ensures,
      c.string_at-3.ensures,
      c.part_of-2.ensures,
      c.requires,
    )
    (laid_grown (headed 1 1 0 1 a.h a.h 0)
    (padded_to 32 q.server ∷ padded_to 32 q.client ∷ q.key ∷ enc2 0 ∷ enc2 q.limit ∷ (q.privacy ∷ []) ∷ (given_if q.management ∷ []) ∷ q.times ∷ zeros_of 128 ∷ []))
