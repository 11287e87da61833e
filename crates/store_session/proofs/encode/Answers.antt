-- Field after field: what each step leaves out, the record leaves out (`laid_kept`, `laid_more`).
use mathlib.Core.List.{List, [], ◌∷◌, ◌++◌, append_assoc}
use mathlib.Core.Path.{ap}
use Prim.Native.Nat.{ℕ}
use Rattle.store_draft.specs.Drafts.{laid}
use Rattle.store_draft.proofs.Laying.{laid_kept, laid_more}
use Rattle.store_session.specs.Decoded.{encoded, front, back}
use Rattle.store_session.proofs.Round.{names-flat}
use Rattle.store_session.proofs.encode.Goals as goal

pub returns : goal.returns
unfolding encoded laid
returns c = let x = c.args.x in
    rw (
      c.finish.ensures,
      c.zeros-2.ensures,
      c.four-4.ensures,
      c.from-7.ensures,
      c.four-3.ensures,
      c.from-6.ensures,
      c.byte-6.ensures,
      c.byte-5.ensures,
      c.two-3.ensures,
      c.from-5.ensures,
      c.two-2.ensures,
      c.from-4.ensures,
      c.bytes-3.ensures,
      c.bytes-2.ensures,
      c.byte-4.ensures,
      c.bytes.ensures,
      c.byte-3.ensures,
      c.zeros.ensures,
      c.four-2.ensures,
      c.from-3.ensures,
      c.four.ensures,
      c.from-2.ensures,
      c.two.ensures,
      c.from.ensures,
      c.byte-2.ensures,
      c.byte.ensures,
      c.start.ensures,
    )
    (simp (laid_kept, laid_more, append_assoc)
    (ap (λ (z : List ℕ). laid (front x ++ z)) (names-flat (x.serverlength ∷ []) x.server (x.clientlength ∷ []) x.client x.key (back x))))
