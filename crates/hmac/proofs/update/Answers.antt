-- The inner state takes the bytes, behind the inner block and the text so far; the outer state stays.
use mathlib.Core.List.{append_assoc}
use Rattle.hmac.proofs.update.Goals as goal

pub returns : goal.returns
returns c =
    λ k text h.
    record {
      inner = rw (← append_assoc) (c.update_piece-inner.ensures _ h.inner);
      outer = h.outer;
    }
