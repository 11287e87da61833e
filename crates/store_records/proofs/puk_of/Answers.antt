-- The look-up is by the policy's parent and session.
use Rattle.store_records.proofs.puk_of.Goals as goal

pub returns : goal.returns
returns c =
    let four-at = c.four_at in
    let four-at2 = c.four_at-2 in
    rw (← four-at.ensures, ← four-at2.ensures) c.that.ensures
