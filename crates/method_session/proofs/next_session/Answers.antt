-- The counter is looked up, and its number read.
use Rattle.method_session.proofs.next_session.Goals as goal

pub returns : goal.returns
returns c =
    let first = c.first in
    rw (← first.ensures) c.four_at.ensures
