-- The look-up is by kind and the session's handle twice.
use Rattle.store_records.proofs.home.Goals as goal

pub returns : goal.returns
returns c =
    let session_of = c.session_of-h in
    rw (← session_of.ensures) c.that.ensures
