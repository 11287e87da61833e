-- The look-up is by kind, the handle, and the handle's session.
use Rattle.store_records.proofs.target.Goals as goal

pub returns : goal.returns
returns c =
    let session_of = c.session_of in
    rw (← session_of.ensures) c.that.ensures
