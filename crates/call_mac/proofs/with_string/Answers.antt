-- The length's two bytes and then the bytes are a string.
use Rattle.call_mac.proofs.Pieces.{string-joined}
use Rattle.call_mac.proofs.with_string.Goals as goal

pub returns : goal.returns
returns c =
    let two_bytes = c.two_bytes-size in
    let update = c.update in
    λ k text h. rw (← string-joined text _ _ two_bytes.ensures) (c.update-2.ensures k _ (update.ensures k text h))
