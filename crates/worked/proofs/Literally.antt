-- A close in one shot and the literal one, pendings by rising handle, leave the same records: the conflict's store at each session's close.
use mathlib.Core.Path.{◌≡◌, refl}
use mathlib.Core.List.{map}
use Rattle.hmac.specs.Same.{same}
use Rattle.paper.specs.Bytes.{byte, two, four, part, over}
use Rattle.paper.specs.Form.{only}
use Rattle.paper.specs.Records.{zeros}
use Rattle.paper.specs.Pin.{clear}
use Rattle.paper.specs.Closing.{stale, effect, holds, shut, sealed, closing, carry_out, closed_literally}
use Rattle.worked.proofs.Conflict.{store_2}

pub unlocking : map (closing 196608 store_2) store_2 ≡ closed_literally 196608 store_2
unfolding byte two four part over only zeros clear stale effect holds shut sealed closing carry_out closed_literally
unlocking = refl

pub removing : map (closing 131072 store_2) store_2 ≡ closed_literally 131072 store_2
unfolding byte two four part over only zeros clear stale effect holds shut sealed closing carry_out closed_literally
removing = refl
