-- Format, both sides of the line: 511 bytes are left as they are, with 19; 512 become a counter at 1 and a free record.
use mathlib.Core.Path.{◌≡◌, refl}
use mathlib.Core.List.{[], ◌∷◌}
use lib.ListN.{replicate}
use Rattle.paper.specs.Records.{joined, zeros}
use Rattle.paper.specs.Sound.{length_fits}
use Rattle.paper.specs.Answer.{formatted, fresh_counter}
use Rattle.worked.specs.Hex.{row}

pub too_short : formatted (replicate 511 7) ≡ record { status = 19; store = replicate 511 7 }
unfolding formatted length_fits
too_short = refl

pub two_records : formatted (replicate 512 7) ≡ record { status = 0; store = joined (row "0600000000000001" ∷ row "" ∷ []) }
unfolding formatted length_fits fresh_counter joined zeros
two_records = refl
