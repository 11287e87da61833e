-- A close in one shot, as crate `paper` has it, and the paper's words taken literally: pendings are carried out by rising handle and
-- freed, then the session is sealed. From a sound store the two leave the very same records. Proved in proofs/Literally.antt.
use Rattle.std.specs.Prelude.{◌≡◌, true, List, map, ℕ}
use Rattle.paper.specs.Form.{Fact}
use Rattle.paper.specs.Records.{records}
use Rattle.paper.specs.Sound.{sound}
use Rattle.paper.specs.Closing.{closing, closed_literally}
use Rattle.paper.specs.Answer.{is_open}

abbrev pub Literally : Type 0
Literally =
    (s : List ℕ) (a : ℕ) → sound s ≡ true → Fact (is_open a (records s))
    → map (closing a (records s)) (records s) ≡ closed_literally a (records s)
