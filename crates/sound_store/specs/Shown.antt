-- Neighbours shown by their places, a number for each record: see near's `Sited`.
use Rattle.std.specs.Prelude.{List, [], ℕ, get_or}
use Rattle.paper.specs.Bytes.{byte}
use Rattle.paper.specs.Form.{Rec, Form}
use Rattle.sound_quick.specs.Near.{near, Sited}

-- the record at place i, its neighbours as three lists of places have them
abbrev pub sited_at : List Rec → ℕ → List ℕ → List ℕ → List ℕ → ℕ → Form
sited_at rs m up over under i =
    let o : ℕ = byte i over in
    near (get_or rs m []) (get_or rs (byte i up) []) (get_or rs o []) (get_or rs (byte o up) []) (get_or rs (byte i under) []) (get_or rs (byte o under) [])
    (get_or rs i [])

-- some places show every record as near as it should be
pub record Shown (rs : List Rec) : Type 0 where
  pub m : ℕ
  pub up : List ℕ
  pub over : List ℕ
  pub under : List ℕ
  pub sited : Sited rs m (λ i. byte i up) (λ i. byte i over) (λ i. byte i under)
