-- What becomes of a record where keys are removed and unlocked: it stays, is freed, its count at byte 2 or 3 becomes 0, or it is marked
-- stale. The order is that of the paper's `effect`.
use Rattle.std.specs.Prelude.{cond, eqb, ◌≡◌, List, [], ◌++◌, map, ℕ, ◌-◌, ◌<◌, leb, length, get_or, replicate, take}
use Rattle.paper.specs.Limits.{most_records}
use Rattle.paper.specs.Form.{Rec, ◌or◌, test}
use Rattle.paper.specs.Closing.{Keys, goes, key_unlocked, puk_unlocked, pending_on}
use Rattle.effect_plan.specs.declared.Fate.{Fate}
use Rattle.effect_plan.specs.declared.Fate.TheVariants.{Stays, Freed, KeyCleared, PukCleared, MadeStale, Shut, NewPin, NewPinCleared}

unfoldable pub fate : Keys → Keys → List Rec → Rec → Fate
fate d u rs r =
    cond (test (goes d rs r)) Freed
    (cond (test (key_unlocked u r)) KeyCleared
    (cond (test (puk_unlocked u rs r)) PukCleared
    (cond (test (pending_on d r or pending_on u r)) MadeStale Stays)))

-- The number of a fate, and the fate that a number stands for.
abbrev pub number_of : Fate → ℕ
number_of Stays = 0
number_of Freed = 1
number_of KeyCleared = 2
number_of PukCleared = 3
number_of MadeStale = 4
number_of Shut = 5
number_of NewPin = 6
number_of NewPinCleared = 7

abbrev pub fate_of : ℕ → Fate
fate_of n =
    cond (eqb n 1) Freed
    (cond (eqb n 2) KeyCleared
    (cond (eqb n 3) PukCleared
    (cond (eqb n 4) MadeStale
    (cond (eqb n 5) Shut
    (cond (eqb n 6) NewPin
    (cond (eqb n 7) NewPinCleared Stays))))))

-- What a plan says of the record at a place; past the plan's end it stays.
unfoldable pub planned : ℕ → List Fate → Fate
planned i p = get_or p i Stays

-- A plan has each record's fate at its place.
pub record Plan (f : Rec → Fate) (rs : List Rec) (p : List Fate) : Type 0 where
  pub at : (i : ℕ) → i < length rs → planned i p ≡ f (get_or rs i [])

-- It has room for 256 records: those of a longer store all stay. Behind the last record all stay too, so that the records determine it.
unfoldable pub plan_of : (Rec → Fate) → List Rec → List Fate
plan_of f rs = take most_records (map f rs) ++ replicate (most_records - length rs) Stays

unfoldable pub fitting : List Rec → (Rec → Fate) → Rec → Fate
fitting rs f r = cond (leb (length rs) most_records) (f r) Stays
