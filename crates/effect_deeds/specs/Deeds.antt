-- What a plan makes of the records: of each what its fate says.
use Rattle.std.specs.Prelude.{List, [], ◌∷◌, ℕ, ◌+◌}
use Rattle.paper.specs.Form.{Rec}
use Rattle.paper.specs.Records.{zeros}
use Rattle.paper.specs.Pin.{clear}
use Rattle.paper.specs.Closing.{stale, shut}
use Rattle.paper.specs.Users.{new_pin}
use Rattle.effect_plan.specs.declared.Fate.{Fate}
use Rattle.effect_plan.specs.declared.Fate.TheVariants.{Stays, Freed, KeyCleared, PukCleared, MadeStale, Shut, NewPin, NewPinCleared}
use Rattle.effect_plan.specs.Fate.{planned}

-- What becomes of a record by its fate; v is the new PIN.
unfoldable pub done : List ℕ → Fate → Rec → Rec
done v Stays r = r
done v Freed r = zeros
done v KeyCleared r = clear 2 r
done v PukCleared r = clear 3 r
done v MadeStale r = stale r
done v Shut r = shut r
done v NewPin r = new_pin v r
done v NewPinCleared r = clear 2 (new_pin v r)

-- An edit of each record that goes by its place, the first of which is i.
unfoldable pub each_at : (ℕ → Rec → Rec) → ℕ → List Rec → List Rec
each_at g i [] = []
each_at g i (r ∷ rs) = g i r ∷ each_at g (i + 1) rs

-- Record after record by its fate; past the plan's end a record stays.
abbrev pub turn : List ℕ → List Fate → ℕ → Rec → Rec
turn v p i r = done v (planned i p) r

unfoldable pub dealt : List ℕ → List Fate → List Rec → List Rec
dealt v p rs = each_at (turn v p) 0 rs
