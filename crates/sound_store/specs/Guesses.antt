-- The places that the quick way guesses for each record's neighbours. Nothing is asked of a guess: whether it is right is tested.
use Rattle.std.specs.Prelude.{Bool, cond, List, [], ◌∷◌, ℕ, ◌+◌, ◌*◌, ◌/◌, ◌%◌, eqb, get_or, set}
use Rattle.paper.specs.Limits.{handle_step}
use Rattle.paper.specs.Bytes.{byte, four}
use Rattle.paper.specs.Form.{Rec, ◌equals◌, no, ◌and◌, ◌or◌, some, test}
use Rattle.paper.specs.Records.{kind, POLICY, KEY, own}
use Rattle.paper.specs.Sound.{parentless}
use Rattle.store_records.specs.View.{index}

-- a pass over records from place i on, each of which changes a list of places
unfoldable pub along : (ℕ → Rec → List ℕ → List ℕ) → ℕ → List Rec → List ℕ → List ℕ
along f i [] p = p
along f i (r ∷ rs) p = along f (i + 1) rs (f i r p)

-- a session's handle is its number times 65,536; handles of one store seldom meet in one of 1,024 slots
abbrev pub slot_of : ℕ → ℕ
slot_of h = (h / handle_step * 37 + h % handle_step) % 1024

abbrev pub noted : List ℕ → ℕ → ℕ → Bool → List ℕ
noted p at i meant = cond meant (set p at i) p

-- for each slot the place of the last record whose handle has it
abbrev pub by_slot : ℕ → Rec → List ℕ → List ℕ
by_slot i r t = set t (slot_of (own r)) i

-- the place of the first record with this handle, or 0
abbrev pub place_of : ℕ → List Rec → ℕ
place_of h rs = cond (test (some rs (λ r. own r equals h))) (index (λ r. own r equals h) rs) 0

-- the same, at once where the handle's slot has it
abbrev pub seat_of : List Rec → List ℕ → ℕ → ℕ
seat_of rs t h = cond (eqb h 0) 0 (cond (eqb (own (get_or rs (byte (slot_of h) t) [])) h) (byte (slot_of h) t) (place_of h rs))

-- for each record the place of the one whose handle it has in a field
abbrev pub by_field : List Rec → List ℕ → ℕ → ℕ → Rec → List ℕ → List ℕ
by_field rs t field i r p = set p i (seat_of rs t (four field r))

-- for each session the place of its last key, for each PUK and each PIN policy that of its last child
abbrev pub by_child : List ℕ → List ℕ → ℕ → Rec → List ℕ → List ℕ
by_child up over i r p =
    noted (noted p (byte i up) i (test (kind r equals KEY))) (byte i over) i (test ((kind r equals POLICY or kind r equals KEY) and no (parentless r)))
