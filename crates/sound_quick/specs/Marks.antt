-- Marks of records: two numbers for each, such that records whose marks all differ are distinct in the paper's sense. The first is the
-- record's handle. The second is made of what must not occur twice beside handles: a ClientSessionID, an ID within its session, an
-- unstale pending's target within its session, the counter. A mark of 0 says nothing. Two records that differ may still bear one mark.
use Rattle.std.specs.Prelude.{Bool, true, false, not, ◌&&◌, ◌||◌, cond, List, [], ◌∷◌, ◌++◌, map, ℕ, ◌+◌, ◌-◌, ◌*◌, ◌%◌, eqb, leb, length, take}
use Rattle.paper.specs.Limits.{most_records, id_width}
use Rattle.paper.specs.Bytes.{byte, four, part, zeros_of}
use Rattle.paper.specs.Form.{Rec, ◌equals◌, test}
use Rattle.paper.specs.Records.{kind, SESSION, PENDING, COUNTER, own, session, parent}
use Rattle.paper.specs.Sound.{has_handle, has_id, parentless}

-- Two numbers and a string of at most 33 bytes made one number from 1 to 4,294,967,291, which is a prime; so one word that differs
-- makes another number. The factors are odd and below 2^27: the sum stays below 2^64.
unfoldable pub mixed : ℕ → ℕ → List ℕ → ℕ
mixed a b l =
    (a * 104395301 + b * 122949823 + four 0 l * 86028121 + four 4 l * 67867967 + four 8 l * 49979687 + four 12 l * 32452843
    + four 16 l * 15485863 + four 20 l * 113648711 + four 24 l * 95189713 + four 28 l * 77557187 + byte 32 l * 58600471)
    % 4294967291 + 1

unfoldable pub handle_mark : Rec → ℕ
handle_mark r = cond (test (has_handle r)) (own r) 0

unfoldable pub pending_mark : Rec → ℕ
pending_mark r = cond (test (parentless r)) 0 (mixed (session r) (parent r) [])

unfoldable pub name_mark : Rec → ℕ
name_mark r =
    cond (test (kind r equals SESSION)) (mixed 0 0 (part 49 id_width r))
    (cond (test (has_id r)) (mixed (session r) 0 (part 16 id_width r))
    (cond (test (kind r equals PENDING)) (pending_mark r)
    (cond (test (kind r equals COUNTER)) 4294967295 0)))

abbrev pub mark_of : Bool → Rec → ℕ
mark_of true r = name_mark r
mark_of false r = handle_mark r

-- No mark but 0 occurs twice.
unfoldable pub occurs : ℕ → List ℕ → Bool
occurs x [] = false
occurs x (y ∷ ys) = eqb y x || occurs x ys

unfoldable pub repeated : ℕ → List ℕ → Bool
repeated x xs = not (eqb x 0) && occurs x xs

unfoldable pub differing : List ℕ → Bool
differing [] = true
differing (x ∷ xs) = not (repeated x xs) && differing xs

-- A column has room for 256 marks: those of the first 256 records, then zeros.
unfoldable pub column : Bool → List Rec → List ℕ
column named rs = take most_records (map (mark_of named) rs) ++ zeros_of (most_records - length rs)

-- All marks of a store differ; a store of more than 256 records is not looked at.
unfoldable pub marks_differ : List Rec → Bool
marks_differ rs = leb (length rs) most_records && (differing (map (mark_of false) rs) && differing (map (mark_of true) rs))
