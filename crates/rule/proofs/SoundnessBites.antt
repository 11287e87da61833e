-- Soundness is not empty, and each clause bites: a sound store with every kind of record, and for each clause one change of one
-- record of it that breaks the clause.
use mathlib.Core.Path.{◌≡◌, refl}
use mathlib.Core.Bool.{Bool, true, not, ◌&&◌}
use mathlib.Core.List.{List, [], ◌∷◌}
use Prim.Native.Nat.{ℕ, zero, suc, ◌+◌, ◌*◌}
use Rattle.hmac.specs.Same.{same}
use Rattle.paper.specs.Bytes.{byte, two, four, part, enc2, enc4, over, text_at, all_within}
use Rattle.paper.specs.Form.{Rec, Form, each, apart, test}
use Rattle.paper.specs.Records.{SESSION, PUK, POLICY, KEY, PENDING, COUNTER, OPEN, CLOSED, zeros}
use Rattle.paper.specs.Table.{obeys_table}
use Rattle.paper.specs.Sound.{tabled, has_counter, one_counter, handles_differ, session_carries, object_carries, below_next, below_counter, ids_differ, clients_differ, session_there, puk_there, policy_there, bare_key, pinned_key, puk_for_protection, key_counts, puk_counts, mac_counts, lengths_rise, no_digest, key_there, paths_set, policies_used, key_wiped, pending_open, target_unless_stale, target_there, target_managed, target_pinned, one_pending, pins_shared, Sound}

-- ---- the records: kind, own handle, session, parent, then the fields

abbrev base : ℕ → ℕ → ℕ → ℕ → Rec
base k o s p = over 0 (k ∷ []) (over 4 (enc4 o) (over 8 (enc4 s) (over 12 (enc4 p) zeros)))

abbrev session_nr : ℕ → ℕ → ℕ → Rec
session_nr n state next =
    over 1 (state ∷ []) (over 2 (enc2 next) (over 16 (1 ∷ 65 ∷ []) (over 49 (2 ∷ 66 ∷ (66 + n) ∷ []) (over 114 (0 ∷ 2 ∷ 0 ∷ 9 ∷ 1 ∷ 1 ∷ [])
    (base SESSION (n * 65536) (n * 65536) 0)))))

abbrev a_puk : Rec
a_puk = over 1 (0 ∷ 3 ∷ 1 ∷ []) (over 16 (1 ∷ 80 ∷ []) (over 49 (2 ∷ 49 ∷ 50 ∷ []) (base PUK 65537 65536 0)))

-- shared
abbrev a_policy : Rec
a_policy = over 1 (0 ∷ 3 ∷ 1 ∷ []) (over 16 (1 ∷ 81 ∷ []) (over 49 (1 ∷ 1 ∷ 0 ∷ 4 ∷ 8 ∷ []) (base POLICY 65538 65536 65537)))

-- name, errors, protection
abbrev a_key : ℕ → ℕ → ℕ → ℕ → ℕ → Rec
a_key o parent name errors protection =
    over 1 (1 ∷ errors ∷ protection ∷ []) (over 16 (1 ∷ name ∷ []) (over 82 (2 ∷ 7 ∷ 7 ∷ []) (over 179 (5 ∷ 6 ∷ []) (base KEY o 65536 parent))))

abbrev pinned : Rec → Rec
pinned r = over 49 (4 ∷ 49 ∷ 50 ∷ 51 ∷ 53 ∷ []) r

abbrev pending : ℕ → ℕ → ℕ → ℕ → Rec
pending o s op key = over 1 (op ∷ []) (base PENDING o s key)

abbrev stale_pending : ℕ → ℕ → ℕ → Rec
stale_pending o s op = over 1 (op ∷ 1 ∷ []) (base PENDING o s 0)

-- Session 1 is closed: a PUK, a shared policy, two keys under it and one without. Sessions 2 and 3 are open and hold the first key.
abbrev store : List Rec
store =
    zeros ∷ over 0 (COUNTER ∷ []) (over 4 (enc4 4) zeros) ∷ session_nr 1 CLOSED 6 ∷ session_nr 2 OPEN 3 ∷ a_puk ∷ a_policy
    ∷ pinned (a_key 65539 65538 82 3 1) ∷ pending 131073 131072 50 65539 ∷ session_nr 3 OPEN 2 ∷ pending 196609 196608 51 65539
    ∷ pinned (a_key 65540 65538 83 0 2) ∷ a_key 65541 0 84 0 0 ∷ stale_pending 131074 131072 51 ∷ []

pub store_sound : test (Sound store) ≡ true
unfolding byte two four part over text_at all_within same obeys_table zeros
store_sound = refl

-- ---- the clauses, and for each a record of the store with other bytes from a place on

abbrev alone : (Rec → Form) → List Rec → Form
alone p rs = each rs p

abbrev other : (Rec → Rec → Form) → List Rec → Form
other p rs = apart rs p

abbrev both : (Rec → Rec → Form) → List Rec → Form
both p rs = each rs (λ x. each rs (p x))

abbrev in_store : (List Rec → Rec → Form) → List Rec → Form
in_store p rs = each rs (p rs)

pub data Break : Type 0 where
  breaks : (clause : List Rec → Form) (number place : ℕ) (bytes : List ℕ) → Break

abbrev altered : List Rec → ℕ → ℕ → List ℕ → List Rec
altered [] n i v = []
altered (x ∷ xs) zero i v = over i v x ∷ xs
altered (x ∷ xs) (suc n) i v = x ∷ altered xs n i v

abbrev all_bite : List Break → Bool
all_bite [] = true
all_bite (breaks clause n i v ∷ bs) = not (test (clause (altered store n i v))) && all_bite bs

abbrev table : List Break
table =
    breaks has_counter 1 0 (0 ∷ [])
    -- a free record that is not all zero
    ∷ breaks (alone tabled) 0 7 (1 ∷ [])
    -- a session with an object number; object number 1,000
    ∷ breaks (alone session_carries) 8 7 (1 ∷ [])
    ∷ breaks (alone object_carries) 11 4 (enc4 66536)
    -- a PIN without policy; a policy without PIN
    ∷ breaks (alone bare_key) 11 49 (1 ∷ [])
    ∷ breaks (alone pinned_key) 6 49 (0 ∷ 0 ∷ 0 ∷ 0 ∷ 0 ∷ [])
    ∷ breaks (alone puk_counts) 4 3 (4 ∷ [])
    ∷ breaks (alone mac_counts) 3 114 (0 ∷ 10 ∷ [])
    ∷ breaks (alone lengths_rise) 5 52 (9 ∷ [])
    -- a digest without path
    ∷ breaks (alone no_digest) 6 1 (0 ∷ [])
    -- a byte of the SessionKey left at the close
    ∷ breaks (alone key_wiped) 2 90 (1 ∷ [])
    -- stale, with a target; no target, and not stale
    ∷ breaks (alone target_unless_stale) 7 2 (1 ∷ [])
    ∷ breaks (alone target_unless_stale) 12 2 (0 ∷ [])
    ∷ breaks (other one_counter) 0 0 (COUNTER ∷ [])
    ∷ breaks (other handles_differ) 10 4 (enc4 65539)
    ∷ breaks (other ids_differ) 10 17 (80 ∷ [])
    ∷ breaks (other clients_differ) 3 51 (69 ∷ [])
    -- a second pending of session 2 on the same key
    ∷ breaks (other one_pending) 12 12 (enc4 65539)
    ∷ breaks (both below_next) 3 2 (enc2 2)
    ∷ breaks (both below_counter) 1 4 (enc4 3)
    ∷ breaks (both puk_for_protection) 5 12 (enc4 0)
    ∷ breaks (both key_counts) 6 2 (4 ∷ [])
    ∷ breaks (both paths_set) 10 1 (0 ∷ [])
    ∷ breaks (both pending_open) 3 1 (CLOSED ∷ [])
    -- the target's session open again, or without KeyManagementKey
    ∷ breaks (both target_managed) 2 1 (OPEN ∷ [])
    ∷ breaks (both target_managed) 2 119 (0 ∷ [])
    -- 51 on the key without PIN
    ∷ breaks (both target_pinned) 9 12 (enc4 65541)
    ∷ breaks (in_store session_there) 11 8 (enc4 262144)
    ∷ breaks (in_store puk_there) 5 12 (enc4 65539)
    ∷ breaks (in_store policy_there) 6 12 (enc4 65537)
    -- closed, and no key in it
    ∷ breaks (in_store key_there) 8 1 (CLOSED ∷ [])
    ∷ breaks (in_store target_there) 7 12 (enc4 65538)
    -- the PUK loses its only policy
    ∷ breaks (λ rs. both (policies_used rs) rs) 5 12 (enc4 0)
    ∷ breaks (in_store pins_shared) 10 50 (48 ∷ [])
    ∷ []

pub clauses_bite : all_bite table ≡ true
unfolding byte two four part over text_at all_within same obeys_table zeros
clauses_bite = refl
