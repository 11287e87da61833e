-- What a session call comes to, and what that does to the store. A call decides on its session's own records and one look at the
-- key it names; what it comes to edits each record by itself, and puts at most one new record into the lowest free place.
use Rattle.std.specs.Prelude.{Bool, cond, List, [], ◌∷◌, ◌++◌, map, ℕ, ◌+◌}
use Rattle.std.proofs.Math.Option.{Option, none, some as just}
use Rattle.paper.specs.Limits.{mac_bytes, most_objects}
use Rattle.paper.specs.Bytes.{enc2, zeros_of, over}
use Rattle.paper.specs.Form.{Rec, Form, ◌=<◌, no, test, only}
use Rattle.paper.specs.Records.{SESSION, is, at, bears, next_object, mac_counter, SessionValue, by_value, zeros, room, insert}
use Rattle.paper.specs.Calls.{subject}
use Rattle.paper.specs.Closing.{closing}

-- What the caller sees, and the records afterwards.
pub record Out : Type 0 where
  pub status : ℕ
  pub handle : ℕ
  pub attestation : List ℕ
  pub store : List Rec

abbrev pub no_attestation : List ℕ
no_attestation = zeros_of mac_bytes

-- A status with nothing in the reply but itself.
abbrev pub plain : ℕ → List Rec → Out
plain n rs = record { status = n; handle = 0; attestation = no_attestation; store = rs }

pub data Act : Type 0 where
  -- a status: the session is removed with all its records
  refuse : ℕ → Act
  -- handle and attestation of the reply, what becomes of the session's own records, a new record
  inside : ℕ → List ℕ → (Rec → Rec) → Option Rec → Act
  -- the session closes: attestation
  close : List ℕ → Act

-- A session with all its records is removed.
abbrev pub wiped : ℕ → ℕ → List Rec → Out
wiped s n rs = plain n (map (only (bears s) (λ r. zeros)) rs)

abbrev pub placed : Option Rec → List Rec → List Rec
placed none rs = rs
placed (just r) rs = insert r rs

abbrev pub fits_in : Option Rec → List Rec → Bool
fits_in none rs = Bool.true
fits_in (just r) rs = test (room rs)

unfoldable pub perform : ℕ → Act → List Rec → Out
perform s (refuse n) rs = wiped s n rs
perform s (close t) rs = record { status = 0; handle = 0; attestation = t; store = map (closing s rs) rs }
perform s (inside h t edit new) rs =
    cond (fits_in new rs)
    (record { status = 0; handle = h; attestation = t; store = placed new (map (only (bears s) edit) rs) })
    (wiped s 2 rs)

-- The session's counters move on: so many object numbers, so many uses of the MAC counter.
unfoldable pub moved : ℕ → ℕ → Rec → Rec
moved objects used r = over 2 (enc2 (next_object r + objects)) (over 114 (enc2 (mac_counter r + used)) r)

unfoldable pub advance : ℕ → ℕ → ℕ → Rec → Rec
advance s objects used = only (is SESSION s s) (moved objects used)

-- Refusals that methods share: the MAC counter would pass SessionKeyLimit; object numbers are used up.
abbrev pub passes_limit : ℕ → SessionValue → Form
passes_limit used x = no (x.counter + used =< x.limit)

abbrev pub objects_used_up : SessionValue → Form
objects_used_up x = no (x.next =< most_objects)

-- The next object's handle.
abbrev pub fresh : ℕ → SessionValue → ℕ
fresh s x = s + x.next

-- The session that a call names, among its own records.
abbrev pub itself : List ℕ → List Rec → SessionValue
itself c blk = by_value (at SESSION (subject c) (subject c) blk)

-- A new record is its fields' bytes one after another.
abbrev pub flat : List (List ℕ) → Rec
flat [] = []
flat (v ∷ vs) = v ++ flat vs
