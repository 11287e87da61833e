-- The table of records: the fields of each kind in order, with their ranges. Every byte not named is zero.
use Rattle.std.specs.Prelude.{Bool, true, ◌&&◌, cond, List, [], ◌∷◌, ℕ, suc, ◌+◌, ◌-◌, length, eqb}
use Rattle.paper.specs.Limits.{record_bytes, bytes_from, pin_end, most_objects, handle_step, longest_id, longest_pin, longest_public_key, key_bytes, last_format, last_grouping, last_patterns, last_protection}
use Rattle.paper.specs.Bytes.{byte, two, four, part, within, all_within, text_at}
use Rattle.paper.specs.Form.{Rec}
use Rattle.paper.specs.Records.{kind, FREE, SESSION, PUK, POLICY, KEY, PENDING, COUNTER, OPEN, CLOSED}

pub data Field : Type 0 where
  -- a number of 1, 2 or 4 bytes: least, most
  u8 u16 u32 : ℕ → ℕ → Field
  -- so many bytes: any, or zeros
  bytes blank : ℕ → Field
  -- a length byte, the bytes, zeros: longest, shortest. The bytes of an ID are 0x21 to 0x7E
  text ident : ℕ → ℕ → Field

abbrev pub width : Field → ℕ
width (u8 lo hi) = 1
width (u16 lo hi) = 2
width (u32 lo hi) = 4
width (bytes n) = n
width (blank n) = n
width (text n lo) = suc n
width (ident n lo) = suc n

abbrev pub is_blank : List ℕ → Bool
is_blank v = all_within 0 0 v

abbrev pub printable : List ℕ → Bool
printable v = all_within 0x21 0x7E v

abbrev pub is_text : ℕ → ℕ → ℕ → Rec → Bool
is_text n lo i r = within lo n (byte i r) && is_blank (part (i + 1 + byte i r) (n - byte i r) r)

-- The field that stands at place i has its form.
abbrev pub field_fits : Field → ℕ → Rec → Bool
field_fits (u8 lo hi) i r = within lo hi (byte i r)
field_fits (u16 lo hi) i r = within lo hi (two i r)
field_fits (u32 lo hi) i r = within lo hi (four i r)
field_fits (bytes n) i r = true
field_fits (blank n) i r = is_blank (part i n r)
field_fits (text n lo) i r = is_text n lo i r
field_fits (ident n lo) i r = is_text n lo i r && printable (text_at i r)

abbrev pub fits : List Field → ℕ → Rec → Bool
fits [] i r = true
fits (f ∷ fs) i r = field_fits f i r && fits fs (i + width f) r

abbrev pub flag : Field
flag = u8 0 1

-- own handle, session's handle, parent handle
abbrev pub handles : List Field → List Field
handles fs = bytes 4 ∷ bytes 4 ∷ bytes 4 ∷ fs

-- the same, of a kind that has no parent
abbrev pub orphan : List Field → List Field
orphan fs = bytes 4 ∷ bytes 4 ∷ blank 4 ∷ fs

-- 1: open or closed, next object number; ServerSessionID; ClientSessionID; SessionKey; MAC counter; SessionKeyLimit;
-- PrivacyEnabled; KeyManagementKey given; ClientTime; SessionLifeTime
abbrev pub session_fields : List Field
session_fields =
    u8 SESSION SESSION ∷ u8 OPEN CLOSED ∷ u16 1 (suc most_objects) ∷ orphan
    (ident longest_id 1 ∷ ident longest_id 1 ∷ bytes key_bytes ∷ bytes 2 ∷ u16 1 65535 ∷ flag ∷ flag ∷ bytes 4 ∷ bytes 4 ∷ blank (bytes_from 128) ∷ [])

-- 2: format, retry limit, errors; ID; value
abbrev pub puk_fields : List Field
puk_fields =
    u8 PUK PUK ∷ u8 0 last_format ∷ bytes 1 ∷ bytes 1 ∷ orphan
    (ident longest_id 1 ∷ text longest_pin 1 ∷ blank (bytes_from pin_end) ∷ [])

-- 3: format, retry limit, grouping; ID; UserDefined; UserModifiable; patterns; min; max
abbrev pub policy_fields : List Field
policy_fields =
    u8 POLICY POLICY ∷ u8 0 last_format ∷ u8 1 255 ∷ u8 0 last_grouping ∷ handles
    (ident longest_id 1 ∷ flag ∷ flag ∷ u8 0 last_patterns ∷ u8 1 longest_pin ∷ u8 1 longest_pin ∷ blank (bytes_from 54) ∷ [])

-- 4: path, errors, DeleteProtection; ID; PIN; public key; digest; EnablePINCaching; ExportProtection; AppUsage
abbrev pub key_fields : List Field
key_fields =
    u8 KEY KEY ∷ flag ∷ bytes 1 ∷ u8 0 last_protection ∷ handles
    (ident longest_id 1 ∷ text longest_pin 0 ∷ blank (82 - pin_end) ∷ text longest_public_key 1 ∷ bytes 32 ∷ flag ∷ u8 0 last_protection ∷ bytes 1 ∷ blank (bytes_from 214) ∷ [])

-- 5: operation, stale; no ID
abbrev pub pending_fields : List Field
pending_fields = u8 PENDING PENDING ∷ u8 50 51 ∷ flag ∷ blank 1 ∷ handles (blank (bytes_from 16) ∷ [])

-- 6: next session number; no other field
abbrev pub counter_fields : List Field
counter_fields = u8 COUNTER COUNTER ∷ blank 3 ∷ u32 1 handle_step ∷ blank (bytes_from 8) ∷ []

-- No other kind is right.
abbrev pub fields_of : ℕ → List Field
fields_of k =
    cond (eqb k SESSION) session_fields
    (cond (eqb k PUK) puk_fields
    (cond (eqb k POLICY) policy_fields
    (cond (eqb k KEY) key_fields
    (cond (eqb k PENDING) pending_fields
    (cond (eqb k COUNTER) counter_fields
    (u8 FREE FREE ∷ blank (bytes_from 1) ∷ []))))))

unfoldable pub obeys_table : Rec → Bool
obeys_table r = eqb (length r) record_bytes && fits (fields_of (kind r)) 0 r
