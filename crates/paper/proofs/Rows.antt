-- The table's rows: the fields of each kind are 256 bytes wide, stand where the paper has them, and are what their names read.
use mathlib.Core.Path.{◌≡◌, refl}
use mathlib.Core.Bool.{cond}
use mathlib.Core.List.{List, [], ◌∷◌, map}
use Prim.Native.Nat.{ℕ, ◌+◌}
use lib.Dec.{eqb}
use Rattle.paper.specs.Bytes.{byte, two, four, part, text_at}
use Rattle.paper.specs.Form.{Rec}
use Rattle.paper.specs.Records.{FREE, SESSION, PUK, POLICY, KEY, PENDING, COUNTER, kind, own, session, parent, id, state, next_object, client_id, session_key, mac_counter, key_limit, key_management, format, retry_limit, puk_errors, grouping, user_defined, user_modifiable, patterns, min_length, max_length, path_set, key_errors, delete_protection, value_length, value, public_key, certificate_digest, operation, is_stale, next_session}
use Rattle.paper.specs.Table.{Field, u8, u16, u32, bytes, blank, text, ident, width, fields_of}

abbrev total : List Field → ℕ
total [] = 0
total (f ∷ fs) = width f + total fs

pub rows_wide :
    map (λ (k : ℕ). total (fields_of k)) (0 ∷ 1 ∷ 2 ∷ 3 ∷ 4 ∷ 5 ∷ 6 ∷ [])
    ≡ 256 ∷ 256 ∷ 256 ∷ 256 ∷ 256 ∷ 256 ∷ 256 ∷ []
rows_wide = refl

-- where each field of a kind starts
abbrev places : ℕ → List Field → List ℕ
places i [] = []
places i (f ∷ fs) = i ∷ places (i + width f) fs

pub session_places :
    places 0 (fields_of 1) ≡ 0 ∷ 1 ∷ 2 ∷ 4 ∷ 8 ∷ 12 ∷ 16 ∷ 49 ∷ 82 ∷ 114 ∷ 116 ∷ 118 ∷ 119 ∷ 120 ∷ 124 ∷ 128 ∷ []
session_places = refl

pub puk_places : places 0 (fields_of 2) ≡ 0 ∷ 1 ∷ 2 ∷ 3 ∷ 4 ∷ 8 ∷ 12 ∷ 16 ∷ 49 ∷ 66 ∷ []
puk_places = refl

pub policy_places : places 0 (fields_of 3) ≡ 0 ∷ 1 ∷ 2 ∷ 3 ∷ 4 ∷ 8 ∷ 12 ∷ 16 ∷ 49 ∷ 50 ∷ 51 ∷ 52 ∷ 53 ∷ 54 ∷ []
policy_places = refl

pub key_places :
    places 0 (fields_of 4) ≡ 0 ∷ 1 ∷ 2 ∷ 3 ∷ 4 ∷ 8 ∷ 12 ∷ 16 ∷ 49 ∷ 66 ∷ 82 ∷ 179 ∷ 211 ∷ 212 ∷ 213 ∷ 214 ∷ []
key_places = refl

pub pending_places : places 0 (fields_of 5) ≡ 0 ∷ 1 ∷ 2 ∷ 3 ∷ 4 ∷ 8 ∷ 12 ∷ 16 ∷ []
pending_places = refl

pub counter_places : places 0 (fields_of 6) ≡ 0 ∷ 1 ∷ 4 ∷ 8 ∷ []
counter_places = refl

-- What a field of a record says: a number, a string, or nothing where it is blank. Plain bytes are a number if they are 1, 2 or 4.
pub data Value : Type 0 where
  number : ℕ → Value
  string : List ℕ → Value
  nothing : Value

abbrev plain : ℕ → ℕ → Rec → Value
plain n i r =
    cond (eqb n 1) (number (byte i r))
    (cond (eqb n 2) (number (two i r))
    (cond (eqb n 4) (number (four i r))
    (string (part i n r))))

abbrev says : Field → ℕ → Rec → Value
says (u8 lo hi) i r = number (byte i r)
says (u16 lo hi) i r = number (two i r)
says (u32 lo hi) i r = number (four i r)
says (bytes n) i r = plain n i r
says (blank n) i r = nothing
says (text n lo) i r = string (text_at i r)
says (ident n lo) i r = string (text_at i r)

abbrev reading : List Field → ℕ → Rec → List Value
reading [] i r = []
reading (f ∷ fs) i r = says f i r ∷ reading fs (i + width f) r

-- A record read by the row of a kind, field after field.
abbrev row : ℕ → Rec → List Value
row k r = reading (fields_of k) 0 r

-- Each name of Records.antt reads the field that has it in the row: no place and no width is said twice. Fields that nothing reads have
-- no name, and stand here by their bytes.
module _ (r : Rec) where
  pub free_row : row FREE r ≡ number (kind r) ∷ nothing ∷ []
  free_row = refl

  pub session-row :
      row SESSION r
      ≡ number (kind r) ∷ number (state r) ∷ number (next_object r) ∷ number (own r) ∷ number (session r) ∷ nothing
      ∷ string (id r) ∷ string (client_id r) ∷ string (session_key r) ∷ number (mac_counter r) ∷ number (key_limit r)
      ∷ number (byte 118 r) ∷ number (key_management r) ∷ number (four 120 r) ∷ number (four 124 r) ∷ nothing ∷ []
  session-row = refl

  pub puk-row :
      row PUK r
      ≡ number (kind r) ∷ number (format r) ∷ number (retry_limit r) ∷ number (puk_errors r) ∷ number (own r) ∷ number (session r)
      ∷ nothing ∷ string (id r) ∷ string (value r) ∷ nothing ∷ []
  puk-row = refl

  pub policy-row :
      row POLICY r
      ≡ number (kind r) ∷ number (format r) ∷ number (retry_limit r) ∷ number (grouping r) ∷ number (own r) ∷ number (session r)
      ∷ number (parent r) ∷ string (id r) ∷ number (user_defined r) ∷ number (user_modifiable r) ∷ number (patterns r)
      ∷ number (min_length r) ∷ number (max_length r) ∷ nothing ∷ []
  policy-row = refl

  pub key_row :
      row KEY r
      ≡ number (kind r) ∷ number (path_set r) ∷ number (key_errors r) ∷ number (delete_protection r) ∷ number (own r) ∷ number (session r)
      ∷ number (parent r) ∷ string (id r) ∷ string (value r) ∷ nothing ∷ string (public_key r) ∷ string (certificate_digest r)
      ∷ number (byte 211 r) ∷ number (byte 212 r) ∷ number (byte 213 r) ∷ nothing ∷ []
  key_row = refl

  pub pending-row :
      row PENDING r
      ≡ number (kind r) ∷ number (operation r) ∷ number (is_stale r) ∷ nothing ∷ number (own r) ∷ number (session r) ∷ number (parent r)
      ∷ nothing ∷ []
  pending-row = refl

  pub counter-row : row COUNTER r ≡ number (kind r) ∷ nothing ∷ number (next_session r) ∷ nothing ∷ []
  counter-row = refl

  -- The length of a PIN or PUK is the byte before it.
  pub value-length : value r ≡ part 50 (value_length r) r
  unfolding text_at
  value-length = refl
