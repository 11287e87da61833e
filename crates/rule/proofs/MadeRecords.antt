-- The records that methods 8, 9, 10, 50 and 51 make: they obey the table and read back as they were written.
use mathlib.Core.Path.{◌≡◌, refl}
use mathlib.Core.Bool.{true}
use mathlib.Core.List.{List, [], ◌∷◌}
use Prim.Native.Nat.{ℕ, ◌≤◌, ◌<◌, ◌-◌}
use native.Mathlib.Omega.{arith}
use lib.ListN.{length}
use lib.Dec.{lit≤, lit<}
use Rattle.paper.specs.Limits.{longest_id, longest_pin, longest_public_key, last_format, last_grouping, last_patterns, last_protection, pin_width, id_width, bytes_from, pin_end}
use Rattle.paper.specs.Bytes.{part, enc4, padded_text, zeros_of, string_at}
use Rattle.paper.specs.Form.{Rec}
use Rattle.paper.specs.Records.{SessionValue, kind, PUK, POLICY, KEY, PENDING, own, session, parent, puk_errors, min_length, max_length, value_length, key_errors, delete_protection, certificate_digest, operation, is_stale}
use Rattle.paper.specs.Table.{obeys_table, fields_of, printable}
use Rattle.paper.specs.Calls.{Puk, Policy, Key}
use Rattle.paper.specs.Act.{fresh}
use Rattle.paper.specs.Objects.{puk_record, policy_record, key_record}
use Rattle.paper.specs.Posting.{pending_record}
use Rattle.laws.proofs.Bytes.{byte_of, four_of}
use Rattle.laws.proofs.Strings.{text_length}
use Rattle.laws.proofs.CallStrings.{length-string}
use Rattle.laws.proofs.CallForms.{IdClauses}
use Rattle.laws.proofs.Building.{Match, match, ◌&◌, done, is_u8, is_bytes, is_blank_lem, is_text_lem, is_ident, field_built, tabled_built, offset, wide, nth}

-- what every new record has
pub record Head (k o s p : ℕ) (n : Rec) : Type 0 where
  pub kind= : kind n ≡ k
  pub own= : own n ≡ o
  pub session= : session n ≡ s
  pub parent= : parent n ≡ p
  pub tabled : obeys_table n ≡ true

-- a name, or a value, that has its form
abbrev pub Named : List ℕ → Type 0
Named v = (1 ≤ length v) × (length v ≤ longest_id) × (printable v ≡ true)

-- a string of a call that has its form
pub named_of : (k : ℕ) (c : List ℕ) → IdClauses k c → Named (string_at k c)
named_of k c I = let e = length-string k c I.ends in (omega arith, omega arith, I.prints)

abbrev pub word : ℕ
word = 4294967296

-- ---- 8

module _ (s : ℕ) (q : Puk) (v : List ℕ) (ses : SessionValue) (small : fresh s ses < word) (I : Named
    q.id) (v1 : 1 ≤ length v) (v2 : length v ≤ longest_pin) (f : q.format ≤ last_format) where
  abbrev puk_values : List (List ℕ)
  puk_values =
      (PUK ∷ []) ∷ (q.format ∷ []) ∷ (q.retry ∷ []) ∷ (0 ∷ []) ∷ enc4 (fresh s ses) ∷ enc4 s ∷ enc4 0
      ∷ padded_text longest_id q.id ∷ padded_text longest_pin v ∷ zeros_of (bytes_from pin_end) ∷ []

  puk_match : Match (fields_of PUK) puk_values
  puk_match =
      match
      (is_u8 PUK PUK PUK (lit≤ tt) (lit≤ tt) & is_u8 0 last_format q.format (omega arith) f & is_bytes 1 (q.retry ∷ []) refl & is_bytes 1 (0 ∷ []) refl
      & is_bytes 4 (enc4 (fresh s ses)) refl & is_bytes 4 (enc4 s) refl & is_blank_lem 4
      & is_ident longest_id 1 q.id I.0 I.1 (lit< tt) I.2 & is_text_lem longest_pin 1 v v1 v2 (lit< tt) & is_blank_lem (bytes_from pin_end) & done)

  puk_at : (j : ℕ) → part (offset j (fields_of PUK)) (wide j (fields_of PUK)) (puk_record s q v ses) ≡ nth j puk_values
  unfolding puk_record
  puk_at j = field_built j (fields_of PUK) puk_values puk_match

  pub puk_head : Head PUK (fresh s ses) s 0 (puk_record s q v ses)
  puk_head =
      let k = byte_of 0 (puk_record s q v ses) PUK (puk_at 0) in
      record {
        kind= = k;
        own= = four_of 4 (puk_record s q v ses) (fresh s ses) (puk_at 4) small;
        session= = four_of 8 (puk_record s q v ses) s (puk_at 5) (omega arith);
        parent= = four_of 12 (puk_record s q v ses) 0 (puk_at 6) (lit< tt);
        tabled = unfold puk_record in tabled_built PUK puk_values puk_match k refl;
      }

  pub puk_named : part 16 id_width (puk_record s q v ses) ≡ padded_text longest_id q.id
  puk_named = puk_at 7

  pub puk_errors_lem : puk_errors (puk_record s q v ses) ≡ 0
  puk_errors_lem = byte_of 3 (puk_record s q v ses) 0 (puk_at 3)

-- ---- 9

-- the ranges of a policy's fields
pub record PolicyRanges (q : Policy) : Type 0 where
  pub format : q.format ≤ last_format
  pub retry : (1 ≤ q.retry) × (q.retry ≤ 255)
  pub grouping : q.grouping ≤ last_grouping
  pub flags : (q.defined ≤ 1) × (q.modifiable ≤ 1)
  pub patterns : q.patterns ≤ last_patterns
  pub lengths : (1 ≤ q.min_length) × (q.min_length ≤ q.max_length) × (q.max_length ≤ longest_pin)

module _ (s : ℕ) (q : Policy) (ses : SessionValue) (small : fresh s ses < word) (above : q.puk < word) (I : Named q.id) (R : PolicyRanges q) where
  abbrev policy_values : List (List ℕ)
  policy_values =
      (POLICY ∷ []) ∷ (q.format ∷ []) ∷ (q.retry ∷ []) ∷ (q.grouping ∷ []) ∷ enc4 (fresh s ses) ∷ enc4 s ∷ enc4 q.puk
      ∷ padded_text longest_id q.id ∷ (q.defined ∷ []) ∷ (q.modifiable ∷ []) ∷ (q.patterns ∷ []) ∷ (q.min_length ∷ []) ∷ (q.max_length ∷ [])
      ∷ zeros_of (bytes_from 54) ∷ []

  policy_match : Match (fields_of POLICY) policy_values
  policy_match =
      match
      (is_u8 POLICY POLICY POLICY (lit≤ tt) (lit≤ tt) & is_u8 0 last_format q.format (omega arith) R.format
      & is_u8 1 255 q.retry R.retry.0 R.retry.1 & is_u8 0 last_grouping q.grouping (omega arith) R.grouping
      & is_bytes 4 (enc4 (fresh s ses)) refl & is_bytes 4 (enc4 s) refl & is_bytes 4 (enc4 q.puk) refl
      & is_ident longest_id 1 q.id I.0 I.1 (lit< tt) I.2
      & is_u8 0 1 q.defined (omega arith) R.flags.0 & is_u8 0 1 q.modifiable (omega arith) R.flags.1
      & is_u8 0 last_patterns q.patterns (omega arith) R.patterns
      & is_u8 1 longest_pin q.min_length R.lengths.0 (let l = R.lengths in omega arith)
      & is_u8 1 longest_pin q.max_length (let l = R.lengths in omega arith) R.lengths.2 & is_blank_lem (bytes_from 54) & done)

  policy_at : (j : ℕ) → part (offset j (fields_of POLICY)) (wide j (fields_of POLICY)) (policy_record s q ses) ≡ nth j policy_values
  unfolding policy_record
  policy_at j = field_built j (fields_of POLICY) policy_values policy_match

  pub policy_head : Head POLICY (fresh s ses) s q.puk (policy_record s q ses)
  policy_head =
      let k = byte_of 0 (policy_record s q ses) POLICY (policy_at 0) in
      record {
        kind= = k;
        own= = four_of 4 (policy_record s q ses) (fresh s ses) (policy_at 4) small;
        session= = four_of 8 (policy_record s q ses) s (policy_at 5) (omega arith);
        parent= = four_of 12 (policy_record s q ses) q.puk (policy_at 6) above;
        tabled = unfold policy_record in tabled_built POLICY policy_values policy_match k refl;
      }

  pub policy_named : part 16 id_width (policy_record s q ses) ≡ padded_text longest_id q.id
  policy_named = policy_at 7

  pub policy_lengths : min_length (policy_record s q ses) ≤ max_length (policy_record s q ses)
  policy_lengths =
      rw (byte_of 52 (policy_record s q ses) q.min_length (policy_at 11), byte_of 53 (policy_record s q ses) q.max_length (policy_at 12))
      R.lengths.1

-- ---- 10

pub record KeyRanges (q : Key) : Type 0 where
  pub deletion : q.deletion ≤ last_protection
  pub caching : q.caching ≤ 1
  pub export : q.export ≤ last_protection
  pub public : (1 ≤ length q.public) × (length q.public ≤ longest_public_key)

module _ (s : ℕ) (q : Key) (v : List ℕ) (ses : SessionValue) (small : fresh s ses < word) (above : q.policy < word) (I : Named
    q.id) (R : KeyRanges q) (short : length v ≤ longest_pin) where
  abbrev key_values : List (List ℕ)
  key_values =
      (KEY ∷ []) ∷ (0 ∷ []) ∷ (0 ∷ []) ∷ (q.deletion ∷ []) ∷ enc4 (fresh s ses) ∷ enc4 s ∷ enc4 q.policy
      ∷ padded_text longest_id q.id ∷ padded_text longest_pin v ∷ zeros_of (82 - pin_end) ∷ padded_text longest_public_key q.public ∷ zeros_of 32
      ∷ (q.caching ∷ []) ∷ (q.export ∷ []) ∷ (q.usage ∷ []) ∷ zeros_of (bytes_from 214) ∷ []

  key_match : Match (fields_of KEY) key_values
  key_match =
      match
      (is_u8 KEY KEY KEY (lit≤ tt) (lit≤ tt) & is_u8 0 1 0 (lit≤ tt) (lit≤ tt) & is_bytes 1 (0 ∷ []) refl
      & is_u8 0 last_protection q.deletion (omega arith) R.deletion
      & is_bytes 4 (enc4 (fresh s ses)) refl & is_bytes 4 (enc4 s) refl & is_bytes 4 (enc4 q.policy) refl
      & is_ident longest_id 1 q.id I.0 I.1 (lit< tt) I.2 & is_text_lem longest_pin 0 v (omega arith) short (lit< tt)
      & is_blank_lem (82 - pin_end) & is_text_lem longest_public_key 1 q.public R.public.0 R.public.1 (lit< tt) & is_bytes 32 (zeros_of 32) refl
      & is_u8 0 1 q.caching (omega arith) R.caching & is_u8 0 last_protection q.export (omega arith) R.export
      & is_bytes 1 (q.usage ∷ []) refl & is_blank_lem (bytes_from 214) & done)

  key_at : (j : ℕ) → part (offset j (fields_of KEY)) (wide j (fields_of KEY)) (key_record s q v ses) ≡ nth j key_values
  unfolding key_record
  key_at j = field_built j (fields_of KEY) key_values key_match

  pub key_head : Head KEY (fresh s ses) s q.policy (key_record s q v ses)
  key_head =
      let k = byte_of 0 (key_record s q v ses) KEY (key_at 0) in
      record {
        kind= = k;
        own= = four_of 4 (key_record s q v ses) (fresh s ses) (key_at 4) small;
        session= = four_of 8 (key_record s q v ses) s (key_at 5) (omega arith);
        parent= = four_of 12 (key_record s q v ses) q.policy (key_at 6) above;
        tabled = unfold key_record in tabled_built KEY key_values key_match k refl;
      }

  pub key_named : part 16 id_width (key_record s q v ses) ≡ padded_text longest_id q.id
  key_named = key_at 7

  pub key_pin : part 49 pin_width (key_record s q v ses) ≡ padded_text longest_pin v
  key_pin = key_at 8

  pub key_pin_length : value_length (key_record s q v ses) ≡ length v
  key_pin_length = text_length 49 longest_pin (key_record s q v ses) v key_pin short (lit< tt)

  pub key_errors_lem : key_errors (key_record s q v ses) ≡ 0
  key_errors_lem = byte_of 2 (key_record s q v ses) 0 (key_at 2)

  pub key_protection : delete_protection (key_record s q v ses) ≡ q.deletion
  key_protection = byte_of 3 (key_record s q v ses) q.deletion (key_at 3)

  pub key_digest : certificate_digest (key_record s q v ses) ≡ zeros_of 32
  key_digest = key_at 11

-- ---- 50, 51

module _ (op s k : ℕ) (ses : SessionValue) (small : fresh s ses < word) (above : k < word) (lo : 50 ≤ op) (hi : op ≤ 51) where
  abbrev pending_values : List (List ℕ)
  pending_values = (PENDING ∷ []) ∷ (op ∷ []) ∷ (0 ∷ []) ∷ (0 ∷ []) ∷ enc4 (fresh s ses) ∷ enc4 s ∷ enc4 k ∷ zeros_of (bytes_from 16) ∷ []

  pending_match : Match (fields_of PENDING) pending_values
  pending_match =
      match
      (is_u8 PENDING PENDING PENDING (lit≤ tt) (lit≤ tt) & is_u8 50 51 op lo hi & is_u8 0 1 0 (lit≤ tt) (lit≤ tt) & is_blank_lem 1
      & is_bytes 4 (enc4 (fresh s ses)) refl & is_bytes 4 (enc4 s) refl & is_bytes 4 (enc4 k) refl & is_blank_lem (bytes_from 16) & done)

  pending_at : (j : ℕ) → part (offset j (fields_of PENDING)) (wide j (fields_of PENDING)) (pending_record op s k ses) ≡ nth j pending_values
  unfolding pending_record
  pending_at j = field_built j (fields_of PENDING) pending_values pending_match

  pub pending_head : Head PENDING (fresh s ses) s k (pending_record op s k ses)
  pending_head =
      let j = byte_of 0 (pending_record op s k ses) PENDING (pending_at 0) in
      record {
        kind= = j;
        own= = four_of 4 (pending_record op s k ses) (fresh s ses) (pending_at 4) small;
        session= = four_of 8 (pending_record op s k ses) s (pending_at 5) (omega arith);
        parent= = four_of 12 (pending_record op s k ses) k (pending_at 6) above;
        tabled = unfold pending_record in tabled_built PENDING pending_values pending_match j refl;
      }

  pub pending_operation : operation (pending_record op s k ses) ≡ op
  pending_operation = byte_of 1 (pending_record op s k ses) op (pending_at 1)

  pub pending_mark : is_stale (pending_record op s k ses) ≡ 0
  pending_mark = byte_of 2 (pending_record op s k ses) 0 (pending_at 2)
