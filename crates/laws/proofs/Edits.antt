-- The edits of a record: which places each touches, and what stands there afterwards.
use mathlib.Core.Path.{◌≡◌, sym, ap, ◌∙◌, subst}
use mathlib.Core.Bool.{Bool}
use mathlib.Core.List.{List, [], ◌∷◌}
use mathlib.Core.Logic.{inl}
use Prim.Native.Nat.{ℕ, ◌+◌, ◌%◌, ◌≤◌, ◌<◌}
use native.Mathlib.Omega.{arith}
use lib.ListN.{length}
use lib.Dec.{lit≤, lit<}
use Rattle.paper.specs.Bytes.{byte, part, enc1, enc2, enc4, zeros_of, padded_text, over}
use Rattle.paper.specs.Limits.{longest_pin, pin_width}
use Rattle.paper.specs.Form.{Rec}
use Rattle.paper.specs.Records.{parent, is_stale, next_object, mac_counter, next_session, path_set, certificate_digest, state, session_key, CLOSED}
use Rattle.paper.specs.Pin.{clear, add_one}
use Rattle.paper.specs.Closing.{stale, shut}
use Rattle.paper.specs.Act.{moved}
use Rattle.paper.specs.Objects.{certified}
use Rattle.paper.specs.Users.{new_pin}
use Rattle.laws.proofs.Bytes.{length_over, byte-over, two-over, four-over, four_of, two-over_other, part-over_other, part-over-same}
use Rattle.laws.proofs.Places.{Same, from, ◌∪◌, same_over, same_then}
use Rattle.laws.proofs.Strings.{length-padded}

-- ---- counts: byte 2 of a key, byte 3 of a PUK

pub clear-same : (i : ℕ) (r : Rec) → Same (from i 1) r (clear i r)
unfolding clear
clear-same i r = same_over i (0 ∷ []) r

pub clear_zero : (i : ℕ) (r : Rec) → i < length r → byte i (clear i r) ≡ 0
unfolding clear
clear_zero i r h = byte-over i 0 r h

pub add_same : (i : ℕ) (r : Rec) → Same (from i 1) r (add_one i r)
unfolding add_one
add_same i r = same_over i (enc1 (byte i r + 1)) r

pub add_is : (i : ℕ) (r : Rec) → i < length r → byte i (add_one i r) ≡ (byte i r + 1) % 256
unfolding add_one
add_is i r h = byte-over i ((byte i r + 1) % 256) r h

-- ---- a pending marked stale

abbrev pub stale_at : ℕ → Bool
stale_at = ◌∪◌ (from 12 4) (from 2 1)

pub stale-same : (r : Rec) → Same stale_at r (stale r)
unfolding stale
stale-same r =
    same_then (from 12 4) (from 2 1) r (over 12 (zeros_of 4) r) (over 2 (1 ∷ []) (over 12 (zeros_of 4) r)) (same_over 12 (zeros_of 4) r)
    (same_over 2 (1 ∷ []) (over 12 (zeros_of 4) r))

pub stale-parent : (r : Rec) → 16 ≤ length r → parent (stale r) ≡ 0
unfolding stale
stale-parent r h =
    four_of 12 (over 2 (1 ∷ []) (over 12 (zeros_of 4) r)) 0
    (part-over_other 2 12 4 (1 ∷ []) (over 12 (zeros_of 4) r) (inl (lit≤ tt)) ∙ part-over-same 12 (zeros_of 4) r h) (lit< tt)

pub stale-mark : (r : Rec) → 16 ≤ length r → is_stale (stale r) ≡ 1
unfolding stale
stale-mark r h = byte-over 2 1 (over 12 (zeros_of 4) r) (rw (length_over 12 (zeros_of 4) r) (omega arith))

-- ---- a session's counters moved on

abbrev pub moved_at : ℕ → Bool
moved_at = ◌∪◌ (from 114 2) (from 2 2)

module _ (objects used : ℕ) (r : Rec) where
  abbrev counted : Rec
  counted = over 114 (enc2 (mac_counter r + used)) r

  pub moved_same : Same moved_at r (moved objects used r)
  unfolding moved
  moved_same =
      same_then (from 114 2) (from 2 2) r counted (over 2 (enc2 (next_object r + objects)) counted) (same_over 114 (enc2 (mac_counter r + used)) r)
      (same_over 2 (enc2 (next_object r + objects)) counted)

  pub moved_next : 116 ≤ length r → next_object r + objects < 65536 → next_object (moved objects used r) ≡ next_object r + objects
  unfolding moved
  moved_next h l = two-over 2 (next_object r + objects) counted (rw (length_over 114 (enc2 (mac_counter r + used)) r) (omega arith)) l

  pub moved-mac : 116 ≤ length r → mac_counter r + used < 65536 → mac_counter (moved objects used r) ≡ mac_counter r + used
  unfolding moved
  moved-mac h l = two-over_other 2 114 (enc2 (next_object r + objects)) counted (inl (lit≤ tt)) ∙ two-over 114 (mac_counter r + used) r h l

-- ---- the next session number

pub onward_same : (r : Rec) → Same (from 4 4) r (over 4 (enc4 (next_session r + 1)) r)
onward_same r = same_over 4 (enc4 (next_session r + 1)) r

pub onward_next : (r : Rec) → 8 ≤ length r → next_session r + 1 < 4294967296 → next_session (over 4 (enc4 (next_session r + 1)) r) ≡ next_session r + 1
onward_next r h l = four-over 4 (next_session r + 1) r h l

-- ---- a certificate path, with the digest d

abbrev pub certified_at : ℕ → Bool
certified_at = ◌∪◌ (from 179 32) (from 1 1)

module _ (d : List ℕ) (long : length d ≡ 32) (r : Rec) where
  pub certified-same : Same certified_at r (certified d r)
  unfolding certified
  certified-same =
      same_then (from 179 32) (from 1 1) r (over 179 d r) (over 1 (1 ∷ []) (over 179 d r))
      (subst (λ (n : ℕ). Same (from 179 n) r (over 179 d r)) long (same_over 179 d r)) (same_over 1 (1 ∷ []) (over 179 d r))

  pub certified_path : 211 ≤ length r → path_set (certified d r) ≡ 1
  unfolding certified
  certified_path h = byte-over 1 1 (over 179 d r) (rw (length_over 179 d r) (omega arith))

  pub certified-digest : 211 ≤ length r → certificate_digest (certified d r) ≡ d
  unfolding certified
  certified-digest h =
      part-over_other 1 179 32 (1 ∷ []) (over 179 d r) (inl (lit≤ tt))
      ∙ ap (λ (n : ℕ). part 179 n (over 179 d r)) (sym long) ∙ part-over-same 179 d r (rw long h)

-- ---- a session closed

abbrev pub shut_at : ℕ → Bool
shut_at = ◌∪◌ (◌∪◌ (from 114 2) (from 82 32)) (from 1 1)

module _ (r : Rec) where
  abbrev used : Rec
  used = over 114 (enc2 (mac_counter r + 2)) r

  abbrev wiped : Rec
  wiped = over 82 (zeros_of 32) used

  length-wiped : length wiped ≡ length r
  length-wiped = length_over 82 (zeros_of 32) used ∙ length_over 114 (enc2 (mac_counter r + 2)) r

  pub shut-same : Same shut_at r (shut r)
  unfolding shut
  shut-same =
      same_then (◌∪◌ (from 114 2) (from 82 32)) (from 1 1) r wiped (over 1 (CLOSED ∷ []) wiped)
      (same_then (from 114 2) (from 82 32) r used wiped (same_over 114 (enc2 (mac_counter r + 2)) r) (same_over 82 (zeros_of 32) used))
      (same_over 1 (CLOSED ∷ []) wiped)

  pub shut-state : 116 ≤ length r → state (shut r) ≡ CLOSED
  unfolding shut
  shut-state h = byte-over 1 CLOSED wiped (rw length-wiped (omega arith))

  pub shut_key : 116 ≤ length r → session_key (shut r) ≡ zeros_of 32
  unfolding shut
  shut_key h =
      part-over_other 1 82 32 (CLOSED ∷ []) wiped (inl (lit≤ tt)) ∙ part-over-same 82 (zeros_of 32) used
      (rw (length_over 114 (enc2 (mac_counter r + 2)) r) (omega arith))

  pub shut-mac : 116 ≤ length r → mac_counter r + 2 < 65536 → mac_counter (shut r) ≡ mac_counter r + 2
  unfolding shut
  shut-mac h l =
      two-over_other 1 114 (CLOSED ∷ []) wiped (inl (lit≤ tt)) ∙ two-over_other 82 114 (zeros_of 32) used (inl (lit≤ tt))
      ∙ two-over 114 (mac_counter r + 2) r h l

-- ---- a key's new PIN

module _ (v : List ℕ) (short : length v ≤ longest_pin) (r : Rec) where
  pub pin_same : Same (from 49 17) r (new_pin v r)
  unfolding new_pin
  pin_same =
      subst (λ (n : ℕ). Same (from 49 n) r (over 49 (padded_text longest_pin v) r)) (length-padded longest_pin v short)
      (same_over 49 (padded_text longest_pin v) r)

  pub pin_is : 66 ≤ length r → part 49 pin_width (new_pin v r) ≡ padded_text longest_pin v
  unfolding new_pin
  pin_is h =
      ap (λ (n : ℕ). part 49 n (over 49 (padded_text longest_pin v) r)) (sym (length-padded longest_pin v short)) ∙ part-over-same 49 (padded_text longest_pin v) r
      (rw (length-padded longest_pin v short) h)
