-- Closing, and who comes second: what the removal and the unlocking of keys make of every record, and what a close does.
use Rattle.std.specs.Prelude.{Bool, false, cond, List, [], ◌∷◌, map, ℕ, zero, suc, ◌+◌, length, eqb}
use Rattle.paper.specs.Limits.{key_bytes}
use Rattle.paper.specs.Bytes.{enc2, zeros_of, over}
use Rattle.paper.specs.Form.{Rec, Form, ◌equals◌, ◌=<◌, say, no, ◌and◌, ◌or◌, each, some, test, only, seek}
use Rattle.paper.specs.Records.{kind, SESSION, PUK, POLICY, KEY, PENDING, CLOSED, own, session, parent, is, bears, state, mac_counter, operation, is_stale, zeros}
use Rattle.paper.specs.Pin.{clear}
use Rattle.paper.specs.Mac.{uses}

-- A set of keys, by handle.
abbrev pub Keys : Type 0
Keys = ℕ → Bool

abbrev pub no_keys : Keys
no_keys k = false

abbrev pub one : ℕ → Keys
one h k = eqb k h

-- There were such records, and all of them go.
abbrev pub lost : List Rec → (Rec → Form) → (Rec → Form) → Form
lost rs such gone = some rs (λ x. such x and gone x) and no (some rs (λ x. such x and no (gone x)))

-- Removing a key frees a policy left without child, its PUK left without child, and a closed session left without key.
module _ (d : Keys) (rs : List Rec) where
  abbrev pub key_goes : Rec → Form
  key_goes r = kind r equals KEY and say (d (own r))

  abbrev pub policy_goes : Rec → Form
  policy_goes r = kind r equals POLICY and lost rs (λ x. kind x equals KEY and parent x equals own r and session x equals session r) key_goes

  abbrev pub puk_goes : Rec → Form
  puk_goes r = kind r equals PUK and lost rs (λ x. kind x equals POLICY and parent x equals own r and session x equals session r) policy_goes

  abbrev pub session_goes : Rec → Form
  session_goes r = kind r equals SESSION and state r equals CLOSED and lost rs (λ x. kind x equals KEY and session x equals own r) key_goes

  abbrev pub goes : Rec → Form
  goes r = key_goes r or policy_goes r or puk_goes r or session_goes r

-- Unlocking clears the key's and its PUK's counts.
abbrev pub key_unlocked : Keys → Rec → Form
key_unlocked u r = kind r equals KEY and say (u (own r))

abbrev pub puk_unlocked : Keys → List Rec → Rec → Form
puk_unlocked u rs r =
    kind r equals PUK
    and some rs (λ p. kind p equals POLICY and parent p equals own r and session p equals session r
    and some rs (λ k. key_unlocked u k and parent k equals own p and session k equals session r))

-- A key removed, unlocked or given a PIN marks every other pending on it stale. The mark is never undone.
unfoldable pub stale : Rec → Rec
stale r = over 2 (1 ∷ []) (over 12 (zeros_of 4) r)

abbrev pub pending_on : Keys → Rec → Form
pending_on ks r = kind r equals PENDING and say (ks (parent r))

-- The keys of d are removed and those of u unlocked.
unfoldable pub effect : Keys → Keys → List Rec → Rec → Rec
effect d u rs r =
    cond (test (goes d rs r)) zeros
    (cond (test (key_unlocked u r)) (clear 2 r)
    (cond (test (puk_unlocked u rs r)) (clear 3 r)
    (cond (test (pending_on d r or pending_on u r)) (stale r) r)))

-- A session holds a key while it has an unstale pending on it.
abbrev pub held : ℕ → ℕ → Rec → Form
held s k q = kind q equals PENDING and session q equals s and is_stale q equals 0 and parent q equals k

unfoldable pub holds : ℕ → ℕ → List Rec → Keys
holds s op rs k = test (some rs (λ q. held s k q and operation q equals op))

-- The session's own records at its close: pendings are freed; the SessionKey is zeroed and the session closed, or freed if it has no key.
unfoldable pub shut : Rec → Rec
shut r = over 1 (CLOSED ∷ []) (over 82 (zeros_of key_bytes) (over 114 (enc2 (mac_counter r + uses 3)) r))

abbrev pub has_key : ℕ → List Rec → Form
has_key s rs = some rs (λ x. kind x equals KEY and session x equals s)

unfoldable pub sealed : ℕ → List Rec → Rec → Rec
sealed s rs r =
    cond (test (kind r equals PENDING)) zeros
    (cond (test (kind r equals SESSION)) (cond (test (has_key s rs)) (shut r) zeros) r)

-- A close in one shot: what becomes of each record.
unfoldable pub closing : ℕ → List Rec → Rec → Rec
closing s rs r = cond (test (bears s r)) (sealed s rs r) (effect (holds s 50 rs) (holds s 51 rs) rs r)

-- The same, literally: pendings are carried out by rising handle and freed, then the session is sealed.
abbrev pub is_pending : ℕ → Rec → Form
is_pending s q = kind q equals PENDING and session q equals s and is_stale q equals 0

abbrev pub lowest : ℕ → List Rec → Rec
lowest s rs = seek (λ q. is_pending s q and each rs (λ p. no (is_pending s p) or own q =< own p)) rs

abbrev pub freed : Rec → List Rec → List Rec
freed q rs = map (only (is PENDING (own q) (session q)) (λ r. zeros)) rs

abbrev pub done : ℕ → ℕ → List Rec → List Rec
done op k rs = map (cond (eqb op 50) (effect (one k) no_keys rs) (effect no_keys (one k) rs)) rs

abbrev pub carried : Rec → List Rec → List Rec
carried q rs = done (operation q) (parent q) (freed q rs)

unfoldable pub carry_out : ℕ → ℕ → List Rec → List Rec
carry_out zero s rs = rs
carry_out (suc n) s rs = cond (test (some rs (is_pending s))) (carry_out n s (carried (lowest s rs) rs)) rs

abbrev pub seal_all : ℕ → List Rec → List Rec
seal_all s rs = map (only (bears s) (sealed s rs)) rs

-- There are no more pendings than records.
unfoldable pub closed_literally : ℕ → List Rec → List Rec
closed_literally s rs = seal_all s (carry_out (length rs) s rs)
