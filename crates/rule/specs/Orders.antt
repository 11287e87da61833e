-- Two orders: from a sound store, two calls on two different open sessions give the same replies and leave the same records in
-- either order, if each names only its own session's objects or keys of closed sessions, no key is held or asked for by both, and
-- neither order meets status 2. Proved in proofs/Orders.antt.
use Rattle.std.specs.Prelude.{◌≡◌, true, List, [], ◌∷◌, ◌⊎◌, ℕ}
use Rattle.paper.specs.Bytes.{all_within}
use Rattle.paper.specs.Form.{Rec, Form, ◌equals◌, no, ◌and◌, ◌or◌, some, Fact}
use Rattle.paper.specs.Records.{records, kind, KEY, own, session, session_of}
use Rattle.paper.specs.Sound.{sound, is_object, closed}
use Rattle.paper.specs.Calls.{method, subject, is_session_call, policy_in, policy_form, key_in, key_form, path_in, path_form, post_in, post_form}
use Rattle.paper.specs.Answer.{is_open}
use Rattle.rule.specs.Runs.{Call, answered, after}
use Rattle.rule.specs.Stands.{Holds}
use Rattle.rule.specs.Bags.{SameRecords, Shuffled}

-- A call on a session: byte 0 one of 3 5 8 9 10 12 50 51, bytes 1-4 the session's handle, each byte at most 255. Malformed ones too.
pub record CallOn (a : ℕ) (q : Call) : Type 0 where
  pub are_bytes : all_within 0 255 q.bytes ≡ true
  pub on_session : Fact (is_session_call q.bytes)
  pub its_handle : subject q.bytes ≡ a

-- A decoded 50 or 51 asks for the key that it names.
abbrev pub asks : Call → ℕ → Form
asks q k =
    (method q.bytes equals 50 or method q.bytes equals 51) and post_form q.bytes q.chip
    and (post_in q.bytes q.chip).key equals k and no (k equals 0)

-- The PUK handle of 9, the policy handle of 10, the key handle of 12, 50 and 51. 0 names nothing, and so does a malformed call.
abbrev pub names : Call → ℕ → Form
names q h =
    (method q.bytes equals 9 and policy_form q.bytes q.chip and (policy_in q.bytes).puk equals h and no (h equals 0))
    or (method q.bytes equals 10 and key_form q.bytes q.chip and (key_in q.bytes q.chip).policy equals h and no (h equals 0))
    or (method q.bytes equals 12 and path_form q.bytes q.chip and (path_in q.bytes).key equals h and no (h equals 0))
    or asks q h

-- An object of the session; a key of a closed session.
abbrev pub object_of : ℕ → ℕ → List Rec → Form
object_of a h rs = some rs (λ x. is_object x and own x equals h and session x equals a)

abbrev pub closed_key : ℕ → List Rec → Form
closed_key h rs = some rs (λ x. kind x equals KEY and own x equals h and some rs (λ y. closed y and own y equals session x))

abbrev pub NamesOnlyThose : ℕ → Call → List ℕ → Type 0
NamesOnlyThose a q s = (h : ℕ) → Fact (names q h) → Fact (object_of a h (records s) or closed_key h (records s))

-- The session holds the key in the store, or its call asks for it.
abbrev pub Wants : ℕ → Call → ℕ → List ℕ → Type 0
Wants a q k s = Holds a k s ⊎ Fact (asks q k)

-- An order that does not meet status 2.
pub record NoTwo (s : List ℕ) (first second : Call) : Type 0 where
  pub at_first : (answered s first).status ≡ 2 → ⊥
  pub at_second : (answered (answered s first).store second).status ≡ 2 → ⊥

pub record Premises (s : List ℕ) (a b : ℕ) (p q : Call) : Type 0 where
  pub is_sound : sound s ≡ true
  pub different : a ≡ b → ⊥
  pub open_a : Fact (is_open a (records s))
  pub open_b : Fact (is_open b (records s))
  pub on_a : CallOn a p
  pub on_b : CallOn b q
  pub names_a : NamesOnlyThose a p s
  pub names_b : NamesOnlyThose b q s
  pub not_both : (k : ℕ) → Wants a p k s → Wants b q k s → ⊥
  pub room_ab : NoTwo s p q
  pub room_ba : NoTwo s q p

-- The call is answered alike on either store.
pub record SameReply (s t : List ℕ) (q : Call) : Type 0 where
  pub status : (answered s q).status ≡ (answered t q).status
  pub reply : (answered s q).reply ≡ (answered t q).reply

pub record SameOutcome (s : List ℕ) (p q : Call) : Type 0 where
  pub first : SameReply s (answered s q).store p
  pub second : SameReply (answered s p).store s q
  pub counted : SameRecords (records (after s (p ∷ q ∷ []))) (records (after s (q ∷ p ∷ [])))
  pub shuffled : Shuffled (records (after s (p ∷ q ∷ []))) (records (after s (q ∷ p ∷ [])))

abbrev pub Orders : Type 0
Orders = (s : List ℕ) (a b : ℕ) (p q : Call) → Premises s a b p q → SameOutcome s p q

-- The same from less, for lists of calls: neither session need be open, and of the names it is asked only that no call asks for a
-- key whose handle carries the other session's number.
pub record Apart (s : List ℕ) (a b : ℕ) (p q : Call) : Type 0 where
  pub is_sound : sound s ≡ true
  pub different : a ≡ b → ⊥
  pub on_a : CallOn a p
  pub on_b : CallOn b q
  pub far_a : (k : ℕ) → Fact (asks p k) → session_of k ≡ b → ⊥
  pub far_b : (k : ℕ) → Fact (asks q k) → session_of k ≡ a → ⊥
  pub not_both : (k : ℕ) → Wants a p k s → Wants b q k s → ⊥
  pub room_ab : NoTwo s p q
  pub room_ba : NoTwo s q p

abbrev pub OrdersApart : Type 0
OrdersApart = (s : List ℕ) (a b : ℕ) (p q : Call) → Apart s a b p q → SameOutcome s p q
