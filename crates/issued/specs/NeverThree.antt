-- never-3: a store that has the session at the issuer's key and counter, and behind the order's handles what the order says, never finds
-- the MAC wrong. Any store: an unsound one says 19, a session that is not open 5, and a call may meet any other refusal before or behind 3.
use Rattle.std.specs.Prelude.{◌≡◌, cond, List, ℕ, eqb}
use Rattle.paper.specs.Form.{Rec, Fact}
use Rattle.paper.specs.Records.{records, SESSION, PUK, POLICY, KEY, at, id, client_id, session_key, mac_counter, user_defined, public_key}
use Rattle.paper.specs.Issuing.{Issuer, user_pin, CloseOrder, close_call, PukOrder, puk_call, PolicyOrder, policy_call, KeyOrder, key_call, PathOrder, path_call, PostOrder, post_call}
use Rattle.paper.specs.Answer.{answer}
use Rattle.issued.specs.Meant.{close_meant, puk_meant, policy_meant, key_meant, path_meant, post_meant}

-- The issuer's session in the store, and what a handle names in it.
abbrev pub session_in : Issuer → List ℕ → Rec
session_in i s = at SESSION i.session i.session (records s)

abbrev pub named : Issuer → ℕ → ℕ → List ℕ → Rec
named i k h s = at k h i.session (records s)

-- The session is at that key and counter.
pub record Stands (i : Issuer) (s : List ℕ) : Type 0 where
  pub key : session_key (session_in i s) ≡ i.key
  pub counter : mac_counter (session_in i s) ≡ i.counter

abbrev pub Never3 : List ℕ → List ℕ → Type 0
Never3 s c = (chip reply : List ℕ) → (answer s c chip reply).status ≡ 3 → ⊥

pub record NeverThree : Type 0 where
  pub closes : (i : Issuer) (o : CloseOrder) (s : List ℕ) → Fact (close_meant i o) → Stands i s
      → client_id (session_in i s) ≡ o.client → Never3 s (close_call i o)
  pub puks : (i : Issuer) (o : PukOrder) (s : List ℕ) → Fact (puk_meant i o) → Stands i s → Never3 s (puk_call i o)
  pub policies : (i : Issuer) (o : PolicyOrder) (s : List ℕ) → Fact (policy_meant i o) → Stands i s
      → ((o.puk ≡ 0 → ⊥) → id (named i PUK o.puk s) ≡ o.puk_id) → Never3 s (policy_call i o)
  pub keys : (i : Issuer) (o : KeyOrder) (s : List ℕ) → Fact (key_meant i o) → Stands i s
      → ((o.policy ≡ 0 → ⊥) → id (named i POLICY o.policy s) ≡ o.policy_id)
      → ((o.policy ≡ 0 → ⊥) → user_defined (named i POLICY o.policy s) ≡ cond (eqb o.pin_kind user_pin) 1 0)
      → Never3 s (key_call i o)
  pub paths : (i : Issuer) (o : PathOrder) (s : List ℕ) → Fact (path_meant i o) → Stands i s
      → id (named i KEY o.key s) ≡ o.key_id → public_key (named i KEY o.key s) ≡ o.public → Never3 s (path_call i o)
  pub posts : (i : Issuer) (o : PostOrder) (s : List ℕ) → Fact (post_meant i o) → Stands i s → Never3 s (post_call i o)
