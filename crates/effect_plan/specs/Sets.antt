-- Sets of keys by what makes them up, and the children whose going takes a record along.
use Rattle.std.specs.Prelude.{Bool, true, false, cond, ◌||◌, ◌≡◌, ◌⊎◌, List, [], ℕ, ◌<◌, length, get_or}
use Rattle.paper.specs.Bytes.{byte}
use Rattle.paper.specs.Form.{Rec, Form, ◌equals◌, no, ◌and◌, ◌or◌, some, test}
use Rattle.paper.specs.Records.{kind, SESSION, POLICY, KEY, own, session, parent, operation}
use Rattle.paper.specs.Closing.{Keys as Set, no_keys, one, held, holds, is_pending, key_goes, policy_goes, puk_goes, session_goes, key_unlocked, pending_on}
use Rattle.effect_plan.specs.Fate.{fate, plan_of}
use Rattle.effect_plan.specs.declared.Fate.{Fate}
use Rattle.effect_plan.specs.declared.Keys.{Keys}
use Rattle.effect_plan.specs.declared.Keys.TheVariants.{Nobody, One, Two, Three, Held}
use Rattle.effect_plan.specs.declared.Homes.{Homes}
use Rattle.effect_plan.specs.declared.Homes.TheVariants.{Nowhere, Few, Everywhere}
use Rattle.effect_plan.specs.declared.Under.{Under}
use Rattle.effect_plan.specs.declared.Under.TheVariants.{Policy, Session}
use Rattle.effect_plan.specs.declared.Lot.{Lot}
use Rattle.effect_plan.specs.declared.Lot.TheVariants.{Gone, Kept, Unlocked}

-- No key, one, two or three keys, or those that a session holds with an operation.
abbrev pub keys_of : Keys → List Rec → Set
keys_of Nobody rs = no_keys
keys_of (One k) rs = one k
keys_of (Two a b) rs = λ k. one a k || one b k
keys_of (Three a b c) rs = λ k. one a k || one b k || one c k
keys_of (Held s op) rs = holds s op rs

-- A session's unstale pending of an operation on a key.
abbrev pub holding : ℕ → ℕ → ℕ → Rec → Form
holding s op k q = held s k q and operation q equals op

-- The same on whatever key.
abbrev pub pending_of : ℕ → ℕ → Rec → Form
pending_of s op q = is_pending s q and operation q equals op

-- A set became this one: it has the keys of p besides, or it is that of all keys held.
abbrev pub Joined : ℕ → ℕ → Set → Keys → Keys → Type 0
Joined s op p ks js = (js ≡ Held s op) ⊎ ((rs : List Rec) (k : ℕ) → keys_of js rs k ≡ (keys_of ks rs k || p k))

-- A key of the set or a pending on such a key has the mark 1, another record 0.
abbrev pub named : Set → Rec → Form
named d r = key_unlocked d r or pending_on d r

unfoldable pub mark : Set → Rec → ℕ
mark d r = cond (test (named d r)) 1 0

pub record Marked (d : Set) (rs : List Rec) (m : List ℕ) : Type 0 where
  pub at : (j : ℕ) → j < length rs → byte j m ≡ mark d (get_or rs j [])

-- Sessions as a set of handles.
abbrev pub homes_of : Homes → Set
homes_of Nowhere = no_keys
homes_of (Few a b c) = λ s. one a s || one b s || one c s
homes_of Everywhere = λ s. true

-- A set of sessions has become another: it has session s besides, and perhaps more.
pub record Widened (s : ℕ) (h g : Set) : Type 0 where
  pub kept : (k : ℕ) → h k ≡ true → g k ≡ true
  pub added : g s ≡ true

-- The same where b says that session s is to be had.
pub record Extended (b : Bool) (s : ℕ) (h g : Set) : Type 0 where
  pub kept : (k : ℕ) → h k ≡ true → g k ≡ true
  pub added : b ≡ true → g s ≡ true

-- Every key of the set bears one of these sessions.
pub record AtHome (d : Set) (rs : List Rec) (h : Set) : Type 0 where
  pub at : (j : ℕ) → j < length rs → test (key_unlocked d (get_or rs j [])) ≡ true → h (session (get_or rs j [])) ≡ true

-- The session that the keys under a record bear.
abbrev pub home_of : Rec → ℕ
home_of r = cond (test (kind r equals SESSION)) (own r) (session r)

-- A policy's keys, and a session's.
abbrev pub under : Under → Rec → Form
under (Policy p s) x = kind x equals KEY and parent x equals p and session x equals s
under (Session s) x = kind x equals KEY and session x equals s

-- A statement, or that it fails.
abbrev pub turned : Bool → Form → Form
turned true φ = φ
turned false φ = no φ

module _ (d : Set) (rs : List Rec) where
  -- Such a key that goes, or stays.
  abbrev pub key_so : Under → Bool → Rec → Form
  key_so u gone x = under u x and turned gone (key_goes d rs x)

  -- A policy that goes, that stays, or of which a key is unlocked.
  abbrev pub lot_of : ℕ → Lot → Rec → Form
  lot_of s Gone p = policy_goes d rs p
  lot_of s Kept p = no (policy_goes d rs p)
  lot_of s Unlocked p = some rs (key_so (Policy (own p) s) true)

  -- Such a policy under that PUK.
  abbrev pub policy_so : ℕ → ℕ → Lot → Rec → Form
  policy_so o s l p = (kind p equals POLICY and parent p equals o and session p equals s) and lot_of s l p

  -- A record that is no key, and goes.
  abbrev pub parent_goes : Rec → Form
  parent_goes r = policy_goes d rs r or puk_goes d rs r or session_goes d rs r

-- What is said of whatever set has these marks and these homes: a test, the homes themselves, a fate by two sets, and a plan.
abbrev pub Told : List Rec → List ℕ → Bool → (Set → Form) → Type 0
Told rs m b φ = (d : Set) → Marked d rs m → b ≡ test (φ d)

abbrev pub ToldAt : List Rec → List ℕ → Homes → Bool → (Set → Form) → Type 0
ToldAt rs m hs b φ = (d : Set) → Marked d rs m → AtHome d rs (homes_of hs) → b ≡ test (φ d)

abbrev pub AllHome : List Rec → List ℕ → Homes → Type 0
AllHome rs m hs = (d : Set) → Marked d rs m → AtHome d rs (homes_of hs)

abbrev pub Settled : List Rec → List ℕ → List ℕ → Homes → Homes → Fate → (Set → Set → Fate) → Type 0
Settled rs md mu hd hu t f = (d u : Set) → Marked d rs md → Marked u rs mu → AtHome d rs (homes_of hd) → AtHome u rs (homes_of hu) → t ≡ f d u

abbrev pub Decided : List Rec → List ℕ → List ℕ → List Fate → Type 0
Decided rs md mu p = (d u : Set) → Marked d rs md → Marked u rs mu → p ≡ plan_of (fate d u rs) rs
