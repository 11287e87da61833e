-- Each record's fate, carried out, is what the paper makes of the record.
use mathlib.Core.Bool.{Bool, true, false, cond, ◌||◌}
use mathlib.Core.Path.{◌≡◌, refl, sym, ap, ◌∙◌}
use mathlib.Core.List.{List, [], ◌∷◌}
use mathlib.Core.Logic.{inl, inr}
use Prim.Native.Nat.{ℕ, ◌/◌, ◌≤◌}
use native.Mathlib.Omega.{arith}
use borrow.Author.Tests.{le-leb}
use lib.Dec.{lit≤, lit<}
use lib.ListN.{length}
use Rattle.paper.specs.Limits.{longest_pin}
use Rattle.paper.specs.Bytes.{padded_text}
use Rattle.paper.specs.Form.{Rec, Form, ◌equals◌, say, ◌and◌, some, test, Fact, only}
use Rattle.paper.specs.Records.{records, kind, POLICY, KEY, PENDING, SESSION, is, at, own, session, parent, grouping, zeros, bears}
use Rattle.paper.specs.Sound.{governs}
use Rattle.paper.specs.Pin.{clear, the_key, pin_hit}
use Rattle.paper.specs.Closing.{Keys as Set, goes, key_unlocked, puk_unlocked, pending_on, stale, effect, holds, has_key, shut, sealed, closing}
use Rattle.paper.specs.Users.{policy_of, given_pin, new_pin, changed}
use Rattle.paper.proofs.Forms.{both}
use Rattle.laws.proofs.Bytes.{byte-over_other, four-over_other}
use Rattle.laws.proofs.Choice.{either, same_test}
use Rattle.laws.proofs.Lists.{sought, sought_byte}
use Rattle.effect_plan.specs.Sets.{keys_of}
use Rattle.effect_plan.specs.declared.Fate.{Fate}
use Rattle.effect_plan.specs.declared.Fate.TheVariants.{Stays, Freed, KeyCleared, PukCleared, MadeStale, Shut, NewPin, NewPinCleared}
use Rattle.effect_plan.specs.Fate.{fate}
use Rattle.effect_deeds.specs.Deeds.{done}
use Rattle.effect_deeds.specs.declared.Pinned.{Pinned}
use Rattle.effect_deeds.specs.declared.Deed.{Deed}
use Rattle.effect_deeds.specs.declared.Deed.TheVariants.{Effect, Close, Change}
use Rattle.store_records.specs.View.{Becomes}
use Rattle.store_records.proofs.Views.{length-records}
use Rattle.effect_deeds.specs.Outcome.{close_fate, pinned_by, itself, given, given_as, repinned, pin_fate, deed_fate, outcome, unless_long}

module _ (v : List ℕ) (rs : List Rec) (r : Rec) where
  pub effect-done : (d u : Set) → done v (fate d u rs r) r ≡ effect d u rs r
  unfolding done fate effect
  effect-done d u = go (test (goes d rs r)) (test (key_unlocked u r)) (test (puk_unlocked u rs r)) (test (pending_on d r) || test (pending_on u r))
    where
      go : (a b c e : Bool) → done v (cond a Freed (cond b KeyCleared (cond c PukCleared (cond e MadeStale Stays)))) r ≡ cond a zeros (cond b (clear 2 r) (cond c (clear 3 r) (cond e (stale r) r)))
      go true b c e = refl
      go false true c e = refl
      go false false true e = refl
      go false false false true = refl
      go false false false false = refl

  pub close_done : (t : ℕ) → done v (close_fate t (fate (holds t 50 rs) (holds t 51 rs) rs r) rs r) r ≡ closing t rs r
  unfolding done close_fate closing sealed
  close_done t = go (test (bears t r)) (test (kind r equals PENDING)) (test (kind r equals SESSION)) (test (has_key t rs)) (fate (holds t 50 rs) (holds t 51 rs) rs r) (effect (holds t 50 rs) (holds t 51 rs) rs r) (effect-done (holds t 50 rs) (holds t 51 rs))
    where
      go : (a b c e : Bool) (n : Fate) (w : Rec) → done v n r ≡ w → done v (cond a (cond b Freed (cond c (cond e Shut Freed) Stays)) n) r ≡ cond a (cond b zeros (cond c (cond e (shut r) zeros) r)) w
      go true true c e n w q = refl
      go true false true true n w q = refl
      go true false true false n w q = refl
      go true false false e n w q = refl
      go false b c e n w q = q

-- ---- a new PIN leaves kind and handles as they are, and so does a count of 0

module _ (v : List ℕ) (r : Rec) where
  new_kind : kind (new_pin v r) ≡ kind r
  unfolding new_pin
  new_kind = byte-over_other 49 0 (padded_text longest_pin v) r (inr (lit< tt))

  new_own : own (new_pin v r) ≡ own r
  unfolding new_pin
  new_own = four-over_other 49 4 (padded_text longest_pin v) r (inr (lit≤ tt))

  new_session : session (new_pin v r) ≡ session r
  unfolding new_pin
  new_session = four-over_other 49 8 (padded_text longest_pin v) r (inr (lit≤ tt))

  new_key : (g : Pinned) → test (itself g (new_pin v r)) ≡ test (itself g r)
  new_key g = rw (new_kind, new_own, new_session)

clear-kind : (r : Rec) → kind (clear 2 r) ≡ kind r
unfolding clear
clear-kind r = byte-over_other 2 0 (0 ∷ []) r (inr (lit< tt))

module _ (g : Pinned) (v : List ℕ) (rs : List Rec) (r : Rec) where
  abbrev aimed : Rec → Form
  aimed q = kind q equals PENDING and some rs (given_as g (parent q))

  -- who gets the PIN is a key
  given-kind : Fact (given g r) → kind r ≡ KEY
  given-kind (inl w) = w.0
  given-kind (inr w) = w.1.0

  not_aimed : (q : Rec) → kind q ≡ KEY → test (aimed q) ≡ false
  not_aimed q e = rw e

  pin_given : test (given g r) ≡ true → done v (pin_fate g rs r) r ≡ repinned g v rs r
  unfolding done pin_fate repinned only
  pin_given e = rw (e, new_key v r g) (go (test (itself g r)) (new_kind v r ∙ given-kind ((both (given g r)).0 e)))
    where
      go : (k : Bool) → kind (new_pin v r) ≡ KEY → done v (cond k NewPinCleared NewPin) r ≡ only aimed stale (cond k (clear 2 (new_pin v r)) (new_pin v r))
      go true f = rw (not_aimed (clear 2 (new_pin v r)) (clear-kind (new_pin v r) ∙ f))
      go false f = rw (not_aimed (new_pin v r) f)

  pin_other : test (given g r) ≡ false → done v (pin_fate g rs r) r ≡ repinned g v rs r
  unfolding done pin_fate repinned only
  pin_other e = rw (e, no_key (test (itself g r)) _ e) (go (test (aimed r)))
    where
      no_key : (a b : Bool) → (a || b) ≡ false → a ≡ false
      no_key true b q = q
      no_key false b q = refl

      go : (b : Bool) → done v (cond b MadeStale Stays) r ≡ cond b (stale r) r
      go true = refl
      go false = refl

  pub pin_done : done v (pin_fate g rs r) r ≡ repinned g v rs r
  pin_done = either (test (given g r)) pin_given pin_other

-- the paper's change of a key's PIN, by numbers: a policy that was found has the handle and session that it was looked for by
module _ (x : Rec) (rs : List Rec) where
  abbrev pol : Rec
  pol = policy_of x rs

  found : kind pol ≡ POLICY → Fact (is POLICY (parent x) (session x) pol)
  unfolding at
  found e = (sought (is POLICY (parent x) (session x)) rs (sought_byte (is POLICY (parent x) (session x)) rs 0 (λ z. let q : ◌≡◌ {A = ℕ} POLICY 0 = sym e ∙ z in omega arith))).1

  same-given : (r : Rec) → test (given_pin x pol r) ≡ test (given (pinned_by x pol) r)
  same-given r = same_test (given_pin x pol r) (given (pinned_by x pol) r) to from
    where
      to_child : (kind pol ≡ POLICY) × ((kind r ≡ KEY) × ((parent r ≡ own pol) × (session r ≡ session pol))) → grouping pol ≡ 1
          → Fact (say (pinned_by x pol).shared and (kind r equals KEY and parent r equals parent x and session r equals session x))
      to_child (p, (k, (o, s))) g = let f = found p in ((both (kind pol equals POLICY and grouping pol equals 1)).1 (p, g), (k, (o ∙ f.1.0, s ∙ f.1.1)))

      from_child : (kind pol ≡ POLICY) × (grouping pol ≡ 1) → (kind r ≡ KEY) × ((parent r ≡ parent x) × (session r ≡ session x))
          → Fact (grouping pol equals 1 and governs pol r)
      from_child (p, g) (k, (o, s)) = let f = found p in (g, (p, (k, (o ∙ sym f.1.0, s ∙ sym f.1.1))))

      to : Fact (given_pin x pol r) → Fact (given (pinned_by x pol) r)
      to (inl w) = inl w
      to (inr w) = inr (to_child w.1 w.0)

      from : Fact (given (pinned_by x pol) r) → Fact (given_pin x pol r)
      from (inl w) = inl w
      from (inr w) = inr (from_child ((both (kind pol equals POLICY and grouping pol equals 1)).0 w.0) w.1)

  pub by_numbers : (v : List ℕ) (r : Rec) → changed x pol v rs r ≡ repinned (pinned_by x pol) v rs r
  unfolding changed repinned pin_hit only
  by_numbers v r = ap change (λ i y. same-given y i)
    where
      keyed : (Rec → Bool) → Rec
      keyed p = only (the_key x) (clear 2) (cond (p r) (new_pin v r) r)

      change : (Rec → Bool) → Rec
      change p = only (λ q. kind q equals PENDING and some rs (λ y. say (p y) and own y equals parent q)) stale (keyed p)

-- whatever is done
pub deed_done : (v : List ℕ) (d : Deed) (rs : List Rec) (r : Rec) → done v (deed_fate d rs r) r ≡ outcome v d rs r
deed_done v (Effect ds us) rs r = effect-done v rs r (keys_of ds rs) (keys_of us rs)
deed_done v (Close t) rs r = close_done v rs r t
deed_done v (Change g) rs r = pin_done g v rs r

-- a store that is not too long becomes what is said
pub not_long : (s : List ℕ) (ts : List Rec) {t : List ℕ} → length s / 256 ≤ 256 → Becomes (unless_long (records s) ts) s t → Becomes ts s t
unfolding unless_long
not_long s ts h b = rw (length-records s, le-leb (length s / 256) 256 h) at b
