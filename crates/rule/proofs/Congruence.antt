-- Congruence: stores with the same records come to the same act in every method, refuse alike, and are left with the same records.
use mathlib.Core.Path.{◌≡◌, refl, sym, ap, subst, ◌∙◌}
use mathlib.Core.Bool.{Bool, true, false, cond}
use mathlib.Core.List.Memᴰ
use mathlib.Core.List.{List, [], ◌∷◌, map}
use mathlib.Core.Option.{Option, none, some as just}
use Prim.Native.Nat.{ℕ, ◌≤◌}
use Prim.Native.String.{String}
use native.Mathlib.Omega.{arith}
use lib.ListN.{length}
use lib.Dec.{eqb, ltb, lit≤}
use Rattle.hmac.specs.Same.{same}
use Rattle.paper.specs.Limits.{reply_bytes, most_sessions}
use Rattle.paper.specs.Bytes.{all_within}
use Rattle.paper.specs.Form.{Rec, Form, ◌equals◌, ◌=<◌, say, no, ◌and◌, some, test, Fact, only, Fault, ◌gives◌, settle}
use Rattle.paper.specs.Records.{records, joined, kind, SESSION, PUK, POLICY, KEY, PENDING, COUNTER, OPEN, state, at, block, bears, session_of, parent, session, delete_protection, id, value, client_id, next_session, handle, zeros, is_free, room, insert}
use Rattle.paper.specs.Sound.{sound, has_id, governs}
use Rattle.paper.specs.Calls.{method, subject, is_session_call, Create, create_in, policy_in, key_in, path_in, post_in, typed, typed_new}
use Rattle.paper.specs.Pin.{Verdict, locked, wrong, right, pin_check, puk_check, the_key, the_puk, pin_missed, pin_hit, puk_missed, puk_hit}
use Rattle.paper.specs.Closing.{held, one, no_keys as nobody}
use Rattle.paper.specs.Objects.{taken, pin_of, make_puk, make_policy, make_key, set_path, make_policy_by, make_puk_by, make_key_by, set_path_by}
use Rattle.paper.specs.Posting.{target, home, Look, look, post_as, post_by}
use Rattle.paper.specs.Sessions.{counter, client_taken, create_faults, session_record, counted, create_session, close_session, close_by}
use Rattle.paper.specs.Users.{policy_of, puk_of, tried, delete_faults, delete_key, unlock_faults, unlock_key, change_faults, change_pin, use_faults, use_key}
use Rattle.paper.specs.Act.{Out, plain, no_attestation, Act, refuse, inside, close as closes, wiped, placed, fits_in, perform}
use Rattle.paper.specs.Answer.{session_act, session_step, user_step, step, is_open, early_faults, Judged, judged, told, answer, written}
use Rattle.paper.proofs.Forms.{Agree, both, cases, Clear, contrary}
use Rattle.laws.proofs.Choice.{fails, holds, only_out}
use Rattle.laws.proofs.Facts.{Facts, facts_of}
use Rattle.laws.proofs.Inserting.{free_is, free_zeros}
use Rattle.laws.proofs.Lists.{at_block}
use Rattle.laws.proofs.Stores.{records-joined}
use Rattle.rule.specs.Congruence.{SameContent, AnsweredAlike, Congruence}
use Rattle.rule.proofs.RecordEdits.{long}
use Rattle.rule.proofs.Rule.{step_kept}
use Rattle.rule.proofs.CallersSession.{some_number}
use Rattle.rule.proofs.Refusals.{session-step}
use Rattle.rule.proofs.SameButOrder.{Even, even_of, of_even, some_same, map_even, placed_even, keep_even, at_even, counter_even}
use Rattle.rule.proofs.SameButOrderEdits.{no_kind, no_session, pin_hit_zeros, removed_even, unfit_even, closed_even, changed_even}

-- ---- lists of refusals with equal tests, and of room, which need not be the same

pub data Like : List Fault → List Fault → Type 0 where
  end : Like [] []
  like : {φ ψ : Form} {n : ℕ} {fs gs : List Fault} → test φ ≡ test ψ → Like fs gs → Like ((φ gives n) ∷ fs) ((ψ gives n) ∷ gs)
  full : {φ ψ : Form} {fs gs : List Fault} → Like fs gs → Like ((φ gives 2) ∷ fs) ((ψ gives 2) ∷ gs)

pub like_self : (fs : List Fault) → Like fs fs
like_self [] = end
like_self ((φ gives n) ∷ fs) = like refl (like_self fs)

module _ {A : Type 0} (R : A → A → Type 0) (a a' : ℕ → A) (b b' : A)
    (each : (n : ℕ) → R (a n) (a' n)) (left : (y : A) → R (a 2) y) (right : (x : A) → R x (a' 2)) where
  pub settle_like : {fs gs : List Fault} → Like fs gs → (Clear fs → Clear gs → R b b') → R (settle fs a b) (settle gs a' b')
  settle_like end done = done tt tt
  settle_like (like {φ} {ψ} {n} {fs} {gs} e w) done =
      go (test φ) (test ψ) (both φ) (both ψ) e (λ p q. settle_like w (λ c d. done (p, c) (q, d)))
    where
      go : (x y : Bool) → Agree x (Fact φ) → Agree y (Fact ψ) → x ≡ y → ((Fact φ → ⊥) → (Fact ψ → ⊥) → R (settle fs a b) (settle gs a' b'))
          → R (cond x (a n) (settle fs a b)) (cond y (a' n) (settle gs a' b'))
      go true true i j q k = each n
      go true false i j q k = contrary q
      go false true i j q k = contrary (sym q)
      go false false i j q k = k (λ p. contrary (sym (i.1 p))) (λ p. contrary (sym (j.1 p)))
  settle_like (full {φ} {ψ} {fs} {gs} w) done =
      go (test φ) (test ψ) (both φ) (both ψ) (λ p q. settle_like w (λ c d. done (p, c) (q, d)))
    where
      go : (x y : Bool) → Agree x (Fact φ) → Agree y (Fact ψ) → ((Fact φ → ⊥) → (Fact ψ → ⊥) → R (settle fs a b) (settle gs a' b'))
          → R (cond x (a 2) (settle fs a b)) (cond y (a' 2) (settle gs a' b'))
      go true y i j k = left _
      go false true i j k = right _
      go false false i j k = k (λ p. contrary (sym (i.1 p))) (λ p. contrary (sym (j.1 p)))

-- ---- outcomes

pub record Matched (o o' : Out) : Type 0 where
  pub status : o.status ≡ o'.status
  pub handle : o.handle ≡ o'.handle
  pub attestation : o.attestation ≡ o'.attestation
  pub store : Even o.store o'.store

abbrev pub Congr : Out → Out → Type 0
Congr o o' = (o.status ≡ 2 → ⊥) → (o'.status ≡ 2 → ⊥) → Matched o o'

plain_congr : (n : ℕ) {xs ys : List Rec} → Even xs ys → Congr (plain n xs) (plain n ys)
plain_congr n E p q = record { status = refl; handle = refl; attestation = refl; store = E }

cond_congr : (b : Bool) {x x' y y' : Out} → Congr x x' → Congr y y' → Congr (cond b x y) (cond b x' y')
cond_congr true f g = f
cond_congr false f g = g

tried_congr : (v : Verdict) {xs ys ms ns ds es : List Rec} → Even xs ys → Even ms ns → Even ds es → Congr (tried v xs ms ds) (tried v ys ns es)
tried_congr locked E M D = plain_congr 1 E
tried_congr wrong E M D = plain_congr 1 M
tried_congr right E M D = plain_congr 0 D

-- refusals that leave the store
module _ (xs ys : List Rec) (E : Even xs ys) (fs gs : List Fault) (o o' : Out) where
  pub settle_congr : Like fs gs → (Clear fs → Clear gs → Congr o o') → Congr (settle fs (λ n. plain n xs) o) (settle gs (λ n. plain n ys) o')
  settle_congr w done = settle_like Congr (λ n. plain n xs) (λ n. plain n ys) o o' (λ n. plain_congr n E) (λ y p q. absurd (p refl)) (λ x p q. absurd (q refl)) w done

pub fits-map : (n : Option Rec) (f : Rec → Rec) (xs : List Rec) → f zeros ≡ zeros → fits_in n xs ≡ true → fits_in n (map f xs) ≡ true
fits-map none f xs z e = refl
fits-map (just n) f xs z e =
    let w = (both (room xs)).0 e in
    (both (room (map f xs))).1 (f w.0, Memᴰ.map f w.1, ap (λ (x : Rec). is_free (f x)) (free_is w.0 w.2) ∙ ap is_free z ∙ free_zeros)

pub counted_zeros : counted zeros ≡ zeros
unfolding counted
counted_zeros = only_out (λ r. kind r equals COUNTER) _ zeros (no_kind COUNTER (omega arith))

module _ (c chip : List ℕ) (rs rs' : List Rec) (E : Even rs rs') (F : Facts rs) (F' : Facts rs') where
  abbrev t : ℕ
  t = subject c

  abbrev blk : List Rec
  blk = block t rs

  abbrev blk' : List Rec
  blk' = block t rs'

  -- ---- what a session call sees

  blocks : Even blk blk'
  unfolding block
  blocks = keep_even rs rs' E (bears t)

  object : (k o : ℕ) → SESSION ≤ k → k ≤ PENDING → at k o t blk ≡ at k o t blk'
  object k o a b = at_block k o t rs ∙ at_even rs rs' E F F' k o t a b ∙ sym (at_block k o t rs')

  ses : at SESSION t t blk ≡ at SESSION t t blk'
  ses = object SESSION t (lit≤ tt) (lit≤ tt)

  names : (v : List ℕ) → test (taken v blk) ≡ test (taken v blk')
  names v = some_same blk blk' blocks (λ r. has_id r and say (same (id r) v)) (λ w. let k = w.0.0 in no_kind (kind zeros) (omega arith) refl)

  looks : (k : ℕ) → look k rs ≡ look k rs'
  unfolding look
  looks k = rw (at_even rs rs' E F F' KEY k (session_of k) (lit≤ tt) (lit≤ tt), at_even rs rs' E F F' SESSION (session_of k) (session_of k) (lit≤ tt) (lit≤ tt))

  -- ---- so it comes to the same

  close_same : close_session c chip blk ≡ close_session c chip blk'
  unfolding close_by
  close_same = rw (ses, unfit_even blk blk' blocks)

  puk_same : make_puk c chip blk ≡ make_puk c chip blk'
  unfolding make_puk_by
  puk_same = rw (ses, names _)

  policy_same : make_policy c chip blk ≡ make_policy c chip blk'
  unfolding make_policy_by
  policy_same = rw (ses, object PUK (policy_in c).puk (lit≤ tt) (lit≤ tt), names (policy_in c).id)

  key_same : make_key c chip blk ≡ make_key c chip blk'
  unfolding make_key_by
  key_same = rw (ses, object POLICY (key_in c chip).policy (lit≤ tt) (lit≤ tt), names (key_in c chip).id, others)
    where
      pol : Rec
      pol = at POLICY (key_in c chip).policy t blk'

      unlikes : Rec → Form
      unlikes x = governs pol x and no (say (same (value x) (pin_of (key_in c chip) pol)))

      others : test (some blk unlikes) ≡ test (some blk' unlikes)
      others = some_same blk blk' blocks unlikes (λ w. no_kind KEY (omega arith) w.0.1.0)

  path_same : set_path c chip blk ≡ set_path c chip blk'
  unfolding set_path_by
  path_same = rw (ses, object KEY (path_in c).key (lit≤ tt) (lit≤ tt))

  post_same : (op : ℕ) (name : String) (l : Look) → post_as op name c chip blk l ≡ post_as op name c chip blk' l
  unfolding post_by
  post_same op name l = rw (ses, some_same blk blk' blocks (held t (post_in c chip).key) (λ w. no_kind PENDING (omega arith) w.0))

  act_same : session_act c chip blk (look (post_in c chip).key rs) ≡ session_act c chip blk' (look (post_in c chip).key rs')
  unfolding session_act
  act_same =
      rw (
        looks (post_in c chip).key,
        close_same,
        puk_same,
        policy_same,
        key_same,
        path_same,
        post_same 50 "postDeleteKey" (look (post_in c chip).key rs'),
        post_same 51 "postUnlockKey" (look (post_in c chip).key rs'),
      )

  -- ---- and does the same
  module _ (l : 1 ≤ t) where
    own_even : (g : Rec → Rec) → Even (map (only (bears t) g) rs) (map (only (bears t) g) rs')
    own_even g = map_even rs rs' E (only (bears t) g) (only (bears t) g) (λ x. refl) (only_out (bears t) g zeros (no_session t l))

    perform_congr : (a : Act) → Congr (perform t a rs) (perform t a rs')
    unfolding perform
    perform_congr (refuse n) p q = plain_congr n (own_even (λ r. zeros)) p q
    perform_congr (closes w) p q = record { status = refl; handle = refl; attestation = refl; store = closed_even rs rs' E t l }
    perform_congr (inside h w g new) p q = go (fits_in new rs) refl (fits_in new rs') refl p q
      where
        yes : List Rec → Out
        yes xs = record { status = 0; handle = h; attestation = w; store = placed new (map (only (bears t) g) xs) }

        fits : (xs : List Rec) → fits_in new xs ≡ true → fits_in new (map (only (bears t) g) xs) ≡ true
        fits xs e = fits-map new (only (bears t) g) xs (only_out (bears t) g zeros (no_session t l)) e

        go : (b : Bool) → fits_in new rs ≡ b → (b' : Bool) → fits_in new rs' ≡ b' → Congr (cond b (yes rs) (wiped t 2 rs)) (cond b' (yes rs') (wiped t 2 rs'))
        go true e true e' p q =
            record {
              status = refl;
              handle = refl;
              attestation = refl;
              store = placed_even (map (only (bears t) g) rs) (map (only (bears t) g) rs') (own_even g) new (fits rs e) (fits rs' e');
            }
        go true e false e' p q = absurd (q refl)
        go false e b' e' p q = absurd (p refl)

    session_congr : Congr (session_step c chip rs) (session_step c chip rs')
    unfolding session_step
    session_congr = rw act_same (perform_congr (session_act c chip blk' (look (post_in c chip).key rs')))

  -- ---- method 2

  create_congr : Congr (create_session c chip rs) (create_session c chip rs')
  unfolding create_session
  create_congr = settle_congr rs rs' E (create_faults c chip q rs) (create_faults c chip q rs') (made (counter rs) rs) (made (counter rs') rs')
      (like refl (like refl (like refl (like clients (like (ap (λ (x : Rec). test (no (next_session x =< most_sessions))) counters) (full end)))))) (λ k k'.
      subst (λ (x : Rec). Congr (made (counter rs) rs) (made x rs')) counters (λ u v.
      record {
        status = refl;
        handle = refl;
        attestation = refl;
        store = placed_even (map counted rs) (map counted rs') onward (just (new (counter rs))) (fits rs (search)) (fits rs' (search));
      }))
    where
      q : Create
      q = create_in c chip

      counters : counter rs ≡ counter rs'
      counters = counter_even rs rs' E F F'

      new : Rec → Rec
      new x = session_record (handle (next_session x) 0) q

      made : Rec → List Rec → Out
      made x xs = record { status = 0; handle = handle (next_session x) 0; attestation = no_attestation; store = insert (new x) (map counted xs) }

      clients : test (client_taken q.client rs) ≡ test (client_taken q.client rs')
      clients = some_same rs rs' E (λ r. kind r equals SESSION and say (same (client_id r) q.client)) (λ w. no_kind SESSION (omega arith) w.0)

      onward : Even (map counted rs) (map counted rs')
      onward = map_even rs rs' E counted counted (λ x. refl) counted_zeros

      fits : (xs : List Rec) → ((Fact (room xs) → ⊥) → ⊥) → fits_in (just (new (counter rs))) (map counted xs) ≡ true
      fits xs n = fits-map (just (new (counter rs))) counted xs counted_zeros ((both (room xs)).1 (holds (room xs) n))

  -- ---- user calls

  abbrev x : Rec
  x = target t rs

  abbrev pol : Rec
  pol = policy_of x rs

  abbrev puk : Rec
  puk = puk_of pol rs

  targets : x ≡ target t rs'
  targets = at_even rs rs' E F F' KEY t (session_of t) (lit≤ tt) (lit≤ tt)

  homes : home t rs ≡ home t rs'
  homes = at_even rs rs' E F F' SESSION (session_of t) (session_of t) (lit≤ tt) (lit≤ tt)

  policies : pol ≡ policy_of x rs'
  policies = at_even rs rs' E F F' POLICY (parent x) (session x) (lit≤ tt) (lit≤ tt)

  puks : puk ≡ puk_of pol rs'
  puks = at_even rs rs' E F F' PUK (parent pol) (session pol) (lit≤ tt) (lit≤ tt)

  each_even : (f : Rec → Rec) → f zeros ≡ zeros → Even (map f rs) (map f rs')
  each_even f z = map_even rs rs' E f f (λ r. refl) z

  pin_missed_lem : Even (map (pin_missed x) rs) (map (pin_missed x) rs')
  unfolding pin_missed
  pin_missed_lem = each_even (pin_missed x) (only_out (the_key x) _ zeros (λ w. no_kind KEY (omega arith) w.0))

  puk_missed_lem : Even (map (puk_missed puk) rs) (map (puk_missed puk) rs')
  unfolding puk_missed
  puk_missed_lem = each_even (puk_missed puk) (only_out _ _ zeros (λ w. no_kind PUK (omega arith) w.0.0))

  puk_hit_lem : Even (map (puk_hit puk) rs) (map (puk_hit puk) rs')
  unfolding puk_hit
  puk_hit_lem = each_even (puk_hit puk) (only_out (the_puk puk) _ zeros (λ w. no_kind PUK (omega arith) w.0))

  delete_congr : Congr (delete_key c chip rs) (delete_key c chip rs')
  unfolding delete_key
  delete_congr = rw (← targets, ← homes, ← policies, ← puks)
      (settle_congr rs rs' E (delete_faults c chip x rs) (delete_faults c chip x rs) _ _ (like_self (delete_faults c chip x rs)) (λ k k'.
      cond_congr (eqb (delete_protection x) 0) (plain_congr 0 (removed_even rs rs' E (one t) nobody))
      (cond_congr (eqb (delete_protection x) 1) (tried_congr (pin_check pol x (typed c)) E pin_missed_lem (removed_even rs rs' E (one t) nobody))
      (tried_congr (puk_check puk (typed c)) E puk_missed_lem (removed_even (map (puk_hit puk) rs) (map (puk_hit puk) rs') puk_hit_lem (one t) nobody)))))

  unlock_congr : Congr (unlock_key c chip rs) (unlock_key c chip rs')
  unfolding unlock_key
  unlock_congr = rw (← targets, ← homes, ← policies, ← puks)
      (settle_congr rs rs' E (unlock_faults c chip x pol puk rs) (unlock_faults c chip x pol puk rs) _ _ (like_self (unlock_faults c chip x pol puk rs)) (λ k k'.
      tried_congr (puk_check puk (typed c)) E puk_missed_lem (removed_even rs rs' E nobody (one t))))

  change_congr : Congr (change_pin c chip rs) (change_pin c chip rs')
  unfolding change_pin
  change_congr = rw (← targets, ← homes, ← policies)
      (settle_congr rs rs' E (change_faults c chip x pol rs) (change_faults c chip x pol rs) _ _ (like_self (change_faults c chip x pol rs)) (λ k k'.
      tried_congr (pin_check pol x (typed c)) E pin_missed_lem (changed_even rs rs' E x pol (typed_new c))))

  use_congr : Congr (use_key c chip rs) (use_key c chip rs')
  unfolding use_key
  use_congr = rw (← targets, ← homes, ← policies)
      (settle_congr rs rs' E (use_faults c chip x pol rs) (use_faults c chip x pol rs) _ _ (like_self (use_faults c chip x pol rs)) (λ k k'.
      cond_congr (eqb (parent x) 0) (plain_congr 0 E) (tried_congr (pin_check pol x (typed c)) E pin_missed_lem (each_even (pin_hit x) (pin_hit_zeros x)))))

  user_congr : Congr (user_step c chip rs) (user_step c chip rs')
  unfolding user_step
  user_congr =
      cond_congr (eqb (method c) 80) delete_congr (cond_congr (eqb (method c) 82) unlock_congr (cond_congr (eqb (method c) 83) change_congr use_congr))

  -- ---- any call

  pub step_congr : (Fact (is_session_call c) → 1 ≤ t) → Congr (step c chip rs) (step c chip rs')
  unfolding step
  step_congr l = cases (is_session_call c)
      (λ h. rw (session-step c chip rs h, session-step c chip rs' h) (session_congr (l h)))
      (λ n. rw (fails (is_session_call c) n) (cond_congr (eqb (method c) 2) create_congr user_congr))

-- ---- and its answer

pub record Judges (j j' : Judged) : Type 0 where
  pub status : j.status ≡ j'.status
  pub handle : j.handle ≡ j'.handle
  pub attestation : j.attestation ≡ j'.attestation
  pub content : SameContent j.store j'.store

module _ (s s' c chip : List ℕ) (bytes : all_within 0 255 c ≡ true) (e : sound s ≡ true) (e' : sound s' ≡ true) (S : SameContent s s') where
  abbrev Alike : Judged → Judged → Type 0
  Alike j j' = (j.status ≡ 2 → ⊥) → (j'.status ≡ 2 → ⊥) → Judges j j'

  abbrev early : List ℕ → ℕ → Judged
  early z n = record { status = n; handle = 0; attestation = no_attestation; store = z }

  judged_congr : Alike (judged s c chip) (judged s' c chip)
  unfolding judged
  judged_congr =
      settle_like Alike (early s) (early s') (told (step c chip rs)) (told (step c chip rs'))
      (λ n p q. record { status = refl; handle = refl; attestation = refl; content = S }) (λ y p q. absurd (p refl)) (λ y p q. absurd (q refl))
      {fs = early_faults s c} {gs = early_faults s' c}
      (like (rw (e, e')) (like refl (like (ap (λ (r : Rec). test (is_session_call c and no (state r equals OPEN))) sessions) end))) done
    where
      rs : List Rec
      rs = records s

      rs' : List Rec
      rs' = records s'

      F : Facts rs
      F = facts_of s e

      F' : Facts rs'
      F' = facts_of s' e'

      E : Even rs rs'
      E = even_of rs rs' S

      sessions : at SESSION (subject c) (subject c) rs ≡ at SESSION (subject c) (subject c) rs'
      sessions = at_even rs rs' E F F' SESSION (subject c) (subject c) (lit≤ tt) (lit≤ tt)

      done : Clear (early_faults s c) → Clear (early_faults s' c) → Alike (told (step c chip rs)) (told (step c chip rs'))
      done k k' p q =
          record {
            status = m.status;
            handle = m.handle;
            attestation = m.attestation;
            content = rw (back s e o, back s' e' o') (of_even (step c chip rs).store (step c chip rs').store m.store);
          }
        where
          o : Fact (is_session_call c) → Fact (is_open (subject c) rs)
          o h =
              let late : Fact (is_session_call c and no (is_open (subject c) rs)) → ⊥ = search in
              holds (is_open (subject c) rs) (λ n. late (h, n))

          o' : Fact (is_session_call c) → Fact (is_open (subject c) rs')
          o' h =
              let late : Fact (is_session_call c and no (is_open (subject c) rs')) → ⊥ = search in
              holds (is_open (subject c) rs') (λ n. late (h, n))

          m : Matched (step c chip rs) (step c chip rs')
          m = step_congr c chip rs rs' E F F' (λ h. some_number (subject c) rs F (o h)) p q

          back : (z : List ℕ) (sz : sound z ≡ true) → (Fact (is_session_call c) → Fact (is_open (subject c) (records z)))
              → records (joined (step c chip (records z)).store) ≡ (step c chip (records z)).store
          back z sz oz = records-joined (step c chip (records z)).store (λ y i. long y ((step_kept z c chip bytes sz oz).alone y i))

pub congruence : Congruence
unfolding answer written
congruence s s' q bytes e e' S p p' = go (ltb (length q.reply) reply_bytes) refl
  where
    J : ((judged s q.bytes q.chip).status ≡ 2 → ⊥) → ((judged s' q.bytes q.chip).status ≡ 2 → ⊥) → Judges (judged s q.bytes q.chip) (judged s' q.bytes q.chip)
    J = judged_congr s s' q.bytes q.chip bytes e e' S

    go : (b : Bool) → ltb (length q.reply) reply_bytes ≡ b → AnsweredAlike s s' q
    go true i = record { status = rw i; reply = rw i; content = rw i S }
    go false i =
        let w = J (λ z. p (rw i z)) (λ z. p' (rw i z)) in
        record { status = rw i w.status; reply = rw i (rw (w.status, w.handle, w.attestation)); content = rw i w.content }
