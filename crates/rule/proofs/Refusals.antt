-- What each status leaves behind, proved: a session call that is refused comes to `refuse`, a user call or method 2 to the store itself.
use mathlib.Core.Path.{◌≡◌, refl, sym, ap, subst, ◌∙◌}
use mathlib.Core.Bool.{Bool, true, false, cond}
use mathlib.Core.List.{List, [], ◌∷◌, ◌++◌, map}
use mathlib.Core.Logic.{◌⊎◌, inl, inr}
use Prim.Native.Nat.{ℕ, ◌%◌, ◌≤◌, ◌<◌}
use native.Mathlib.Omega.{arith}
use lib.Dec.{eqb}
use lib.ListN.{length}
use borrow.Author.Tests.{lt-ltb, le-ltb, eqb-true, eq-eqb}
use Rattle.paper.specs.Limits.{record_bytes, reply_bytes}
use Rattle.paper.specs.Bytes.{enc4, over}
use Rattle.paper.specs.Form.{Rec, Form, say, no, ◌and◌, test, Fact, only, Fault, ◌gives◌, settle}
use Rattle.paper.specs.Records.{records, joined, bears, zeros, handle, next_session, insert}
use Rattle.paper.specs.Sound.{sound, length_fits}
use Rattle.paper.specs.Calls.{method, subject, is_session_call, is_user_call, one_of, session_methods, known, create_in}
use Rattle.paper.specs.Pin.{pin_missed, puk_missed}
use Rattle.paper.specs.Posting.{target}
use Rattle.paper.specs.Users.{policy_of, puk_of}
use Rattle.paper.specs.Sessions.{counter, create_faults, session_record, counted, create_session}
use Rattle.paper.specs.Act.{Out, plain, no_attestation, Act, refuse, inside, close, wiped, placed, fits_in, perform}
use Rattle.paper.specs.Answer.{Answer, answer, is_open, Judged, judged, told, written, early_faults, step, session_step, user_step}
use Rattle.paper.proofs.Forms.{both, settled, contrary}
use Rattle.laws.proofs.Bytes.{split}
use Rattle.laws.proofs.Choice.{fails}
use Rattle.laws.proofs.Methods.{◌&◌, none_left, one_of_lem, by_user, by_step}
use Rattle.laws.proofs.Stores.{joined-records}
use Rattle.rule.specs.Refusals.{Taken, Refusals, without, pin_counted, puk_counted}

-- the first refusal of a list that applies, and one that does not
pub hit : {A : Type 0} (φ : Form) (n : ℕ) (fs : List Fault) (a : ℕ → A) (b : A) → Fact φ → settle ((φ gives n) ∷ fs) a b ≡ a n
hit φ n fs a b p = rw ((both φ).1 p)

pub miss : {A : Type 0} (φ : Form) (n : ℕ) (fs : List Fault) (a : ℕ → A) (b : A) → (Fact φ → ⊥) → settle ((φ gives n) ∷ fs) a b ≡ settle fs a b
miss φ n fs a b p = rw (fails φ p)

-- ---- what comes before the method

abbrev pub same : List ℕ → ℕ → Judged
same s n = record { status = n; handle = 0; attestation = no_attestation; store = s }

module _ (s c chip : List ℕ) where
  abbrev done : Judged
  done = told (step c chip (records s))

  abbrev unknown : Form
  unknown = no (known c)

  abbrev unopened : Form
  unopened = is_session_call c and no (is_open (subject c) (records s))

  judged_unsound : sound s ≡ false → judged s c chip ≡ same s 19
  unfolding judged
  judged_unsound e = hit (no (say (sound s))) 19 ((unknown gives 16) ∷ (unopened gives 5) ∷ []) (same s) done (λ p. contrary (sym p ∙ e))

  past_19 : sound s ≡ true → judged s c chip ≡ settle ((unknown gives 16) ∷ (unopened gives 5) ∷ []) (same s) done
  unfolding judged
  past_19 e = miss (no (say (sound s))) 19 ((unknown gives 16) ∷ (unopened gives 5) ∷ []) (same s) done (λ n. n e)

  pub judged_unknown : sound s ≡ true → (Fact (known c) → ⊥) → judged s c chip ≡ same s 16
  judged_unknown e n = past_19 e ∙ hit unknown 16 ((unopened gives 5) ∷ []) (same s) done n

  past_16 : sound s ≡ true → Fact (known c) → judged s c chip ≡ settle ((unopened gives 5) ∷ []) (same s) done
  past_16 e k = past_19 e ∙ miss unknown 16 ((unopened gives 5) ∷ []) (same s) done (λ n. n k)

  pub judged_unopened : sound s ≡ true → Fact (known c) → Fact (is_session_call c) → (Fact (is_open (subject c) (records s)) → ⊥) → judged s c chip ≡ same s 5
  judged_unopened e k h n = past_16 e k ∙ hit unopened 5 [] (same s) done (h, n)

  -- the method answers
  pub judged-taken : sound s ≡ true → Fact (known c) → (Fact (is_session_call c) → Fact (is_open (subject c) (records s))) → judged s c chip ≡ done
  judged-taken e k o = past_16 e k ∙ miss unopened 5 [] (same s) done (λ p. p.1 (o p.0))

-- the whole answer where the reply is long enough
abbrev answered : Judged → List ℕ → Answer
answered j reply = record { status = j.status; store = j.store; reply = written j reply }

pub answer_long : (s c chip reply : List ℕ) → reply_bytes ≤ length reply → answer s c chip reply ≡ answered (judged s c chip) reply
unfolding answer
answer_long s c chip reply l = rw (le-ltb (length reply) reply_bytes l)

answer_short : (s c chip reply : List ℕ) → length reply < reply_bytes → answer s c chip reply ≡ record { status = 21; store = s; reply = reply }
unfolding answer
answer_short s c chip reply l = rw (lt-ltb (length reply) reply_bytes l)

early : (s c chip reply : List ℕ) (n : ℕ) → reply_bytes ≤ length reply → judged s c chip ≡ same s n
    → ((answer s c chip reply).status ≡ n) × ((answer s c chip reply).store ≡ s)
early s c chip reply n l e =
    let w = answer_long s c chip reply l ∙ ap (λ (j : Judged). answered j reply) e in
    (ap (λ (a : Answer). a.status) w, ap (λ (a : Answer). a.store) w)

-- the records of a store whose length fits are the store
pub same_store : (s : List ℕ) → sound s ≡ true → joined (records s) ≡ s
unfolding sound length_fits
same_store s e = joined-records s (eqb-true (length s % record_bytes) 0 (split (eqb (length s % record_bytes) 0) _ (split _ _ e).0).0)

-- ---- what the method leaves

-- a session call that is not answered 0 has removed its session
perform_refused : (t : ℕ) (a : Act) (rs : List Rec) → 1 ≤ (perform t a rs).status → (perform t a rs).store ≡ map (only (bears t) (λ r. zeros)) rs
unfolding perform
perform_refused t (refuse n) rs h = refl
perform_refused t (close w) rs h = absurd (omega arith)
perform_refused t (inside n w edit new) rs h = go (fits_in new rs) h
  where
    yes : Out
    yes = record { status = 0; handle = n; attestation = w; store = placed new (map (only (bears t) edit) rs) }

    go : (b : Bool) → 1 ≤ (cond b yes (wiped t 2 rs)).status → (cond b yes (wiped t 2 rs)).store ≡ map (only (bears t) (λ r. zeros)) rs
    go true q = absurd (omega arith)
    go false q = refl

-- a refusal's reply bears no handle and no attestation
abbrev Bare : Out → Type 0
Bare o = 1 ≤ o.status → (o.handle ≡ 0) × (o.attestation ≡ no_attestation)

perform_bare : (t : ℕ) (a : Act) (rs : List Rec) → Bare (perform t a rs)
unfolding perform
perform_bare t (refuse n) rs h = (refl, refl)
perform_bare t (close w) rs h = absurd (omega arith)
perform_bare t (inside n w edit new) rs h = go (fits_in new rs) h
  where
    yes : Out
    yes = record { status = 0; handle = n; attestation = w; store = placed new (map (only (bears t) edit) rs) }

    go : (b : Bool) → Bare (cond b yes (wiped t 2 rs))
    go true q = absurd (omega arith)
    go false q = (refl, refl)

-- method 2: refused, the store stays
abbrev Still : List Rec → Out → Type 0
Still rs o = (1 ≤ o.status → o.store ≡ rs) × Bare o

still : (n : ℕ) (rs : List Rec) → Still rs (plain n rs)
still n rs = ((λ h. refl), λ h. (refl, refl))

done_still : (o : Out) (rs : List Rec) → o.status ≡ 0 → Still rs o
done_still o rs e = ((λ h. absurd (omega arith)), λ h. absurd (omega arith))

create_still : (c chip : List ℕ) (rs : List Rec) → Still rs (create_session c chip rs)
unfolding create_session
create_still c chip rs =
    settled (Still rs) (create_faults c chip (create_in c chip) rs) (λ n. plain n rs) made (λ n. still n rs) (λ k. done_still made rs refl)
  where
    made : Out
    made =
        record {
          status = 0;
          handle = handle (next_session (counter rs)) 0;
          attestation = no_attestation;
          store = insert (session_record (handle (next_session (counter rs)) 0) (create_in c chip)) (map counted rs);
        }

-- a user call: refused, the store stays but for one count
module _ (c : List ℕ) (rs : List Rec) where
  abbrev key : Rec
  key = target (subject c) rs

  abbrev puk : Rec
  puk = puk_of (policy_of key rs) rs

  abbrev Counts : Out → Type 0
  Counts o =
      (1 ≤ o.status → (o.store ≡ rs) ⊎ ((o.status ≡ 1) × ((o.store ≡ map (pin_missed key) rs) ⊎ (o.store ≡ map (puk_missed puk) rs))))
      × Bare o

  stays : (n : ℕ) → Counts (plain n rs)
  stays n = ((λ h. inl refl), λ h. (refl, refl))

  done_counts : (xs : List Rec) → Counts (plain 0 xs)
  done_counts xs = ((λ h. absurd (omega arith)), λ h. (refl, refl))

  user_counts : (chip : List ℕ) → Counts (user_step c chip rs)
  user_counts chip =
      by_user c chip rs Counts
      (record {
        stays = stays;
        pin_wrong = λ a l. ((λ h. inr (refl, inl refl)), λ h. (refl, refl));
        puk_wrong = λ l. ((λ h. inr (refl, inr refl)), λ h. (refl, refl));
        removes = done_counts _;
        removes_by_puk = done_counts _;
        unlocks = done_counts _;
        changes = λ g. done_counts _;
        uses = done_counts _;
      })

-- ---- the table

-- which of the three kinds of call it is
pub session-step : (c chip : List ℕ) (rs : List Rec) → Fact (is_session_call c) → step c chip rs ≡ session_step c chip rs
unfolding step
session-step c chip rs h = rw ((both (is_session_call c)).1 h)

create_step : (c chip : List ℕ) (rs : List Rec) → method c ≡ 2 → step c chip rs ≡ create_session c chip rs
unfolding step
create_step c chip rs e = rw (not_session, eq-eqb (method c) 2 e)
  where
    not_session : test (is_session_call c) ≡ false
    not_session = rw e

user_step_lem : (c chip : List ℕ) (rs : List Rec) → Fact (is_user_call c) → step c chip rs ≡ user_step c chip rs
unfolding step
user_step_lem c chip rs h = let n = neither h in rw (n.0, n.1)
  where
    neither : Fact (is_user_call c) → (test (is_session_call c) ≡ false) × (eqb (method c) 2 ≡ false)
    neither h = one_of_lem {P = λ m. (test (one_of session_methods m) ≡ false) × (eqb m 2 ≡ false)} ((refl, refl) & (refl, refl) & (refl, refl) & (refl, refl) & none_left) (method c) h

pub bare_step : (c chip : List ℕ) (rs : List Rec) → Bare (step c chip rs)
unfolding session_step
bare_step c chip rs =
    by_step c chip rs Bare (record { session = λ i. perform_bare (subject c) _ rs; create = (create_still c chip rs).1; user = (user_counts c rs chip).1 })

module _ (s c chip reply : List ℕ) (t : Taken s c reply) where
  abbrev rs : List Rec
  rs = records s

  abbrev out : Out
  out = step c chip rs

  pub taken-answer : answer s c chip reply ≡ answered (told out) reply
  taken-answer = answer_long s c chip reply t.long ∙ ap (λ (j : Judged). answered j reply) (judged-taken s c chip t.sound t.known t.opened)

  pub status-is : (answer s c chip reply).status ≡ out.status
  status-is = ap (λ (a : Answer). a.status) taken-answer

  pub store_is : (answer s c chip reply).store ≡ joined out.store
  store_is = ap (λ (a : Answer). a.store) taken-answer

  as_session : Fact (is_session_call c) → 1 ≤ (answer s c chip reply).status → (answer s c chip reply).store ≡ without (subject c) s
  unfolding session_step
  as_session h n =
      let e = session-step c chip rs h in
      let m : 1 ≤ (session_step c chip rs).status = subst (λ (o : Out). 1 ≤ o.status) e (rw status-is at n) in
      store_is ∙ ap (λ (o : Out). joined o.store) e ∙ ap joined (perform_refused (subject c) _ rs m)

  as_create : method c ≡ 2 → 1 ≤ (answer s c chip reply).status → (answer s c chip reply).store ≡ s
  as_create e n =
      let w : Still rs out = subst (Still rs) (sym (create_step c chip rs e)) (create_still c chip rs) in
      store_is ∙ ap joined (w.0 (rw status-is at n)) ∙ same_store s t.sound

  as_user : Fact (is_user_call c) → 1 ≤ (answer s c chip reply).status
      → ((answer s c chip reply).store ≡ s)
      ⊎ (((answer s c chip reply).status ≡ 1)
      × (((answer s c chip reply).store ≡ pin_counted (subject c) s) ⊎ ((answer s c chip reply).store ≡ puk_counted (subject c) s)))
  as_user h n =
      let w : Counts c rs out = subst (Counts c rs) (sym (user_step_lem c chip rs h)) (user_counts c rs chip) in
      go (w.0 (rw status-is at n))
    where
      one : (out.store ≡ map (pin_missed (key c rs)) rs) ⊎ (out.store ≡ map (puk_missed (puk c rs)) rs)
          → ((answer s c chip reply).store ≡ pin_counted (subject c) s) ⊎ ((answer s c chip reply).store ≡ puk_counted (subject c) s)
      one (inl e) = inl (store_is ∙ ap joined e)
      one (inr e) = inr (store_is ∙ ap joined e)

      go : (out.store ≡ rs) ⊎ ((out.status ≡ 1) × ((out.store ≡ map (pin_missed (key c rs)) rs) ⊎ (out.store ≡ map (puk_missed (puk c rs)) rs)))
          → ((answer s c chip reply).store ≡ s)
          ⊎ (((answer s c chip reply).status ≡ 1)
          × (((answer s c chip reply).store ≡ pin_counted (subject c) s) ⊎ ((answer s c chip reply).store ≡ puk_counted (subject c) s)))
      go (inl e) = inl (store_is ∙ ap joined e ∙ same_store s t.sound)
      go (inr p) = inr (status-is ∙ p.0, one p.1)

-- a reply's handle and attestation
bare_judged : (s c chip : List ℕ) → 1 ≤ (judged s c chip).status → ((judged s c chip).handle ≡ 0) × ((judged s c chip).attestation ≡ no_attestation)
unfolding judged
bare_judged s c chip = settled Quiet (early_faults s c) (same s) (told (step c chip (records s))) (λ n h. (refl, refl)) (λ k. bare_step c chip (records s))
  where
    Quiet : Judged → Type 0
    Quiet j = 1 ≤ j.status → (j.handle ≡ 0) × (j.attestation ≡ no_attestation)

as_replied : (s c chip reply : List ℕ) → reply_bytes ≤ length reply → 1 ≤ (answer s c chip reply).status
    → (answer s c chip reply).reply ≡ over 0 ((answer s c chip reply).status ∷ (enc4 0 ++ no_attestation)) reply
unfolding written
as_replied s c chip reply l n =
    let w = answer_long s c chip reply l in
    let st : (answer s c chip reply).status ≡ (judged s c chip).status = ap (λ (a : Answer). a.status) w in
    let b = bare_judged s c chip (rw st at n) in
    ap (λ (a : Answer). a.reply) w ∙ rw (st, b.0, b.1)

pub refusals : Refusals
refusals =
    record {
      short = answer_short;
      unsound = λ s c chip reply l e. early s c chip reply 19 l (judged_unsound s c chip e);
      unknown = λ s c chip reply l e n. early s c chip reply 16 l (judged_unknown s c chip e n);
      unopened = λ s c chip reply l e k h n. early s c chip reply 5 l (judged_unopened s c chip e k h n);
      session = as_session;
      create = as_create;
      user = as_user;
      replied = as_replied;
    }
