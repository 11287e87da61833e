-- The session's record after a call that was answered 0: it stands in the store, and its MAC counter has moved.
use mathlib.Core.Path.{◌≡◌, refl, sym, ap, subst, ◌∙◌}
use mathlib.Core.Bool.{Bool, true, false, cond}
use mathlib.Core.List.{List, [], ◌∷◌, map, Memᴰ}
use mathlib.Core.Logic.{inr}
use mathlib.Core.Option.{Option, none, some as just}
use Prim.Native.Nat.{ℕ, ◌+◌, ◌≤◌, ◌<◌}
use native.Mathlib.Omega.{arith}
use lib.ListN.{length}
use lib.Dec.{lit≤}
use Rattle.sha256.specs.Sha256.{SHA256}
use Rattle.paper.specs.Bytes.{all_within}
use Rattle.paper.specs.Form.{Rec, ◌=<◌, ◌equals◌, test, Fact, only}
use Rattle.paper.specs.Records.{records, kind, SESSION, KEY, PENDING, at, block, bears, is, session, mac_counter, key_limit}
use Rattle.paper.specs.Sound.{sound}
use Rattle.paper.specs.Calls.{method, subject, is_session_call, one_of, path_in, post_in}
use Rattle.paper.specs.Mac.{uses}
use Rattle.paper.specs.Closing.{has_key, shut, sealed, closing}
use Rattle.paper.specs.Objects.{certified}
use Rattle.paper.specs.Posting.{Look, look}
use Rattle.paper.specs.Act.{Out, Act, refuse, inside, close as closes, placed, fits_in, wiped, perform, moved, advance}
use Rattle.paper.specs.Answer.{answer, step, session_step, session_act, is_open}
use Rattle.paper.proofs.Forms.{both, cases, contrary}
use Rattle.laws.proofs.Choice.{fails, holds, only_in, only_out}
use Rattle.laws.proofs.Edits.{moved_at, moved_same, moved-mac, shut_at, shut-same, shut-mac}
use Rattle.laws.proofs.Places.{four_kept}
use Rattle.laws.proofs.Inserting.{insert_old}
use Rattle.laws.proofs.Lists.{at_block}
use Rattle.laws.proofs.Methods.{is-session, by_act}
use Rattle.laws.proofs.Stores.{records-joined}
use Rattle.laws.proofs.Facts.{Facts, facts_of}
use Rattle.laws.proofs.Handles.{at-is}
use Rattle.rule.specs.Refusals.{Taken}
use Rattle.rule.specs.Checked.{caller}
use Rattle.rule.specs.Counted.{Counted}
use Rattle.rule.proofs.RecordEdits.{long, limit_range}
use Rattle.rule.proofs.Rule.{step_kept}
use Rattle.rule.proofs.CallersSession.{here}
use Rattle.rule.proofs.Refusals.{store_is, session-step}
use Rattle.rule.proofs.Checked.{refused, zero_act}

-- an act within the session that is answered 0
inside_zero : (t h : ℕ) (w : List ℕ) (g : Rec → Rec) (new : Option Rec) (rs : List Rec) → (perform t (inside h w g new) rs).status ≡ 0
    → (perform t (inside h w g new) rs).store ≡ placed new (map (only (bears t) g) rs)
unfolding perform
inside_zero t h w g new rs = go (fits_in new rs)
  where
    yes : Out
    yes = record { status = 0; handle = h; attestation = w; store = placed new (map (only (bears t) g) rs) }

    go : (b : Bool) → (cond b yes (wiped t 2 rs)).status ≡ 0 → (cond b yes (wiped t 2 rs)).store ≡ placed new (map (only (bears t) g) rs)
    go true e = refl
    go false e = absurd (omega arith)

placed_old : (new : Option Rec) (rs : List Rec) {x : Rec} → Memᴰ x rs → 1 ≤ kind x → Memᴰ x (placed new rs)
placed_old none rs m k = m
placed_old (just n) rs m k = insert_old n rs m k

-- ---- the session's record afterwards

module _ (s c chip reply : List ℕ) (bytes : all_within 0 255 c ≡ true) (T : Taken s c reply) (zero : (answer s c chip reply).status ≡ 0) (h : Fact (is_session_call c)) where
  abbrev rs : List Rec
  rs = records s

  abbrev t : ℕ
  t = subject c

  F : Facts rs
  F = facts_of s T.sound

  O : Fact (is_open t rs)
  O = T.opened h

  abbrev ses : Rec
  ses = at SESSION t t (block t rs)

  abbrev seen : Look
  seen = look (post_in c chip).key rs

  abbrev act : Act
  act = session_act c chip (block t rs) seen

  ses_is : ses ≡ caller s c
  ses_is = at_block SESSION t t rs

  Fx : Facts (step c chip rs).store
  Fx = step_kept s c chip bytes T.sound (λ i. O)

  after_is : records (answer s c chip reply).store ≡ (step c chip rs).store
  after_is = ap records (store_is s c chip reply T) ∙ records-joined (step c chip rs).store (λ x i. long x (Fx.alone x i))

  step_is : (b : Act) → act ≡ b → step c chip rs ≡ perform t b rs
  unfolding session_step
  step_is b e = session-step c chip rs h ∙ ap (λ (x : Act). perform t x rs) e

  -- a record that stands in the store as this session's is the one that is found
  found : (y : Rec) → Memᴰ y (step c chip rs).store → Fact (is SESSION t t y) → caller (answer s c chip reply).store c ≡ y
  found y i w = ap (at SESSION t t) after_is ∙ at-is (step c chip rs).store Fx SESSION t t y (lit≤ tt) (lit≤ tt) i w

  -- the session's record, its counters moved on, is this session's
  moved-is : (objects used : ℕ) → Fact (is SESSION t t (moved objects used ses))
  moved-is objects used =
      let w = (here t rs F O).1 in
      let e = moved_same objects used ses in
      (e.at 0 refl ∙ w.0, (four_kept moved_at ses (moved objects used ses) e 4 refl ∙ w.1.0, four_kept moved_at ses (moved objects used ses) e 8 refl ∙ w.1.1))

  fits_word : (used : ℕ) → mac_counter ses + used ≤ key_limit ses → mac_counter ses + used < 65536
  fits_word used l = let w = here t rs F O in let r = limit_range ses (F.alone ses w.0) w.1.0 in omega arith

  long_enough : 116 ≤ length ses
  long_enough = let w = here t rs F O in let l = long ses (F.alone ses w.0) in omega arith

  abbrev Moved : Type 0
  Moved = mac_counter (caller (answer s c chip reply).store c) ≡ mac_counter (caller s c) + uses (method c)

  -- an act within the session that moves the counters on, and does no more to the session's record
  inside_moved : (n : ℕ) (w : List ℕ) (g : Rec → Rec) (new : Option Rec) (objects used : ℕ) → g ses ≡ moved objects used ses
      → mac_counter ses + used ≤ key_limit ses → uses (method c) ≡ used → act ≡ inside n w g new → Moved
  inside_moved n w g new objects used i l u e =
      let y : Rec = moved objects used ses in
      let k = moved-is objects used in
      let stored : (step c chip rs).store ≡ placed new (map (only (bears t) g) rs) =
      ap (λ (o : Out). o.store) (step_is (inside n w g new) e) ∙ inside_zero t n w g new rs (zero_act s c chip reply T zero h (inside n w g new) e) in
      let q : only (bears t) g ses ≡ y = only_in (bears t) g ses (here t rs F O).1.1.1 ∙ i in
      let old : Memᴰ y (map (only (bears t) g) rs) = subst (λ (z : Rec). Memᴰ z (map (only (bears t) g) rs)) q (mathlib.Core.List.Memᴰ.map (only (bears t) g) (here t rs F O).0) in
      let there : Memᴰ y (placed new (map (only (bears t) g) rs)) = placed_old new (map (only (bears t) g) rs) old (let z = k.0 in omega arith) in
      ap mac_counter (found y (subst (λ (l : List Rec). Memᴰ y l) (sym stored) there) k)
      ∙ moved-mac objects used ses long_enough (fits_word used l)
      ∙ ap (λ (x : Rec). mac_counter x + used) ses_is ∙ ap (λ (n : ℕ). mac_counter (caller s c) + n) (sym u)

  -- the session's own record under `advance`, and under the edit of 12
  advance_me : (objects used : ℕ) → advance t objects used ses ≡ moved objects used ses
  unfolding advance
  advance_me objects used = only_in (is SESSION t t) (moved objects used) ses (here t rs F O).1

  path_me : (k : ℕ) (d : List ℕ) → only (is KEY k t) (certified d) (advance t 0 1 ses) ≡ moved 0 1 ses
  path_me k d =
      ap (only (is KEY k t) (certified d)) (advance_me 0 1)
      ∙ only_out (is KEY k t) (certified d) (moved 0 1 ses) (λ w. let i = (moved-is 0 1).0 in let j = w.0 in omega arith)

  -- close: the session's record is shut where the session has a key
  close_moved : (v : List ℕ) → Fact (has_key t rs) → mac_counter ses + 2 ≤ key_limit ses → method c ≡ 3 → act ≡ closes v → Moved
  close_moved v k left m e =
      let w = here t rs F O in
      let stored : (step c chip rs).store ≡ map (closing t rs) rs = ap (λ (o : Out). o.store) (step_is (closes v) e) ∙ (unfold perform in refl) in
      let there = subst (λ (z : Rec). Memᴰ z (map (closing t rs) rs)) (shuts w.1.0 w.1.1.1) (mathlib.Core.List.Memᴰ.map (closing t rs) w.0) in
      let d = shut-same ses in
      ap mac_counter (found (shut ses) (subst (λ (l : List Rec). Memᴰ (shut ses) l) (sym stored) there)
      (d.at 0 refl ∙ w.1.0, (four_kept shut_at ses (shut ses) d 4 refl ∙ w.1.1.0, four_kept shut_at ses (shut ses) d 8 refl ∙ w.1.1.1)))
      ∙ shut-mac ses long_enough (fits_word 2 left) ∙ ap (λ (x : Rec). mac_counter x + 2) ses_is ∙ ap (λ (n : ℕ). mac_counter (caller s c) + uses n) (sym m)
    where
      shuts : kind ses ≡ SESSION → session ses ≡ t → closing t rs ses ≡ shut ses
      shuts i j = (unfold closing sealed in rw ((both (session ses equals t)).1 j, fails (kind ses equals PENDING) (λ z. omega arith), (both (kind ses equals SESSION)).1 i, (both (has_key t rs)).1 k))

  -- method by method: a close with a key, no abort
  counter-moved : (method c ≡ 3 → Fact (has_key t rs)) → (method c ≡ 5 → ⊥) → Moved
  counter-moved has no_Abort =
      by_act c chip (block t rs) seen (λ a. act ≡ a → Moved)
      (record {
        refused = λ n l e. absurd (refused t n rs l (zero_act s c chip reply T zero h (refuse n) e));
        close = λ m k. close_moved _ (has m) (holds (mac_counter ses + 2 =< key_limit ses) (search)) m;
        abort = λ m e. absurd (no_Abort m);
        puk = λ m k. inside_moved _ _ _ _ 1 1 (advance_me 1 1) (holds (mac_counter ses + 1 =< key_limit ses) (search)) (ap uses m);
        policy = λ m k. inside_moved _ _ _ _ 1 1 (advance_me 1 1) (holds (mac_counter ses + 1 =< key_limit ses) (search)) (ap uses m);
        key = λ m k. inside_moved _ _ _ _ 1 2 (advance_me 1 2) (holds (mac_counter ses + 2 =< key_limit ses) (search)) (ap uses m);
        path = λ m k. inside_moved _ _ _ _ 0 1 (path_me (path_in c).key (SHA256 (path_in c).first)) (holds (mac_counter ses + 1 =< key_limit ses) (search)) (ap uses m);
        post = λ op name lo hi m k. inside_moved _ _ _ _ 1 1 (advance_me 1 1) (holds (mac_counter ses + 1 =< key_limit ses) (search)) (once (m h) lo hi);
      })
      refl
    where
      once : {op : ℕ} → method c ≡ op → 50 ≤ op → op ≤ 51 → uses (method c) ≡ 1
      once e lo hi = cases (method c equals 50) (λ i. ap uses i) (λ n. let i : method c ≡ 51 = omega arith in ap uses i)

pub counted : Counted
counted =
    record {
      moved = λ m s c chip reply bytes a h.
          subst (λ (n : ℕ). mac_counter (caller (answer s c chip reply).store c) ≡ mac_counter (caller s c) + uses n) a.is
          (counter-moved s c chip reply bytes a.taken a.zero (inr (inr (rw a.is h))) (λ e. absurd (not_in 3 refl m h (sym a.is ∙ e))) (λ e. not_in 5 refl m h (sym a.is ∙ e)));
      closed = λ s c chip reply bytes a k.
          subst (λ (n : ℕ). mac_counter (caller (answer s c chip reply).store c) ≡ mac_counter (caller s c) + uses n) a.is
          (counter-moved s c chip reply bytes a.taken a.zero (is-session c a.is refl) (λ e. k) (λ e. let i = a.is in omega arith));
    }
  where
    not_in : (n : ℕ) → test (one_of (8 ∷ 9 ∷ 10 ∷ 12 ∷ 50 ∷ 51 ∷ []) n) ≡ false → (m : ℕ) → Fact (one_of (8 ∷ 9 ∷ 10 ∷ 12 ∷ 50 ∷ 51 ∷ []) m) → m ≡ n → ⊥
    not_in n f m h e = contrary (sym ((both (one_of (8 ∷ 9 ∷ 10 ∷ 12 ∷ 50 ∷ 51 ∷ []) n)).1 (rw e at h)) ∙ f)
