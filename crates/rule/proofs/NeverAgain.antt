-- Never again: every call keeps the handles that were given before, and gives none of them.
use mathlib.Core.Path.{◌≡◌, refl, sym, ap, subst, ◌∙◌}
use mathlib.Core.Bool.{true}
use mathlib.Core.List.{List, [], ◌∷◌, ◌++◌, map, Memᴰ}
use mathlib.Core.Logic.{◌⊎◌, inl, inr}
use mathlib.Core.Option.{Option, none, some as just}
use Prim.Native.Nat.{ℕ, ◌*◌, ◌≤◌, ◌<◌}
use native.Mathlib.Omega.{arith}
use lib.ListN.{length}
use lib.Dec.{lit≤}
use Rattle.sha256.specs.Sha256.{SHA256}
use Rattle.paper.specs.Limits.{reply_bytes, handle_step, most_objects, most_sessions}
use Rattle.paper.specs.Bytes.{byte, four, part, enc4, over, all_within}
use Rattle.paper.specs.Form.{Rec, Form, ◌=<◌, test, Fact, only}
use Rattle.paper.specs.Records.{by_value, records, kind, SESSION, POLICY, KEY, PENDING, own, session, at, is, block, bears, next_object, next_session, handle, zeros, room, insert}
use Rattle.paper.specs.Sound.{sound, is_object, has_handle}
use Rattle.paper.specs.Calls.{subject, is_session_call, create_in, Create, puk_in, policy_in, key_in, path_in, typed_new}
use Rattle.paper.specs.Mac.{attestation}
use Rattle.paper.specs.Pin.{the_key, the_puk, clear, add_one, pin_missed, pin_hit, puk_missed, puk_hit}
use Rattle.paper.specs.Closing.{Keys, one, no_keys as nobody, effect, closing, stale}
use Rattle.paper.specs.Objects.{pin_of, puk_record, policy_record, key_record, certified}
use Rattle.paper.specs.Posting.{target, pending_record}
use Rattle.paper.specs.Sessions.{counter, create_faults, session_record, counted, create_session}
use Rattle.paper.specs.Users.{policy_of, puk_of, given_pin, new_pin, changed}
use Rattle.paper.specs.Act.{Out, plain, Act, refuse, inside, close as closes, wiped, placed, fits_in, perform, moved, advance, fresh}
use Rattle.paper.specs.Answer.{session_step, step, is_open, Answer, written}
use Rattle.paper.proofs.Forms.{both, settled}
use Rattle.laws.proofs.Bytes.{length_over, byte-over_other, four-over_other, four_of, four-over}
use Rattle.laws.proofs.CallStrings.{length_hash}
use Rattle.laws.proofs.Choice.{chosen, holds, only_out}
use Rattle.laws.proofs.Edits.{clear-same, add_same, stale-same, certified-same}
use Rattle.laws.proofs.Facts.{Facts, facts_of}
use Rattle.laws.proofs.Handles.{counter_there}
use Rattle.laws.proofs.Inserting.{insert_new}
use Rattle.laws.proofs.Methods.{by_act, by_user, by_step}
use Rattle.laws.proofs.Stores.{records-joined}
use Rattle.rule.specs.Refusals.{Taken}
use Rattle.rule.specs.Runs.{Call, answered, after}
use Rattle.rule.specs.NeverAgain.{Gives, AreBytes, NeverAgain}
use Rattle.rule.proofs.RecordEdits.{long}
use Rattle.rule.proofs.Rule.{step_kept, kept}
use Rattle.rule.proofs.CallersSession.{here, some_number, small}
use Rattle.rule.proofs.Answers.{answer-is}
use Rattle.rule.proofs.Refusals.{taken-answer, store_is}
use Rattle.rule.proofs.Congruence.{fits-map, counted_zeros}
use Rattle.rule.proofs.SameButOrderEdits.{no_session}
use Rattle.rule.proofs.HandlesGiven.{Before, Past, Rises, past_map, past_insert, before-object, rises_zeros, rises_object, rises_only, rises_effect, rises_closing, rises_moved, rises_counted, rises_then, there_past}

-- a handle that a call gives: none that was given before, and a record has it now
pub record Handed (rs : List Rec) (o : Out) : Type 0 where
  pub few : o.handle < 4294967296
  pub new : Past o.handle rs → ⊥
  pub there : (y : Rec) × Memᴰ y o.store × Fact (has_handle y) × (own y ≡ o.handle)

pub record Hands (rs : List Rec) (o : Out) : Type 0 where
  pub past : (h : ℕ) → Past h rs → Past h o.store
  pub given : (o.handle ≡ 0) ⊎ Handed rs o

-- records none of whose numbers fell
abbrev Onward : List Rec → List Rec → Type 0
Onward rs xs = (h : ℕ) → Past h rs → Past h xs

hands_plain : (rs xs : List Rec) (n : ℕ) → Onward rs xs → Hands rs (plain n xs)
hands_plain rs xs n P = record { past = P; given = inl refl }

onward : (rs : List Rec) (f : Rec → Rec) → ((x : Rec) → Memᴰ x rs → Rises x (f x)) → Onward rs (map f rs)
onward rs f R h P = past_map h f rs R P

-- ---- session calls

module _ (c chip : List ℕ) (rs : List Rec) (F : Facts rs) (O : Fact (is_open (subject c) rs)) where
  abbrev t : ℕ
  t = subject c

  abbrev blk : List Rec
  blk = block t rs

  abbrev ses : Rec
  ses = at SESSION t t blk

  -- the reply's handle is 0, or the session's next, which the new record has
  abbrev Fresh : ℕ → Rec → Type 0
  Fresh n r = (n ≡ fresh t (by_value ses)) × (next_object ses ≤ most_objects) × (own r ≡ n)

  abbrev New : ℕ → Option Rec → Type 0
  New n none = n ≡ 0
  New n (just r) = Fact (is_object r) × ((n ≡ 0) ⊎ Fresh n r)

  abbrev Tidy : Act → Type 0
  Tidy (refuse n) = Unit {0}
  Tidy (closes w) = Unit {0}
  Tidy (inside n w g new) = ((x : Rec) → Memᴰ x rs → Rises x (g x)) × New n new

  own_onward : (g : Rec → Rec) → ((x : Rec) → Memᴰ x rs → Rises x (g x)) → Onward rs (map (only (bears t) g) rs)
  own_onward g R = onward rs (only (bears t) g) (λ x m. rises_only x (bears t) g (λ e. R x m))

  gone : (n : ℕ) → Hands rs (wiped t n rs)
  gone n = hands_plain rs _ n (own_onward (λ r. zeros) (λ x m. rises_zeros x))

  -- the session's next handle was not given before
  not_past : next_object ses ≤ most_objects → Past (fresh t (by_value ses)) rs → ⊥
  not_past l P =
      let w = here t rs F O in
      let e = w.1.1.0 in
      let v = ((F.alone ses w.0).session_carries w.1.0).1.1 in
      let b = (P ses w.0).session w.1.0 (omega arith) in
      omega arith

  placed_hands : (n : ℕ) (w : List ℕ) (g : Rec → Rec) → ((x : Rec) → Memᴰ x rs → Rises x (g x)) → (new : Option Rec) → New n new → fits_in new rs ≡ true
      → Hands rs (record { status = 0; handle = n; attestation = w; store = placed new (map (only (bears t) g) rs) })
  placed_hands n w g R none N e = record { past = own_onward g R; given = inl N }
  placed_hands n w g R (just r) N e =
      record {
        past = λ h P. past_insert h r (map (only (bears t) g) rs) (before-object h r N.0) (own_onward g R h P);
        given = out N.1;
      }
    where
      f : Rec → Rec
      f = only (bears t) g

      room_left : test (room (map f rs)) ≡ true
      room_left = fits-map (just r) f rs (only_out (bears t) g zeros (no_session t (some_number t rs F O))) e

      out : (n ≡ 0) ⊎ Fresh n r → (n ≡ 0) ⊎ Handed rs (record { status = 0; handle = n; attestation = w; store = insert r (map f rs) })
      out (inl z) = inl z
      out (inr (i, l, o)) =
          inr (record {
            few = let s = small t rs F O (next_object ses) l in omega arith;
            new = λ P. not_past l (subst (λ (h : ℕ). Past h rs) i P);
            there = (r, insert_new r (map f rs) room_left, (let a = N.0.0 in omega arith, N.0.1), o);
          })

  performs : (a : Act) → Tidy a → Hands rs (perform t a rs)
  unfolding perform
  performs (refuse n) T = gone n
  performs (closes w) T = record { past = onward rs (closing t rs) (λ x m. rises_closing x t rs); given = inl refl }
  performs (inside n w g new) T = chosen (Hands rs) (fits_in new rs) _ (wiped t 2 rs) (placed_hands n w g T.0 new T.1) (λ e. gone 2)

  advances : (objects used : ℕ) → objects ≤ 1 → (x : Rec) → Memᴰ x rs → Rises x (advance t objects used x)
  unfolding advance
  advances objects used l x m = rises_only x (is SESSION t t) (moved objects used) (λ w. rises_moved x (F.alone x m) w.0 objects used l)

  -- a new object with the session's next handle
  fresh_new : (r : Rec) → next_object ses ≤ most_objects → Fact (is_object r) → part 4 4 r ≡ enc4 (fresh t (by_value ses)) → New (fresh t (by_value ses)) (just r)
  fresh_new r l k e = (k, inr (refl, l, four_of 4 r (fresh t (by_value ses)) e (small t rs F O (next_object ses) l)))

  session_hands : Hands rs (session_step c chip rs)
  unfolding session_step
  session_hands =
      performs _
      (by_act c chip blk _ Tidy
      (record {
        refused = λ n l. tt;
        close = λ e k. tt;
        abort = λ e. ((λ x m. rises_zeros x), refl);
        puk = λ e k. (
          advances 1 1 (lit≤ tt),
          fresh_new (puk_record t (puk_in c chip) (puk_in c chip).value (by_value ses)) (holds (next_object ses =< most_objects) (search)) (unfold byte puk_record in (lit≤ tt, lit≤ tt)) (unfold part puk_record in refl),
        );
        policy = λ e k. (
          advances 1 1 (lit≤ tt),
          fresh_new (policy_record t (policy_in c) (by_value ses)) (holds (next_object ses =< most_objects) (search)) (unfold byte policy_record in (lit≤ tt, lit≤ tt)) (unfold part policy_record in refl),
        );
        key = λ e k. (
          advances 1 2 (lit≤ tt),
          fresh_new (key_record t (key_in c chip) (pin_of (key_in c chip) (at POLICY (key_in c chip).policy t blk)) (by_value ses)) (holds (next_object ses =< most_objects) (search)) (unfold byte key_record in (lit≤ tt, lit≤ tt)) (unfold part key_record in refl),
        );
        path = λ e k. ((λ x m. certifies x m), refl);
        post = λ op name a b h k. (advances 1 1 (lit≤ tt), ((unfold byte pending_record in (lit≤ tt, lit≤ tt)), inl refl));
      }))
    where
      d : List ℕ
      d = SHA256 (path_in c).first

      certifies : (x : Rec) → Memᴰ x rs → Rises x (only (is KEY (path_in c).key t) (certified d) (advance t 0 1 x))
      certifies x m =
          rises_then x (advance t 0 1 x) _ (advances 0 1 (lit≤ tt) x m)
          (rises_only (advance t 0 1 x) (is KEY (path_in c).key t) (certified d) (λ w. let k = w.0 in rises_object (advance t 0 1 x) (certified d (advance t 0 1 x)) ((certified-same d (length_hash (path_in c).first) (advance t 0 1 x)).at 0 refl) (omega arith, omega arith)))

-- ---- method 2

module _ (c chip : List ℕ) (rs : List Rec) (F : Facts rs) where
  create_hands : Hands rs (create_session c chip rs)
  unfolding create_session
  create_hands =
      settled (Hands rs) (create_faults c chip q rs) (λ n. plain n rs) _ (λ n. hands_plain rs rs n (λ h P. P)) (λ k.
      let l = holds (N =< most_sessions) (search) in
      let r = holds (room rs) (search) in
      let i = own_is l in
      record {
        past = λ h P. past_insert h new (map counted rs) (born h l ((P (counter rs) (counter_there rs F).0).counter (counter_there rs F).1)) (onward rs counted (λ x m. rises_counted x (F.alone x m)) h P);
        given = inr (record {
          few = omega arith;
          new = λ P. let b = (P (counter rs) (counter_there rs F).0).counter (counter_there rs F).1 in omega arith;
          there = (new, insert_new new (map counted rs) (fits-map (just new) counted rs counted_zeros ((both (room rs)).1 r)), (is-session.1, is-session.2), i);
        });
      })
    where
      q : Create
      q = create_in c chip

      N : ℕ
      N = next_session (counter rs)

      new : Rec
      new = session_record (handle N 0) q

      is-session : (kind new ≡ SESSION) × (SESSION ≤ kind new) × (kind new ≤ PENDING)
      is-session = unfold byte session_record in (refl, lit≤ tt, lit≤ tt)

      own_is : N ≤ most_sessions → own new ≡ handle N 0
      own_is l = four_of 4 new (handle N 0) (unfold part session_record in refl) (omega arith)

      born : (h : ℕ) → N ≤ most_sessions → h < N * handle_step → Before h new
      born h l b =
          let k = is-session.0 in
          let o = own_is l in
          record { counter = λ j. absurd (omega arith); session = λ j e. omega arith }

  -- ---- user calls

  abbrev k : ℕ
  k = subject c

  abbrev x : Rec
  x = target k rs

  abbrev pol : Rec
  pol = policy_of x rs

  abbrev puk' : Rec
  puk' = puk_of pol rs

  stays : (n : ℕ) → Hands rs (plain n rs)
  stays n = hands_plain rs rs n (λ h P. P)

  -- an edit of one count
  one-count : (φ : Rec → Form) (e : Rec → Rec) → ((y : Rec) → Fact (φ y) → Fact (is_object y)) → ((y : Rec) → kind (e y) ≡ kind y) → Onward rs (map (only φ e) rs)
  one-count φ e o s = onward rs (only φ e) (λ y m. rises_only y φ e (λ p. rises_object y (e y) (s y) (o y p)))

  missed : Onward rs (map (pin_missed x) rs)
  unfolding pin_missed
  missed = one-count (the_key x) (add_one 2) (λ y p. let j = p.0 in (omega arith, omega arith)) (λ y. (add_same 2 y).at 0 refl)

  hit : Onward rs (map (pin_hit x) rs)
  unfolding pin_hit
  hit = one-count (the_key x) (clear 2) (λ y p. let j = p.0 in (omega arith, omega arith)) (λ y. (clear-same 2 y).at 0 refl)

  puk_missed_lem : Onward rs (map (puk_missed puk') rs)
  unfolding puk_missed
  puk_missed_lem = one-count _ (add_one 3) (λ y p. let j = p.0.0 in (omega arith, omega arith)) (λ y. (add_same 3 y).at 0 refl)

  puk_hit_lem : Onward rs (map (puk_hit puk') rs)
  unfolding puk_hit
  puk_hit_lem = one-count (the_puk puk') (clear 3) (λ y p. let j = p.0 in (omega arith, omega arith)) (λ y. (clear-same 3 y).at 0 refl)

  effects : (xs : List Rec) (d u : Keys) → Onward xs (map (effect d u xs) xs)
  effects xs d u = onward xs (effect d u xs) (λ y m. rises_effect y d u xs)

  changes : (v : List ℕ) → Onward rs (map (changed x pol v rs) rs)
  unfolding changed pin_hit new_pin
  changes v = onward rs (changed x pol v rs) (λ y m.
      rises_then y _ _ (rises_only y (given_pin x pol) (new_pin v) (λ p. rises_object y (new_pin v y) (byte-over_other 49 0 _ y (inr (lit≤ tt))) (object y p)))
      (rises_then _ _ _ (rises_only _ (the_key x) (clear 2) (λ p. let j = p.0 in rises_object _ (clear 2 _) ((clear-same 2 _).at 0 refl) (omega arith, omega arith)))
      (rises_only _ _ stale (λ p. let j = p.0 in rises_object _ (stale _) ((stale-same _).at 0 refl) (omega arith, omega arith)))))
    where
      object : (y : Rec) → Fact (given_pin x pol y) → Fact (is_object y)
      object y (inl p) = let j = p.0 in (omega arith, omega arith)
      object y (inr p) = let j = p.1.1.0 in (omega arith, omega arith)

  -- ---- any call

  step_hands : (Fact (is_session_call c) → Fact (is_open (subject c) rs)) → Hands rs (step c chip rs)
  step_hands O =
      by_step c chip rs (Hands rs)
      (record {
        session = λ i. session_hands c chip rs F (O i);
        create = create_hands;
        user = by_user c chip rs (Hands rs)
            (record {
              stays = stays;
              pin_wrong = λ a l. hands_plain rs _ 1 missed;
              puk_wrong = λ l. hands_plain rs _ 1 puk_missed_lem;
              removes = hands_plain rs _ 0 (effects rs (one k) nobody);
              removes_by_puk = hands_plain rs _ 0 (λ h P. effects (map (puk_hit puk') rs) (one k) nobody h (puk_hit_lem h P));
              unlocks = hands_plain rs _ 0 (effects rs nobody (one k));
              changes = λ g. hands_plain rs _ 0 (changes (typed_new c));
              uses = hands_plain rs _ 0 hit;
            });
      })

-- ---- and its answer

-- the handle in a reply
reply_handle : (n h : ℕ) (v reply : List ℕ) → reply_bytes ≤ length reply → h < 4294967296 → four 1 (over 0 (n ∷ (enc4 h ++ v)) reply) ≡ h
unfolding over
reply_handle n h v reply l s =
    four-over_other 5 1 v (over 1 (enc4 h) (over 0 (n ∷ []) reply)) (inr (lit≤ tt))
    ∙ four-over 1 h (over 0 (n ∷ []) reply) (let e = length_over 0 (n ∷ []) reply in omega arith) s

module _ (s : List ℕ) (q : Call) (bytes : all_within 0 255 q.bytes ≡ true) (e : sound s ≡ true) where
  abbrev rs : List Rec
  rs = records s

  abbrev out : Out
  out = step q.bytes q.chip rs

  abbrev Took : Type 0
  Took = Taken s q.bytes q.reply

  -- the call is taken, or refused with the store as it was
  taken_or_not : Took ⊎ ((1 ≤ (answered s q).status) × ((answered s q).store ≡ s))
  taken_or_not =
      answer-is (λ (a : Answer). Took ⊎ ((1 ≤ a.status) × (a.store ≡ s))) s q.bytes q.chip q.reply (λ n r l. inr (l, refl)) (λ T. inl T)

  module _ (T : Took) where
    after_is : records (answered s q).store ≡ out.store
    after_is =
        let G = step_kept s q.bytes q.chip bytes e T.opened in
        ap records (store_is s q.bytes q.chip q.reply T) ∙ records-joined out.store (λ y m. long y (G.alone y m))

    hands : Hands rs out
    hands = step_hands q.bytes q.chip rs (facts_of s e) T.opened

    -- a handle that is given is the outcome's
    told-handle : (h : ℕ) → 1 ≤ h → Gives h s q → (out.handle ≡ h) × Handed rs out
    unfolding written
    told-handle h l G = go hands.given
      where
        read : out.handle < 4294967296 → out.handle ≡ h
        read f =
            sym (reply_handle out.status out.handle out.attestation q.reply T.long f)
            ∙ ap (λ (a : Answer). four 1 a.reply) (sym (taken-answer s q.bytes q.chip q.reply T)) ∙ G.handle

        go : (out.handle ≡ 0) ⊎ Handed rs out → (out.handle ≡ h) × Handed rs out
        go (inl z) = let i = read (omega arith) in absurd (omega arith)
        go (inr H) = (read H.few, H)

  -- what was given before stays so
  past_after : (h : ℕ) → Past h rs → Past h (records (answered s q).store)
  past_after h P = go taken_or_not
    where
      go : Took ⊎ ((1 ≤ (answered s q).status) × ((answered s q).store ≡ s)) → Past h (records (answered s q).store)
      go (inl T) = rw (after_is T) ((hands T).past h P)
      go (inr w) = rw w.1 P

  -- what is given was not given before, and then was
  given_new : (h : ℕ) → 1 ≤ h → Gives h s q → (Past h rs → ⊥) × Past h (records (answered s q).store)
  given_new h l G = go taken_or_not
    where
      go : Took ⊎ ((1 ≤ (answered s q).status) × ((answered s q).store ≡ s)) → (Past h rs → ⊥) × Past h (records (answered s q).store)
      go (inr w) = let z = G.status in let n = w.0 in absurd (omega arith)
      go (inl T) =
          let w = told-handle T h l G in
          let y = w.1.there in
          let i = y.3 ∙ w.0 in
          let K = step_kept s q.bytes q.chip bytes e T.opened in
          ((λ P. w.1.new (subst (λ (n : ℕ). Past n rs) (sym w.0) P)), rw (after_is T) (subst (λ (n : ℕ). Past n out.store) i (there_past out.store K y.0 y.1 y.2)))

-- along the calls
along : (h : ℕ) (s : List ℕ) (qs : List Call) → AreBytes qs → sound s ≡ true → Past h (records s) → (sound (after s qs) ≡ true) × Past h (records (after s qs))
along h s [] b e P = (e, P)
along h s (q ∷ qs) b e P =
    along h (answered s q).store qs b.1 (kept s q.bytes q.chip q.reply b.0 e) (past_after s q b.0 e h P)

pub never_again : NeverAgain
never_again s h e l first between second b G G' =
    let s' = (answered s first).store in
    let w = along h s' between b.1.1 (kept s first.bytes first.chip first.reply b.0 e) (given_new s first b.0 e h l G).1 in
    (given_new (after s' between) second b.1.0 w.0 h l G').0 w.1
