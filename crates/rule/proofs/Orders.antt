-- Two calls on two sessions, in either order: each decides as if it had come first, and the records end the same.
use mathlib.Core.Path.{◌≡◌, refl, sym, ap, ap₂, ◌∙◌, subst}
use mathlib.Core.Bool.{true, false}
use mathlib.Core.List.{List, [], ◌∷◌}
use mathlib.Core.Logic.{◌⊎◌, inl, inr}
use Prim.Native.Nat.{ℕ}
use Prim.Native.String.{String}
use native.Mathlib.Omega.{arith}
use lib.Dec.{lit≤}
use Rattle.paper.specs.Bytes.{all_within}
use Rattle.paper.specs.Form.{Rec, ◌equals◌, ◌or◌, some, Fact}
use Rattle.paper.specs.Records.{records, SESSION, state, session_of, at, block}
use Rattle.paper.specs.Sound.{sound}
use Rattle.paper.specs.Closing.{held}
use Rattle.paper.specs.Calls.{subject, is_session_call, known, post_in, post_form}
use Rattle.paper.specs.Act.{Out, Act, refuse, perform}
use Rattle.paper.specs.Posting.{Look, look, post_as, post_by}
use Rattle.paper.specs.Answer.{Answer, told, written, step, session_step, session_act, is_open}
use Rattle.paper.proofs.Forms.{both, cases}
use Rattle.laws.proofs.Methods.{by_method}
use Rattle.laws.proofs.Choice.{fails, either}
use Rattle.laws.proofs.Handles.{unique}
use Rattle.laws.proofs.Lists.{at_block, at_found}
use Rattle.laws.proofs.Stores.{records-joined, whole_records}
use Rattle.rule.specs.Runs.{Call, answered, after}
use Rattle.rule.specs.Bags.{count, SameRecords}
use Rattle.rule.specs.Orders.{asks, names, object_of, closed_key, Wants, SameReply, SameOutcome, Orders, Apart, OrdersApart}
use Rattle.rule.proofs.Bags.{shuffled}
use Rattle.laws.proofs.Facts.{Facts, facts_of}
use Rattle.rule.proofs.Answers.{refused_with, too_short, answer_short, answer_unknown, answer-shut, answer-step}
use Rattle.rule.proofs.SessionHandles.{opened, object-home}
use Rattle.rule.proofs.KeepsToSession.{KeepsTo, Asking, keeps_to}
use Rattle.rule.proofs.SessionFate.{live, Below}
use Rattle.rule.proofs.FateUnderCalls.{turn_step}
use Rattle.rule.proofs.Rule.{kept}
use Rattle.rule.proofs.ActsAsEdits.{Roomy, outcome, roomy, store_is, reply_is, outcome_opens}
use Rattle.rule.proofs.TwoSessions.{Two, block_a, Sight, sight, held_real, real_b}
use Rattle.rule.proofs.EitherOrder.{same-records}

-- ---- what a call decides

abbrev act_of : Call → List Rec → Act
act_of q rs = session_act q.bytes q.chip (block (subject q.bytes) rs) (look (post_in q.bytes q.chip).key rs)

-- a post that is malformed, or whose key is not there, is refused whatever else it sees
post_same : (op : ℕ) (name : String) (c chip : List ℕ) (blk : List Rec) (l l' : Look) → (Fact (post_form c chip) → Sight l l')
    → post_as op name c chip blk l ≡ post_as op name c chip blk l'
post_same op name c chip blk l l' h = cases (post_form c chip) (λ f. go f (h f)) (λ n. malformed l n ∙ sym (malformed l' n))
  where
    malformed : (l : Look) → (Fact (post_form c chip) → ⊥) → post_as op name c chip blk l ≡ refuse 16
    malformed l n = unfold post_by in rw (fails (post_form c chip) n)

    unseen : (l : Look) → Fact (post_form c chip) → l.there ≡ false → post_as op name c chip blk l ≡ refuse 7
    unseen l f e = unfold post_by in rw ((both (post_form c chip)).1 f, e)

    go : Fact (post_form c chip) → Sight l l' → post_as op name c chip blk l ≡ post_as op name c chip blk l'
    go f (inl e) = ap (post_as op name c chip blk) e
    go f (inr (e, e')) = unseen l f e ∙ sym (unseen l' f e')

act_same : (c chip : List ℕ) (blk blk' : List Rec) (l l' : Look) → Fact (is_session_call c) → blk ≡ blk' → (Asking c chip (post_in c chip).key → Sight l l')
    → session_act c chip blk l ≡ session_act c chip blk' l'
unfolding session_act
act_same c chip blk blk' l l' i e h =
    by_method c
    (record {
      close = λ m. rw (m, e);
      abort = λ m. rw m;
      puk = λ m. rw (m, e);
      policy = λ m. rw (m, e);
      key = λ m. rw (m, e);
      path = λ m. rw (m, e);
      delete = λ m. rw (m, e) (post_same 50 "postDeleteKey" c chip blk' l l' (λ f. h ((inl m, f), refl)));
      unlock = λ m. rw (m, e) (post_same 51 "postUnlockKey" c chip blk' l l' (λ f. h ((inr m, f), refl)));
    })
    i

-- ---- one call, on bytes

-- a call that comes to be looked at
record Live (q : Call) : Type 0 where
  long : too_short q.reply ≡ false
  is_known : Fact (known q.bytes)
  on_session : Fact (is_session_call q.bytes)

record Done (s : List ℕ) (q : Call) : Type 0 where
  status : (answered s q).status ≡ (perform (subject q.bytes) (act_of q (records s)) (records s)).status
  store : records (answered s q).store ≡ (perform (subject q.bytes) (act_of q (records s)) (records s)).store
  reply : (answered s q).reply ≡ written (told (perform (subject q.bytes) (act_of q (records s)) (records s))) q.reply

step-session : (q : Call) (rs : List Rec) → Fact (is_session_call q.bytes) → step q.bytes q.chip rs ≡ perform (subject q.bytes) (act_of q rs) rs
unfolding step session_step
step-session q rs i = rw ((both (is_session_call q.bytes)).1 i)

-- an open session's number was given before
open_below : (s : List ℕ) (a : ℕ) → sound s ≡ true → Fact (is_open a (records s)) → Below a (records s)
open_below s a e o x m k =
    let F = facts_of s e in
    let y = opened a (records s) o in
    let b = (F.related x m (at SESSION a a (records s)) y.there).below_counter k y.kind= in
    let i = y.own= in
    omega arith

done : (s : List ℕ) (q : Call) → sound s ≡ true → Live q → Fact (is_open (subject q.bytes) (records s)) → Done s q
done s q e w o =
    let a = answer-step s q.bytes q.chip q.reply w.long e w.is_known (λ i. o) in
    let i = step-session q (records s) w.on_session in
    let t = turn_step (subject q.bytes) (records s) (whole_records s) (open_below s (subject q.bytes) e o) q.bytes q.chip (facts_of s e) (λ i. o) in
    record {
      status = ap (λ (x : Answer). x.status) a ∙ ap (λ (x : Out). x.status) i;
      store = ap (λ (x : Answer). records x.store) a ∙ records-joined (step q.bytes q.chip (records s)).store t.whole ∙ ap (λ (x : Out). x.store) i;
      reply = ap (λ (x : Answer). x.reply) a ∙ ap (λ (x : Out). written (told x) q.reply) i;
    }

-- calls that are not looked at
data Way (q : Call) : Type 0 where
  short : too_short q.reply ≡ true → Way q
  unknown : too_short q.reply ≡ false → (Fact (known q.bytes) → ⊥) → Way q
  looked : Live q → Way q

way : (q : Call) → Fact (is_session_call q.bytes) → Way q
way q i = either (too_short q.reply) short (λ l. cases (known q.bytes) (λ k. looked (record { long = l; is_known = k; on_session = i })) (λ n. unknown l n))

-- ---- outcomes

same_list : (xs ys : List Rec) → xs ≡ ys → SameRecords xs ys
same_list xs ys e = record { counts = λ p. ap (count p) e }

turn-outcome : (s : List ℕ) (p q : Call) → SameOutcome s p q → SameOutcome s q p
turn-outcome s p q w =
    let c : SameRecords (records (after s (q ∷ p ∷ []))) (records (after s (p ∷ q ∷ []))) = record { counts = λ t. sym (w.counted.counts t) } in
    record {
      first = record { status = sym w.second.status; reply = sym w.second.reply };
      second = record { status = sym w.first.status; reply = sym w.first.reply };
      counted = c;
      shuffled = shuffled (records (after s (q ∷ p ∷ []))) (records (after s (p ∷ q ∷ []))) c;
    }

-- a call that changes nothing and is answered alike
idle : (s : List ℕ) (p q : Call) → (answered s p).store ≡ s → (answered (answered s q).store p).store ≡ (answered s q).store → SameReply s (answered s q).store p → SameOutcome s p q
idle s p q e e' r =
    let c = same_list (records (after s (p ∷ q ∷ []))) (records (after s (q ∷ p ∷ []))) (ap (λ (t : List ℕ). records (answered t q).store) e ∙ ap records (sym e')) in
    record {
      first = r;
      second = record { status = ap (λ (t : List ℕ). (answered t q).status) e; reply = ap (λ (t : List ℕ). (answered t q).reply) e };
      counted = c;
      shuffled = shuffled (records (after s (p ∷ q ∷ []))) (records (after s (q ∷ p ∷ []))) c;
    }

-- the same answer but for the store, which stays
idle_by : (s : List ℕ) (p q : Call) (n : ℕ) (r : List ℕ) → answered s p ≡ record { status = n; store = s; reply = r }
    → answered (answered s q).store p ≡ record { status = n; store = (answered s q).store; reply = r } → SameOutcome s p q
idle_by s p q n r e e' = idle s p q (ap (λ (x : Answer). x.store) e) (ap (λ (x : Answer). x.store) e')
    (record { status = ap (λ (x : Answer). x.status) e ∙ sym (ap (λ (x : Answer). x.status) e'); reply = ap (λ (x : Answer). x.reply) e ∙ sym (ap (λ (x : Answer). x.reply) e') })

-- a session that a sound store has open
open_of : (rs : List Rec) → Facts rs → (a : ℕ) → Fact (some rs (live a)) → Fact (is_open a rs)
open_of rs F a (x, m, p) =
    let w = at_found SESSION a a rs (x, m, p.0) in
    ap state (unique rs F (at SESSION a a rs) x w.0 m (rw w.1.0 (lit≤ tt, lit≤ tt)) (rw p.0.0 (lit≤ tt, lit≤ tt)) (w.1.1.0 ∙ sym p.0.1.0)) ∙ p.1

live_of : (rs : List Rec) (a : ℕ) → Fact (is_open a rs) → Fact (some rs (live a))
live_of rs a o = let w = opened a rs o in (at SESSION a a rs, w.there, ((w.kind=, (w.own=, w.session=)), w.state=))

real_asks : (r : Call) (k : ℕ) → (k ≡ 0 → ⊥) → Asking r.bytes r.chip k → Fact (asks r k)
real_asks r k z ((i, f), e) = (i, (f, (e, z)))

wants : (s : List ℕ) (r : Call) (t k : ℕ) → (k ≡ 0 → ⊥) → Fact (some (records s) (held t k)) ⊎ Asking r.bytes r.chip k → Wants t r k s
wants s r t k z (inl h) = inl h
wants s r t k z (inr w) = inr (real_asks r k z w)

swap_apart : (s : List ℕ) (a b : ℕ) (p q : Call) → Apart s a b p q → Apart s b a q p
swap_apart s a b p q X =
    record {
      is_sound = X.is_sound;
      different = λ e. X.different (sym e);
      on_a = X.on_b;
      on_b = X.on_a;
      far_a = X.far_b;
      far_b = X.far_a;
      not_both = λ k x y. X.not_both k y x;
      room_ab = X.room_ba;
      room_ba = X.room_ab;
    }

reply_same : (x y : Out) (r : List ℕ) → x.status ≡ y.status → x.handle ≡ y.handle → x.attestation ≡ y.attestation → written (told x) r ≡ written (told y) r
unfolding written
reply_same x y r e f g = rw (e, f, g)

kept_by : (s : List ℕ) (q : Call) → all_within 0 255 q.bytes ≡ true → sound s ≡ true → sound (answered s q).store ≡ true
kept_by s q w e = kept s q.bytes q.chip q.reply w e

-- ---- both sessions open: p after q
module _ (s : List ℕ) (p q : Call) (X : Apart s (subject p.bytes) (subject q.bytes) p q) (lp : Live p) (lq : Live q)
    (oa : Fact (is_open (subject p.bytes) (records s))) (ob : Fact (is_open (subject q.bytes) (records s))) where
  abbrev a : ℕ
  a = subject p.bytes

  abbrev b : ℕ
  b = subject q.bytes

  abbrev rs : List Rec
  rs = records s

  abbrev s_b : List ℕ
  s_b = (answered s q).store

  abbrev wp : ℕ → Type 0
  wp = Asking p.bytes p.chip

  abbrev wq : ℕ → Type 0
  wq = Asking q.bytes q.chip

  abbrev A : Act
  A = act_of p rs

  abbrev B : Act
  B = act_of q rs

  F : Facts rs
  F = facts_of s X.is_sound

  two : Two rs a b wp wq
  two =
      record {
        facts = F;
        whole = whole_records s;
        other = X.different;
        open_a = oa;
        open_b = ob;
        apart = λ k z x y. X.not_both k (wants s p a k z x) (wants s q b k z y);
      }

  t_a : KeepsTo a wp A
  t_a = keeps_to p.bytes p.chip rs F oa lp.on_session

  t_b : KeepsTo b wq B
  t_b = keeps_to q.bytes q.chip rs F ob lq.on_session

  done_q : Done s q
  done_q = done s q X.is_sound lq ob

  done_p : Done s p
  done_p = done s p X.is_sound lp oa

  room_b : Roomy B rs
  room_b = roomy b B rs (λ e. X.room_ba.at_first (done_q.status ∙ e))

  room_a : Roomy A rs
  room_a = roomy a A rs (λ e. X.room_ab.at_first (done_p.status ∙ e))

  store_q : records s_b ≡ outcome b B rs
  store_q = done_q.store ∙ store_is b B rs room_b

  open_after : Fact (is_open a (records s_b))
  open_after = ap state (ap (at SESSION a a) store_q ∙ sym (at_block SESSION a a (outcome b B rs)) ∙ ap (at SESSION a a) (block_a rs a b wp wq two B t_b) ∙ at_block SESSION a a rs) ∙ oa

  -- p decides as it would have at first
  act_after : act_of p (records s_b) ≡ A
  act_after = ap (act_of p) store_q ∙ sym (act_same p.bytes p.chip (block a rs) (block a (outcome b B rs)) (look k rs) (look k (outcome b B rs)) lp.on_session
      (sym (block_a rs a b wp wq two B t_b)) seen)
    where
      k : ℕ
      k = (post_in p.bytes p.chip).key

      seen : wp k → Sight (look k rs) (look k (outcome b B rs))
      seen w = cases (k equals 0)
          (λ z. sight rs a b wp wq two B t_b k (λ e. far z e) (λ h. held_real rs F b k h z))
          (λ n. sight rs a b wp wq two B t_b k (X.far_a k (real_asks p k n w)) (λ h. X.not_both k (inr (real_asks p k n w)) (inl h)))
        where
          far : k ≡ 0 → session_of k ≡ b → ⊥
          far z e = real_b rs a b wp wq two (sym e ∙ ap session_of z)

  done-after : Done s_b p
  done-after = done s_b p (kept_by s q X.on_b.are_bytes X.is_sound) lp open_after

  performed : perform a (act_of p (records s_b)) (records s_b) ≡ perform a A (outcome b B rs)
  performed = ap₂ (perform a) act_after store_q

  room_after : Roomy A (outcome b B rs)
  room_after = roomy a A (outcome b B rs) (λ e. X.room_ba.at_second (done-after.status ∙ ap (λ (o : Out). o.status) performed ∙ e))

  reply_after : SameReply s s_b p
  reply_after =
      let r = reply_is a A rs (outcome b B rs) room_a room_after in
      record {
        status = done_p.status ∙ r.0 ∙ sym (done-after.status ∙ ap (λ (o : Out). o.status) performed);
        reply = done_p.reply ∙ reply_same (perform a A rs) (perform a A (outcome b B rs)) p.reply r.0 r.1 r.2
            ∙ sym (done-after.reply ∙ ap (λ (o : Out). written (told o) p.reply) performed);
      }

  store_after : records (after s (q ∷ p ∷ [])) ≡ outcome a A (outcome b B rs)
  store_after = done-after.store ∙ ap (λ (o : Out). o.store) performed ∙ store_is a A (outcome b B rs) room_after

both_open : (s : List ℕ) (p q : Call) → Apart s (subject p.bytes) (subject q.bytes) p q → Live p → Live q
    → Fact (is_open (subject p.bytes) (records s)) → Fact (is_open (subject q.bytes) (records s)) → SameOutcome s p q
both_open s p q X lp lq oa ob =
    let Y = swap_apart s (subject p.bytes) (subject q.bytes) p q X in
    let r = reply_after s q p Y lq lp ob oa in
    record {
      first = reply_after s p q X lp lq oa ob;
      second = record { status = sym r.status; reply = sym r.reply };
      counted = same;
      shuffled = shuffled (records (after s (p ∷ q ∷ []))) (records (after s (q ∷ p ∷ []))) same;
    }
  where
    a : ℕ
    a = subject p.bytes

    b : ℕ
    b = subject q.bytes

    Y : Apart s (subject q.bytes) (subject p.bytes) q p
    Y = swap_apart s (subject p.bytes) (subject q.bytes) p q X

    same : SameRecords (records (after s (p ∷ q ∷ []))) (records (after s (q ∷ p ∷ [])))
    same = rw (store_after s q p Y lq lp ob oa, store_after s p q X lp lq oa ob)
        (same-records (records s) a b (Asking p.bytes p.chip) (Asking q.bytes q.chip) (two s p q X lp lq oa ob) (act_of p (records s)) (act_of q (records s))
        (t_a s p q X lp lq oa ob) (t_b s p q X lp lq oa ob) (room_a s p q X lp lq oa ob) (room_b s p q X lp lq oa ob) (room_after s q p Y lq lp ob oa) (room_after s p q X lp lq oa ob))

-- ---- p's session is not open: it stays so

still_shut : (s : List ℕ) (p q : Call) → Apart s (subject p.bytes) (subject q.bytes) p q → Live q → (Fact (is_open (subject p.bytes) (records s)) → ⊥)
    → Fact (is_open (subject p.bytes) (records (answered s q).store)) → ⊥
still_shut s p q X lq na o = cases (is_open b (records s)) opened_b (λ nb. na
    (subst (λ (t : List ℕ). Fact (is_open a (records t))) (ap (λ (x : Answer). x.store) (answer-shut s q.bytes q.chip q.reply lq.long X.is_sound lq.is_known lq.on_session nb)) o))
  where
    a : ℕ
    a = subject p.bytes

    b : ℕ
    b = subject q.bytes

    opened_b : Fact (is_open b (records s)) → ⊥
    opened_b ob =
        let F = facts_of s X.is_sound in
        let d = done s q X.is_sound lq ob in
        let B = act_of q (records s) in
        let r = roomy b B (records s) (λ e. X.room_ba.at_first (d.status ∙ e)) in
        let l = subst (λ (l : List Rec). Fact (some l (live a))) (d.store ∙ store_is b B (records s) r) (live_of (records (answered s q).store) a o) in
        na (open_of (records s) F a (outcome_opens b a (Asking q.bytes q.chip) (records s) (whole_records s) B (keeps_to q.bytes q.chip (records s) F ob lq.on_session) l))

shut_first : (s : List ℕ) (p q : Call) → Apart s (subject p.bytes) (subject q.bytes) p q → Live p → Live q
    → (Fact (is_open (subject p.bytes) (records s)) → ⊥) → SameOutcome s p q
shut_first s p q X lp lq na = idle_by s p q 5 (refused_with 5 [] p.reply).reply
    (answer-shut s p.bytes p.chip p.reply lp.long X.is_sound lp.is_known lp.on_session na)
    (answer-shut (answered s q).store p.bytes p.chip p.reply lp.long (kept_by s q X.on_b.are_bytes X.is_sound) lp.is_known lp.on_session (still_shut s p q X lq na))

-- ---- every case

idle_way : (s : List ℕ) (p q : Call) → sound s ≡ true → sound (answered s q).store ≡ true → Way p → (Live p → SameOutcome s p q) → SameOutcome s p q
idle_way s p q e e' (short l) h = idle_by s p q 21 p.reply (answer_short s p.bytes p.chip p.reply l) (answer_short (answered s q).store p.bytes p.chip p.reply l)
idle_way s p q e e' (unknown l n) h = idle_by s p q 16 (refused_with 16 [] p.reply).reply (answer_unknown s p.bytes p.chip p.reply l e n)
    (answer_unknown (answered s q).store p.bytes p.chip p.reply l e' n)
idle_way s p q e e' (looked w) h = h w

handled : (s : List ℕ) (p q : Call) → Apart s (subject p.bytes) (subject q.bytes) p q → SameOutcome s p q
handled s p q X =
    idle_way s p q X.is_sound (kept_by s q X.on_b.are_bytes X.is_sound) (way p X.on_a.on_session) (λ lp.
    turn-outcome s q p (idle_way s q p X.is_sound (kept_by s p X.on_a.are_bytes X.is_sound) (way q X.on_b.on_session) (λ lq.
    turn-outcome s p q (cases (is_open (subject p.bytes) (records s))
    (λ oa. cases (is_open (subject q.bytes) (records s)) (λ ob. both_open s p q X lp lq oa ob)
    (λ nb. turn-outcome s q p (shut_first s q p (swap_apart s (subject p.bytes) (subject q.bytes) p q X) lq lp nb)))
    (λ na. shut_first s p q X lp lq na)))))

pub orders_apart : OrdersApart
orders_apart s a b p q X = handled s p q
    (subst (λ (x : ℕ). Apart s x (subject q.bytes) p q) (sym X.on_a.its_handle) (subst (λ (x : ℕ). Apart s a x p q) (sym X.on_b.its_handle) X))

-- ---- the demand's words

-- an own object, or a key of a closed session, is not of another open session
far : (s : List ℕ) (a b : ℕ) (p : Call) → sound s ≡ true → (a ≡ b → ⊥) → Fact (is_open b (records s))
    → ((h : ℕ) → Fact (names p h) → Fact (object_of a h (records s) or closed_key h (records s)))
    → (k : ℕ) → Fact (asks p k) → session_of k ≡ b → ⊥
far s a b p e ne ob n k w i = go (n k (asks-names w))
  where
    asks-names : Fact (asks p k) → Fact (names p k)
    asks-names v = inr (inr (inr v))

    F : Facts (records s)
    F = facts_of s e

    go : Fact (object_of a k (records s) or closed_key k (records s)) → ⊥
    go (inl (x, m, (o, (j, t)))) = ne (sym t ∙ sym (object-home (records s) F x m o).0 ∙ ap session_of j ∙ i)
    go (inr (x, m, (kx, (j, (y, my, ((ky, cy), oy)))))) =
        let w = opened b (records s) ob in
        let t = (object-home (records s) F x m (rw kx (lit≤ tt, lit≤ tt))).0 in
        let one = unique (records s) F y (at SESSION b b (records s)) my w.there (rw ky (lit≤ tt, lit≤ tt)) (rw w.kind= (lit≤ tt, lit≤ tt))
        (oy ∙ sym t ∙ ap session_of j ∙ i ∙ sym w.own=) in
        let z = sym (ap state one) ∙ cy in
        let z' = w.state= in
        omega arith

pub orders : Orders
orders s a b p q P = orders_apart s a b p q
    (record {
      is_sound = P.is_sound;
      different = P.different;
      on_a = P.on_a;
      on_b = P.on_b;
      far_a = far s a b p P.is_sound P.different P.open_b P.names_a;
      far_b = far s b a q P.is_sound (λ e. P.different (sym e)) P.open_a P.names_b;
      not_both = P.not_both;
      room_ab = P.room_ab;
      room_ba = P.room_ba;
    })
