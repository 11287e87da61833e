-- The first close stands. A close that answers 0 leaves its own session open no more, and marks the other's pending on the same key
-- stale; a session so marked, or open no more, never closes with 0 again.
use mathlib.Core.Path.{◌≡◌, refl, sym, ap, ◌∙◌, subst}
use mathlib.Core.Bool.{true}
use mathlib.Core.List.Memᴰ
use mathlib.Core.List.{List, [], ◌∷◌, ◌++◌, map, Memᴰ}
use mathlib.Core.Logic.{◌⊎◌, inl, inr}
use Prim.Native.Nat.{ℕ}
use native.Mathlib.Omega.{arith}
use lib.Dec.{leb}
use borrow.Author.Tests.{leb-true}
use Rattle.paper.specs.Bytes.{byte}
use Rattle.paper.specs.Form.{Rec, ◌equals◌, ◌and◌, ◌or◌, some, test, Fact}
use Rattle.paper.specs.Records.{by_value, records, joined, kind, SESSION, PENDING, operation, block, at}
use Rattle.paper.specs.Sound.{sound}
use Rattle.paper.specs.Closing.{held, stale, closing, holds, pending_on}
use Rattle.paper.specs.Calls.{method, subject, close_in}
use Rattle.paper.specs.Mac.{attestation, close_attested}
use Rattle.paper.specs.Act.{Act, refuse, close as closes, perform}
use Rattle.paper.specs.Sessions.{close_faults, close_session, unfit, close_by}
use Rattle.paper.specs.Answer.{Answer, step, session_step, session_act, is_open}
use Rattle.paper.proofs.Forms.{both, cases}
use Rattle.laws.proofs.Bytes.{split}
use Rattle.laws.proofs.Edits.{stale-mark}
use Rattle.laws.proofs.Fields.{tabled_field}
use Rattle.laws.proofs.Lists.{block_in}
use Rattle.laws.proofs.Stores.{Whole, records-joined, whole_records}
use Rattle.rule.specs.Runs.{Call, answered, after}
use Rattle.rule.specs.Stands.{Holds, IsClose, Closes, NotBoth, FirstStands}
use Rattle.laws.proofs.Methods.{is-session, settled_by_number}
use Rattle.laws.proofs.Losses.{goes_among}
use Rattle.laws.proofs.Facts.{Facts, facts_of}
use Rattle.rule.proofs.Answers.{answer-is}
use Rattle.rule.proofs.SessionHandles.{opened}
use Rattle.rule.proofs.ClosedRecord.{closing_out}
use Rattle.rule.proofs.TwoEffects.{effect_pending}
use Rattle.rule.proofs.SessionFate.{marked, Lost, stained, shut, Fate, holding, lost, Below, Turn, turn_refl, stale-kind, stale-session}
use Rattle.rule.proofs.FateUnderCalls.{turn_step}

-- ---- a close, on records

module _ (c chip : List ℕ) (rs : List Rec) (is-3 : method c ≡ 3) where
  abbrev s : ℕ
  s = subject c

  step_close : step c chip rs ≡ perform s (close_session c chip (block s rs)) rs
  unfolding step session_step session_act
  step_close = rw is-3

  -- a close that answers 0 was fit, and did all that a close does
  close_done : (step c chip rs).status ≡ 0 → (Fact (unfit (block s rs)) → ⊥) × ((step c chip rs).store ≡ map (closing s rs) rs)
  unfolding close_by perform
  close_done = rw step_close (settled_by_number Done (close_faults c chip (close_in c) (by_value (at SESSION s s (block s rs))) (block s rs)) refuse
      (closes (attestation (by_value (at SESSION s s (block s rs))) (close_attested (close_in c)))) refl (λ n l z. absurd (omega arith)) (λ w z. (search, refl)))
    where
      Done : Act → Type 0
      Done act = (perform s act rs).status ≡ 0 → (Fact (unfit (block s rs)) → ⊥) × ((perform s act rs).store ≡ map (closing s rs) rs)

  no_close : Fact (is_open s rs) → Lost s rs → (step c chip rs).status ≡ 0 → ⊥
  no_close o (stained v) z = (close_done z).0 (inr (inr (v.0, block_in s rs v.1 v.2.1.0, (v.2.0, v.2.1.1))))
  no_close o (shut n) z =
      let w = opened s rs o in
      n (at SESSION s s rs, w.there, ((w.kind=, (w.own=, w.session=)), w.state=))

module _ (rs : List Rec) (F : Facts rs) (whole : Whole rs) where
  -- a pending asks for a removal or an unlocking
  pub two_ways : (q : Rec) → Memᴰ q rs → kind q ≡ PENDING → (operation q ≡ 50) ⊎ (operation q ≡ 51)
  two_ways q m k =
      let w = split (leb 50 (byte 1 q)) (leb (byte 1 q) 51) (tabled_field 1 PENDING q k (F.alone q m).tabled) in
      let a = leb-true 50 (byte 1 q) w.0 in
      let b = leb-true (byte 1 q) 51 w.1 in
      cases (operation q equals 50) (λ e. inl e) (λ n. inr (omega arith))

  held-one_way : (a k : ℕ) → Fact (some rs (held a k)) → (holds a 50 rs k ≡ true) ⊎ (holds a 51 rs k ≡ true)
  unfolding holds
  held-one_way a k (p, m, h) = go (two_ways p m h.0)
    where
      go : (operation p ≡ 50) ⊎ (operation p ≡ 51) → (test (some rs (λ q. held a k q and operation q equals 50)) ≡ true) ⊎ (test (some rs (λ q. held a k q and operation q equals 51)) ≡ true)
      go (inl e) = inl ((both (some rs (λ q. held a k q and operation q equals 50))).1 (p, m, (h, e)))
      go (inr e) = inr ((both (some rs (λ q. held a k q and operation q equals 51))).1 (p, m, (h, e)))

  marks_other : (a b k : ℕ) → (a ≡ b → ⊥) → Fact (some rs (held a k)) → Fact (some rs (held b k)) → Lost b (map (closing a rs) rs)
  marks_other a b k ne ha (q, m, h) =
      stained (
        closing a rs q,
        Memᴰ.map (closing a rs) m,
        subst (λ y. Fact (marked b y)) (sym is-stale)
            (stale-kind q ∙ h.0, (stale-session q ∙ h.1.0, stale-mark q (let l = whole q m in omega arith))),
      )
    where
      on : (holds a 50 rs k ≡ true) ⊎ (holds a 51 rs k ≡ true) → Fact (pending_on (holds a 50 rs) q or pending_on (holds a 51 rs) q)
      on (inl e) = inl (h.0, ap (holds a 50 rs) h.1.1.1 ∙ e)
      on (inr e) = inr (h.0, ap (holds a 51 rs) h.1.1.1 ∙ e)

      is-stale : closing a rs q ≡ stale q
      is-stale = closing_out a rs q (λ e. ne (sym e ∙ h.1.0))
          ∙ effect_pending (holds a 50 rs) (holds a 51 rs) rs q (λ g. let w = (goes_among (holds a 50 rs) rs q g).1 in let e = h.0 in omega arith) (on (held-one_way a k ha))

-- ---- along the calls, on bytes

-- the turn that an answer is, of a session whose number was given before
turn-answer : (a : ℕ) (s : List ℕ) (q : Call) → Below a (records s) → Turn a (records s) (records (answered s q).store)
turn-answer a s q b = answer-is (λ (o : Answer). Turn a (records s) (records o.store)) s q.bytes q.chip q.reply
    (λ n r z. turn_refl a (records s) (whole_records s) b)
    (λ w. let t = turn_step a (records s) (whole_records s) b q.bytes q.chip (facts_of s w.sound) w.opened in
    rw (records-joined (step q.bytes q.chip (records s)).store t.whole) t)

-- a close that answers 0, from what store and to what store
record Closed (s : List ℕ) (q : Call) (after : List ℕ) : Type 0 where
  is_sound : sound s ≡ true
  is_on : Fact (is_open (subject q.bytes) (records s))
  zero : (step q.bytes q.chip (records s)).status ≡ 0
  store : after ≡ joined (step q.bytes q.chip (records s)).store

closed_with : (s : List ℕ) (q : Call) → method q.bytes ≡ 3 → (answered s q).status ≡ 0 → Closed s q (answered s q).store
closed_with s q e = answer-is (λ (o : Answer). o.status ≡ 0 → Closed s q o.store) s q.bytes q.chip q.reply
    (λ n r l z. absurd (omega arith)) (λ w z. record { is_sound = w.sound; is_on = w.opened (is-session q.bytes e refl); zero = z; store = refl })

never : (b : ℕ) (s : List ℕ) (qs : List Call) → Below b (records s) → Lost b (records s) → Closes b s qs → ⊥
never b s [] w l c = c
never b s (q ∷ qs) w l (inr c) =
    let t = turn-answer b s q w in
    never b (answered s q).store qs t.below (t.lost' l) c
never b s (q ∷ qs) w l (inl (i, z)) =
    let d = closed_with s q i.0 z in
    no_close q.bytes q.chip (records s) i.0 d.is_on (subst (λ (x : ℕ). Lost x (records s)) (sym i.1) l) d.zero

-- a close of a with 0: b is lost
doomed : (a b k : ℕ) (s : List ℕ) (q : Call) → (a ≡ b → ⊥) → Below b (records s) → Fate a k (records s) → Fate b k (records s) → IsClose a q → (answered s q).status ≡ 0
    → Lost b (records (answered s q).store)
doomed a b k s q ne w fa fb i z = go fa fb
  where
    d : Closed s q (answered s q).store
    d = closed_with s q i.0 z

    t : Turn b (records s) (step q.bytes q.chip (records s)).store
    t = turn_step b (records s) (whole_records s) w q.bytes q.chip (facts_of s d.is_sound) (λ x. d.is_on)

    back : records (answered s q).store ≡ (step q.bytes q.chip (records s)).store
    back = ap records d.store ∙ records-joined (step q.bytes q.chip (records s)).store t.whole

    stood : (step q.bytes q.chip (records s)).store ≡ map (closing a (records s)) (records s)
    stood = (close_done q.bytes q.chip (records s) i.0 d.zero).1 ∙ ap (λ (x : ℕ). map (closing x (records s)) (records s)) i.1

    go : Fate a k (records s) → Fate b k (records s) → Lost b (records (answered s q).store)
    go (lost l) f = absurd (no_close q.bytes q.chip (records s) i.0 d.is_on (subst (λ (x : ℕ). Lost x (records s)) (sym i.1) l) d.zero)
    go (holding h) (lost l) = rw back (t.lost' l)
    go (holding h) (holding h') = rw (back, stood) (marks_other (records s) (facts_of s d.is_sound) (whole_records s) a b k ne h h')

-- both sessions, each holding the key or lost
both_stand : (a b k : ℕ) (s : List ℕ) (qs : List Call) → (a ≡ b → ⊥) → Below a (records s) → Below b (records s) → Fate a k (records s) → Fate b k (records s)
    → Closes a s qs → Closes b s qs → ⊥
both_stand a b k s [] ne wa wb fa fb ca cb = ca
both_stand a b k s (q ∷ qs) ne wa wb fa fb (inl (i, z)) (inl (j, z')) = ne (sym i.1 ∙ j.1)
both_stand a b k s (q ∷ qs) ne wa wb fa fb (inl (i, z)) (inr cb) = never b (answered s q).store qs (turn-answer b s q wb).below (doomed a b k s q ne wb fa fb i z) cb
both_stand a b k s (q ∷ qs) ne wa wb fa fb (inr ca) (inl (j, z)) = never a (answered s q).store qs (turn-answer a s q wa).below (doomed b a k s q (λ e. ne (sym e)) wa fb fa j z) ca
both_stand a b k s (q ∷ qs) ne wa wb fa fb (inr ca) (inr cb) =
    let ta = turn-answer a s q wa in
    let tb = turn-answer b s q wb in
    both_stand a b k (answered s q).store qs ne ta.below tb.below (ta.fate k fa) (tb.fate k fb) ca cb

-- a session that holds a key in a sound store was given its number before
given-before : (s : List ℕ) (a k : ℕ) → sound s ≡ true → Holds a k s → Below a (records s)
given-before s a k e (q, m, h) x mx kx =
    let F = facts_of s e in
    let w = (F.housed q m).session_there (rw h.0 (omega arith, omega arith)) in
    let b = (F.related x mx w.0 w.1).below_counter kx w.2.0 in
    let i = w.2.1.0 ∙ h.1.0 in
    omega arith

pub not_both : NotBoth
not_both s a b k e ne ha hb qs ca cb = both_stand a b k s qs ne (given-before s a k e ha) (given-before s b k e hb) (holding ha) (holding hb) ca cb

-- the close at the end of a list
at_last : (b : ℕ) (s : List ℕ) (qs : List Call) (q : Call) → IsClose b q → (answered (after s qs) q).status ≡ 0 → Closes b s (qs ++ (q ∷ []))
at_last b s [] q i z = inl (i, z)
at_last b s (p ∷ qs) q i z = inr (at_last b (answered s p).store qs q i z)

pub first_stands : FirstStands
first_stands s a b k e ne ha hb first i z between second j z' =
    not_both s a b k e ne ha hb (first ∷ (between ++ (second ∷ []))) (inl (i, z)) (at_last b s (first ∷ between) second j z')
