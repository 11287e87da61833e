-- A new record at a free place: what keeps the store sound.
use mathlib.Core.Path.{◌≡◌, sym, ap, ◌∙◌}
use mathlib.Core.Bool.{true}
use mathlib.Core.List.{List, Memᴰ}
use mathlib.Core.Logic.{◌⊎◌, inl, inr}
use Prim.Native.Nat.{ℕ, suc, ◌+◌, ◌*◌, ◌≤◌}
use native.Mathlib.Omega.{arith}
use Rattle.hmac.specs.Same.{same}
use Rattle.hmac.proofs.Sameness.{same_eq, eq_same}
use Rattle.paper.specs.Limits.{handle_step, pin_width, id_width}
use Rattle.paper.specs.Bytes.{part}
use Rattle.paper.specs.Form.{Rec, Fact}
use Rattle.paper.specs.Records.{kind, SESSION, PUK, POLICY, KEY, PENDING, COUNTER, OPEN, CLOSED, own, session, parent, session_of, state, next_object, next_session, retry_limit, key_errors, key_management, grouping, delete_protection, operation, insert}
use Rattle.paper.specs.Sound.{is_object, has_handle, has_id, is_in, governs, child, session_there, puk_there, policy_there, target_there}
use Rattle.laws.proofs.Inserting.{mem_insert, insert_old, insert_all, pairs-insert}
use Rattle.laws.proofs.Facts.{Alone, Distinct, Related, Housed, Used, Shares, Facts}

pub record Enter (n : Rec) (rs : List Rec) : Type 0 where
  pub sort : (SESSION ≤ kind n) × (kind n ≤ PENDING)
  pub alone : Alone n
  pub fresh : (x : Rec) → Memᴰ x rs → Fact (has_handle x) → own x ≡ own n → ⊥
  pub named : (x : Rec) → Memᴰ x rs → Fact (has_id x) → Fact (has_id n) → session x ≡ session n → part 16 id_width x ≡ part 16 id_width n → ⊥
  pub client : (x : Rec) → Memᴰ x rs → kind x ≡ SESSION → kind n ≡ SESSION → part 49 id_width x ≡ part 49 id_width n → ⊥
  pub held : (x : Rec) → Memᴰ x rs → kind x ≡ PENDING → kind n ≡ PENDING → session x ≡ session n → parent x ≡ parent n → parent n ≡ 0
  -- a new session is open and below the counter; a new object stands in an open session, below its next number
  pub young : kind n ≡ SESSION → state n ≡ OPEN
  pub counted : (x : Rec) → Memᴰ x rs → kind x ≡ COUNTER → kind n ≡ SESSION → suc (own n) ≤ next_session x * handle_step
  pub inside : (x : Rec) → Memᴰ x rs → kind x ≡ SESSION → Fact (is_object n) → session n ≡ own x → (state x ≡ OPEN) × (suc (own n) ≤ own x + next_object x)
  pub home : Fact (session_there rs n)
  pub puk : Fact (puk_there rs n)
  pub policy : Fact (policy_there rs n)
  pub target : Fact (target_there rs n)
  pub under : (x : Rec) → Memᴰ x rs → Fact (governs x n) → (key_errors n ≤ retry_limit x) × (delete_protection n ≡ 2 → parent x ≡ 0 → ⊥)
  pub alike : (p y : Rec) → Memᴰ p rs → Memᴰ y rs → grouping p ≡ 1 → Fact (governs p n) → Fact (governs p y) → part 49 pin_width n ≡ part 49 pin_width y
  pub pinned : (x : Rec) → Memᴰ x rs → kind x ≡ KEY → kind n ≡ PENDING → parent n ≡ own x → operation n ≡ 51 → parent x ≡ 0 → ⊥
  pub managed : (x : Rec) → Memᴰ x rs → kind x ≡ SESSION → kind n ≡ PENDING → (parent n ≡ 0 → ⊥) → own x ≡ session_of (parent n)
      → (state x ≡ CLOSED) × (key_management x ≡ 1)

module _ (n : Rec) (rs : List Rec) (F : Facts rs) (E : Enter n rs) where
  abbrev after : List Rec
  after = insert n rs

  -- nobody stands under the new record, or aims at it
  none_under : (y : Rec) → Memᴰ y rs → kind n ≡ POLICY → kind y ≡ KEY → parent y ≡ own n → ⊥
  none_under y m a b e =
      let o = E.alone.object_carries (omega arith, omega arith) in
      let w = (F.housed y m).policy_there b (λ z. omega arith) in
      let k = w.2.0 in
      let q = w.2.1.0 in
      E.fresh w.0 w.1 (omega arith, omega arith) (omega arith)

  none_aims : (y : Rec) → Memᴰ y rs → kind n ≡ KEY → kind y ≡ PENDING → parent y ≡ own n → ⊥
  none_aims y m a b e =
      let o = E.alone.object_carries (omega arith, omega arith) in
      let w = (F.housed y m).target_there b (λ z. omega arith) in
      let k = w.2.0 in
      let q = w.2.1.0 in
      E.fresh w.0 w.1 (omega arith, omega arith) (omega arith)

  none_in : (y : Rec) → Memᴰ y rs → kind n ≡ SESSION → Fact (is_object y) → session y ≡ own n → ⊥
  none_in y m a b e =
      let w = (F.housed y m).session_there b in
      let k = w.2.0 in
      let q = w.2.1.0 in
      E.fresh w.0 w.1 (omega arith, omega arith) (omega arith)

  none_targets : (y : Rec) → Memᴰ y rs → kind n ≡ SESSION → kind y ≡ PENDING → (parent y ≡ 0 → ⊥) → own n ≡ session_of (parent y) → ⊥
  none_targets y m a b z e =
      let w = (F.housed y m).target_there b z in
      let k = w.2.0 in
      none_in w.0 w.1 a (omega arith, omega arith) (w.2.1.1 ∙ sym e)

  differ : (x : Rec) → Memᴰ x rs → Distinct n x × Distinct x n
  differ x m =
      let s = E.sort in (
        record {
          one_counter = λ a b. omega arith;
          handles_differ = λ a b e. E.fresh x m b (sym e);
          ids_differ = λ a b e q. E.named x m b a (sym e) (sym (same_eq (part 16 id_width n) (part 16 id_width x) q));
          clients_differ = λ a b q. E.client x m b a (sym (same_eq (part 49 id_width n) (part 49 id_width x) q));
          one_pending = λ a b e q. E.held x m b a (sym e) (sym q);
        },
        record {
          one_counter = λ a b. omega arith;
          handles_differ = λ a b e. E.fresh x m a e;
          ids_differ = λ a b e q. E.named x m a b e (same_eq (part 16 id_width x) (part 16 id_width n) q);
          clients_differ = λ a b q. E.client x m a b (same_eq (part 49 id_width x) (part 49 id_width n) q);
          one_pending = λ a b e q. q ∙ E.held x m a b e q;
        },
      )

  to_new : (x : Rec) → Memᴰ x rs → Related x n
  to_new x m =
      let s = E.sort in
      record {
        below_next = λ a o e. (E.inside x m a o e).1;
        below_counter = λ a b. E.counted x m a b;
        puk_for_protection = λ g. (E.under x m g).1;
        key_counts = λ g. (E.under x m g).0;
        paths_set = λ c a e. let o = (E.inside x m c.0 (omega arith, omega arith) e).0 in let t = c.1 in absurd (omega arith);
        pending_open = λ a b e. (E.inside x m a (omega arith, omega arith) e).0;
        target_managed = λ a b z e. E.managed x m a b z e;
        target_pinned = λ a b e t z. E.pinned x m a b e t z;
      }

  from_new : (y : Rec) → Memᴰ y rs → Related n y
  from_new y m =
      let s = E.sort in
      record {
        below_next = λ a o e. absurd (none_in y m a o e);
        below_counter = λ a b. absurd (omega arith);
        puk_for_protection = λ g. absurd (none_under y m g.0 g.1.0 g.1.1.0);
        key_counts = λ g. absurd (none_under y m g.0 g.1.0 g.1.1.0);
        paths_set = λ c a e. absurd (none_in y m c.0 (omega arith, omega arith) e);
        pending_open = λ a b e. absurd (none_in y m a (omega arith, omega arith) e);
        target_managed = λ a b z e. absurd (none_targets y m a b z e);
        target_pinned = λ a b e t z. none_aims y m a b e;
      }

  to_itself : Related n n
  to_itself =
      record {
        below_next = λ a o e. absurd (omega arith);
        below_counter = λ a b. absurd (omega arith);
        puk_for_protection = λ g. let a = g.0 in let b = g.1.0 in absurd (omega arith);
        key_counts = λ g. let a = g.0 in let b = g.1.0 in absurd (omega arith);
        paths_set = λ c a e. let b = c.0 in absurd (omega arith);
        pending_open = λ a b e. absurd (omega arith);
        target_managed = λ a b z e. absurd (omega arith);
        target_pinned = λ a b e t z. omega arith;
      }

  there_still : (k o s : ℕ) → 1 ≤ k → Fact (is_in rs k o s) → Fact (is_in after k o s)
  there_still k o s l w = let e = w.2.0 in (w.0, insert_old n rs w.1 (omega arith), w.2)

  child_still : (k : ℕ) (p : Rec) → 1 ≤ k → Fact (child rs k p) → Fact (child after k p)
  child_still k p l w = let e = w.2.0 in (w.0, insert_old n rs w.1 (omega arith), w.2)

  housed_new : Housed after n
  housed_new =
      record {
        session_there = λ o. there_still SESSION (session n) (session n) (omega arith) (E.home o);
        puk_there = λ a z. there_still PUK (parent n) (session n) (omega arith) (E.puk a z);
        policy_there = λ a z. there_still POLICY (parent n) (session n) (omega arith) (E.policy a z);
        key_there = λ c. let t = c.1 in let o = E.young c.0 in absurd (omega arith);
        target_there = λ a z. there_still KEY (parent n) (session_of (parent n)) (omega arith) (E.target a z);
      }

  housed_old : (y : Rec) → Memᴰ y rs → Housed after y
  housed_old y m =
      let H = F.housed y m in
      record {
        session_there = λ o. there_still SESSION (session y) (session y) (omega arith) (H.session_there o);
        puk_there = λ a z. there_still PUK (parent y) (session y) (omega arith) (H.puk_there a z);
        policy_there = λ a z. there_still POLICY (parent y) (session y) (omega arith) (H.policy_there a z);
        key_there = λ c. let w = H.key_there c in let k = w.2.0 in (w.0, insert_old n rs w.1 (omega arith), w.2);
        target_there = λ a z. there_still KEY (parent y) (session_of (parent y)) (omega arith) (H.target_there a z);
      }

  used_new : (y : Rec) → Used after n y
  used_new y =
      record {
        puk = λ c. let t = c.1 in let o = E.young c.0 in absurd (omega arith);
        policy = λ c. let t = c.1 in let o = E.young c.0 in absurd (omega arith);
      }

  -- a closed session takes no new record
  new_used : (x : Rec) → Memᴰ x rs → Used after x n
  new_used x m =
      record {
        puk = λ c e k. let t = c.1 in let o = (E.inside x m c.0 (omega arith, omega arith) e).0 in absurd (omega arith);
        policy = λ c e k. let t = c.1 in let o = (E.inside x m c.0 (omega arith, omega arith) e).0 in absurd (omega arith);
      }

  used_old : (x : Rec) → Memᴰ x rs → (y : Rec) → Memᴰ y rs → Used after x y
  used_old x mx y my =
      record {
        puk = λ c e k. child_still POLICY y (omega arith) ((F.used x mx y my).puk c e k);
        policy = λ c e k. child_still KEY y (omega arith) ((F.used x mx y my).policy c e k);
      }

  shared : (p x y : Rec) → Memᴰ p after → Memᴰ x after → Memᴰ y after → Shares p x y
  shared p x y mp mx my k g gx gy = whose (mem_insert n rs mp) (mem_insert n rs mx) (mem_insert n rs my)
    where
      equal : part 49 pin_width x ≡ part 49 pin_width y → same (part 49 pin_width x) (part 49 pin_width y) ≡ true
      equal e = eq_same (part 49 pin_width x) (part 49 pin_width y) e

      keys : Memᴰ p rs → (x ≡ n) ⊎ Memᴰ x rs → (y ≡ n) ⊎ Memᴰ y rs → same (part 49 pin_width x) (part 49 pin_width y) ≡ true
      keys ip (inl i) (inl j) = equal (ap (part 49 pin_width) (i ∙ sym j))
      keys ip (inl i) (inr j) = equal (ap (part 49 pin_width) i ∙ E.alike p y ip j g (rw i at gx) gy)
      keys ip (inr i) (inl j) = equal (sym (ap (part 49 pin_width) j ∙ E.alike p x ip i g (rw j at gy) gx))
      keys ip (inr i) (inr j) = F.shares p ip x i y j k g gx gy

      whose : (p ≡ n) ⊎ Memᴰ p rs → (x ≡ n) ⊎ Memᴰ x rs → (y ≡ n) ⊎ Memᴰ y rs → same (part 49 pin_width x) (part 49 pin_width y) ≡ true
      whose (inr ip) ix iy = keys ip ix iy
      whose (inl ip) (inl ix) iy = let a = ap kind ip in let b = ap kind ix in let c = gx.1.0 in absurd (omega arith)
      whose (inl ip) (inr ix) iy = absurd (none_under x ix (sym (ap kind ip) ∙ k) gx.1.0 (gx.1.1.0 ∙ ap own ip))

  pub entered : Facts (insert n rs)
  entered =
      record {
        counter = let c = F.counter in let k = c.2 in (c.0, insert_old n rs c.1 (omega arith), k);
        alone = insert_all Alone n rs E.alone F.alone;
        distinct = pairs-insert Distinct n rs differ F.distinct;
        related =
            insert_all (λ x. (y : Rec) → Memᴰ y after → Related x y) n rs (insert_all (Related n) n rs to_itself from_new)
            (λ x m. insert_all (Related x) n rs (to_new x m) (F.related x m));
        housed = insert_all (Housed after) n rs housed_new housed_old;
        used =
            insert_all (λ x. (y : Rec) → Memᴰ y after → Used after x y) n rs (λ y m. used_new y)
            (λ x m. insert_all (Used after x) n rs (new_used x m) (used_old x m));
        shares = λ p mp x mx y my. shared p x y mp mx my;
      }
