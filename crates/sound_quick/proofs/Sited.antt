-- Where each record stands to its neighbours as it should, the whole store does: who names a record by its handle names one alone, so a
-- clause about two records concerns only the neighbour that was shown.
use mathlib.Core.Path.{◌≡◌, sym, ap, subst, ◌∙◌}
use mathlib.Core.Bool.{true}
use mathlib.Core.List.{List, [], Memᴰ}
use mathlib.Core.Logic.{◌⊎◌, inl, inr}
use Prim.Native.Nat.{ℕ, suc, ◌≤◌, ◌<◌}
use native.Mathlib.Omega.{arith}
use lib.ListN.{length, get_or}
use Rattle.hmac.proofs.Sameness.{same_eq, eq_same}
use Rattle.paper.specs.Limits.{pin_width}
use Rattle.paper.specs.Bytes.{part}
use Rattle.paper.specs.Form.{Rec, ◌=<◌, Fact, Pairs, test}
use Rattle.paper.specs.Records.{kind, SESSION, PUK, POLICY, KEY, PENDING, COUNTER, own, session, parent, session_of, grouping}
use Rattle.paper.specs.Sound.{is_object, has_handle, has_counter, closed, governs, related, Sound}
use Rattle.paper.proofs.Forms.{cases}
use Rattle.laws.proofs.Lists.{pairs_cases}
use Rattle.laws.proofs.Facts.{Alone, Distinct, Related, Housed, Used, Shares, related_of, reify}
use Rattle.sound_quick.specs.Near.{session_near, object_near, child_near, puk_near, policy_near, target_near, near, Sited}
use Rattle.sound_quick.proofs.Places.{stands, found, apart_at, there_at}

-- what one record asks of its neighbours, by name
record Near (c x p t k q y : Rec) : Type 0 where
  session : Fact (session_near c k y)
  home : Fact (object_near x y)
  policy_under : Fact (child_near x k y PUK POLICY)
  key_under : Fact (child_near x k y POLICY KEY)
  puk : Fact (puk_near p y)
  policy : Fact (policy_near p q y)
  target : Fact (target_near p t y)

near_of : {c x p t k q y : Rec} → Fact (near c x p t k q y) → Near c x p t k q y
near_of (session, (home, (policy_under, (key_under, (puk, (policy, target)))))) =
    record { session = session; home = home; policy_under = policy_under; key_under = key_under; puk = puk; policy = policy; target = target }

module _ (rs : List Rec) (A : (r : Rec) → Memᴰ r rs → Alone r) (D : Pairs Distinct rs) where
  mem : (i : ℕ) → 1 ≤ kind (get_or rs i []) → Memᴰ (get_or rs i []) rs
  mem i k = stands rs i (there_at rs i k)

  -- two records that cannot stand at different places are one
  one : (x y : Rec) → Memᴰ x rs → Memᴰ y rs → (Distinct x y → ⊥) → (Distinct y x → ⊥) → x ≡ y
  one x y mx my n o = go (pairs_cases Distinct rs D x y mx my)
    where
      go : (x ≡ y) ⊎ (Distinct x y ⊎ Distinct y x) → x ≡ y
      go (inl q) = q
      go (inr (inl d)) = absurd (n d)
      go (inr (inr d)) = absurd (o d)

  unique : (x y : Rec) → Memᴰ x rs → Memᴰ y rs → Fact (has_handle x) → Fact (has_handle y) → own x ≡ own y → x ≡ y
  unique x y mx my a b e = one x y mx my (λ d. d.handles_differ a b e) (λ d. d.handles_differ b a (sym e))

  one-counter : (x y : Rec) → Memᴰ x rs → Memᴰ y rs → kind x ≡ COUNTER → kind y ≡ COUNTER → x ≡ y
  one-counter x y mx my a b = one x y mx my (λ d. d.one_counter a b) (λ d. d.one_counter b a)

  one_place : (i j : ℕ) → i < length rs → j < length rs → Fact (has_handle (get_or rs i [])) → Fact (has_handle (get_or rs j [])) → own (get_or rs i []) ≡ own (get_or rs j []) → i ≡ j
  one_place i j li lj a b e = cases (suc i =< j)
      (λ l. absurd ((apart_at Distinct rs D i j l lj).handles_differ a b e))
      (λ n. cases (suc j =< i) (λ l. absurd ((apart_at Distinct rs D j i l li).handles_differ b a (sym e))) (λ m. omega arith))

  -- an object's handle is not 0
  handled : (x : Rec) → Memᴰ x rs → Fact (is_object x) → 1 ≤ own x
  handled x m o = let w = ((A x m).object_carries o).0 in omega arith

  module _ (m : ℕ) (up over under : ℕ → ℕ) (S : Sited rs m up over under) where
    N : (i : ℕ) → i < length rs → Near (get_or rs m []) (get_or rs (up i) []) (get_or rs (over i) []) (get_or rs (up (over i)) []) (get_or rs (under i) []) (get_or rs (under (over i)) []) (get_or rs i [])
    N i l = near_of (S i l)

    module _ (i : ℕ) (l : i < length rs) where
      -- a clause about x and the record here concerns x alone: the session that was shown,
      by_session : (x : Rec) → Memᴰ x rs → kind x ≡ SESSION → Fact (is_object (get_or rs i [])) → session (get_or rs i []) ≡ own x → x ≡ get_or rs (up i) []
      by_session x mx kx o e =
          let w = (N i l).home o in
          let k = w.0.0 in
          unique x (get_or rs (up i) []) mx (mem (up i) (omega arith)) (omega arith, omega arith) (omega arith, omega arith) (sym e ∙ sym w.0.1.0)

      of_session_lem : (x : Rec) → Memᴰ x rs → kind x ≡ SESSION → Fact (is_object (get_or rs i [])) → session (get_or rs i []) ≡ own x → Related x (get_or rs i [])
      of_session_lem x mx kx o e = related_of x _ (subst (λ z. Fact (related z (get_or rs i []))) (sym (by_session x mx kx o e)) ((N i l).home o).1)

      -- the counter,
      of_counter : (x : Rec) → Memᴰ x rs → kind x ≡ COUNTER → kind (get_or rs i []) ≡ SESSION → Related x (get_or rs i [])
      of_counter x mx kx ky =
          let w = (N i l).session ky in
          let k = w.0 in
          related_of x _ (subst (λ z. Fact (related z (get_or rs i []))) (sym (one-counter x (get_or rs m []) mx (mem m (omega arith)) kx w.0)) w.1.0)

      -- the policy,
      by_policy : (x : Rec) → Memᴰ x rs → Fact (governs x (get_or rs i [])) → (parent (get_or rs i []) ≡ 0 → ⊥) × (x ≡ get_or rs (over i) [])
      by_policy x mx g =
          let kx = g.0 in
          let h = handled x mx (omega arith, omega arith) in
          let e = g.1.1.0 in
          let n : parent (get_or rs i []) ≡ 0 → ⊥ = λ z. omega arith in
          let w = (N i l).policy g.1.0 n in
          let k = w.0.0 in
          (n, unique x (get_or rs (over i) []) mx (mem (over i) (omega arith)) (omega arith, omega arith) (omega arith, omega arith) (sym e ∙ sym w.0.1.0))

      of_policy_lem : (x : Rec) → Memᴰ x rs → Fact (governs x (get_or rs i [])) → Related x (get_or rs i [])
      of_policy_lem x mx g =
          let p = by_policy x mx g in
          related_of x _ (subst (λ z. Fact (related z (get_or rs i []))) (sym p.1) ((N i l).policy g.1.0 p.0).1.0)

      -- the target's session and the target.
      of_target-session : (x : Rec) → Memᴰ x rs → kind x ≡ SESSION → kind (get_or rs i []) ≡ PENDING → (parent (get_or rs i []) ≡ 0 → ⊥) → own x ≡ session_of (parent (get_or rs i [])) → Related x (get_or rs i [])
      of_target-session x mx kx ky n e =
          let w = ((N i l).target ky n).1.1 in
          let k = w.0.0 in
          let q = unique x (get_or rs (up (over i)) []) mx (mem (up (over i)) (omega arith)) (omega arith, omega arith) (omega arith, omega arith) (e ∙ sym w.0.1.0) in
          related_of x _ (subst (λ z. Fact (related z (get_or rs i []))) (sym q) w.1)

      of_target : (x : Rec) → Memᴰ x rs → kind x ≡ KEY → kind (get_or rs i []) ≡ PENDING → parent (get_or rs i []) ≡ own x → Related x (get_or rs i [])
      of_target x mx kx ky e =
          let h = handled x mx (omega arith, omega arith) in
          let w = (N i l).target ky (λ z. omega arith) in
          let k = w.0.0 in
          let q = unique x (get_or rs (over i) []) mx (mem (over i) (omega arith)) (omega arith, omega arith) (omega arith, omega arith) (sym e ∙ sym w.0.1.0) in
          related_of x _ (subst (λ z. Fact (related z (get_or rs i []))) (sym q) w.1.0)

      related_here : (x : Rec) → Memᴰ x rs → Related x (get_or rs i [])
      related_here x mx =
          record {
            below_next = λ k o e. (of_session_lem x mx k o e).below_next k o e;
            below_counter = λ k j. (of_counter x mx k j).below_counter k j;
            puk_for_protection = λ g. (of_policy_lem x mx g).puk_for_protection g;
            key_counts = λ g. (of_policy_lem x mx g).key_counts g;
            paths_set = λ c k e. (of_session_lem x mx c.0 (omega arith, omega arith) e).paths_set c k e;
            pending_open = λ k j e. (of_session_lem x mx k (omega arith, omega arith) e).pending_open k j e;
            target_managed = λ k j n e. (of_target-session x mx k j n e).target_managed k j n e;
            target_pinned = λ k j e. (of_target x mx k j e).target_pinned k j e;
          }

      housed_here : Housed rs (get_or rs i [])
      housed_here =
          record {
            session_there = λ o. let w = ((N i l).home o).0 in let k = w.0 in (get_or rs (up i) [], mem (up i) (omega arith), w);
            puk_there = λ k n. let w = (N i l).puk k n in let j = w.0 in (get_or rs (over i) [], mem (over i) (omega arith), w);
            policy_there = λ k n. let w = ((N i l).policy k n).0 in let j = w.0 in (get_or rs (over i) [], mem (over i) (omega arith), w);
            key_there = λ c. let w = ((N i l).session c.0).1.1 c in let j = w.0 in (get_or rs (under i) [], mem (under i) (omega arith), w);
            target_there = λ k n. let w = ((N i l).target k n).0 in let j = w.0 in (get_or rs (over i) [], mem (over i) (omega arith), w);
          }

      used_here : (x : Rec) → Memᴰ x rs → Used rs x (get_or rs i [])
      used_here x mx =
          record {
            puk = λ c e k. let w = (N i l).policy_under k (shut c e (omega arith, omega arith)) in let j = w.0 in (get_or rs (under i) [], mem (under i) (omega arith), w);
            policy = λ c e k. let w = (N i l).key_under k (shut c e (omega arith, omega arith)) in let j = w.0 in (get_or rs (under i) [], mem (under i) (omega arith), w);
          }
        where
          shut : Fact (closed x) → session (get_or rs i []) ≡ own x → Fact (is_object (get_or rs i [])) → Fact (closed (get_or rs (up i) []))
          shut c e o = subst (λ z. Fact (closed z)) (by_session x mx c.0 o e) c

    -- Two keys of one policy were shown it at one place, and so one key whose PIN both have.
    shares_here : (i j : ℕ) → i < length rs → j < length rs → (p : Rec) → Memᴰ p rs → Shares p (get_or rs i []) (get_or rs j [])
    shares_here i j li lj p mp kp gp gi gj =
        let a = by_policy i li p mp gi in
        let b = by_policy j lj p mp gj in
        let wi = (N i li).policy gi.1.0 a.0 in
        let wj = (N j lj).policy gj.1.0 b.0 in
        let ki = wi.0.0 in
        let kj = wj.0.0 in
        let here : over i ≡ over j = one_place (over i) (over j) (there_at rs (over i) (omega arith)) (there_at rs (over j) (omega arith)) (omega arith, omega arith) (omega arith, omega arith) (ap own (sym a.1 ∙ b.1)) in
        let si = same_eq _ _ (wi.1.1 (subst (λ z. grouping z ≡ 1) a.1 gp)) in
        let sj = same_eq _ _ (wj.1.1 (subst (λ z. grouping z ≡ 1) b.1 gp)) in
        eq_same _ _ (sym si ∙ ap (λ o. part 49 pin_width (get_or rs (under o) [])) here ∙ sj)

    -- All clauses of soundness hold.
    pub sited_sound : Fact (has_counter rs) → test (Sound rs) ≡ true
    sited_sound c =
        reify rs
        record {
          counter = c;
          alone = A;
          distinct = D;
          related = λ x mx y my. let w = found rs my in subst (λ z. Related x z) w.2 (related_here w.0 w.1 x mx);
          housed = λ y my. let w = found rs my in subst (λ z. Housed rs z) w.2 (housed_here w.0 w.1);
          used = λ x mx y my. let w = found rs my in subst (λ z. Used rs x z) w.2 (used_here w.0 w.1 x mx);
          shares = λ p mp x mx y my.
              let v = found rs mx in
              let w = found rs my in
              subst (λ z. Shares p z y) v.2 (subst (λ z. Shares p (get_or rs v.0 []) z) w.2 (shares_here v.0 w.0 v.1 w.1 p mp));
        }
