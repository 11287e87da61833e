-- A store in which each record is freed or edited by itself: what keeps it sound, in fourteen short facts.
use mathlib.Core.Path.{◌≡◌, sym, ap, ◌∙◌}
use mathlib.Core.Bool.{true}
use mathlib.Core.List.Memᴰ
use mathlib.Core.List.{List, map, Memᴰ}
use mathlib.Core.Logic.{◌⊎◌, inl, inr}
use Prim.Native.Nat.{◌≤◌}
use native.Mathlib.Omega.{arith}
use Rattle.hmac.specs.Same.{same}
use Rattle.paper.specs.Limits.{pin_width}
use Rattle.paper.specs.Bytes.{part}
use Rattle.paper.specs.Form.{Rec, Fact}
use Rattle.paper.specs.Records.{kind, SESSION, PUK, POLICY, KEY, PENDING, COUNTER, OPEN, CLOSED, own, session, parent, session_of, state, retry_limit, key_errors, key_management, grouping, path_set, operation, zeros}
use Rattle.paper.specs.Sound.{is_object, is_in, governs}
use Rattle.laws.proofs.Inserting.{byte-zeros}
use Rattle.laws.proofs.Lists.{map_all, pairs-map}
use Rattle.laws.proofs.Facts.{Alone, Distinct, Related, Housed, Used, Shares, Facts}
use Rattle.rule.proofs.Kin.{Kin}

pub record Edit (f : Rec → Rec) (rs : List Rec) : Type 0 where
  pub fate : (x : Rec) → Memᴰ x rs → (f x ≡ zeros) ⊎ Kin x (f x)
  pub alone : (x : Rec) → Memᴰ x rs → Alone (f x)
  pub counter : (x : Rec) → Memᴰ x rs → kind x ≡ COUNTER → Kin x (f x)
  pub counts : (x y : Rec) → Memᴰ x rs → Memᴰ y rs → Fact (governs x y) → key_errors (f y) ≤ retry_limit x
  pub pins : (p x y : Rec) → Memᴰ p rs → Memᴰ x rs → Memᴰ y rs → grouping p ≡ 1
      → Fact (governs p x) → Kin x (f x) → Fact (governs p y) → Kin y (f y) → same (part 49 pin_width (f x)) (part 49 pin_width (f y)) ≡ true
  pub paths : (x y : Rec) → Memᴰ x rs → Memᴰ y rs → kind x ≡ SESSION → state (f x) ≡ CLOSED → kind y ≡ KEY → session y ≡ own x
      → Kin x (f x) → Kin y (f y) → path_set (f y) ≡ 1
  pub opens : (x y : Rec) → Memᴰ x rs → Memᴰ y rs → kind x ≡ SESSION → kind y ≡ PENDING → session y ≡ own x
      → Kin x (f x) → Kin y (f y) → state (f x) ≡ OPEN
  -- who stays while another does
  pub home : (x y : Rec) → Memᴰ x rs → Memᴰ y rs → kind x ≡ SESSION → Fact (is_object y) → own x ≡ session y → Kin y (f y) → Kin x (f x)
  pub puk : (x y : Rec) → Memᴰ x rs → Memᴰ y rs → kind x ≡ PUK → kind y ≡ POLICY → own x ≡ parent y → session x ≡ session y → Kin y (f y)
      → Kin x (f x)
  pub policy : (x y : Rec) → Memᴰ x rs → Memᴰ y rs → kind x ≡ POLICY → kind y ≡ KEY → own x ≡ parent y → session x ≡ session y → Kin y (f y)
      → Kin x (f x)
  pub key : (x y : Rec) → Memᴰ x rs → Memᴰ y rs → kind x ≡ KEY → kind y ≡ PENDING → own x ≡ parent y → (parent (f y) ≡ 0 → ⊥) → Kin y (f y)
      → Kin x (f x)
  -- what a closed session must have stays
  pub has_key : (x : Rec) → Memᴰ x rs → kind x ≡ SESSION → state (f x) ≡ CLOSED → Kin x (f x)
      → (k : Rec) × Memᴰ k rs × (kind k ≡ KEY) × (session k ≡ own x) × Kin k (f k)
  pub has_policy : (x y : Rec) → Memᴰ x rs → Memᴰ y rs → kind x ≡ SESSION → state (f x) ≡ CLOSED → Kin x (f x) → kind y ≡ PUK
      → session y ≡ own x → Kin y (f y)
      → (z : Rec) × Memᴰ z rs × (kind z ≡ POLICY) × (parent z ≡ own y) × (session z ≡ session y) × Kin z (f z)
  pub has_child : (x y : Rec) → Memᴰ x rs → Memᴰ y rs → kind x ≡ SESSION → state (f x) ≡ CLOSED → Kin x (f x) → kind y ≡ POLICY
      → session y ≡ own x → Kin y (f y)
      → (z : Rec) × Memᴰ z rs × (kind z ≡ KEY) × (parent z ≡ own y) × (session z ≡ session y) × Kin z (f z)

module _ (f : Rec → Rec) (rs : List Rec) (F : Facts rs) (E : Edit f rs) where
  -- a record that is not free afterwards is kin to what it was
  alive : (x : Rec) → Memᴰ x rs → (kind (f x) ≡ 0 → ⊥) → Kin x (f x)
  alive x m n = go (E.fate x m)
    where
      go : (f x ≡ zeros) ⊎ Kin x (f x) → Kin x (f x)
      go (inl e) = absurd (n (ap kind e ∙ byte-zeros 0))
      go (inr k) = k

  distinct' : (x y : Rec) → Memᴰ x rs → Memᴰ y rs → Distinct x y → Distinct (f x) (f y)
  distinct' x y mx my D =
      record {
        one_counter = λ a b.
            let X = alive x mx (λ z. omega arith) in
            let Y = alive y my (λ z. omega arith) in
            D.one_counter (omega arith) (omega arith);
        handles_differ = λ a b e.
            let X = alive x mx (λ z. omega arith) in
            let Y = alive y my (λ z. omega arith) in
            let Xo = X.own= (omega arith) in
            let Yo = Y.own= (omega arith) in
            D.handles_differ (omega arith, omega arith) (omega arith, omega arith) (omega arith);
        ids_differ = λ a b e.
            let X = alive x mx (λ z. omega arith) in
            let Y = alive y my (λ z. omega arith) in
            rw (X.id=, Y.id=) (D.ids_differ (omega arith, omega arith) (omega arith, omega arith) (omega arith));
        clients_differ = λ a b.
            let X = alive x mx (λ z. omega arith) in
            let Y = alive y my (λ z. omega arith) in
            rw (X.client= (omega arith), Y.client= (omega arith)) (D.clients_differ (omega arith) (omega arith));
        one_pending = λ a b e q.
            let X = alive x mx (λ z. omega arith) in
            let Y = alive y my (λ z. omega arith) in
            targets (X.target= (omega arith)) (Y.target= (omega arith)) (D.one_pending (omega arith) (omega arith) (omega arith)) q;
      }
    where
      targets : (parent (f x) ≡ parent x) ⊎ (parent (f x) ≡ 0) → (parent (f y) ≡ parent y) ⊎ (parent (f y) ≡ 0) → (parent x ≡ parent y → parent x ≡ 0)
          → parent (f x) ≡ parent (f y) → parent (f x) ≡ 0
      targets (inl a) (inl b) h q = let z = h (omega arith) in omega arith
      targets (inl a) (inr b) h q = omega arith
      targets (inr a) b h q = a

  -- a key's handle is not 0
  big : (x : Rec) → Memᴰ x rs → kind x ≡ KEY → 1 ≤ own x
  big x m k = let o = (F.alone x m).object_carries (omega arith, omega arith) in omega arith

  related' : (x y : Rec) → Memᴰ x rs → Memᴰ y rs → Related (f x) (f y)
  related' x y mx my =
      record {
        below_next = λ a b e.
            let X = alive x mx (λ z. omega arith) in
            let Y = alive y my (λ z. omega arith) in
            let Xo = X.own= (omega arith) in
            let Yo = Y.own= (omega arith) in
            let g = R.below_next (omega arith) (omega arith, omega arith) (omega arith) in
            let n = X.next≤ (omega arith) in
            omega arith;
        below_counter = λ a b.
            let X = alive x mx (λ z. omega arith) in
            let Y = alive y my (λ z. omega arith) in
            let Yo = Y.own= (omega arith) in
            let g = R.below_counter (omega arith) (omega arith) in
            omega arith;
        puk_for_protection = λ g d.
            let X = alive x mx (λ z. omega arith) in
            let Y = alive y my (λ z. omega arith) in
            rw (X.policy= (omega arith)) (R.puk_for_protection (back X Y g) (sym (Y.protection= (omega arith)) ∙ d));
        key_counts = λ g.
            let X = alive x mx (λ z. omega arith) in
            let Y = alive y my (λ z. omega arith) in
            rw (X.policy= (omega arith)) (E.counts x y mx my (back X Y g));
        paths_set = λ c a e.
            let X = alive x mx (λ z. omega arith) in
            let Y = alive y my (λ z. omega arith) in
            let Xo = X.own= (omega arith) in
            E.paths x y mx my (omega arith) c.1 (omega arith) (omega arith) X Y;
        pending_open = λ a b e.
            let X = alive x mx (λ z. omega arith) in
            let Y = alive y my (λ z. omega arith) in
            let Xo = X.own= (omega arith) in
            E.opens x y mx my (omega arith) (omega arith) (omega arith) X Y;
        target_managed = λ a b n e.
            let X = alive x mx (λ z. omega arith) in
            let Y = alive y my (λ z. omega arith) in
            managed_target X Y a b n e (Y.target= (omega arith));
        target_pinned = λ a b e t z.
            let X = alive x mx (λ z. omega arith) in
            let Y = alive y my (λ z. omega arith) in
            pinned_target X Y a b e t z (Y.target= (omega arith));
      }
    where
      R : Related x y
      R = F.related x mx y my

      back : Kin x (f x) → Kin y (f y) → Fact (governs (f x) (f y)) → Fact (governs x y)
      back X Y (a, (b, (e, s))) =
          let p = Y.parent= (omega arith) in
          let o = X.own= (omega arith) in
          (omega arith, (omega arith, (omega arith, omega arith)))

      managed_target : Kin x (f x) → Kin y (f y) → kind (f x) ≡ SESSION → kind (f y) ≡ PENDING → (parent (f y) ≡ 0 → ⊥) → own (f x) ≡ session_of (parent (f y))
          → (parent (f y) ≡ parent y) ⊎ (parent (f y) ≡ 0) → (state (f x) ≡ CLOSED) × (key_management (f x) ≡ 1)
      managed_target X Y a b n e (inl q) =
          let Xo = X.own= (omega arith) in
          let g = R.target_managed (omega arith) (omega arith) (λ z. n (omega arith)) (omega arith) in
          (X.stays_closed (omega arith) g.0, X.managed= (omega arith) ∙ g.1)
      managed_target X Y a b n e (inr q) = absurd (n q)

      pinned_target : Kin x (f x) → Kin y (f y) → kind (f x) ≡ KEY → kind (f y) ≡ PENDING → parent (f y) ≡ own (f x) → operation (f y) ≡ 51 → parent (f x) ≡ 0
          → (parent (f y) ≡ parent y) ⊎ (parent (f y) ≡ 0) → ⊥
      pinned_target X Y a b e t z (inl q) =
          let Xo = X.own= (omega arith) in
          R.target_pinned (omega arith) (omega arith) (omega arith) (sym (Y.operation= (omega arith)) ∙ t) (sym (X.parent= (omega arith)) ∙ z)
      pinned_target X Y a b e t z (inr q) =
          let Xo = X.own= (omega arith) in
          let g = big x mx (omega arith) in
          omega arith

  shares' : (p x y : Rec) → Memᴰ p rs → Memᴰ x rs → Memᴰ y rs → Shares (f p) (f x) (f y)
  shares' p x y mp mx my k g (a, (b, (e, s))) (c, (d, (e', s'))) =
      let P = alive p mp (λ z. omega arith) in
      let X = alive x mx (λ z. omega arith) in
      let Y = alive y my (λ z. omega arith) in
      let o = P.own= (omega arith) in
      let i = X.parent= (omega arith) in
      let j = Y.parent= (omega arith) in
      E.pins p x y mp mx my (sym (ap grouping (P.policy= (omega arith))) ∙ g) (omega arith, (omega arith, (omega arith, omega arith))) X
      (omega arith, (omega arith, (omega arith, omega arith))) Y

  housed' : (y : Rec) → Memᴰ y rs → Housed (map f rs) (f y)
  housed' y my =
      record {
        session_there = λ o.
            let Y = alive y my (λ z. omega arith) in
            let w = H.session_there (omega arith, omega arith) in
            let k = w.2.0 in
            let X = E.home w.0 y w.1 my k (omega arith, omega arith) w.2.1.0 Y in
            (f w.0, Memᴰ.map f w.1, (X.kind= ∙ k, (X.own= (omega arith) ∙ w.2.1.0 ∙ sym Y.session=, X.session= ∙ w.2.1.1 ∙ sym Y.session=)));
        puk_there = λ a n.
            let Y = alive y my (λ z. omega arith) in
            let i = Y.policy= (omega arith) in
            let w = H.puk_there (omega arith) (λ z. n (ap parent i ∙ z)) in
            let k = w.2.0 in
            let X = E.puk w.0 y w.1 my k (omega arith) w.2.1.0 w.2.1.1 Y in
            (f w.0, Memᴰ.map f w.1, (X.kind= ∙ k, (X.own= (omega arith) ∙ w.2.1.0 ∙ sym (ap parent i), X.session= ∙ w.2.1.1 ∙ sym Y.session=)));
        policy_there = λ a n.
            let Y = alive y my (λ z. omega arith) in
            let i = Y.parent= (omega arith) in
            let w = H.policy_there (omega arith) (λ z. n (i ∙ z)) in
            let k = w.2.0 in
            let X = E.policy w.0 y w.1 my k (omega arith) w.2.1.0 w.2.1.1 Y in
            (f w.0, Memᴰ.map f w.1, (X.kind= ∙ k, (X.own= (omega arith) ∙ w.2.1.0 ∙ sym i, X.session= ∙ w.2.1.1 ∙ sym Y.session=)));
        key_there = λ c.
            let Y = alive y my (λ z. omega arith) in
            let w = E.has_key y my (omega arith) c.1 Y in
            (f w.0, Memᴰ.map f w.1, (w.4.kind= ∙ w.2, w.4.session= ∙ w.3 ∙ sym (Y.own= (omega arith))));
        target_there = λ a n.
            let Y = alive y my (λ z. omega arith) in
            targeted Y a n (Y.target= (omega arith));
      }
    where
      H : Housed rs y
      H = F.housed y my

      targeted : Kin y (f y) → kind (f y) ≡ PENDING → (parent (f y) ≡ 0 → ⊥) → (parent (f y) ≡ parent y) ⊎ (parent (f y) ≡ 0)
          → Fact (is_in (map f rs) KEY (parent (f y)) (session_of (parent (f y))))
      targeted Y a n (inr e) = absurd (n e)
      targeted Y a n (inl e) =
          let w = H.target_there (omega arith) (λ z. n (e ∙ z)) in
          let k = w.2.0 in
          let X = E.key w.0 y w.1 my k (omega arith) w.2.1.0 n Y in
          rw e (f w.0, Memᴰ.map f w.1, (X.kind= ∙ k, (X.own= (omega arith) ∙ w.2.1.0, X.session= ∙ w.2.1.1)))

  used' : (x y : Rec) → Memᴰ x rs → Memᴰ y rs → Used (map f rs) (f x) (f y)
  used' x y mx my =
      record {
        puk = λ c e k.
            let X = alive x mx (λ z. omega arith) in
            let Y = alive y my (λ z. omega arith) in
            let Xo = X.own= (omega arith) in
            let w = E.has_policy x y mx my (omega arith) c.1 X (omega arith) (omega arith) Y in
            let j = w.5.policy= w.2 in
            (f w.0, Memᴰ.map f w.1, (w.5.kind= ∙ w.2, (ap parent j ∙ w.3 ∙ sym (Y.own= (omega arith)), w.5.session= ∙ w.4 ∙ sym Y.session=)));
        policy = λ c e k.
            let X = alive x mx (λ z. omega arith) in
            let Y = alive y my (λ z. omega arith) in
            let Xo = X.own= (omega arith) in
            let w = E.has_child x y mx my (omega arith) c.1 X (omega arith) (omega arith) Y in
            let j = w.5.parent= w.2 in
            (f w.0, Memᴰ.map f w.1, (w.5.kind= ∙ w.2, (j ∙ w.3 ∙ sym (Y.own= (omega arith)), w.5.session= ∙ w.4 ∙ sym Y.session=)));
      }

  pub edited : Facts (map f rs)
  edited =
      record {
        counter = let c = F.counter in (f c.0, Memᴰ.map f c.1, (E.counter c.0 c.1 c.2).kind= ∙ c.2);
        alone = map_all Alone f rs E.alone;
        distinct = pairs-map Distinct Distinct f rs distinct' F.distinct;
        related =
            map_all (λ x. (y : Rec) → Memᴰ y (map f rs) → Related x y) f rs (λ x mx.
            map_all (Related (f x)) f rs (λ y my. related' x y mx my));
        housed = map_all (Housed (map f rs)) f rs housed';
        used =
            map_all (λ x. (y : Rec) → Memᴰ y (map f rs) → Used (map f rs) x y) f rs (λ x mx.
            map_all (Used (map f rs) (f x)) f rs (λ y my. used' x y mx my));
        shares =
            map_all (λ p. (x : Rec) → Memᴰ x (map f rs) → (y : Rec) → Memᴰ y (map f rs) → Shares p x y) f rs (λ p mp.
            map_all (λ x. (y : Rec) → Memᴰ y (map f rs) → Shares (f p) x y) f rs (λ x mx.
            map_all (λ y. Shares (f p) (f x) y) f rs (λ y my. shares' p x y mp mx my)));
      }
