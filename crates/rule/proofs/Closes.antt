-- A close in one shot is the seal after the effect of what the session holds, so the store stays sound.
use mathlib.Core.Path.{◌≡◌, refl, sym, ap, ◌∙◌, subst}
use mathlib.Core.Bool.{Bool, true, cond}
use mathlib.Core.List.Memᴰ
use mathlib.Core.List.{List, map, Memᴰ}
use mathlib.Core.Logic.{◌⊎◌, inl, inr}
use Prim.Native.Nat.{ℕ, ◌≤◌}
use native.Mathlib.Omega.{arith}
use Rattle.paper.specs.Form.{Rec, ◌equals◌, ◌and◌, some, test, Fact}
use Rattle.paper.specs.Records.{kind, SESSION, POLICY, KEY, PENDING, OPEN, own, session, parent, session_of, bears, state, operation, zeros}
use Rattle.paper.specs.Sound.{child}
use Rattle.paper.specs.Closing.{Keys, goes, effect, held, holds, shut, has_key, sealed, closing}
use Rattle.paper.proofs.Forms.{both, cases}
use Rattle.laws.proofs.Choice.{choose, same_test, only_in, only_out}
use Rattle.laws.proofs.Inserting.{four-zeros}
use Rattle.laws.proofs.Lists.{map-map, map_same}
use Rattle.laws.proofs.Losses.{named_key, effect_is}
use Rattle.laws.proofs.Facts.{Facts}
use Rattle.rule.proofs.Kin.{Kin}
use Rattle.rule.proofs.RecordEdits.{kin_stale}
use Rattle.laws.proofs.Handles.{carries}
use Rattle.rule.proofs.Effect.{effect-fate, effect_kept}
use Rattle.rule.proofs.ClosedRecord.{sealed-is}
use Rattle.rule.proofs.Sealing.{Fit, seal, sealed_kept}

-- where no key of the session is removed or unlocked, its records stay, but for pendings
module _ (d u : Keys) (rs : List Rec) (F : Facts rs) (s : ℕ)
    (off : (k : Rec) → Memᴰ k rs → kind k ≡ KEY → session k ≡ s → (d (own k) ≡ true → ⊥) × (u (own k) ≡ true → ⊥)) where
  none_goes : (x : Rec) → Memᴰ x rs → session x ≡ s → Fact (goes d rs x) → ⊥
  none_goes x m e g =
      let w = named_key d rs x g in
      (off w.key (at w.there) w.is (w.its s e (λ k. ((F.alone x m).session_carries k).0 ∙ e))).0 w.named
    where
      at : {z : Rec} → (z ≡ x) ⊎ Memᴰ z rs → Memᴰ z rs
      at (inl i) = subst (λ (y : Rec). Memᴰ y rs) (sym i) m
      at (inr l) = l

  pub effect_still : (x : Rec) → Memᴰ x rs → session x ≡ s → (kind x ≡ PENDING → ⊥) → effect d u rs x ≡ x
  effect_still x m e n =
      effect_is d u rs (λ y. y ≡ x) x (λ g. absurd (none_goes x m e g)) (λ g w. absurd ((off x m w.0 e).1 w.1))
      (λ g w. let p = w.1 in let k = p.2.1.1.1 in absurd ((off k.0 k.1 k.2.0.0 (k.2.1.1 ∙ e)).1 k.2.0.1))
      (λ g w. absurd (pending w)) (λ g a b c. refl)
    where
      pending : ((kind x ≡ PENDING) × (d (parent x) ≡ true)) ⊎ ((kind x ≡ PENDING) × (u (parent x) ≡ true)) → ⊥
      pending (inl w) = n w.0
      pending (inr w) = n w.0

  -- a pending stays a pending of its session
  pub effect_pending : (x : Rec) → Memᴰ x rs → session x ≡ s → kind x ≡ PENDING → (kind (effect d u rs x) ≡ PENDING) × (session (effect d u rs x) ≡ s)
  effect_pending x m e k =
      effect_is d u rs (λ y. (kind y ≡ PENDING) × (session y ≡ s)) x (λ g. absurd (none_goes x m e g)) (λ g w. let j = w.0 in absurd (omega arith))
      (λ g w. let j = w.0 in absurd (omega arith))
      (λ g w. let K = kin_stale x (F.alone x m) k in (K.kind= ∙ k, K.session= ∙ e)) (λ g a b c. (k, e))

module _ (s : ℕ) (rs : List Rec) (F : Facts rs) (G : Fit s rs) (Some-number : 1 ≤ s) (opened :
    (z : Rec) → Memᴰ z rs → kind z ≡ SESSION → own z ≡ s → state z ≡ OPEN) where
  abbrev d : Keys
  d = holds s 50 rs

  abbrev u : Keys
  u = holds s 51 rs

  abbrev f : Rec → Rec
  f = effect d u rs

  abbrev rs1 : List Rec
  rs1 = map f rs

  -- what the session holds is a key of a closed session, so none of its own
  off : (op : ℕ) (k : Rec) → Memᴰ k rs → kind k ≡ KEY → session k ≡ s → holds s op rs (own k) ≡ true → ⊥
  unfolding holds
  off op k m a e h =
      let q = (both (some rs (λ q. held s (own k) q and operation q equals op))).0 h in
      let p = q.2.0.1.1.1 in
      let c = (carries rs F k m (omega arith, omega arith)).0 in
      let o = (F.alone k m).object_carries (omega arith, omega arith) in
      let w = (F.housed k m).session_there (omega arith, omega arith) in
      let t = ((F.related w.0 w.1 q.0 q.1).target_managed w.2.0 q.2.0.0 (λ z. omega arith) (w.2.1.0 ∙ sym c ∙ ap session_of (sym p))).0 in
      let n = opened w.0 w.1 w.2.0 (w.2.1.0 ∙ e) in
      omega arith

  offs : (k : Rec) → Memᴰ k rs → kind k ≡ KEY → session k ≡ s → (d (own k) ≡ true → ⊥) × (u (own k) ≡ true → ⊥)
  offs k m a e = (off 50 k m a e, off 51 k m a e)

  F1 : Facts rs1
  F1 = effect_kept d u rs F

  still : (x : Rec) → Memᴰ x rs → session x ≡ s → (kind x ≡ PENDING → ⊥) → f x ≡ x
  still x m e n = effect_still d u rs F s offs x m e n

  -- own records after the effect, and back
  into : (x : Rec) → Memᴰ x rs → session x ≡ s → (kind x ≡ PENDING → ⊥) → Memᴰ x rs1
  into x m e n = subst (λ y. Memᴰ y rs1) (still x m e n) (Memᴰ.map f m)

  back : (y : Rec) → Memᴰ y rs1 → session y ≡ s → (kind y ≡ PENDING → ⊥) → Memᴰ y rs
  back y m e n = let w = Memᴰ.of_map f rs m in go w.0 w.1 w.2 (effect-fate d u rs F w.0 w.1)
    where
      go : (x : Rec) → Memᴰ x rs → f x ≡ y → (f x ≡ zeros) ⊎ Kin x (f x) → Memᴰ y rs
      go x mx i (inl z) = let q = ap session (sym i ∙ z) ∙ four-zeros 8 in absurd (omega arith)
      go x mx i (inr K) =
          let a = ap session i in
          let b = ap kind i in
          subst (λ z. Memᴰ z rs) (sym (still x mx (sym K.session= ∙ a ∙ e) (λ k. n (sym b ∙ K.kind= ∙ k))) ∙ i) mx

  child_into : (k : ℕ) (p : Rec) → session p ≡ s → (k ≡ PENDING → ⊥) → Fact (child rs k p) → Fact (child rs1 k p)
  child_into k p e n w = (w.0, into w.0 w.1 (w.2.1.1 ∙ e) (λ q. n (sym w.2.0 ∙ q)), w.2)

  fit1 : Fit s rs1
  fit1 =
      record {
        counts = λ x m k e. let l = ((F1.alone x m).session_carries k).0 in G.counts x (back x m (sym l ∙ e) (λ j. omega arith)) k e;
        paths = λ y m k e. G.paths y (back y m e (λ j. omega arith)) k e;
        puks = λ y m k e. child_into POLICY y e (λ j. omega arith) (G.puks y (back y m e (λ j. omega arith)) k e);
        policies = λ y m k e. child_into KEY y e (λ j. omega arith) (G.policies y (back y m e (λ j. omega arith)) k e);
      }

  keys_same : test (has_key s rs1) ≡ test (has_key s rs)
  keys_same =
      same_test (has_key s rs1) (has_key s rs) (λ w. let k = w.2.0 in (w.0, back w.0 w.1 w.2.1 (λ j. omega arith), w.2))
      (λ w. let k = w.2.0 in (w.0, into w.0 w.1 w.2.1 (λ j. omega arith), w.2))

  sealed-same : (x : Rec) → sealed s rs1 x ≡ sealed s rs x
  unfolding sealed
  sealed-same x = ap (λ (b : Bool). cond (test (kind x equals PENDING)) zeros (cond (test (kind x equals SESSION)) (cond b (shut x) zeros) x)) keys_same

  sealed_pending : (l : List Rec) (x : Rec) → kind x ≡ PENDING → sealed s l x ≡ zeros
  sealed_pending l x k = sealed-is s l (λ y. y ≡ zeros) x (λ j. refl) (λ j. absurd (omega arith)) (λ j n. refl) (λ n m. absurd (n k))

  one_shot : (x : Rec) → Memᴰ x rs → seal s rs1 (f x) ≡ closing s rs x
  unfolding closing
  one_shot x m =
      choose (λ y. seal s rs1 (f x) ≡ y) (bears s x) (sealed s rs x) (f x) mine
      (λ n. only_out (bears s) (sealed s rs1) (f x) (other n (effect-fate d u rs F x m)))
    where
      other : (session x ≡ s → ⊥) → (f x ≡ zeros) ⊎ Kin x (f x) → session (f x) ≡ s → ⊥
      other n (inl z) e = let q = ap session z ∙ four-zeros 8 in omega arith
      other n (inr K) e = n (sym K.session= ∙ e)

      mine : session x ≡ s → seal s rs1 (f x) ≡ sealed s rs x
      mine e = cases (kind x equals PENDING)
          (λ k.
          let w = effect_pending d u rs F s offs x m e k in
          only_in (bears s) (sealed s rs1) (f x) w.1 ∙ sealed_pending rs1 (f x) w.0 ∙ sym (sealed_pending rs x k))
          (λ n. ap (seal s rs1) (still x m e n) ∙ only_in (bears s) (sealed s rs1) x e ∙ sealed-same x)

  pub close_kept : Facts (map (closing s rs) rs)
  close_kept =
      subst Facts (map-map (seal s rs1) f rs ∙ map_same (λ x. seal s rs1 (f x)) (closing s rs) rs one_shot) (sealed_kept s rs1 F1 fit1)
