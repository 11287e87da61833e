-- An open session removed with all its records: an abort, and every refusal of a session call.
use mathlib.Core.Path.{◌≡◌, refl, sym, ap, ◌∙◌}
use mathlib.Core.List.{List, map, Memᴰ}
use mathlib.Core.Logic.{◌⊎◌, inl, inr}
use Prim.Native.Nat.{ℕ, ◌≤◌}
use native.Mathlib.Omega.{arith}
use Rattle.paper.specs.Form.{Rec, only}
use Rattle.paper.specs.Records.{kind, SESSION, KEY, PENDING, OPEN, own, session, parent, session_of, state, retry_limit, key_errors, path_set, bears, zeros}
use Rattle.laws.proofs.Choice.{only-is, only_out}
use Rattle.laws.proofs.Inserting.{byte-zeros}
use Rattle.laws.proofs.Facts.{Alone, Facts}
use Rattle.rule.proofs.Kin.{Kin, kin_same}
use Rattle.rule.proofs.StoreEdits.{edited}
use Rattle.rule.proofs.Alone.{alone-zeros}
use Rattle.laws.proofs.Handles.{carries, counter-session}

module _ (s : ℕ) (rs : List Rec) (F : Facts rs) (Some-number : 1 ≤ s) (opened :
    (z : Rec) → Memᴰ z rs → kind z ≡ SESSION → own z ≡ s → state z ≡ OPEN) where
  abbrev wipe : Rec → Rec
  wipe = only (bears s) (λ r. zeros)

  is : (P : Rec → Type 0) (x : Rec) → (session x ≡ s → P zeros) → ((session x ≡ s → ⊥) → P x) → P (wipe x)
  is P x a b = only-is P (bears s) (λ r. zeros) x a b

  lives : (x : Rec) → (session x ≡ s → ⊥) → Kin x (wipe x)
  lives x n = kin_same x (wipe x) (only_out (bears s) (λ r. zeros) x n)

  -- whoever lives is no record of this session, and the same as before
  foreign : (x : Rec) → 1 ≤ kind x → Kin x (wipe x) → session x ≡ s → ⊥
  foreign x k = is (λ y. Kin x y → session x ≡ s → ⊥) x (λ e K h. let a = K.kind= in let b = byte-zeros 0 in omega arith) (λ n K. n)

  same : (x : Rec) → 1 ≤ kind x → Kin x (wipe x) → wipe x ≡ x
  same x k K = only_out (bears s) (λ r. zeros) x (foreign x k K)

  -- a key that is aimed at is in a closed session
  not_aimed : (x y : Rec) → Memᴰ x rs → Memᴰ y rs → kind x ≡ KEY → kind y ≡ PENDING → own x ≡ parent y → session x ≡ s → (parent y ≡ 0 → ⊥) → ⊥
  not_aimed x y mx my a b e h n =
      let w = (F.housed x mx).session_there (omega arith, omega arith) in
      let c = (carries rs F x mx (omega arith, omega arith)).0 in
      let z = ((F.related w.0 w.1 y my).target_managed w.2.0 b n (w.2.1.0 ∙ sym c ∙ ap session_of e)).0 in
      let o = opened w.0 w.1 w.2.0 (w.2.1.0 ∙ h) in
      omega arith

  pub wiped : Facts (map (only (bears s) (λ r. zeros)) rs)
  wiped =
      edited wipe rs F
      (record {
        fate = λ x m. is (λ y. (y ≡ zeros) ⊎ Kin x y) x (λ e. inl refl) (λ n. inr (kin_same x x refl));
        alone = λ x m. is Alone x (λ e. alone-zeros) (λ n. F.alone x m);
        counter = λ x m k. lives x (λ e. let z = counter-session x (F.alone x m) k in omega arith);
        counts = λ x y mx my g.
            is (λ z. key_errors z ≤ retry_limit x) y (λ h. rw (byte-zeros 2) (omega arith)) (λ n. (F.related x mx y my).key_counts g);
        pins = λ p x y mp mx my g gx X gy Y.
            let a = gx.1.0 in
            let b = gy.1.0 in
            rw (same x (omega arith) X, same y (omega arith) Y) (F.shares p mp x mx y my gx.0 g gx gy);
        paths = λ x y mx my a t b e X Y.
            ap path_set (same y (omega arith) Y) ∙ (F.related x mx y my).paths_set (a, sym (ap state (same x (omega arith) X)) ∙ t) b e;
        opens = λ x y mx my a b e X Y. ap state (same x (omega arith) X) ∙ (F.related x mx y my).pending_open a b e;
        home = λ x y mx my a b e Y. lives x (λ h. let l = ((F.alone x mx).session_carries a).0 in foreign y (omega arith) Y (omega arith));
        puk = λ x y mx my a b e t Y. lives x (λ h. foreign y (omega arith) Y (omega arith));
        policy = λ x y mx my a b e t Y. lives x (λ h. foreign y (omega arith) Y (omega arith));
        key = λ x y mx my a b e n Y. lives x (λ h. not_aimed x y mx my a b e h (λ q. n (ap parent (same y (omega arith) Y) ∙ q)));
        has_key = λ x mx a t X.
            let w = (F.housed x mx).key_there (a, sym (ap state (same x (omega arith) X)) ∙ t) in
            let q = w.2.1 in
            let l = ((F.alone x mx).session_carries a).0 in
            (w.0, w.1, w.2.0, w.2.1, lives w.0 (λ h. foreign x (omega arith) X (omega arith)));
        has_policy = λ x y mx my a t X b e Y.
            let w = (F.used x mx y my).puk (a, sym (ap state (same x (omega arith) X)) ∙ t) e b in
            let q = w.2.1.1 in
            (w.0, w.1, w.2.0, w.2.1.0, w.2.1.1, lives w.0 (λ h. foreign y (omega arith) Y (omega arith)));
        has_child = λ x y mx my a t X b e Y.
            let w = (F.used x mx y my).policy (a, sym (ap state (same x (omega arith) X)) ∙ t) e b in
            let q = w.2.1.1 in
            (w.0, w.1, w.2.0, w.2.1.0, w.2.1.1, lives w.0 (λ h. foreign y (omega arith) Y (omega arith)));
      })
