-- Edits that free nothing and close nothing: of records that are no keys, and of keys.
use mathlib.Core.Path.{◌≡◌, refl, sym, ap, ◌∙◌}
use mathlib.Core.Bool.{true}
use mathlib.Core.List.{List, map, Memᴰ}
use mathlib.Core.Logic.{inr}
use Prim.Native.Nat.{◌≤◌}
use native.Mathlib.Omega.{arith}
use Rattle.hmac.specs.Same.{same}
use Rattle.paper.specs.Limits.{pin_width}
use Rattle.paper.specs.Bytes.{part}
use Rattle.paper.specs.Form.{Rec, Form, Fact, only}
use Rattle.paper.specs.Records.{kind, SESSION, KEY, state, retry_limit, key_errors, grouping, path_set}
use Rattle.paper.specs.Sound.{governs}
use Rattle.laws.proofs.Choice.{only-is, only_out}
use Rattle.laws.proofs.Facts.{Alone, Facts}
use Rattle.rule.proofs.Kin.{Kin, kin_same}
use Rattle.rule.proofs.StoreEdits.{edited}

pub record Calm (f : Rec → Rec) (rs : List Rec) : Type 0 where
  pub kin : (x : Rec) → Memᴰ x rs → Kin x (f x)
  pub alone : (x : Rec) → Memᴰ x rs → Alone (f x)
  pub state= : (x : Rec) → Memᴰ x rs → kind x ≡ SESSION → state (f x) ≡ state x
  pub path : (x : Rec) → Memᴰ x rs → kind x ≡ KEY → path_set x ≡ 1 → path_set (f x) ≡ 1
  pub counts : (x y : Rec) → Memᴰ x rs → Memᴰ y rs → Fact (governs x y) → key_errors (f y) ≤ retry_limit x
  pub pins : (p x y : Rec) → Memᴰ p rs → Memᴰ x rs → Memᴰ y rs → grouping p ≡ 1 → Fact (governs p x) → Fact (governs p y)
      → same (part 49 pin_width (f x)) (part 49 pin_width (f y)) ≡ true

pub calmed : (f : Rec → Rec) (rs : List Rec) → Facts rs → Calm f rs → Facts (map f rs)
calmed f rs F C =
    edited f rs F
    (record {
      fate = λ x m. inr (C.kin x m);
      alone = C.alone;
      counter = λ x m k. C.kin x m;
      counts = C.counts;
      pins = λ p x y mp mx my g gx X gy Y. C.pins p x y mp mx my g gx gy;
      paths = λ x y mx my a t b e X Y. C.path y my b ((F.related x mx y my).paths_set (a, sym (C.state= x mx a) ∙ t) b e);
      opens = λ x y mx my a b e X Y. C.state= x mx a ∙ (F.related x mx y my).pending_open a b e;
      home = λ x y mx my a b e Y. C.kin x mx;
      puk = λ x y mx my a b e s Y. C.kin x mx;
      policy = λ x y mx my a b e s Y. C.kin x mx;
      key = λ x y mx my a b e n Y. C.kin x mx;
      has_key = λ x mx a t X.
          let w = (F.housed x mx).key_there (a, sym (C.state= x mx a) ∙ t) in
          (w.0, w.1, w.2.0, w.2.1, C.kin w.0 w.1);
      has_policy = λ x y mx my a t X b e Y.
          let w = (F.used x mx y my).puk (a, sym (C.state= x mx a) ∙ t) e b in
          (w.0, w.1, w.2.0, w.2.1.0, w.2.1.1, C.kin w.0 w.1);
      has_child = λ x y mx my a t X b e Y.
          let w = (F.used x mx y my).policy (a, sym (C.state= x mx a) ∙ t) e b in
          (w.0, w.1, w.2.0, w.2.1.0, w.2.1.1, C.kin w.0 w.1);
    })

-- an edit of records that are no keys
pub record Soft (φ : Rec → Form) (e : Rec → Rec) (rs : List Rec) : Type 0 where
  pub no_key : (x : Rec) → Memᴰ x rs → Fact (φ x) → kind x ≡ KEY → ⊥
  pub kin : (x : Rec) → Memᴰ x rs → Fact (φ x) → Kin x (e x)
  pub alone : (x : Rec) → Memᴰ x rs → Fact (φ x) → Alone (e x)
  pub state= : (x : Rec) → Memᴰ x rs → Fact (φ x) → kind x ≡ SESSION → state (e x) ≡ state x

pub softly : (φ : Rec → Form) (e : Rec → Rec) (rs : List Rec) → Facts rs → Soft φ e rs → Facts (map (only φ e) rs)
softly φ e rs F S =
    calmed (only φ e) rs F
    (record {
      kin = λ x m. only-is (Kin x) φ e x (S.kin x m) (λ n. kin_same x x refl);
      alone = λ x m. only-is Alone φ e x (S.alone x m) (λ n. F.alone x m);
      state= = λ x m k. only-is (λ y. state y ≡ state x) φ e x (λ h. S.state= x m h k) (λ n. refl);
      path = λ x m k h. ap path_set (stays x m k) ∙ h;
      counts = λ x y mx my g. rw (stays y my g.1.0) ((F.related x mx y my).key_counts g);
      pins = λ p x y mp mx my g gx gy. rw (stays x mx gx.1.0, stays y my gy.1.0) (F.shares p mp x mx y my gx.0 g gx gy);
    })
  where
    stays : (x : Rec) → Memᴰ x rs → kind x ≡ KEY → only φ e x ≡ x
    stays x m k = only_out φ e x (λ h. S.no_key x m h k)

-- an edit of keys: the path is not taken away, the count stays within the limit
pub record Keyed (φ : Rec → Form) (e : Rec → Rec) (rs : List Rec) : Type 0 where
  pub a_key : (x : Rec) → Memᴰ x rs → Fact (φ x) → kind x ≡ KEY
  pub kin : (x : Rec) → Memᴰ x rs → Fact (φ x) → Kin x (e x)
  pub alone : (x : Rec) → Memᴰ x rs → Fact (φ x) → Alone (e x)
  pub path : (x : Rec) → Memᴰ x rs → Fact (φ x) → path_set x ≡ 1 → path_set (e x) ≡ 1
  pub counts : (x y : Rec) → Memᴰ x rs → Memᴰ y rs → Fact (φ y) → Fact (governs x y) → key_errors (e y) ≤ retry_limit x
  pub pins : (p x y : Rec) → Memᴰ p rs → Memᴰ x rs → Memᴰ y rs → grouping p ≡ 1 → Fact (governs p x) → Fact (governs p y)
      → same (part 49 pin_width (only φ e x)) (part 49 pin_width (only φ e y)) ≡ true

pub keyed : (φ : Rec → Form) (e : Rec → Rec) (rs : List Rec) → Facts rs → Keyed φ e rs → Facts (map (only φ e) rs)
keyed φ e rs F S =
    calmed (only φ e) rs F
    (record {
      kin = λ x m. only-is (Kin x) φ e x (S.kin x m) (λ n. kin_same x x refl);
      alone = λ x m. only-is Alone φ e x (S.alone x m) (λ n. F.alone x m);
      state= = λ x m k. only-is (λ y. state y ≡ state x) φ e x (λ h. let j = S.a_key x m h in absurd (omega arith)) (λ n. refl);
      path = λ x m k h. only-is (λ y. path_set y ≡ 1) φ e x (λ p. S.path x m p h) (λ n. h);
      counts = λ x y mx my g. only-is (λ z. key_errors z ≤ retry_limit x) φ e y (λ h. S.counts x y mx my h g) (λ n. (F.related x mx y my).key_counts g);
      pins = S.pins;
    })

-- where the edit leaves PINs alone
pub pins_kept : (φ : Rec → Form) (e : Rec → Rec) (rs : List Rec) → Facts rs → ((x : Rec) → Memᴰ x rs → Fact (φ x) → part 49 pin_width (e x) ≡ part 49 pin_width x)
    → (p x y : Rec) → Memᴰ p rs → Memᴰ x rs → Memᴰ y rs → grouping p ≡ 1 → Fact (governs p x) → Fact (governs p y)
    → same (part 49 pin_width (only φ e x)) (part 49 pin_width (only φ e y)) ≡ true
pins_kept φ e rs F h p x y mp mx my g gx gy = rw (pin x mx, pin y my) (F.shares p mp x mx y my gx.0 g gx gy)
  where
    pin : (z : Rec) → Memᴰ z rs → part 49 pin_width (only φ e z) ≡ part 49 pin_width z
    pin z m = only-is (λ w. part 49 pin_width w ≡ part 49 pin_width z) φ e z (h z m) (λ n. refl)
