-- A plan made fate by fate, and marks made one by one.
use mathlib.Core.Path.{◌≡◌, refl, sym, ap, ◌∙◌, fun_ext}
use mathlib.Core.List.{List, [], ◌∷◌, ◌++◌, map}
use Prim.Native.Nat.{ℕ, zero, suc, ◌+◌, ◌-◌, ◌≤◌, ◌<◌}
use native.Mathlib.Numerals.{add-one}
use native.Mathlib.Omega.{arith}
use borrow.Author.Tests.{le-leb, lt-leb}
use lib.ListN.{length, get_or, set, take, drop, replicate, length-set, length-replicate, replicate-append-replicate, get_or-append}
use lib.Seq.{get_or-set_same, get_or-set_other, take-suc, drop-cons, append_snoc, set_at, length-take-le, take_all, take_at}
use Rattle.std.proofs.lemmas.List.{drop-replicate, get_or-map, length-map}
use Rattle.paper.specs.Form.{Rec, ◌equals◌, ◌=<◌}
use Rattle.paper.specs.Records.{records}
use Rattle.paper.proofs.Forms.{cases}
use Rattle.effect_plan.specs.declared.Fate.{Fate}
use Rattle.effect_plan.specs.declared.Fate.TheVariants.{Stays}
use Rattle.effect_plan.specs.Fate.{Plan, planned, plan_of, fitting}

-- what is said of the first i records; past its end a list reads z
pub record Planned {A : Type 0} (z : A) (f : Rec → A) (rs : List Rec) (p : List A) (i : ℕ) : Type 0 where
  pub long : length p ≡ 256
  pub at : (j : ℕ) → j < i → get_or p j z ≡ f (get_or rs j [])

module _ {A : Type 0} {z : A} {f : Rec → A} {rs : List Rec} {p : List A} {i : ℕ} (inv : Planned z f rs p i) where
  pub planned_step : (n : A) → i < 256 → n ≡ f (get_or rs i []) → Planned z f rs (set p i n) (i + 1)
  planned_step n h e =
      record {
        long = rw length-set inv.long;
        at = λ j l. cases (j equals i) (λ q. rw q (get_or-set_same p i n z (omega (arith, inv.long)) ∙ e)) (λ q. get_or-set_other p i j n z q ∙ inv.at j (omega arith));
      }

  pub planned_done : length rs ≤ i → (j : ℕ) → j < length rs → get_or p j z ≡ f (get_or rs j [])
  planned_done h j l = inv.at j (omega arith)

-- ---- a plan as a whole

abbrev pub all_stay : ℕ → List Fate
all_stay n = replicate n Stays

map-stays : (rs : List Rec) → map (λ (r : Rec). Stays) rs ≡ all_stay (length rs)
map-stays [] = refl
map-stays (r ∷ rs) = ap (λ (l : List Fate). Stays ∷ l) (map-stays rs)

-- one fate more is written over those behind it
more : (s z : List Fate) (i : ℕ) → i < length s → i < length z → set (take i s ++ drop i z) i (get_or s i Stays) ≡ take (i + 1) s ++ drop (i + 1) z
more s z i hs hz =
    rw (add-one, take-suc s i Stays hs, append_snoc, drop-cons z i Stays hz) (set_at (take i s) (get_or z i Stays) (drop (suc i) z) (get_or s i Stays) i (length-take-le i s (omega arith)))

-- one fate more, and all
module _ (f : Rec → Fate) (rs : List Rec) (p : List Fate) (i : ℕ) (e : p ≡ take i (map f rs) ++ drop i (all_stay 256)) where
  pub fate_more : (n : Fate) → i < 256 → i < length rs → n ≡ f (get_or rs i []) → set p i n ≡ take (i + 1) (map f rs) ++ drop (i + 1) (all_stay 256)
  fate_more n h l q = rw (e, q, ← get_or-map f rs i [] Stays l) (more (map f rs) (all_stay 256) i (omega (arith, length-map rs f)) (omega (arith, length-replicate {A = Fate} 256 Stays)))

  pub fates_all : i ≡ length rs → length rs ≤ 256 → p ≡ plan_of f rs
  unfolding plan_of
  fates_all z h =
      let a : take i (map f rs) ≡ map f rs = take_all i (map f rs) (omega (arith, length-map rs f)) in
      let b : take 256 (map f rs) ≡ map f rs = take_all 256 (map f rs) (omega (arith, length-map rs f)) in
      let d : drop i (all_stay 256) ≡ all_stay (256 - length rs) = rw z (drop-replicate (length rs) 256 Stays) in
      e ∙ rw (a, b, d)

-- of a store that fits, and of a longer one
module _ (f : Rec → Fate) (rs : List Rec) where
  fits : length rs ≤ 256 → (r : Rec) → fitting rs f r ≡ f r
  unfolding fitting
  fits h r = rw (le-leb (length rs) 256 h)

  too_long : 256 < length rs → (r : Rec) → fitting rs f r ≡ Stays
  unfolding fitting
  too_long h r = rw (lt-leb (length rs) 256 h)

  pub plan_fits : length rs ≤ 256 → plan_of (fitting rs f) rs ≡ plan_of f rs
  plan_fits h = ap (λ (g : Rec → Fate). plan_of g rs) (fun_ext (fits h))

  pub plan_long : 256 < length rs → all_stay 256 ≡ plan_of (fitting rs f) rs
  unfolding plan_of
  plan_long h =
      let z : 256 - length rs ≡ 0 = omega arith in
      let l : 256 + (length rs - 256) ≡ length rs = omega arith in
      let q : all_stay (length rs) ≡ all_stay 256 ++ all_stay (length rs - 256) = ap all_stay (sym l) ∙ sym (replicate-append-replicate {A = Fate} 256 (length rs - 256) Stays) in
      rw (fun_ext (too_long h), map-stays rs, q, take_at (all_stay 256) (all_stay (length rs - 256)) 256 (length-replicate {A = Fate} 256 Stays), z)

  -- so each record's fate is at its place
  at_short : length rs ≤ 256 → (j : ℕ) → j < length rs → planned j (plan_of f rs) ≡ f (get_or rs j [])
  unfolding planned plan_of
  at_short h j l =
      let b : take 256 (map f rs) ≡ map f rs = take_all 256 (map f rs) (omega (arith, length-map rs f)) in
      rw b (get_or-append (map f rs) (all_stay (256 - length rs)) Stays j (omega (arith, length-map rs f)) ∙ get_or-map f rs j [] Stays l)

-- a plan by which all stay says so at every place
stays-at : (n j : ℕ) → planned j (all_stay n) ≡ Stays
unfolding planned
stays-at zero j = refl
stays-at (suc n) zero = refl
stays-at (suc n) (suc j) = stays-at n j

module _ (f : Rec → Fate) (rs : List Rec) where
  pub plan_at : (p : List Fate) → p ≡ plan_of (fitting rs f) rs → Plan (fitting rs f) rs p
  plan_at p e = record { at = λ j l. rw e (cases (length rs =< 256) (λ h. at_short (fitting rs f) rs h j l) (λ n. long j (omega arith))) }
    where
      long : (j : ℕ) → 256 < length rs → planned j (plan_of (fitting rs f) rs) ≡ fitting rs f (get_or rs j [])
      long j h = ap (planned j) (sym (plan_long f rs h)) ∙ stays-at 256 j ∙ sym (too_long f rs h (get_or rs j []))

-- and of a store that fits it is the fate without the proviso
module _ (f : Rec → Fate) (s : List ℕ) (p : List Fate) where
  pub fits_plan : length (records s) ≤ 256 → Plan (fitting (records s) f) (records s) p → Plan f (records s) p
  fits_plan h plan = record { at = λ j l. plan.at j l ∙ fits f (records s) h (get_or (records s) j []) }
