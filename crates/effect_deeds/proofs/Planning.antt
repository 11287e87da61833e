-- Plans of a close and of a new PIN, and what a plan comes to once it is carried out.
use mathlib.Core.Bool.{true, false}
use mathlib.Core.Path.{◌≡◌, ◌∙◌}
use mathlib.Core.List.{List, [], map}
use mathlib.Core.Logic.{◌⊎◌, inl, inr}
use Prim.Native.Nat.{ℕ, ◌+◌, ◌≤◌, ◌<◌}
use native.Mathlib.Nat.{zero-add}
use native.Mathlib.Omega.{arith}
use borrow.Author.Tests.{le-leb, lt-leb}
use lib.ListN.{length, get_or, set, length-set}
use lib.Seq.{get_or-set_same, get_or-set_other}
use Rattle.paper.specs.Form.{Rec, ◌equals◌, some, test}
use Rattle.paper.specs.Records.{records, own}
use Rattle.paper.specs.Closing.{Keys as Set, holds}
use Rattle.paper.proofs.Forms.{both, cases}
use Rattle.store_records.specs.View.{Becomes}
use Rattle.store_edits.proofs.Puts.{unchanged}
use Rattle.effect_plan.specs.declared.Fate.{Fate}
use Rattle.effect_plan.specs.declared.Fate.TheVariants.{Stays}
use Rattle.effect_plan.specs.Fate.{fate, planned, fitting as fits, Plan}
use Rattle.effect_plan.proofs.Filled.{fits_plan}
use Rattle.effect_plan.proofs.Near.{never_true, exists_nowhere}
use Rattle.effect_deeds.specs.Deeds.{turn, dealt}
use Rattle.effect_deeds.proofs.Turns.{each_map}
use Rattle.effect_deeds.specs.declared.Pinned.{Pinned}
use Rattle.effect_deeds.specs.declared.Span.{Span}
use Rattle.effect_deeds.specs.declared.Deed.{Deed}
use Rattle.effect_deeds.specs.declared.Deed.TheVariants.{Close}
use Rattle.effect_deeds.specs.Outcome.{close_fate, given, given_as, Widened, Spans, deed_fate, outcome, unless_long}
use Rattle.effect_deeds.proofs.Outcomes.{deed_done}

-- a close writes its fates over those of its keys' plan: the first i are written
pub record Shutting (t : ℕ) (rs : List Rec) (p : List Fate) (i : ℕ) : Type 0 where
  pub long : length p ≡ 256
  pub written : (j : ℕ) → j < i → planned j p ≡ deed_fate (Close t) rs (get_or rs j [])
  pub left : (j : ℕ) → i ≤ j → j < length rs → planned j p ≡ fate (holds t 50 rs) (holds t 51 rs) rs (get_or rs j [])

pub shut_start : (t : ℕ) (s : List ℕ) (p : List Fate) (d u : Set) → length p ≡ 256 → length (records s) ≤ 256 → d ≡ holds t 50 (records s) → u ≡ holds t 51 (records s)
    → Plan (fits (records s) (fate d u (records s))) (records s) p → Shutting t (records s) p 0
shut_start t s p d u l h ed eu plan =
    record { long = l; written = λ j n. absurd (omega arith); left = λ j n m. rw (← ed, ← eu) ((fits_plan (fate d u (records s)) s p h plan).at j m) }

module _ {t : ℕ} {rs : List Rec} {p : List Fate} {i : ℕ} (inv : Shutting t rs p i) where
  pub shut-step : (n m : Fate) (r : Rec) → i < 256 → i < length rs → n ≡ planned i p → r ≡ get_or rs i [] → m ≡ close_fate t n rs r → Shutting t rs (set p i m) (i + 1)
  unfolding planned
  shut-step n m r h l en er em =
      record {
        long = rw length-set inv.long;
        written = λ j k. cases (j equals i) (λ q. rw q (get_or-set_same p i m Stays (omega (arith, inv.long)) ∙ em ∙ rw (er, en, inv.left i (omega arith) l))) (λ q. get_or-set_other p i j m Stays q ∙ inv.written j (omega arith));
        left = λ j k n'. get_or-set_other p i j m Stays (λ q. omega arith) ∙ inv.left j (omega arith) n';
      }

  pub shut-done : length rs ≤ i → Plan (deed_fate (Close t) rs) rs p
  shut-done h = record { at = λ j l. inv.written j (omega arith) }

-- a span wide enough for the first i records
pub record Spanned (g : Pinned) (rs : List Rec) (s : Span) (i : ℕ) : Type 0 where
  pub from : (j : ℕ) → j < i → test (given g (get_or rs j [])) ≡ true → s.low ≤ own (get_or rs j [])
  pub to : (j : ℕ) → j < i → test (given g (get_or rs j [])) ≡ true → own (get_or rs j []) ≤ s.high

pub span_next : {g : Pinned} {rs : List Rec} {s t : Span} {i : ℕ} (r : Rec) → Spanned g rs s i → r ≡ get_or rs i [] → Widened g r s t → Spanned g rs t (i + 1)
span_next {rs = rs} {s = s} {t = t} {i = i} r inv e w =
    record {
      from = λ j l q. cases (j equals i) (λ p. rw (p, ← e) (w.from (rw (e, ← p) q))) (λ p. let k = inv.from j (omega arith) q in let m = w.down in omega arith);
      to = λ j l q. cases (j equals i) (λ p. rw (p, ← e) (w.to (rw (e, ← p) q))) (λ p. let k = inv.to j (omega arith) q in let m = w.up in omega arith);
    }

-- no key outside of it gets the PIN
outside : (g : Pinned) (rs : List Rec) (k : ℕ) → ((j : ℕ) → j < length rs → test (given g (get_or rs j [])) ≡ true → own (get_or rs j []) ≡ k → ⊥)
    → test (some rs (given_as g k)) ≡ false
outside g rs k h =
    exists_nowhere (λ y. test (given_as g k y)) rs (λ j l. never_true _ (λ t.
    let w = (both (given_as g k (get_or rs j []))).0 t in
    h j l ((both (given g (get_or rs j []))).1 w.0) w.1))

pub beyond : (g : Pinned) (rs : List Rec) (s : Span) (k : ℕ) → Spans g rs s → (k < s.low) ⊎ ((s.low ≤ k) × (s.high < k)) → test (some rs (given_as g k)) ≡ false
beyond g rs s k w (inl n) = outside g rs k (λ j l t e. let m = w.from j l t in omega arith)
beyond g rs s k w (inr n) = outside g rs k (λ j l t e. let m = w.to j l t in omega (arith, n.1))

module _ (v : List ℕ) (d : Deed) (s : List ℕ) where
  -- of a store that is not too long
  pub enacted : (p : List Fate) (t : List ℕ) → length (records s) ≤ 256 → Plan (deed_fate d (records s)) (records s) p → Becomes (dealt v p (records s)) s t
      → Becomes (unless_long (records s) (map (outcome v d (records s)) (records s))) s t
  unfolding unless_long dealt
  enacted p t h plan w =
      let e = each_map (turn v p) (outcome v d (records s)) 0 (records s) (λ j i. rw (zero-add j, plan.at j i) (deed_done v d (records s) (get_or (records s) j []))) in
      rw (le-leb (length (records s)) 256 h, ← e) w

  -- of a longer one
  pub left_alone : 256 < length (records s) → Becomes (unless_long (records s) (map (outcome v d (records s)) (records s))) s s
  unfolding unless_long
  left_alone h = rw (lt-leb (length (records s)) 256 h) (unchanged s)

-- a store of at most 256 records is not left alone
pub fitting : (rs ts : List Rec) → length rs ≤ 256 → unless_long rs ts ≡ ts
unfolding unless_long
fitting rs ts h = rw (le-leb (length rs) 256 h)
