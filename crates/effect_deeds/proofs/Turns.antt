-- A loop that edits record after record by its fate in a plan: what is done, and what is to do.
use mathlib.Core.Bool.{true}
use mathlib.Core.Path.{◌≡◌, refl, sym, ap, ◌∙◌}
use mathlib.Core.List.{List, [], ◌∷◌, ◌++◌, map, append_assoc, append-nil}
use Prim.Native.Nat.{ℕ, suc, ◌+◌, ◌≤◌, ◌<◌}
use native.Mathlib.Numerals.{add-one}
use native.Mathlib.Omega.{arith}
use lib.ListN.{length, get_or, take, drop, set, drop_of_length-le}
use lib.Seq.{drop-cons, take_all, take-suc-set, drop-set-lt, set-get_or}
use Rattle.paper.specs.Form.{Rec, say, only}
use Rattle.paper.specs.Records.{records, zeros}
use Rattle.store_records.specs.View.{rest, Becomes}
use Rattle.store_records.proofs.Views.{length-records, becomes, rest_kept}
use Rattle.store_edits.proofs.Puts.{edit_at, unchanged}
use Rattle.effect_plan.specs.declared.Fate.{Fate}
use Rattle.effect_plan.specs.declared.Fate.TheVariants.{Stays}
use Rattle.std.proofs.Math.ListN.{get_or-map}
use Rattle.paper.specs.Bytes.{byte}
use Rattle.effect_plan.specs.Fate.{fate_of, planned}
use Rattle.effect_deeds.specs.Deeds.{each_at, done}

-- a record changed by value and put back
pub turned-at : (f : Rec → Rec) (s : List ℕ) (i : ℕ) (r t : List ℕ) → r ≡ f (get_or (records s) i zeros) → Becomes (set (records s) i r) s t
    → Becomes (set (records s) i (f (get_or (records s) i []))) s t
turned-at f s i r t e w = (unfold only in edit_at (λ x. say true) f s i r t refl e w)

-- a record that stays is not touched
pub stayed_at : (v : List ℕ) (f : Fate) (s : List ℕ) (i : ℕ) → f ≡ Stays → Becomes (set (records s) i (done v f (get_or (records s) i []))) s s
unfolding done
stayed_at v f s i e = rw (e, set-get_or (records s) i []) (unchanged s)

module _ (g : ℕ → Rec → Rec) (rs : List Rec) (i : ℕ) where
  all_done : length rs ≤ i → take i rs ++ each_at g i (drop i rs) ≡ rs
  unfolding each_at
  all_done h = rw (drop_of_length-le rs h, take_all i rs h, append-nil)

  one-done : i < length rs
      → take i rs ++ each_at g i (drop i rs) ≡ take (i + 1) (set rs i (g i (get_or rs i []))) ++ each_at g (i + 1) (drop (i + 1) (set rs i (g i (get_or rs i []))))
  unfolding each_at
  one-done h =
      let b : i < suc i = omega arith in
      rw (drop-cons rs i [] h, add-one i, take-suc-set rs i _ h, drop-set-lt (suc i) rs i _ b, append_assoc)

pub record Turns (g : ℕ → Rec → Rec) (s₀ s : List ℕ) (i : ℕ) : Type 0 where
  pub left : each_at g 0 (records s₀) ≡ take i (records s) ++ each_at g i (drop i (records s))
  pub tail : rest s ≡ rest s₀
  pub same : length s ≡ length s₀

module _ {g : ℕ → Rec → Rec} {s₀ s : List ℕ} {i : ℕ} (inv : Turns g s₀ s i) where
  pub turns_step : (t : List ℕ) → i < length (records s₀) → Becomes (set (records s) i (g i (get_or (records s) i []))) s t → length t ≡ length s → Turns g s₀ t (i + 1)
  turns_step t h w l =
      let b : i < length (records s) = omega (arith, length-records s, length-records s₀, inv.same) in
      record {
        left = rw w.view (inv.left ∙ one-done g (records s) i b);
        tail = rest_kept w ∙ inv.tail;
        same = l ∙ inv.same;
      }

  pub turns_done : length (records s₀) ≤ i → Becomes (each_at g 0 (records s₀)) s₀ s
  turns_done h =
      let b : length (records s) ≤ i = omega (arith, length-records s, length-records s₀, inv.same) in
      becomes (each_at g 0 (records s₀)) s₀ s (sym (inv.left ∙ all_done g (records s) i b)) inv.tail

-- an edit that goes by the place comes to one that does not
pub each_map : (g : ℕ → Rec → Rec) (f : Rec → Rec) (i : ℕ) (rs : List Rec) → ((j : ℕ) → j < length rs → g (i + j) (get_or rs j []) ≡ f (get_or rs j [])) → each_at g i rs ≡ map f rs
unfolding each_at
each_map g f i [] h = refl
each_map g f i (r ∷ rs) h =
    let e : i + 0 ≡ i = omega arith in
    rw (each_map g f (i + 1) rs (λ j l. let q : i + suc j ≡ (i + 1) + j = omega arith in rw q at (h (suc j) (omega arith))))
    (ap (λ (x : Rec). x ∷ map f rs) (rw e at (h 0 (omega arith))))

-- what a plan of numbers says of a record is the fate of its number there; past the end both stay
pub numbers_planned : (p : List ℕ) (i : ℕ) → planned i (map fate_of p) ≡ fate_of (byte i p)
unfolding planned byte
numbers_planned p i = get_or-map fate_of p i 0
