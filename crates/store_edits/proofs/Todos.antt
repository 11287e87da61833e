-- A loop that edits record after record in place: what is done, and what is to do.
use mathlib.Core.Path.{◌≡◌, sym, ap, ◌∙◌}
use mathlib.Core.List.{List, [], ◌++◌, map, append_assoc, append-nil}
use Prim.Native.Nat.{ℕ, suc, ◌+◌, ◌*◌, ◌-◌, ◌/◌, ◌≤◌, ◌<◌}
use native.Mathlib.Numerals.{add-one}
use native.Mathlib.Omega.{arith}
use borrow.Rule.Slice.PartMut.{put_mid}
use lib.ListN.{length, get_or, take, drop, set, drop_of_length-le}
use lib.Seq.{drop-cons, take_all, take-suc-set, drop-set-lt}
use Rattle.paper.specs.Form.{Rec}
use Rattle.paper.specs.Records.{records}
use Rattle.store_records.specs.View.{rest, Becomes}
use Rattle.store_records.proofs.Views.{length-records, shown, becomes, rest_kept}
use Rattle.store_edits.proofs.Puts.{put_mid_lem}

module _ (f : Rec → Rec) (rs : List Rec) (i : ℕ) where
  all_done : length rs ≤ i → take i rs ++ map f (drop i rs) ≡ rs
  all_done h = rw (drop_of_length-le rs h, take_all i rs h, append-nil)

  one-done : i < length rs
      → take i rs ++ map f (drop i rs) ≡ take (i + 1) (set rs i (f (get_or rs i []))) ++ map f (drop (i + 1) (set rs i (f (get_or rs i []))))
  one-done h =
      let b : i < suc i = omega arith in
      rw (add-one i, take-suc-set rs i _ h, drop-set-lt (suc i) rs i _ b, append_assoc, drop-cons rs i [] h)

pub record Todo (f : Rec → Rec) (s₀ s : List ℕ) (i : ℕ) : Type 0 where
  pub left : map f (records s₀) ≡ take i (records s) ++ map f (drop i (records s))
  pub tail : rest s ≡ rest s₀

module _ {f : Rec → Rec} {s₀ s : List ℕ} {i : ℕ} (inv : Todo f s₀ s i) (same : length s ≡ length s₀) where
  -- the part that was lent comes back with f done to it
  pub todo_step : (r : Rec) → i < length s₀ / 256 → length r ≡ 256 → r ≡ f (take ((256 * i + 256) - 256 * i) (drop (256 * i) s))
      → Todo f s₀ (put_mid (256 * i) ((256 * i + 256) - 256 * i) s r) (i + 1)
  todo_step r h l q =
      let k : i < length s / 256 = rw same h in
      let b : i < length (records s) = omega (arith, length-records s) in
      let w = put_mid_lem s i r _ k l (q ∙ ap f (shown s i k)) in
      record { left = rw w.view (inv.left ∙ one-done f (records s) i b); tail = rest_kept w ∙ inv.tail }

  pub todo_done : length s₀ / 256 ≤ i → Becomes (map f (records s₀)) s₀ s
  todo_done h =
      let b : length (records s) ≤ i = omega (arith, length-records s, same) in
      becomes (map f (records s₀)) s₀ s (sym (inv.left ∙ all_done f (records s) i b)) inv.tail
