-- The clauses of two records, record after record: those of record i and the later ones, and what record i says of each. The loop's
-- invariant is that what is asked of the whole store is so exactly if it is so from place i on.
use mathlib.Core.Bool.{Bool, true, false, and-false}
use mathlib.Core.Path.{◌≡◌, sym, ◌∙◌}
use mathlib.Core.List.{List, []}
use Prim.Native.Nat.{ℕ, ◌+◌, ◌/◌, ◌≤◌, ◌<◌}
use native.Mathlib.Omega.{arith}
use lib.ListN.{length, get_or, drop}
use Rattle.paper.specs.Form.{Rec, test, every, each, apart, ◌and◌}
use Rattle.paper.specs.Records.{records}
use Rattle.paper.specs.Sound.{distinct, related}
use Rattle.sound_kin.specs.Settled.{settled}
use Rattle.sound_pairs.proofs.Relations.{same_test}
use Rattle.store_records.proofs.Views.{length-records, records_from, records_end}
use Rattle.sound_store.specs.Whole.{paired, agreeing}

abbrev pub paired_from : List ℕ → ℕ → Bool
paired_from s i = test (apart (drop i (records s)) distinct and each (drop i (records s)) (λ x. each (records s) (related x)))

module _ (s : List ℕ) (i : ℕ) {w : Bool} (inv : w ≡ paired_from s i) where
  pub paired_end : length (records s) ≤ i → true ≡ w
  paired_end h = let l : length s / 256 ≤ i = omega (arith, length-records s) in sym (inv ∙ rw (records_end s i l))

  module _ {x : Rec} {a : Bool} (h : i < length (records s)) (e : x ≡ get_or (records s) i []) (f : a ≡ every (λ y. test (distinct x y)) (drop (i + 1) (records s))) where
    here : i < length s / 256
    here = omega (arith, length-records s, h)

    pub paired_clash : a ≡ false → false ≡ w
    paired_clash t = sym (inv ∙ rw (records_from s i here, ← e, ← f, t))

    module _ {b : Bool} (g : b ≡ test (each (records s) (related x))) where
      pub paired_stop : b ≡ false → false ≡ w
      paired_stop t = sym (inv ∙ rw (records_from s i here, ← e, ← g, t, and-false))

      pub paired_next : a ≡ true → b ≡ true → w ≡ paired_from s (i + 1)
      paired_next t u = inv ∙ rw (records_from s i here, ← e, ← f, t, ← g, u)

-- the clauses of two records, and what each record asks of the others, are the later clauses of soundness
pub both_agree : (rs : List Rec) → test (paired rs and each rs (settled rs)) ≡ test (agreeing rs)
both_agree rs =
    same_test (paired rs and each rs (settled rs)) (agreeing rs)
    (λ (p, q). (p.0, (p.1, ((λ x m. (q x m).0), ((λ x m. (q x m).1.0), (λ x m. (q x m).1.1))))))
    (λ (d, (r, (h, (u, p)))). ((d, r), λ x m. (h x m, (u x m, p x m))))
