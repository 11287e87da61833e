-- Loops over the records, and searches by place.
use mathlib.Core.Bool.{Bool, true, false, ◌&&◌}
use mathlib.Core.Path.{◌≡◌, refl, ap, ◌∙◌}
use mathlib.Core.List.{List, [], ◌∷◌}
use Prim.Native.Nat.{ℕ, suc, ◌+◌, ◌<◌}
use lib.ListN.{length, get_or}
use lib.Dec.{eqb}
use native.Mathlib.Omega.{arith}
use Rattle.std.specs.List.{list_any, range_with_len}
use Rattle.paper.specs.Form.{Rec, test, some, exists}
use Rattle.paper.specs.Records.{records, kind, POLICY, KEY, PUK, own, session, parent}
use Rattle.paper.specs.Closing.{Keys as Set, puk_unlocked}
use Rattle.std.proofs.lemmas.Iterator.Consumers.{YieldsList-at, YieldsList-turn, YieldsList-end}
use Rattle.std.proofs.lemmas.List.{get_or_default}
use Rattle.std.specs.Iterator.{Yields}
use Rattle.std.specs.Slice.Iter.{chunks_exact_steps}
use Rattle.std.specs.declared.slice.ChunksExact.{ChunksExact}
use Rattle.std.specs.declared.option.Option.{Option}
use Rattle.std.specs.declared.option.Option.TheVariants.{Some, None}
use Rattle.store_records.specs.View.{Shows}
use Rattle.store_records.proofs.Shown.{yields}
use denote.Ref.{Bor}
use Rattle.effect_plan.specs.declared.Lot.TheVariants.{Unlocked}
use Rattle.effect_plan.specs.Sets.{policy_so}

-- a loop over the records, of which xs are seen: the next one, and the end
module _ {s : List ℕ} {first it : ChunksExact ℕ} (t u : ChunksExact ℕ) {r : Option (Bor (List ℕ))} (xs : List (Bor (List ℕ))) (h : Shows first s) (e : it ≡ first)
    (y : Yields chunks_exact_steps it xs t) (n : chunks_exact_steps t r u) where
  pub next_record : (x : Bor (List ℕ)) → r ≡ Some x → (length xs < length (records s)) × (x.now ≡ get_or (records s) (length xs) [])
  next_record x p =
      let w = YieldsList-turn (YieldsList-at e (yields s first h)) xs t y r u x p n in
      (w.0, w.1 ∙ get_or_default (records s) (length xs) x.now [] w.0)

  pub no_more : r ≡ None → length xs ≡ length (records s)
  no_more p = (YieldsList-end (YieldsList-at e (yields s first h)) xs t y r u p n).1

-- some record passes a test that asks for it by its place
any-from : (q : Rec → Bool) (rs ts : List Rec) (a : ℕ) → ((j : ℕ) → get_or rs (a + j) [] ≡ get_or ts j []) → list_any (λ i. q (get_or rs i [])) (range_with_len a (length ts)) ≡ exists q ts
any-from q rs [] a h = refl
any-from q rs (t ∷ ts) a h =
    let z : a + 0 ≡ a = omega arith in
    rw (rw z at (h 0), any-from q rs ts (a + 1) (λ j. let e : (a + 1) + j ≡ a + suc j = omega arith in rw e (h (suc j))))

pub any-places : (q : Rec → Bool) (rs : List Rec) → list_any (λ i. q (get_or rs i [])) (range_with_len 0 (length rs)) ≡ exists q rs
any-places q rs = any-from q rs rs 0 (λ j. let e : 0 + j ≡ j = omega arith in rw e)

-- tests that agree of every record agree of some record
pub exists-same : (p q : Rec → Bool) → ((x : Rec) → p x ≡ q x) → (rs : List Rec) → exists p rs ≡ exists q rs
exists-same p q h [] = refl
exists-same p q h (x ∷ rs) = rw (h x, exists-same p q h rs)

-- a PUK's policies of which a key is unlocked
pub puk_unlocked_lem : (u : Set) (rs : List Rec) (r : Rec)
    → test (puk_unlocked u rs r) ≡ (eqb (kind r) PUK && test (some rs (policy_so u rs (own r) (session r) Unlocked)))
puk_unlocked_lem u rs r = ap (λ (b : Bool). eqb (kind r) PUK && b) (exists-same _ _ (λ p. policy p) rs)
  where
    grouped : (a b c e : Bool) → (a && (b && (c && e))) ≡ ((a && (b && c)) && e)
    grouped true true c e = refl
    grouped true false c e = refl
    grouped false b c e = refl

    turned_round : (a b c e : Bool) → ((a && e) && (b && c)) ≡ ((a && (b && c)) && (a && e))
    turned_round true b c true = swap (b && c)
      where
        swap : (t : Bool) → t ≡ (t && true)
        swap true = refl
        swap false = refl
    turned_round true b c false = swap (b && c)
      where
        swap : (t : Bool) → false ≡ (t && false)
        swap true = refl
        swap false = refl
    turned_round false b c e = refl

    key : (p k : Rec) → ((eqb (kind k) KEY && u (own k)) && (eqb (parent k) (own p) && eqb (session k) (session r))) ≡ ((eqb (kind k) KEY && (eqb (parent k) (own p) && eqb (session k) (session r))) && (eqb (kind k) KEY && u (own k)))
    key p k = turned_round (eqb (kind k) KEY) (eqb (parent k) (own p)) (eqb (session k) (session r)) (u (own k))

    policy : (p : Rec) → (eqb (kind p) POLICY && (eqb (parent p) (own r) && (eqb (session p) (session r) && exists (λ k. (eqb (kind k) KEY && u (own k)) && (eqb (parent k) (own p) && eqb (session k) (session r))) rs)))
        ≡ ((eqb (kind p) POLICY && (eqb (parent p) (own r) && eqb (session p) (session r))) && exists (λ k. (eqb (kind k) KEY && (eqb (parent k) (own p) && eqb (session k) (session r))) && (eqb (kind k) KEY && u (own k))) rs)
    policy p = rw (exists-same _ _ (λ k. key p k) rs) (grouped (eqb (kind p) POLICY) (eqb (parent p) (own r)) (eqb (session p) (session r)) _)
