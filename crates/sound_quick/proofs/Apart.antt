-- Records whose marks differ are distinct in the paper's sense: whatever makes two records clash makes two of their marks equal, and a
-- mark of records that can clash is not 0.
use mathlib.Core.Bool.{Bool, true, false, not, ◌&&◌, ◌||◌}
use mathlib.Core.Path.{◌≡◌, refl, sym, ap, ◌∙◌}
use mathlib.Core.List.Memᴰ
use mathlib.Core.List.{List, [], ◌∷◌, map, Memᴰ}
use mathlib.Core.Logic.{◌⊎◌, inl, inr}
use Prim.Native.Nat.{ℕ, suc, ◌≤◌}
use native.Mathlib.Omega.{arith}
use borrow.Author.Tests.{eq-eqb, ne_eqb}
use lib.Dec.{eqb, leb}
use lib.ListN.{length}
use Rattle.hmac.proofs.Sameness.{same_eq}
use Rattle.paper.specs.Limits.{id_width}
use Rattle.paper.specs.Bytes.{part}
use Rattle.paper.specs.Form.{Rec, ◌equals◌, Fact, Pairs}
use Rattle.paper.specs.Records.{kind, SESSION, PENDING, COUNTER, own, session, parent}
use Rattle.paper.specs.Sound.{has_handle, has_id, parentless}
use Rattle.paper.proofs.Forms.{contrary, both, cases}
use Rattle.laws.proofs.Facts.{Alone, Distinct}
use Rattle.sound_quick.specs.Marks.{mixed, handle_mark, pending_mark, name_mark, mark_of, occurs, repeated, differing, marks_differ}

each_of : (p q : Bool) → p && q ≡ true → (p ≡ true) × (q ≡ true)
each_of true q e = (refl, e)
each_of false q e = contrary (sym e)

-- ---- marks of a column

right : (p : Bool) → (p || true) ≡ true
right true = refl
right false = refl

module _ (f : Rec → ℕ) where
  occurs_of : (y : Rec) (rs : List Rec) → Memᴰ y rs → occurs (f y) (map f rs) ≡ true
  unfolding occurs
  occurs_of y [] m = absurd (Memᴰ.not-nil m)
  occurs_of y (r ∷ rs) m = go (Memᴰ.cases_cons m) (λ n. occurs_of y rs n)
    where
      go : (y ≡ r) ⊎ Memᴰ y rs → (Memᴰ y rs → occurs (f y) (map f rs) ≡ true) → (eqb (f r) (f y) || occurs (f y) (map f rs)) ≡ true
      go (inl e) h = rw (eq-eqb (f r) (f y) (ap f (sym e)))
      go (inr n) h = rw (h n) (right (eqb (f r) (f y)))

  -- a mark that is not repeated is no other record's
  other : (x y : Rec) (rs : List Rec) → not (repeated (f x) (map f rs)) ≡ true → Memᴰ y rs → (f x ≡ 0 → ⊥) → f x ≡ f y → ⊥
  unfolding repeated
  other x y rs e m n q =
      let o : occurs (f x) (map f rs) ≡ true = rw q (occurs_of y rs m) in
      contrary (sym (rw (ne_eqb (f x) 0 n, o) at e))

-- ---- what each record's marks are

mixed_more : (a b : ℕ) (l : List ℕ) → mixed a b l ≡ 0 → ⊥
unfolding mixed
mixed_more a b l e = omega arith

module _ (r : Rec) where
  handle_of : Fact (has_handle r) → handle_mark r ≡ own r
  unfolding handle_mark
  handle_of h = rw ((both (has_handle r)).1 h)

  session_of : kind r ≡ SESSION → name_mark r ≡ mixed 0 0 (part 49 id_width r)
  unfolding name_mark
  session_of k = rw k

  id_of : Fact (has_id r) → name_mark r ≡ mixed (session r) 0 (part 16 id_width r)
  unfolding name_mark
  id_of h = rw (ne_eqb (kind r) 1 (λ e. omega arith), (both (has_id r)).1 h)

  pending_of : kind r ≡ PENDING → (parent r ≡ 0 → ⊥) → name_mark r ≡ mixed (session r) (parent r) []
  unfolding name_mark pending_mark
  pending_of k n = rw (k, ne_eqb (parent r) 0 n)

  counter_of : kind r ≡ COUNTER → name_mark r ≡ 4294967295
  unfolding name_mark
  counter_of k = rw k

  -- no handle is 0
  handle_more : Alone r → Fact (has_handle r) → own r ≡ 0 → ⊥
  handle_more A h e =
      cases (kind r equals SESSION)
      (λ k. let b : 65536 ≤ own r = (A.session_carries k).1.0 in omega arith)
      (λ k. let b : suc (session r) ≤ own r = (A.object_carries ((omega arith), h.1)).0 in omega arith)

-- ---- two records

module _ (x y : Rec) (A : Alone x) (H : (handle_mark x ≡ 0 → ⊥) → handle_mark x ≡ handle_mark y → ⊥) (N : (name_mark x ≡ 0 → ⊥) → name_mark x ≡ name_mark y → ⊥) where
  -- names that are mixed
  clash : (a b : ℕ) (l : List ℕ) → name_mark x ≡ mixed a b l → name_mark y ≡ mixed a b l → ⊥
  clash a b l p q = N (λ z. mixed_more a b l (sym p ∙ z)) (p ∙ sym q)

  apart : Distinct x y
  apart =
      record {
        one_counter = λ k l. N (λ z. let e : ◌≡◌ {A = ℕ} 4294967295 0 = sym (counter_of x k) ∙ z in omega arith) (counter_of x k ∙ sym (counter_of y l));
        handles_differ = λ h g e. H (λ z. handle_more x A h (sym (handle_of x h) ∙ z)) (handle_of x h ∙ e ∙ sym (handle_of y g));
        ids_differ = λ h g e s. clash (session x) 0 (part 16 id_width x) (id_of x h) (rw (e, same_eq (part 16 id_width x) (part 16 id_width y) s) (id_of y g));
        clients_differ = λ k l s. clash 0 0 (part 49 id_width x) (session_of x k) (rw (same_eq (part 49 id_width x) (part 49 id_width y) s) (session_of y l));
        one_pending = λ k l e p. cases (parentless x) (λ o. o) (λ n. absurd (clash (session x) (parent x) [] (pending_of x k n) (rw (e, p) (pending_of y l (λ z. n (p ∙ z))))));
      }

-- ---- all

apart_of : (rs : List Rec) → ((r : Rec) → Memᴰ r rs → Alone r) → differing (map (mark_of false) rs) ≡ true → differing (map (mark_of true) rs) ≡ true
    → Pairs Distinct rs
unfolding differing
apart_of [] A h n = tt
apart_of (x ∷ rs) A h n =
    let hs = each_of (not (repeated (handle_mark x) (map (mark_of false) rs))) (differing (map (mark_of false) rs)) h in
    let ns = each_of (not (repeated (name_mark x) (map (mark_of true) rs))) (differing (map (mark_of true) rs)) n in (
      (λ y m. apart x y (A x (Memᴰ.head refl)) (other (mark_of false) x y rs hs.0 m) (other (mark_of true) x y rs ns.0 m)),
      apart_of rs (λ r m. A r (Memᴰ.tail m)) hs.1 ns.1,
    )

pub apart_by_marks : (rs : List Rec) → ((r : Rec) → Memᴰ r rs → Alone r) → marks_differ rs ≡ true → Pairs Distinct rs
unfolding marks_differ
apart_by_marks rs A e =
    let l = each_of (leb (length rs) 256) (differing (map (mark_of false) rs) && differing (map (mark_of true) rs)) e in
    let d = each_of (differing (map (mark_of false) rs)) (differing (map (mark_of true) rs)) l.1 in
    apart_of rs A d.0 d.1
