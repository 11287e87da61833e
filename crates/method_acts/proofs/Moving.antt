-- A session's own record moved on, and what the paper's outcome is where there is a free place and where there is none.
use mathlib.Core.Path.{◌≡◌, refl}
use mathlib.Core.Bool.{Bool, true, false, cond, ◌&&◌}
use mathlib.Core.List.{List, [], ◌∷◌, map}
use mathlib.Core.Option.{some as just}
use Prim.Native.Nat.{ℕ}
use lib.Dec.{eqb}
use Rattle.paper.specs.Form.{Rec, test, only}
use Rattle.paper.specs.Records.{kind, own, session, records, SESSION, is, bears, room, insert}
use Rattle.paper.specs.Act.{perform, inside, refuse, advance, moved}
use Rattle.store_records.specs.View.{Becomes}
use Rattle.store_records.proofs.Views.{after}
use Rattle.method_acts.specs.Answers.{Answers}

-- a session's record bears its handle, so that the edit of the session's own records is the edit of all
within-own : (a b c : Bool) (x y : Rec) → cond c (cond (a && (b && c)) y x) x ≡ cond (a && (b && c)) y x
within-own true true true x y = refl
within-own true true false x y = refl
within-own true false true x y = refl
within-own true false false x y = refl
within-own false b true x y = refl
within-own false b false x y = refl

pub own-only : (k o s : ℕ) (f : Rec → Rec) (x : Rec) → only (bears s) (only (is k o s) f) x ≡ only (is k o s) f x
unfolding only
own-only k o s f x = within-own (eqb (kind x) k) (eqb (own x) o) (eqb (session x) s) x (f x)

pub map-own : (k o s : ℕ) (f : Rec → Rec) (rs : List Rec) → map (only (bears s) (only (is k o s) f)) rs ≡ map (only (is k o s) f) rs
map-own k o s f [] = refl
map-own k o s f (x ∷ rs) = rw (own-only k o s f x, map-own k o s f rs)

module _ (s : ℕ) (rs : List Rec) (h : ℕ) (a : List ℕ) (used : ℕ) (r : Rec) where
  pub placed_not : test (room rs) ≡ false → perform s (inside h a (advance s 1 used) (just r)) rs ≡ perform s (refuse 2) rs
  unfolding perform
  placed_not e = rw e

  pub placed-done : test (room rs) ≡ true
      → perform s (inside h a (advance s 1 used) (just r)) rs
      ≡ record { status = 0; handle = h; attestation = a; store = insert r (map (advance s 1 used) rs) }
  unfolding perform advance
  placed-done e = rw (e, map-own SESSION s s (moved 1 used) rs)

-- the session moved on, and then the record put in
pub placed_by : (t h : ℕ) (a : List ℕ) (used : ℕ) (r : Rec) {s u v : List ℕ} → test (room (records s)) ≡ true
    → Becomes (map (advance t 1 used) (records s)) s u → Becomes (insert r (records u)) u v
    → Answers (perform t (inside h a (advance t 1 used) (just r)) (records s)) (record { status = 0; handle = h; attestation = a }) s v
placed_by t h a used r {s} {u} {v} e w x =
    rw (placed-done t (records s) h a used r e) (record { reply = refl; store = rw w.view at (after w x) })
