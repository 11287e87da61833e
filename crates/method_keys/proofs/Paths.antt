-- What method 12 comes to, by its status: refused with it, or two edits of the session's own records, one after the other.
use mathlib.Core.Path.{◌≡◌, refl, sym, ap, ◌∙◌}
use mathlib.Core.Bool.{Bool, true, false, ◌&&◌, cond}
use mathlib.Core.List.{List, [], ◌∷◌, map}
use Prim.Native.Nat.{ℕ}
use lib.Dec.{eqb}
use Rattle.sha256.specs.Sha256.{SHA256}
use Rattle.paper.specs.Form.{Rec, Form, test, only, Fault}
use Rattle.paper.specs.Records.{SessionValue, records, kind, own, session, SESSION, KEY, is, at, bears, block}
use Rattle.paper.specs.Calls.{subject, path_in}
use Rattle.paper.specs.Act.{Act, refuse, advance, moved, perform, plain}
use Rattle.paper.specs.Objects.{path_faults, certified, set_path_by}
use Rattle.store_records.specs.View.{Becomes}
use Rattle.store_records.proofs.Views.{after}
use Rattle.method_acts.specs.Rungs.{status}
use Rattle.method_acts.proofs.Climbs.{settle-done, settle_not}
use Rattle.method_acts.specs.Answers.{Answers, bare_reply}

-- an edit of a record by its session leaves a record of another session
off : (a b c : Bool) (x y : Rec) → c ≡ false → cond (a && (b && c)) y x ≡ x
off true true true x y e = sym (ap (λ (t : Bool). cond t x y) e)
off true true false x y e = refl
off true false c x y e = refl
off false b c x y e = refl

only_yes : (φ : Rec → Form) (f : Rec → Rec) (x : Rec) → test (φ x) ≡ true → only φ f x ≡ f x
unfolding only
only_yes φ f x e = rw e

only_not : (φ : Rec → Form) (f : Rec → Rec) (x : Rec) → test (φ x) ≡ false → only φ f x ≡ x
unfolding only
only_not φ f x e = rw e

off_only : (k o s : ℕ) (f : Rec → Rec) (x : Rec) → test (bears s x) ≡ false → only (is k o s) f x ≡ x
unfolding only
off_only k o s f x e = off (eqb (kind x) k) (eqb (own x) o) (eqb (session x) s) x (f x) e

module _ (s k : ℕ) (f g : Rec → Rec) where
  both_own : (x : Rec) → only (bears s) (λ r. only (is KEY k s) g (only (is SESSION s s) f r)) x ≡ only (is KEY k s) g (only (is SESSION s s) f x)
  both_own x = go (test (bears s x)) refl
    where
      go : (b : Bool) → test (bears s x) ≡ b
          → only (bears s) (λ r. only (is KEY k s) g (only (is SESSION s s) f r)) x ≡ only (is KEY k s) g (only (is SESSION s s) f x)
      go true e = only_yes (bears s) (λ r. only (is KEY k s) g (only (is SESSION s s) f r)) x e
      go false e =
          only_not (bears s) (λ r. only (is KEY k s) g (only (is SESSION s s) f r)) x e
          ∙ sym (ap (only (is KEY k s) g) (off_only SESSION s s f x e) ∙ off_only KEY k s g x e)

  map_both : (rs : List Rec) → map (only (bears s) (λ r. only (is KEY k s) g (only (is SESSION s s) f r))) rs ≡ map (only (is KEY k s) g) (map (only (is SESSION s s) f) rs)
  map_both [] = refl
  map_both (x ∷ rs) = rw (both_own x, map_both rs)

-- The refusals, at the key that the call names.
abbrev pub path_ladder : SessionValue → List ℕ → List ℕ → List Rec → List Fault
path_ladder x c chip rs = path_faults c chip (path_in c) (at KEY (path_in c).key (subject c) (block (subject c) rs)) x

module _ (x : SessionValue) (c chip : List ℕ) where
  pub path_not : (rs : List Rec) → (status (path_ladder x c chip rs) ≡ 0 → ⊥)
      → set_path_by x c chip (block (subject c) rs) ≡ refuse (status (path_ladder x c chip rs))
  unfolding set_path_by
  path_not rs h = settle_not (path_ladder x c chip rs) refuse _ refl h

  path_done : (rs : List Rec) → status (path_ladder x c chip rs) ≡ 0
      → perform (subject c) (set_path_by x c chip (block (subject c) rs)) rs
      ≡ plain 0 (map (only (is KEY (path_in c).key (subject c)) (certified (SHA256 (path_in c).first))) (map (advance (subject c) 0 1) rs))
  unfolding set_path_by perform advance
  path_done rs z =
      ap (λ (a : Act). perform (subject c) a rs) (settle-done (path_ladder x c chip rs) refuse _ refl z)
      ∙ ap (plain 0) (map_both (subject c) (path_in c).key (moved 0 1) (certified (SHA256 (path_in c).first)) rs)

  -- the counter moved on, and then the key certified
  pub path_by : {s u v : List ℕ} → status (path_ladder x c chip (records s)) ≡ 0
      → Becomes (map (advance (subject c) 0 1) (records s)) s u
      → Becomes (map (only (is KEY (path_in c).key (subject c)) (certified (SHA256 (path_in c).first))) (records u)) u v
      → Answers (perform (subject c) (set_path_by x c chip (block (subject c) (records s))) (records s)) (bare_reply 0) s v
  path_by {s} {u} {v} z w y =
      rw (path_done (records s) z) (record { reply = refl; store = rw w.view at (after w y) })
