-- A session's own edits: its counters moved on, and a key's path set (method 12). The store stays sound.
use mathlib.Core.Path.{◌≡◌, refl, sym, ap, ◌∙◌, subst}
use mathlib.Core.List.{List, map, Memᴰ}
use Prim.Native.Nat.{ℕ, suc, ◌+◌, ◌≤◌}
use native.Mathlib.Omega.{arith}
use lib.ListN.{length}
use lib.Dec.{lit≤}
use Rattle.paper.specs.Limits.{most_objects}
use Rattle.paper.specs.Form.{Rec, Form, Fact, only}
use Rattle.paper.specs.Records.{kind, SESSION, KEY, own, session, is, bears, next_object, mac_counter, key_limit}
use Rattle.paper.specs.Act.{moved, advance}
use Rattle.paper.specs.Objects.{certified}
use Rattle.laws.proofs.Choice.{only-is, only_in, only_out}
use Rattle.laws.proofs.Places.{part_kept}
use Rattle.laws.proofs.Edits.{moved_same, certified-same, certified_path, certified_at}
use Rattle.laws.proofs.Lists.{map-map, map_same}
use Rattle.laws.proofs.Facts.{Facts}
use Rattle.rule.proofs.RecordEdits.{long, kin_moved, alone-moved, kin_certified, alone-certified}
use Rattle.rule.proofs.QuietEdits.{softly, keyed, pins_kept}

-- an edit within the session that edits but some of its records is that edit
within : (s : ℕ) (φ : Rec → Form) (e : Rec → Rec) (x : Rec) → ((y : Rec) → Fact (φ y) → session y ≡ s) → only (bears s) (only φ e) x ≡ only φ e x
within s φ e x h = only-is (λ y. y ≡ only φ e x) (bears s) (only φ e) x (λ p. refl) (λ n. sym (only_out φ e x (λ p. n (h x p))))

pub advance-is : (s objects used : ℕ) (x : Rec) → only (bears s) (advance s objects used) x ≡ only (is SESSION s s) (moved objects used) x
unfolding advance
advance-is s objects used x = within s (is SESSION s s) (moved objects used) x (λ y p. p.1.1)

module _ (s objects used : ℕ) (rs : List Rec) (F : Facts rs)
    (room : (x : Rec) → Memᴰ x rs → kind x ≡ SESSION → own x ≡ s → (next_object x + objects ≤ suc most_objects) × (mac_counter x + used ≤ key_limit x)) where
  pub advance_kept : Facts (map (only (bears s) (advance s objects used)) rs)
  advance_kept =
      subst Facts
      (map_same (only (is SESSION s s) (moved objects used)) (only (bears s) (advance s objects used)) rs (λ x m. sym (advance-is s objects used x)))
      (softly (is SESSION s s) (moved objects used) rs F
      (record {
        no_key = λ x i p k. let j = p.0 in omega arith;
        kin = λ x i p. let g = room x i p.0 p.1.0 in kin_moved x (F.alone x i) objects used p.0 g.0 g.1;
        alone = λ x i p. let g = room x i p.0 p.1.0 in alone-moved x (F.alone x i) objects used p.0 g.0 g.1;
        state= = λ x i p k. (moved_same objects used x).at 1 refl;
      }))

-- ---- method 12

module _ (k s : ℕ) (d : List ℕ) (l : length d ≡ 32) (rs : List Rec) (F : Facts rs) where
  certify_kept : Facts (map (only (is KEY k s) (certified d)) rs)
  certify_kept =
      keyed (is KEY k s) (certified d) rs F
      (record {
        a_key = λ x m p. p.0;
        kin = λ x m p. kin_certified x (F.alone x m) d l p.0;
        alone = λ x m p. alone-certified x (F.alone x m) d l p.0;
        path = λ x m p q. certified_path d l x (rw (long x (F.alone x m)) (lit≤ tt));
        counts = λ p x mp mx q g. rw ((certified-same d l x).at 2 refl) ((F.related p mp x mx).key_counts g);
        pins = pins_kept (is KEY k s) (certified d) rs F (λ x m p. part_kept certified_at x (certified d x) (certified-same d l x) 49 17 refl);
      })

pub path_kept : (k s : ℕ) (d : List ℕ) → length d ≡ 32 → (rs : List Rec) → Facts rs
    → ((x : Rec) → Memᴰ x rs → kind x ≡ SESSION → own x ≡ s → (next_object x + 0 ≤ suc most_objects) × (mac_counter x + 1 ≤ key_limit x))
    → Facts (map (only (bears s) (λ r. only (is KEY k s) (certified d) (advance s 0 1 r))) rs)
path_kept k s d l rs F room =
    subst Facts
    (map-map (only (is KEY k s) (certified d)) (only (bears s) (advance s 0 1)) rs
    ∙ map_same (λ x. only (is KEY k s) (certified d) (only (bears s) (advance s 0 1) x))
    (only (bears s) (λ r. only (is KEY k s) (certified d) (advance s 0 1 r))) rs (λ x m. one x))
    (certify_kept k s d l (map (only (bears s) (advance s 0 1)) rs) (advance_kept s 0 1 rs F room))
  where
    one : (x : Rec)
        → only (is KEY k s) (certified d) (only (bears s) (advance s 0 1) x) ≡ only (bears s) (λ r. only (is KEY k s) (certified d) (advance s 0 1 r)) x
    one x =
        only-is (λ y. only (is KEY k s) (certified d) (only (bears s) (advance s 0 1) x) ≡ y) (bears s)
        (λ r. only (is KEY k s) (certified d) (advance s 0 1 r)) x
        (λ p. ap (only (is KEY k s) (certified d)) (only_in (bears s) (advance s 0 1) x p))
        (λ n. ap (only (is KEY k s) (certified d)) (only_out (bears s) (advance s 0 1) x n) ∙ only_out (is KEY k s) (certified d) x (λ p. n p.1.1))
