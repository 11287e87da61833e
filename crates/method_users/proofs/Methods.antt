-- Each method is its refusals and then what it does. A step that was found by reading has the method's outcome.
use mathlib.Core.Path.{◌≡◌, refl, sym, ap, ◌∙◌}
use mathlib.Core.Bool.{cond}
use mathlib.Core.List.{List, map}
use Prim.Native.Nat.{ℕ, ◌/◌, ◌≤◌, ◌<◌}
use borrow.Author.Tests.{le-leb, lt-leb}
use lib.Dec.{eqb}
use lib.ListN.{length}
use Rattle.paper.specs.Form.{Rec, Fault, only}
use Rattle.paper.specs.Records.{records, PUK, is, delete_protection, parent}
use Rattle.paper.specs.Calls.{subject, typed, typed_new}
use Rattle.paper.specs.Pin.{Verdict as Said, locked, wrong, right, clear, pin_check, puk_check, pin_missed, pin_hit, puk_missed, puk_hit}
use Rattle.paper.specs.Posting.{target, home}
use Rattle.paper.specs.Act.{Out, plain}
use Rattle.paper.specs.Users.{policy_of, puk_of, tried, removed, unlocked, changed, delete_faults, unlock_faults, change_faults, use_faults, delete_key, unlock_key, change_pin, use_key}
use Rattle.laws.proofs.Lists.{length-map}
use Rattle.store_records.specs.View.{Becomes}
use Rattle.store_records.proofs.Views.{length-records, after}
use Rattle.effect_deeds.specs.Outcome.{pinned_by, repinned, unless_long}
use Rattle.effect_deeds.proofs.Planning.{fitting}
use Rattle.effect_deeds.proofs.Outcomes.{by_numbers}
use Rattle.paper.specs.Refusal.{number}
use Rattle.paper.specs.declared.Refusal.{Refusal}
use Rattle.method_acts.specs.Rungs.{status}
use Rattle.method_acts.specs.Range.{in_range}
use Rattle.method_acts.proofs.Climbs.{told_not, told-done}
use Rattle.method_acts.proofs.Methods.{Method}
use Rattle.method_users.specs.Faults.{Seen}
use Rattle.method_users.specs.Steps.{case_of, step_by, lost_with_puk, done_by, out_of}
use Rattle.method_users.specs.declared.Deed.{Deed}

-- what was looked up by the call's handle
pub seen : (c : List ℕ) (rs : List Rec) {k : ℕ} {x h : Rec} → k ≡ subject c → x ≡ target k rs → h ≡ home k rs → Seen c rs x h
seen c rs e f g = record { key = rw (← e) f; home = rw (← e) g }

-- a value that was tried
pub by_verdict : (u : Said) (missed hit : Deed) (w : List ℕ) (rs : List Rec)
    → out_of (step_by (case_of u) missed hit) w rs ≡ tried u rs (done_by missed w rs) (done_by hit w rs)
by_verdict locked missed hit w rs = refl
by_verdict wrong missed hit w rs = refl
by_verdict right missed hit w rs = refl

-- one change, and another of what it made
pub then_done : (f : List Rec → List Rec) {rs : List Rec} {s t u : List ℕ} → Becomes rs s t → Becomes (f (records t)) t u → Becomes (f rs) s u
then_done f {rs} {s} {t} {u} b d = rw (← b.view) (after b d)

-- what is done under DeleteProtection 0, 1 and 2, and where a key without policy has no PIN
abbrev deleting : ℕ → Rec → List ℕ → List Rec → Out
deleting k x v rs =
    cond (eqb (delete_protection x) 0) (plain 0 (removed k rs))
    (cond (eqb (delete_protection x) 1) (tried (pin_check (policy_of x rs) x v) rs (map (pin_missed x) rs) (removed k rs))
    (tried (puk_check (puk_of (policy_of x rs) rs) v) rs (map (puk_missed (puk_of (policy_of x rs) rs)) rs) (removed k (map (puk_hit (puk_of (policy_of x rs) rs)) rs))))

abbrev opening : Rec → List ℕ → List Rec → Out
opening x v rs = cond (eqb (parent x) 0) (plain 0 rs) (tried (pin_check (policy_of x rs) x v) rs (map (pin_missed x) rs) (map (pin_hit x) rs))

module _ (c chip : List ℕ) (rs : List Rec) {x h : Rec} (s : Seen c rs x h) where
  pub method80 : Method (delete_key c chip rs) (delete_faults c chip x rs) rs (deleting (subject c) x (typed c) rs)
  unfolding delete_key
  method80 = rw s.key (record { shape = refl; numbered = refl })

  pub method82 : Method (unlock_key c chip rs) (unlock_faults c chip x (policy_of x rs) (puk_of (policy_of x rs) rs) rs) rs
      (tried (puk_check (puk_of (policy_of x rs) rs) (typed c)) rs (map (puk_missed (puk_of (policy_of x rs) rs)) rs) (unlocked (subject c) rs))
  unfolding unlock_key
  method82 = rw s.key (record { shape = refl; numbered = refl })

  pub method83 : Method (change_pin c chip rs) (change_faults c chip x (policy_of x rs) rs) rs
      (tried (pin_check (policy_of x rs) x (typed c)) rs (map (pin_missed x) rs) (map (changed x (policy_of x rs) (typed_new c) rs) rs))
  unfolding change_pin
  method83 = rw s.key (record { shape = refl; numbered = refl })

  pub method100 : Method (use_key c chip rs) (use_faults c chip x (policy_of x rs) rs) rs (opening x (typed c) rs)
  unfolding use_key
  method100 = rw s.key (record { shape = refl; numbered = refl })

module _ {o done : Out} {fs : List Fault} {rs : List Rec} (m : Method o fs rs done) where
  pub stopped : (e : Refusal) → number e ≡ status fs → plain (number e) rs ≡ o
  stopped e f = sym (m.shape ∙ told_not fs (λ n. plain n rs) done m.numbered e f)

  pub passed : 0 ≡ status fs → {p : Out} → p ≡ done → p ≡ o
  passed z e = e ∙ sym (m.shape ∙ told-done fs (λ n. plain n rs) done m.numbered z)

-- stores of more than 256 records, and all others
module _ (f : List Rec → Out) (s : List ℕ) where
  pub long : 256 < length s / 256 → plain 19 (records s) ≡ in_range f (records s)
  unfolding in_range
  long h = rw (length-records s, lt-leb (length s / 256) 256 h)

  pub ranged : length s / 256 ≤ 256 → {o : Out} → o ≡ f (records s) → o ≡ in_range f (records s)
  unfolding in_range
  ranged h e = rw (length-records s, le-leb (length s / 256) 256 h) e

module _ (s : List ℕ) (h : length s / 256 ≤ 256) where
  pub fits : (ts : List Rec) → unless_long (records s) ts ≡ ts
  fits ts = fitting (records s) ts (rw (length-records s) h)

  -- a key removed after its PUK's count became 0
  pub fits_puk : (k o t : ℕ) → lost_with_puk k o t (records s) ≡ removed k (map (only (is PUK o t) (clear 3)) (records s))
  fits_puk k o t = fitting (map (only (is PUK o t) (clear 3)) (records s)) _ (rw (length-map, length-records s) h)

-- the paper's change by numbers, on all records
pub all_repinned : (x : Rec) (rs : List Rec) (w : List ℕ) → map (repinned (pinned_by x (policy_of x rs)) w rs) rs ≡ map (changed x (policy_of x rs) w rs) rs
all_repinned x rs w = ap (λ (f : Rec → Rec). map f rs) (λ i r. sym (by_numbers x rs w r) i)
