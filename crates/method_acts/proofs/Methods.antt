-- A method is its refusals and then what it does: what the status of the refusals says of its answer. And stores out of range.
use mathlib.Core.Path.{◌≡◌, refl, ◌∙◌}
use mathlib.Core.Bool.{true}
use mathlib.Core.List.{List}
use Prim.Native.Nat.{ℕ, ◌/◌, ◌≤◌, ◌<◌}
use borrow.Author.Tests.{le-leb, lt-leb}
use lib.ListN.{length}
use Rattle.paper.specs.Form.{Rec, Fault, settle}
use Rattle.paper.specs.Records.{records}
use Rattle.paper.specs.Act.{Out, plain}
use Rattle.store_records.proofs.Views.{length-records}
use Rattle.store_edits.proofs.Puts.{unchanged}
use Rattle.paper.specs.Refusal.{number}
use Rattle.paper.specs.declared.Refusal.{Refusal}
use Rattle.method_acts.specs.Rungs.{status, proper}
use Rattle.method_acts.specs.declared.Reply.{Reply}
use Rattle.method_acts.specs.Answers.{Answers, bare_reply}
use Rattle.method_acts.proofs.Climbs.{told_not, told-done}
use Rattle.method_acts.specs.Range.{in_range}

-- the outcome o: one of the refusals fs, which change nothing, or what is done
pub record Method (o : Out) (fs : List Fault) (rs : List Rec) (done : Out) : Type 0 where
  pub shape : o ≡ settle fs (λ n. plain n rs) done
  pub numbered : proper fs ≡ true

module _ {o done : Out} {fs : List Fault} (s : List ℕ) (m : Method o fs (records s) done) where
  pub refused : (e : Refusal) → number e ≡ status fs → Answers o (bare_reply (number e)) s s
  refused e f = rw (m.shape ∙ told_not fs (λ n. plain n (records s)) done m.numbered e f) (record { reply = refl; store = unchanged s })

  pub went : {r : Reply} {t : List ℕ} → 0 ≡ status fs → Answers done r s t → Answers o r s t
  went z a = rw (m.shape ∙ told-done fs (λ n. plain n (records s)) done m.numbered z) a

-- stores of more than 256 records
module _ (f : List Rec → Out) (s : List ℕ) where
  pub too_long : 256 < length s / 256 → Answers (in_range f (records s)) (bare_reply 19) s s
  unfolding in_range
  too_long h = rw (length-records s, lt-leb (length s / 256) 256 h) (record { reply = refl; store = unchanged s })

  pub in_range_lem : {r : Reply} {t : List ℕ} → length s / 256 ≤ 256 → Answers (f (records s)) r s t → Answers (in_range f (records s)) r s t
  unfolding in_range
  in_range_lem h a = rw (length-records s, le-leb (length s / 256) 256 h) a
