-- The new record of methods 8 and 9 has 256 bytes where none of the call's refusals holds: the call has its form.
use mathlib.Core.Path.{◌≡◌}
use mathlib.Core.List.{List}
use Prim.Native.Nat.{ℕ}
use native.Mathlib.Omega.{arith}
use lib.ListN.{length-append, length-replicate}
use Rattle.paper.specs.Form.{Rec, Fact}
use Rattle.paper.specs.Records.{SessionValue}
use Rattle.paper.specs.Calls.{puk_in, puk_form, policy_in, policy_form}
use Rattle.paper.specs.Objects.{puk_faults, puk_record, policy_faults, policy_record}
use Rattle.paper.proofs.Forms.{both}
use Rattle.store_draft.specs.Drafts.{laid}
use Rattle.store_draft.proofs.Laying.{laid_whole}
use Rattle.method_acts.specs.Rungs.{status}
use Rattle.method_acts.proofs.Halves.{form_held, string_short}

module _ (c chip : List ℕ) (s : ℕ) (x : SessionValue) (blk : List Rec) where
  pub puk_laid : status (puk_faults c chip (puk_in c chip) chip x blk) ≡ 0
      → laid (puk_record s (puk_in c chip) chip x) ≡ puk_record s (puk_in c chip) chip x
  unfolding puk_record
  puk_laid z =
      let f : Fact (puk_form c chip) = (both (puk_form c chip)).0 (form_held (puk_form c chip) 15 _ z) in
      let l = string_short 5 c in
      laid_whole (puk_record s (puk_in c chip) chip x) (simp (length-append, length-replicate) (omega arith))

  pub policy_laid : (puk : Rec) → status (policy_faults c chip (policy_in c) puk x blk) ≡ 0
      → laid (policy_record s (policy_in c) x) ≡ policy_record s (policy_in c) x
  unfolding policy_record
  policy_laid puk z =
      let f : Fact (policy_form c chip) = (both (policy_form c chip)).0 (form_held (policy_form c chip) 15 _ z) in
      let l = string_short 5 c in
      laid_whole (policy_record s (policy_in c) x) (simp (length-append, length-replicate) (omega arith))
