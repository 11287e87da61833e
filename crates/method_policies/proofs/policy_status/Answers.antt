-- The list in three parts (`half_refused`, `half_passed`); the PUK is looked up among all records (`at_block`).
use mathlib.Core.Path.{refl}
use Rattle.std.proofs.Common.{rules}
use Rattle.paper.specs.Records.{PUK, records}
use Rattle.paper.specs.Calls.{subject, policy_in}
use Rattle.laws.proofs.Lists.{at_block}
use Rattle.method_acts.proofs.Halves.{half_refused, half_passed}
use Rattle.method_policies.proofs.policy_status.Goals as goal

pub returns-in_err-policy_names : goal.returns-in_err-policy_names
returns-in_err-policy_names c = let a = c.args in
    half_refused _ _ c.in_err-policy_names.field-0.0 (search rules) (rw (c.that-found.ensures, c.four_at.ensures, c.requires, ← at_block PUK (policy_in a.c.now).puk (subject a.c.now) (records a.s.now)) at c.in_err-policy_names.ensures)

pub returns-in_err-policy_numbers : goal.returns-in_err-policy_numbers
returns-in_err-policy_numbers c = let a = c.args in
    half_passed _ _ refl (rw (c.that-found.ensures, c.four_at.ensures, c.requires, ← at_block PUK (policy_in a.c.now).puk (subject a.c.now) (records a.s.now)) at c.in_ok-policy_names.ensures)
    (half_refused _ _ c.in_err-policy_numbers.field-0.0 (search rules) (rw c.requires at c.in_err-policy_numbers.ensures))

pub returns : goal.returns
returns c = let a = c.args in
    half_passed _ _ refl (rw (c.that-found.ensures, c.four_at.ensures, c.requires, ← at_block PUK (policy_in a.c.now).puk (subject a.c.now) (records a.s.now)) at c.in_ok-policy_names.ensures)
    (half_passed _ _ refl (rw c.requires at c.in_ok-policy_numbers.ensures)
    (rw (c.that-found.ensures, c.four_at.ensures, c.requires, ← at_block PUK (policy_in a.c.now).puk (subject a.c.now) (records a.s.now)) at c.policy_seal.ensures))
