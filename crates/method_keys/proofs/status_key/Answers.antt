-- The list in four parts (`half_refused`, `half_passed`).
use mathlib.Core.Path.{refl}
use Rattle.std.proofs.Common.{rules}
use Rattle.method_acts.proofs.Halves.{half_refused, half_passed}
use Rattle.method_keys.proofs.status_key.Goals as goal

pub returns-in_err-key_names : goal.returns-in_err-key_names
returns-in_err-key_names c = half_refused _ _ c.in_err-key_names.field-0.0 (search rules) c.in_err-key_names.ensures

pub returns-in_err-key_numbers : goal.returns-in_err-key_numbers
returns-in_err-key_numbers c =
    half_passed _ _ refl c.in_ok-key_names.ensures
    (half_refused _ _ c.in_err-key_numbers.field-0.0 (search rules) (rw c.requires at c.in_err-key_numbers.ensures))

pub returns-in_err-key_pin : goal.returns-in_err-key_pin
returns-in_err-key_pin c =
    half_passed _ _ refl c.in_ok-key_names.ensures
    (half_passed _ _ refl (rw c.requires at c.in_ok-key_numbers.ensures)
    (half_refused _ _ c.in_err-key_pin.field-0.0 (search rules) (rw c.requires at c.in_err-key_pin.ensures)))

pub returns : goal.returns
returns c =
    half_passed _ _ refl c.in_ok-key_names.ensures
    (half_passed _ _ refl (rw c.requires at c.in_ok-key_numbers.ensures)
    (half_passed _ _ refl (rw c.requires at c.in_ok-key_pin.ensures)
    (rw c.requires at c.key_seal.ensures)))
