-- The list in halves (`half_refused`, `half_passed`).
use mathlib.Core.Path.{refl}
use Rattle.std.proofs.Common.{rules}
use Rattle.method_acts.proofs.Halves.{half_refused, half_passed}
use Rattle.method_posts.proofs.post_status.Goals as goal

pub returns-in_err-post_rules : goal.returns-in_err-post_rules
returns-in_err-post_rules c = half_refused _ _ c.in_err-post_rules.field-0.0 (search rules) c.in_err-post_rules.ensures

pub returns : goal.returns
returns c = half_passed _ _ refl c.in_ok-post_rules.ensures c.post_seal.ensures
