use Rattle.store_records.proofs.Past.{part_got, rest_got}
use mathlib.Core.Path.{◌∙◌, refl, ap}
use Rattle.store_records.proofs.part_of.Goals as goal

pub returns : goal.returns
returns c = part_got c.args.s.now _ _ _ _ (ap (λ b. b.now) c.unwrap_or-rest.ensures ∙ rest_got c.args.s.now c.args.k c.get.result _ c.get.ensures.lookup refl) c.min.ensures
