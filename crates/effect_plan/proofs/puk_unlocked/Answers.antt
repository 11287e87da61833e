-- The kind, and then its policies.
use mathlib.Core.Path.{◌∙◌, sym}
use Rattle.effect_plan.proofs.Scans.{puk_unlocked_lem}
use Rattle.paper.specs.Records.{records}
use Rattle.effect_plan.proofs.puk_unlocked.Goals as goal

pub returns-then-is_kind : goal.returns-then-is_kind
returns-then-is_kind c = λ d w. rw (puk_unlocked_lem d (records c.args.store.now) c.args.r.now, sym c.is_kind.ensures ∙ c.if-is_kind.true, ← c.four_at.ensures, ← c.four_at-then-is_kind.ensures) (c.some_policy.ensures d w)
