-- The kind decides which of the laws applies (`fate_key`, `fate_pending`, `fate-parent`).
use Rattle.std.proofs.Common.{rules}
use mathlib.Core.Path.{◌≡◌, ◌∙◌, sym}
use Rattle.effect_plan.proofs.Near.{fate_key, fate_pending, fate-parent}
use Rattle.paper.specs.Records.{records}
use lib.ListN.{get_or}
use mathlib.Core.List.{[]}
use Rattle.effect_plan.proofs.fate_at.Goals as goal

pub returns-in-4 : goal.returns-in-4
returns-in-4 c = λ l d u w v h g. c.key_fate.ensures ∙ fate_key d u (records c.args.store.now) (get_or (records c.args.store.now) c.args.i []) _ _ (rw (← c.record_at-r.ensures) (sym c.byte_at.ensures ∙ c.in-4.is)) (c.byte_at-in-4.ensures ∙ w.at c.args.i l) (c.byte_at-in-4-2.ensures ∙ v.at c.args.i l)

pub returns-in-5 : goal.returns-in-5
returns-in-5 c = λ l d u w v h g. c.pending_fate.ensures ∙ fate_pending d u (records c.args.store.now) (get_or (records c.args.store.now) c.args.i []) _ _ (rw (← c.record_at-r.ensures) (sym c.byte_at.ensures ∙ c.in-5.is)) (c.byte_at-in-5.ensures ∙ w.at c.args.i l) (c.byte_at-in-5-2.ensures ∙ v.at c.args.i l)

pub returns-in_default : goal.returns-in_default
returns-in_default c = λ l d u w v h g. rw (← c.record_at-r.ensures) (c.parent_fate.ensures d u w v h g ∙ fate-parent d u (records c.args.store.now) _ (λ e. let k : c.byte_at.result ≡ 4 = c.byte_at.ensures ∙ e in search rules) (λ e. let k : c.byte_at.result ≡ 5 = c.byte_at.ensures ∙ e in search rules))
