-- The kind, and then its policies: none stays, and some goes.
use Rattle.std.proofs.Common.{rules}
use mathlib.Core.Path.{◌≡◌, ◌∙◌, sym}
use mathlib.Core.Bool.{true, and-true}
use Rattle.effect_plan.proofs.puk_goes.Goals as goal

pub returns-then-not-some_policy : goal.returns-then-not-some_policy
returns-then-not-some_policy c =
    let k : c.is_kind.result ≡ true = search rules in
    λ d w. rw (sym c.is_kind.ensures ∙ k, ← c.four_at-own.ensures, ← c.four_at-session.ensures, sym (c.some_policy.ensures d w) ∙ c.if-not-some_policy.true) (c.some_policy-then-not-some_policy.ensures d w ∙ sym (and-true _))
