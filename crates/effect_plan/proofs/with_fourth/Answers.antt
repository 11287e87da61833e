-- A place taken by a session that stands in another too is free.
use Rattle.effect_plan.proofs.Near.{first_free, second_free}
use Rattle.effect_plan.proofs.with_fourth.Goals as goal

pub returns-then-a-b : goal.returns-then-a-b
returns-then-a-b c = first_free c.args.a c.args.b c.args.c c.args.session c.if-a-b.true

pub returns-then-b-c : goal.returns-then-b-c
returns-then-b-c c = second_free c.args.a c.args.b c.args.c c.args.session c.if-b-c.true
