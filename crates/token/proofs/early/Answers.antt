-- The place tells the session (`placed`).
use Rattle.std.proofs.Common.{rules}
use Rattle.method_acts.specs.Rungs.{status}
use Rattle.token.proofs.Found.{placed}
use Rattle.token.proofs.early.Goals as goal

pub returns-in_err-refuse_if-3 : goal.returns-in_err-refuse_if-3
unfolding status
returns-in_err-refuse_if-3 c = let state = rw (c.record_at.ensures, c.requires, placed c.args.s.now c.args.c.now) at c.byte_at.ensures in search (rules, state)

pub returns : goal.returns
unfolding status
returns c = let state = rw (c.record_at.ensures, c.requires, placed c.args.s.now c.args.c.now) at c.byte_at.ensures in search (rules, state)
