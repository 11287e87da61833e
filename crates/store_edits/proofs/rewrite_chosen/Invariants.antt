-- Invariant: what is done and what is to do make up the whole edit (`todo_step`, `todo_done`).
use Rattle.store_edits.proofs.Todos.{Todo}
use Rattle.paper.specs.Form.{only}
use Rattle.store_records.specs.Choices.{chosen}
use Rattle.store_edits.proofs.rewrite_chosen.Given as goal

abbrev pub invariant-loop-i : goal.invariant-loop-i
invariant-loop-i g l = Todo (only (chosen l.c) (g.W.Rewrite.makes l.w)) l.initial.s l.s l.i
