-- Whoever says nothing of others is related to all (`unconcerned`); else a chain over the records (store_records' Shown.antt).
use Rattle.std.proofs.Common.{rules}
use Rattle.paper.specs.Form.{test}
use Rattle.paper.specs.Records.{records}
use Rattle.paper.specs.Sound.{related}
use Rattle.sound_pairs.proofs.Relations.{unconcerned}
use Rattle.store_records.proofs.Every.{every_true}
use Rattle.store_records.proofs.Shown.{all-records}
use borrow.Author.Tests.{tests}
use mathlib.Core.Path.{sym}
use Rattle.sound_store.proofs.related_to.Goals as goal

pub returns-then-not-is_concerned : goal.returns-then-not-is_concerned
returns-then-not-is_concerned c = let a = c.args in sym (every_true (λ y. test (related a.x.now y)) (records a.s.now) (λ y. unconcerned a.x.now y (search rules)))

pub returns : goal.returns
returns c = all-records (λ y. test (related c.args.x.now y)) c.records.ensures (λ x b q k. search (rules, tests)) c.all.ensures.ran
