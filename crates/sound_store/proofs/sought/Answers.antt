-- A chain over the records (`place-records`).
use Rattle.std.proofs.Common.{rules}
use Rattle.paper.specs.Records.{records}
use Rattle.store_records.proofs.Views.{length-records}
use Rattle.sound_store.proofs.Along.{place-records, place_le}
use borrow.Author.Tests.{tests}
use mathlib.Core.Path.{◌≡◌, ◌∙◌}
use native.Mathlib.Omega.{arith}
use Rattle.sound_store.specs.Guesses.{place_of}
use Rattle.sound_store.proofs.sought.Goals as goal

pub returns : goal.returns
returns c = let a = c.args in
    let e : c.unwrap_or.result ≡ place_of a.h (records a.s.now) = c.unwrap_or.ensures ∙ place-records a.h c.records.ensures (λ x b q k. search (rules, tests)) c.position.ensures.ran in
    (e, rw e (place_le a.h (records a.s.now) (omega (arith, length-records a.s.now))))
