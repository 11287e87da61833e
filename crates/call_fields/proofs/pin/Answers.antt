-- Without policy the part is empty; else what `issuer_sets` tells picks the slice.
use mathlib.Core.Path.{refl, sym, ◌∙◌}
use borrow.Author.Tests.{eq-eqb, ne_eqb}
use Rattle.paper.specs.Bytes.{part}
use Rattle.call_fields.specs.Fields.{key_of}
use Rattle.call_fields.proofs.pin.Goals as goal

pub returns-then-q-eq0 : goal.returns-then-q-eq0
unfolding part
returns-then-q-eq0 c =
    let args = c.args in
    rw (eq-eqb args.q.policy 0 c.if-q-eq0.true) c.part_of.ensures

pub returns-then-issuer_sets : goal.returns-then-issuer_sets
returns-then-issuer_sets c =
    let args = c.args in
    let q = key_of args.q args.c.now args.chip.now in
    rw (sym (c.issuer_sets.ensures q refl) ∙ c.if-issuer_sets.true, ne_eqb q.policy 0 c.if-q-eq0.false) c.opened.ensures

pub returns : goal.returns
returns c =
    let args = c.args in
    let q = key_of args.q args.c.now args.chip.now in
    rw (sym (c.issuer_sets.ensures q refl) ∙ c.if-issuer_sets.false, ne_eqb q.policy 0 c.if-q-eq0.false, c.string_at.ensures)
