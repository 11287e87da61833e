-- Three statements joined, each of the call's and the chip's fields.
use mathlib.Core.Path.{refl}
use Rattle.call_fields.specs.Fields.{key_of}
use Rattle.method_keys.proofs.is_misplaced.Goals as goal

pub returns : goal.returns
returns c =
    let args = c.args in
    rw (c.opened-opened.ensures, c.string_at-given.ensures, c.issuer_sets-sets.ensures (key_of args.q args.c.now args.chip.now) refl)
