-- Each string is the record's or the call's field, and the policy tells who sets the PIN.
use mathlib.Core.List.{[]}
use mathlib.Core.Path.{refl}
use Rattle.call_fields.specs.Fields.{key_of}
use Rattle.call_mac.proofs.MacKey.of_key.Goals as goal

pub returns : goal.returns
returns c =
    let a = c.args in
    rw (
      ← c.string_at-7.ensures,
      ← c.string_at-6.ensures,
      ← c.string_at-5.ensures,
      ← c.string_at-4.ensures,
      ← c.issuer_sets.ensures (key_of a.q a.c.now []) refl,
      ← c.text_at.ensures,
      ← c.string_at-3.ensures,
      ← c.string_at-2.ensures,
      ← c.string_at.ensures,
    ) c.key_under.ensures
