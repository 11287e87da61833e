-- No SessionKey or no next counter; a value of another length; and else the two are compared: one law each.
use mathlib.Core.Path.{sym, ◌∙◌}
use Prim.Native.Nat.{◌+◌}
use lib.ListN.{length}
use Rattle.paper.specs.Mac.{key_attested_of}
use Rattle.paper.specs.Form.{◌equals◌, ◌=<◌, ◌and◌}
use Rattle.paper.proofs.Forms.{both}
use Rattle.issuer.proofs.Checks.{unready, of_other_length, compared}
use Rattle.issuer.proofs.sks_check_key.Goals as goal

pub returns-then-not-is_ready : goal.returns-then-not-is_ready
returns-then-not-is_ready c =
    let a = c.args in
    unready a.key.now a.counter (key_attested_of a.id.now a.public_key.now) a.attestation.now
    (sym c.is_ready.ensures ∙ c.if-not-is_ready.true)

pub returns-then-attestation-ne-MAC_BYTES : goal.returns-then-attestation-ne-MAC_BYTES
returns-then-attestation-ne-MAC_BYTES c =
    let a = c.args in
    of_other_length a.key.now a.counter (key_attested_of a.id.now a.public_key.now) a.attestation.now c.if-attestation-ne-MAC_BYTES.true

pub key_of-k-requires : goal.key_of-k-requires
key_of-k-requires c =
    let a = c.args in
    ((both (length a.key.now equals 32 and a.counter + 1 =< 65535)).0 (sym c.is_ready.ensures ∙ c.if-not-is_ready.false)).0

pub returns : goal.returns
returns c =
    let a = c.args in
    compared a.key.now a.counter (key_attested_of a.id.now a.public_key.now) a.attestation.now
    (sym c.is_ready.ensures ∙ c.if-not-is_ready.false) c.if-attestation-ne-MAC_BYTES.false
    (c.is_same.ensures ∙ rw (c.attested_key_under-made.ensures, c.new.ensures, c.key_of-k.ensures))
