-- Each hash takes the key block, XORed with its own pad, onto an empty start; of the outer the hash value is kept (`resumed_stands`).
use mathlib.Core.Path.{◌≡◌, ap, ◌∙◌}
use mathlib.Core.List.{[], append-nil}
use borrow.Author.Rules.{rules}
use lib.ListN.{length}
use Rattle.hmac.specs.Hmac.{xored}
use Rattle.sha256.proofs.Standing.{resumed_stands}
use Rattle.hmac.proofs.start.Goals as goal

pub returns : goal.returns
returns c =
    let k = c.key_block-b in
    let i = c.xor_all-i in
    let o = c.xor_all-o in
    let ei = i.ensures ∙ ap (xored 0x36) k.ensures in
    let eo = o.ensures ∙ ap (xored 0x5c) k.ensures in
    let u = c.update in
    let l : length o.result ≡ 64 = search rules in
    record {
      inner = rw (append-nil, ← ei) (c.update-inner.ensures [] c.start.ensures);
      outer = rw (c.value-outer.ensures, ← eo) (resumed_stands u.result o.result l (u.ensures [] c.start-2.ensures));
    }
