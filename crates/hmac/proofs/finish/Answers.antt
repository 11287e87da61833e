-- The two digests are those of `HMAC`: the inner state stands for the inner block and the text, the outer one for the outer block and the inner digest.
use mathlib.Core.Path.{◌≡◌, ap, ◌∙◌}
use mathlib.Core.List.{List, ◌++◌}
use Prim.Native.Nat.{ℕ}
use Rattle.sha256.specs.Sha256.{SHA256}
use Rattle.hmac.specs.Hmac.{xored, key_block, HMAC}
use Rattle.hmac.proofs.finish.Goals as goal

pub returns : goal.returns
unfolding HMAC
returns c =
    λ k text h.
    let t = c.finish-t in
    let e : t.result ≡ SHA256 (xored 0x36 (key_block k) ++ text) = t.ensures _ h.inner in
    let f : c.finish.result ≡ SHA256 (xored 0x5c (key_block k) ++ t.result) = c.finish.ensures _ (c.update.ensures (xored 0x5c (key_block k)) (rw c.resume.ensures h.outer)) in
    f ∙ ap (λ (x : List ℕ). SHA256 (xored 0x5c (key_block k) ++ x)) e
