-- The two slices taken are the padding (`padded-is`), so the state stands for the padded message, and its hash value is the one that `SHA256` writes out (`hash_of`).
use Rattle.std.proofs.Common.{ℕ, ◌+◌, ◌-◌, ◌%◌, List, ◌++◌, take, ap, ◌∙◌}
use Rattle.sha256.proofs.Padding.{pads, padded-is, hash_of}
use Rattle.sha256.proofs.finish.Goals as goal

pub returns : goal.returns
returns c =
    λ m h.
    let n : ℕ = c.args.s.count in
    let b = c.to_be_bytes in
    let x : List ℕ = m ++ take ((119 - n % 64) % 64 + 1) pads in
    c.digest_of.ensures ∙ hash_of c.update-u.result (x ++ b.result) m (c.update-u.ensures x (c.update-t.ensures m h)) (ap (λ (l : List ℕ). x ++ l) b.ensures ∙ padded-is m n h.count)
