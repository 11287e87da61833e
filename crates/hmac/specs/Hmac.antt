-- HMAC of RFC 2104 with SHA-256, over lists of bytes: B = 64 bytes of a block, L = 32 of a hash.
use Rattle.std.specs.Prelude.{Bool, true, false, List, ◌++◌, map, ℕ, ◌-◌, leb, length, replicate}
use Rattle.std.specs.Int.Bits.{bit_xor}
use Rattle.sha256.specs.Sha256.{SHA256}

-- Zeros are appended to make B bytes.
unfoldable pub filled : List ℕ → List ℕ
filled k = k ++ replicate (64 - length k) 0

-- A key longer than B bytes is hashed first.
abbrev pub either : Bool → List ℕ → List ℕ → List ℕ
either true x y = x
either false x y = y

unfoldable pub key_block : List ℕ → List ℕ
key_block k = filled (either (leb (length k) 64) k (SHA256 k))

-- Each byte is XORed with the byte p: ipad is 0x36, opad 0x5C.
unfoldable pub xored : ℕ → List ℕ → List ℕ
xored p b = map (λ (x : ℕ). bit_xor x p) b

-- H(K XOR opad, H(K XOR ipad, text))
unfoldable pub HMAC : List ℕ → List ℕ → List ℕ
HMAC k text = SHA256 (xored 0x5c (key_block k) ++ SHA256 (xored 0x36 (key_block k) ++ text))
