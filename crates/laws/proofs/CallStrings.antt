-- The strings of a call: where one ends, and how long it is where the call is long enough. And hashes have 32 bytes.
use mathlib.Core.Path.{◌≡◌, refl}
use mathlib.Core.List.{List}
use Prim.Native.Nat.{ℕ, ◌+◌, ◌≤◌}
use native.Mathlib.Omega.{arith}
use lib.ListN.{length}
use Rattle.sha256.specs.Sha256.{SHA256}
use Rattle.hmac.specs.Hmac.{HMAC}
use Rattle.paper.specs.Bytes.{two, string_at, behind}
use Rattle.laws.proofs.Bytes.{length_part, part_short}

pub behind-is : (k : ℕ) (c : List ℕ) → behind k c ≡ k + 2 + two k c
unfolding behind
behind-is k c = refl

pub length-string : (k : ℕ) (c : List ℕ) → behind k c ≤ length c → length (string_at k c) ≡ two k c
unfolding string_at
length-string k c h = length_part (k + 2) (two k c) c (let e = behind-is k c in omega arith)

pub string_short : (k : ℕ) (c : List ℕ) → length (string_at k c) ≤ two k c
unfolding string_at
string_short k c = part_short (k + 2) (two k c) c

pub length_hash : (m : List ℕ) → length (SHA256 m) ≡ 32
unfolding SHA256
length_hash m = refl

pub length-mac : (k m : List ℕ) → length (HMAC k m) ≡ 32
unfolding HMAC
length-mac k m = length_hash _
