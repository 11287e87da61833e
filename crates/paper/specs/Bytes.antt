-- Bytes, numbers and strings in a list of bytes. Reading is total: past the end a byte is 0 and a part is shorter.
use Rattle.std.specs.Prelude.{Bool, true, ◌&&◌, List, [], ◌∷◌, ◌++◌, ℕ, ◌+◌, ◌-◌, ◌*◌, ◌/◌, ◌%◌, length, get_or, take, drop, replicate, leb}
use Prim.Native.Char.{code}
use Prim.Native.String.{String}
use Prim.Native.String as S
use Rattle.std.proofs.lemmas.List.Edits.{sets}

-- A byte, and numbers of two and four bytes, big-endian.
unfoldable pub byte : ℕ → List ℕ → ℕ
byte k s = get_or s k 0

unfoldable pub two : ℕ → List ℕ → ℕ
two k s = byte k s * 256 + byte (k + 1) s

unfoldable pub four : ℕ → List ℕ → ℕ
four k s = ((byte k s * 256 + byte (k + 1) s) * 256 + byte (k + 2) s) * 256 + byte (k + 3) s

-- n bytes from place k on.
unfoldable pub part : ℕ → ℕ → List ℕ → List ℕ
part k n s = take n (drop k s)

-- The low one, two or four bytes of a number, big-endian.
abbrev pub enc1 : ℕ → List ℕ
enc1 n = n % 256 ∷ []

abbrev pub enc2 : ℕ → List ℕ
enc2 n = n / 256 % 256 ∷ n % 256 ∷ []

abbrev pub enc4 : ℕ → List ℕ
enc4 n = n / 256 / 256 / 256 % 256 ∷ n / 256 / 256 % 256 ∷ n / 256 % 256 ∷ n % 256 ∷ []

-- The bytes b written over those from place k on; what would stand past the end is left out.
unfoldable pub over : ℕ → List ℕ → List ℕ → List ℕ
over k b s = sets s k b

abbrev pub zeros_of : ℕ → List ℕ
zeros_of n = replicate n 0

-- A string of a record: its length in one byte, its bytes, zeros up to the longest.
abbrev pub padded_text : ℕ → List ℕ → List ℕ
padded_text longest v = length v % 256 ∷ (v ++ zeros_of (longest - length v))

-- A string of a call, or of MAC data: its length in two bytes, then its bytes.
abbrev pub string : List ℕ → List ℕ
string v = enc2 (length v) ++ v

-- The string that stands at place k of a call, and the place behind it.
unfoldable pub string_at : ℕ → List ℕ → List ℕ
string_at k c = part (k + 2) (two k c) c

unfoldable pub behind : ℕ → List ℕ → ℕ
behind k c = k + 2 + two k c

-- The string of a record whose length stands at place k.
unfoldable pub text_at : ℕ → List ℕ → List ℕ
text_at k r = part (k + 1) (byte k r) r

-- The bytes of a text of plain characters.
abbrev pub ascii : String → List ℕ
ascii S.[] = []
ascii (S.◌∷◌ c t) = code c ∷ ascii t

-- Whether a byte lies in a range, and whether each byte does.
abbrev pub within : ℕ → ℕ → ℕ → Bool
within lo hi b = leb lo b && leb b hi

unfoldable pub all_within : ℕ → ℕ → List ℕ → Bool
all_within lo hi [] = true
all_within lo hi (b ∷ s) = within lo hi b && all_within lo hi s
