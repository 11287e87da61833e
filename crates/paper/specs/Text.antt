-- PIN and PUK text: formats, patterns, and when a PIN meets its policy. Lengths count bytes.
use Rattle.std.specs.Prelude.{Bool, true, false, not, ◌&&◌, ◌||◌, cond, List, [], ◌∷◌, ℕ, zero, suc, ◌+◌, ◌/◌, ◌%◌, length, eqb}
use Rattle.paper.specs.Bytes.{within, all_within}
use Rattle.paper.specs.Form.{Rec}
use Rattle.paper.specs.Records.{format, patterns, min_length, max_length}

-- Format 0: digits.
abbrev pub digits : List ℕ → Bool
digits v = all_within 0x30 0x39 v

-- Format 1: digits and A-Z.
unfoldable pub alphanumeric : List ℕ → Bool
alphanumeric [] = true
alphanumeric (b ∷ v) = (within 0x30 0x39 b || within 0x41 0x5A b) && alphanumeric v

-- Format 2: UTF-8. How many bytes 80-BF follow a lead byte; other bytes lead nothing.
abbrev pub leads : ℕ → ℕ → Bool
leads zero b = within 0x00 0x7F b
leads (suc zero) b = within 0xC0 0xDF b
leads (suc (suc zero)) b = within 0xE0 0xEF b
leads (suc (suc (suc zero))) b = within 0xF0 0xF7 b
leads (suc (suc (suc (suc n)))) b = false

-- n bytes 80-BF are still to come.
unfoldable pub utf8_from : ℕ → List ℕ → Bool
utf8_from zero [] = true
utf8_from (suc n) [] = false
utf8_from (suc n) (b ∷ v) = within 0x80 0xBF b && utf8_from n v
utf8_from zero (b ∷ v) =
    cond (leads 0 b) (utf8_from 0 v)
    (cond (leads 1 b) (utf8_from 1 v)
    (cond (leads 2 b) (utf8_from 2 v)
    (cond (leads 3 b) (utf8_from 3 v) false)))

abbrev pub utf8 : List ℕ → Bool
utf8 v = utf8_from 0 v

-- Format 3: any. No other format has a text.
unfoldable pub format_fits : ℕ → List ℕ → Bool
format_fits f v = cond (eqb f 0) (digits v) (cond (eqb f 1) (alphanumeric v) (cond (eqb f 2) (utf8 v) (eqb f 3)))

-- Pattern bit 1: two equal neighbours. `x` stands before `v`.
unfoldable pub two_equal_from : ℕ → List ℕ → Bool
two_equal_from x [] = false
two_equal_from x (y ∷ v) = eqb x y || two_equal_from y v

-- Pattern bit 2: three equal in a row. `x` and `y` stand before `v`.
unfoldable pub three_equal_from : ℕ → ℕ → List ℕ → Bool
three_equal_from x y [] = false
three_equal_from x y (z ∷ v) = (eqb x y && eqb y z) || three_equal_from y z v

-- Pattern bit 4: each byte one more, or each one less, than the byte before it.
unfoldable pub rising_from : ℕ → List ℕ → Bool
rising_from x [] = true
rising_from x (y ∷ v) = eqb y (x + 1) && rising_from y v

unfoldable pub falling_from : ℕ → List ℕ → Bool
falling_from x [] = true
falling_from x (y ∷ v) = eqb x (y + 1) && falling_from y v

abbrev pub two_equal : List ℕ → Bool
two_equal [] = false
two_equal (x ∷ v) = two_equal_from x v

abbrev pub three_equal : List ℕ → Bool
three_equal [] = false
three_equal (x ∷ []) = false
three_equal (x ∷ y ∷ v) = three_equal_from x y v

-- of two bytes or more
abbrev pub stepped : List ℕ → Bool
stepped [] = false
stepped (x ∷ []) = false
stepped (x ∷ y ∷ v) = rising_from x (y ∷ v) || falling_from x (y ∷ v)

-- A set bit forbids it.
abbrev pub is_set : ℕ → ℕ → Bool
is_set bit p = eqb (p / bit % 2) 1

unfoldable pub pattern_fits : ℕ → List ℕ → Bool
pattern_fits p v =
    not (is_set 1 p && two_equal v) && (not (is_set 2 p && three_equal v) && not (is_set 4 p && stepped v))

-- A PIN meets the rule of its policy; a PUK that of its format alone.
unfoldable pub pin_fits : Rec → List ℕ → Bool
pin_fits policy v =
    within (min_length policy) (max_length policy) (length v)
    && (format_fits (format policy) v && pattern_fits (patterns policy) v)
