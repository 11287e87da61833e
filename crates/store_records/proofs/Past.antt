-- What reads past the end: a byte and a number there are 0, a part and a string are empty.
use mathlib.Core.Path.{◌≡◌, refl, sym, ◌∙◌}
use mathlib.Core.List.{List, []}
use Prim.Native.Nat.{ℕ, ◌+◌, ◌-◌, ◌<◌, ◌≤◌, min}
use native.Mathlib.Omega.{arith}
use lib.ListN.{length, take, drop, get_or-eq_default, drop_of_length-le, length-drop}
use mathlib.Core.Logic.{◌⊎◌, inl, inr}
use Rattle.std.proofs.lemmas.List.{take_min}
use lib.Seq.{take-nil, take_all}
use denote.Ref.{Bor}
use Rattle.std.specs.Slice.{IsItemAt, IsGetRangeResult}
use Rattle.std.specs.declared.option.Option.{Option}
use Rattle.std.specs.declared.option.Option.TheVariants.{Some, None}
use Rattle.std.specs.Option.{unwrap_or, option_copied}
use Rattle.paper.specs.Bytes.{byte, two, four, part, text_at, string_at}

module _ (s : List ℕ) (k : ℕ) (h : length s ≤ k) where
  pub byte_past : byte k s ≡ 0
  unfolding byte
  byte_past = get_or-eq_default s 0 h

  pub part_past : (n : ℕ) → part k n s ≡ []
  unfolding part
  part_past n = rw (drop_of_length-le s h) (take-nil n)

module _ (s : List ℕ) (k : ℕ) (h : length s ≤ k) where
  pub two_past : two k s ≡ 0
  unfolding two
  two_past = rw (byte_past s k h, byte_past s (k + 1) (omega arith))

  pub four_past : four k s ≡ 0
  unfolding four
  four_past = rw (byte_past s k h, byte_past s (k + 1) (omega arith), byte_past s (k + 2) (omega arith), byte_past s (k + 3) (omega arith))

  pub text_past : text_at k s ≡ []
  unfolding text_at
  text_past = part_past s (k + 1) (omega arith) (byte k s)

  pub string_past : string_at k s ≡ []
  unfolding string_at
  string_past = part_past s (k + 2) (omega arith) (two k s)

-- what `get` finds, or else 0, is the byte; what it finds of a rest, or else nothing, is the rest
pub byte_got : (s : List ℕ) (k : ℕ) (o : Option (Bor ℕ)) → IsItemAt s k o → unwrap_or (option_copied o) 0 ≡ byte k s
unfolding byte
byte_got s k None g = g.4 (omega arith) 0
byte_got s k (Some x) g = g.4 (omega arith) 0

pub rest_got : (s : List ℕ) (k : ℕ) (o : Option (Bor (List ℕ))) (d : Bor (List ℕ)) → IsGetRangeResult s k (length s) o → d.now ≡ [] → (unwrap_or o d).now ≡ drop k s
rest_got s k None d g e = e ∙ sym (drop_of_length-le s (past g.0))
  where
    past : (length s < k) ⊎ (length s < length s) → length s ≤ k
    past (inl h) = omega arith
    past (inr h) = omega arith
rest_got s k (Some x) d g e = g.0.2 ∙ take_all (length s - k) (drop k s) (omega (arith, length-drop k s))

pub part_got : (s r : List ℕ) (k n m : ℕ) → r ≡ drop k s → m ≡ min n (length r) → take m r ≡ part k n s
unfolding part
part_got s r k n m e f = rw (f, take_min n r, e) refl
