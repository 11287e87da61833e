-- A record made of its fields' bytes obeys the table, and gives its fields back.
use mathlib.Core.Path.{◌≡◌, refl, sym, ap, ap₂, ◌∙◌}
use mathlib.Core.Bool.{true}
use mathlib.Core.List.{List, [], ◌∷◌, ◌++◌, append_assoc}
use Prim.Native.Nat.{ℕ, zero, suc, ◌+◌, ◌-◌, ◌≤◌, ◌<◌}
use native.Mathlib.Omega.{arith}
use native.Mathlib.Nat.{add-zero, zero-add}
use lib.ListN.{length, replicate, length-append, length-replicate, get_or-append}
use lib.Seq.{get_or-append-add}
use borrow.Author.Tests.{le-leb}
use Rattle.paper.specs.Limits.{record_bytes}
use Rattle.paper.specs.Bytes.{byte, two, part, enc2, zeros_of, padded_text, text_at, within, all_within}
use Rattle.paper.specs.Form.{Rec}
use Rattle.paper.specs.Records.{kind}
use Rattle.paper.specs.Table.{Field, u8, u16, bytes, blank, text, ident, width, field_fits, fits, is_text, is_blank, printable, fields_of, obeys_table}
use Rattle.paper.specs.Act.{flat}
use Rattle.laws.proofs.Bytes.{byte-zeros_of, list_same, byte-part, length_part, part_short, all_within_lem}
use Rattle.laws.proofs.Strings.{length-padded, padded-length, padded-zero, text_of}
use Rattle.laws.proofs.Fields.{joint, right_moved, total, tabled}

-- each value is as wide as its field and right for it
abbrev pub Match : List Field → List (List ℕ) → Type 0
Match [] [] = Unit {0}
Match [] (v ∷ vs) = ⊥
Match (f ∷ fs) [] = ⊥
Match (f ∷ fs) (v ∷ vs) = (length v ≡ width f) × (field_fits f 0 v ≡ true) × Match fs vs

byte_seam : (pre v post : Rec) (j : ℕ) → j < length v → byte (length pre + j) (pre ++ (v ++ post)) ≡ byte j v
unfolding byte
byte_seam pre v post j l = get_or-append-add pre (v ++ post) j 0 ∙ get_or-append v post 0 j l

part_seam : (pre v post : Rec) → part (length pre) (length v) (pre ++ (v ++ post)) ≡ v
part_seam pre v post = list_same v (part (length pre) (length v) (pre ++ (v ++ post))) (length_part (length pre) (length v) (pre ++ (v ++ post)) room)
    (λ j l. byte-part (length pre) (length v) j (pre ++ (v ++ post)) l ∙ byte_seam pre v post j l)
  where
    room : length pre + length v ≤ length (pre ++ (v ++ post))
    room = let a = length-append pre (v ++ post) in let b = length-append v post in omega arith

pub fits_built : (fs : List Field) (vs : List (List ℕ)) (pre : Rec) → Match fs vs → fits fs (length pre) (pre ++ flat vs) ≡ true
fits_built [] [] pre m = refl
fits_built [] (v ∷ vs) pre m = absurd m
fits_built (f ∷ fs) [] pre m = absurd m
fits_built (f ∷ fs) (v ∷ vs) pre m =
    let w = m.0 in
    let a = length-append pre (v ++ flat vs) in
    let b = length-append v (flat vs) in
    joint (field_fits f (length pre) (pre ++ (v ++ flat vs))) (fits fs (length pre + width f) (pre ++ (v ++ flat vs)))
    (right_moved 0 (length pre) v (pre ++ (v ++ flat vs)) f (λ j l. byte_seam pre v (flat vs) j (omega arith) ∙ ap (λ (i : ℕ). byte i v) (sym (zero-add j))) (omega arith) (omega arith) m.1)
    (ap₂ (λ (i : ℕ) (r : Rec). fits fs i r) (ap (λ (w : ℕ). length pre + w) (sym m.0) ∙ sym (length-append pre v)) (sym (append_assoc pre v (flat vs))) ∙ fits_built fs vs (pre ++ v) m.2)

pub length_built : (fs : List Field) (vs : List (List ℕ)) → Match fs vs → length (flat vs) ≡ total fs
length_built [] [] m = refl
length_built [] (v ∷ vs) m = absurd m
length_built (f ∷ fs) [] m = absurd m
length_built (f ∷ fs) (v ∷ vs) m = length-append v (flat vs) ∙ ap₂ (λ (a b : ℕ). a + b) m.0 (length_built fs vs m.2)

-- where the j-th field stands, how wide it is, and its value
abbrev pub offset : ℕ → List Field → ℕ
offset zero fs = 0
offset (suc j) [] = 0
offset (suc j) (f ∷ fs) = width f + offset j fs

abbrev pub wide : ℕ → List Field → ℕ
wide j [] = 0
wide zero (f ∷ fs) = width f
wide (suc j) (f ∷ fs) = wide j fs

abbrev pub nth : ℕ → List (List ℕ) → List ℕ
nth j [] = []
nth zero (v ∷ vs) = v
nth (suc j) (v ∷ vs) = nth j vs

part_nothing : (k : ℕ) (r : Rec) → part k 0 r ≡ []
unfolding part
part_nothing k r = refl

part_built : (j : ℕ) (fs : List Field) (vs : List (List ℕ)) (pre : Rec) → Match fs vs → part (length pre + offset j fs) (wide j fs) (pre ++ flat vs) ≡ nth j vs
part_built zero [] [] pre m = part_nothing (length pre + 0) (pre ++ [])
part_built (suc j) [] [] pre m = part_nothing (length pre + 0) (pre ++ [])
part_built j [] (v ∷ vs) pre m = absurd m
part_built j (f ∷ fs) [] pre m = absurd m
part_built zero (f ∷ fs) (v ∷ vs) pre m = rw (add-zero (length pre), ← m.0) (part_seam pre v (flat vs))
part_built (suc j) (f ∷ fs) (v ∷ vs) pre m =
    ap₂ (λ (i : ℕ) (r : Rec). part i (wide j fs) r) (let e = length-append pre v in let q = m.0 in omega arith) (sym (append_assoc pre v (flat vs)))
    ∙ part_built j fs vs (pre ++ v) m.2

pub field_built : (j : ℕ) (fs : List Field) (vs : List (List ℕ)) → Match fs vs → part (offset j fs) (wide j fs) (flat vs) ≡ nth j vs
field_built j fs vs m = rw (zero-add (offset j fs)) at (part_built j fs vs [] m)

pub tabled_built : (k : ℕ) (vs : List (List ℕ)) → Match (fields_of k) vs → kind (flat vs) ≡ k → total (fields_of k) ≡ record_bytes → obeys_table (flat vs) ≡ true
tabled_built k vs m e w = tabled k (flat vs) e (length_built (fields_of k) vs m ∙ w) (fits_built (fields_of k) vs [] m)

-- a field is right where a right value stands
pub right_part : (f : Field) (i : ℕ) (r : Rec) (v : List ℕ) → part i (width f) r ≡ v → i + width f ≤ length r → field_fits f 0 v ≡ true → field_fits f i r ≡ true
right_part f i r v e room t =
    let l = ap length (sym e) ∙ length_part i (width f) r room in
    right_moved 0 i v r f (λ j h. sym (byte-part i (width f) j r h) ∙ ap (byte j) e ∙ ap (λ (k : ℕ). byte k v) (sym (zero-add j)))
    (omega arith) room t

-- ---- values that are right for their fields

byte_head : (n : ℕ) (v : List ℕ) → byte 0 (n ∷ v) ≡ n
unfolding byte
byte_head n v = refl

pub right_u8 : (lo hi n : ℕ) → lo ≤ n → n ≤ hi → field_fits (u8 lo hi) 0 (n ∷ []) ≡ true
right_u8 lo hi n a b = rw (byte_head n [], le-leb lo n a, le-leb n hi b)

pub two_enc : (n : ℕ) → n < 65536 → two 0 (enc2 n) ≡ n
unfolding two byte
two_enc n h = omega arith

pub right_u16 : (lo hi n : ℕ) → lo ≤ n → n ≤ hi → n < 65536 → field_fits (u16 lo hi) 0 (enc2 n) ≡ true
right_u16 lo hi n a b h = rw (two_enc n h, le-leb lo n a, le-leb n hi b)

zeros_blank : (n : ℕ) → all_within 0 0 (replicate n 0) ≡ true
unfolding all_within
zeros_blank zero = refl
zeros_blank (suc n) = zeros_blank n

-- zeros, whatever part of them is looked at
pub blank_zeros : (i n m : ℕ) → is_blank (part i n (zeros_of m)) ≡ true
blank_zeros i n m =
    all_within_lem 0 0 (part i n (zeros_of m)) (λ j l.
    let s = part_short i n (zeros_of m) in
    (omega arith, rw (byte-part i n j (zeros_of m) (omega arith), byte-zeros_of m (i + j)) (omega arith)))

pub right_blank : (n : ℕ) → field_fits (blank n) 0 (zeros_of n) ≡ true
right_blank n = blank_zeros 0 n n

-- a padded string
module _ (n lo : ℕ) (v : List ℕ) (a : lo ≤ length v) (b : length v ≤ n) (small : n < 256) where
  whole : part 0 (suc n) (padded_text n v) ≡ padded_text n v
  whole =
      list_same (padded_text n v) (part 0 (suc n) (padded_text n v))
      (length_part 0 (suc n) (padded_text n v) (let l = length-padded n v b in omega arith) ∙ sym (length-padded n v b))
      (λ j l. byte-part 0 (suc n) j (padded_text n v) (rw (length-padded n v b) at l) ∙ ap (λ (i : ℕ). byte i (padded_text n v)) (zero-add j))

  pub text_padded : text_at 0 (padded_text n v) ≡ v
  text_padded = text_of 0 n (padded_text n v) v whole b small (let l = length-padded n v b in omega arith)

  pub right_text : field_fits (text n lo) 0 (padded_text n v) ≡ true
  right_text =
      rw (padded-length n v (omega arith))
      (joint (within lo n (length v)) (is_blank (part (0 + 1 + length v) (n - length v) (padded_text n v))) (rw (le-leb lo (length v) a, le-leb (length v) n b)) rest)
    where
      rest : is_blank (part (0 + 1 + length v) (n - length v) (padded_text n v)) ≡ true
      rest = all_within_lem 0 0 (part (0 + 1 + length v) (n - length v) (padded_text n v)) (λ j l. (omega arith, zero_here j l))
        where
          zero_here : (j : ℕ) → j < length (part (0 + 1 + length v) (n - length v) (padded_text n v))
              → byte j (part (0 + 1 + length v) (n - length v) (padded_text n v)) ≤ 0
          zero_here j l =
              let w = length_part (0 + 1 + length v) (n - length v) (padded_text n v) (let l = length-padded n v b in omega arith) in
              let q : 0 + 1 + length v + j ≡ suc (length v + j) = omega arith in
              rw (byte-part (0 + 1 + length v) (n - length v) j (padded_text n v) (omega arith), q, padded-zero n v (length v + j) (omega arith)) (omega arith)

  pub right_ident : printable v ≡ true → field_fits (ident n lo) 0 (padded_text n v) ≡ true
  right_ident p = joint (is_text n lo 0 (padded_text n v)) (printable (text_at 0 (padded_text n v))) right_text (ap printable text_padded ∙ p)

-- ---- values and fields written side by side

-- a value that is as wide as its field, and right for it
pub record Suits (f : Field) (v : List ℕ) : Type 0 where
  pub wide : length v ≡ width f
  pub right : field_fits f 0 v ≡ true

infixr 20 ◌&◌
pub data Suited : List Field → List (List ℕ) → Type 0 where
  done : Suited [] []
  ◌&◌ : {f : Field} {v : List ℕ} {fs : List Field} {vs : List (List ℕ)} → Suits f v → Suited fs vs → Suited (f ∷ fs) (v ∷ vs)

pub match : {fs : List Field} {vs : List (List ℕ)} → Suited fs vs → Match fs vs
match done = tt
match (s & m) = (s.wide, s.right, match m)

pub is_u8 : (lo hi n : ℕ) → lo ≤ n → n ≤ hi → Suits (u8 lo hi) (n ∷ [])
is_u8 lo hi n a b = record { wide = refl; right = right_u8 lo hi n a b }

pub is_u16 : (lo hi n : ℕ) → lo ≤ n → n ≤ hi → n < 65536 → Suits (u16 lo hi) (enc2 n)
is_u16 lo hi n a b h = record { wide = refl; right = right_u16 lo hi n a b h }

pub is_bytes : (n : ℕ) (v : List ℕ) → length v ≡ n → Suits (bytes n) v
is_bytes n v l = record { wide = l; right = refl }

pub is_blank_lem : (n : ℕ) → Suits (blank n) (zeros_of n)
is_blank_lem n = record { wide = length-replicate {A = ℕ} n 0; right = right_blank n }

pub is_text_lem : (n lo : ℕ) (v : List ℕ) → lo ≤ length v → length v ≤ n → n < 256 → Suits (text n lo) (padded_text n v)
is_text_lem n lo v a b h = record { wide = length-padded n v b; right = right_text n lo v a b h }

pub is_ident : (n lo : ℕ) (v : List ℕ) → lo ≤ length v → length v ≤ n → n < 256 → printable v ≡ true → Suits (ident n lo) (padded_text n v)
is_ident n lo v a b h p = record { wide = length-padded n v b; right = right_ident n lo v a b h p }
