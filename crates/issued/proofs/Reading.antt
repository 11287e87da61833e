-- Reading from left to right: which pieces stand in a call from a place on, what each kind of field reads there, and what stands behind it.
-- The place behind a string is named as the store names it, so the places of a method's fields need no sums.
use mathlib.Core.Path.{◌≡◌, refl, sym, ap, ◌∙◌}
use mathlib.Core.Bool.{true}
use mathlib.Core.List.{List, [], ◌∷◌, ◌++◌, append_assoc}
use mathlib.Core.Logic.{inl, inr}
use Prim.Native.Nat.{ℕ, zero, suc, ◌+◌, ◌≤◌}
use native.Mathlib.Omega.{arith}
use native.Mathlib.Nat.{add-zero}
use lib.ListN.{length, get_or, take, drop, length-append, length-drop, drop_of_length-le}
use lib.Seq.{get_or-drop, drop-drop, take-append_seam, drop-append_seam, take-append-le, drop-append-le, take_all}
use Rattle.paper.specs.Limits.{mac_bytes}
use Rattle.paper.specs.Bytes.{byte, two, four, part, enc2, enc4, string, string_at, behind}
use Rattle.paper.specs.Form.{Fact, test}
use Rattle.paper.specs.Calls.{method as method_of, subject, session_methods, one_of, known, strings, filled_at, behind_strings}
use Rattle.paper.specs.Mac.{mac_under}
use Rattle.paper.specs.Issuing.{Issuer, head_of}
use Rattle.paper.proofs.Forms.{both}
use Rattle.laws.proofs.Bytes.{byte-part, two_of, four_of}
use Rattle.laws.proofs.CallStrings.{length-mac}
use Rattle.issued.specs.Meant.{fits_two, fits_four, not_too_long}

-- pieces one after another, and the MAC
abbrev pub joined : List (List ℕ) → List ℕ → List ℕ
joined [] m = m
joined (v ∷ vs) m = v ++ joined vs m

-- what stands in c from place k on, to the end
pub record At (k : ℕ) (c : List ℕ) (vs : List (List ℕ)) (m : List ℕ) : Type 0 where
  pub is : drop k c ≡ joined vs m

dropped : {k : ℕ} {c : List ℕ} {vs : List (List ℕ)} {m : List ℕ} (n : ℕ) → At k c vs m → drop (k + n) c ≡ drop n (joined vs m)
dropped {k} {c} n a = sym (drop-drop n k c) ∙ ap (λ (l : List ℕ). drop n l) a.is

-- behind the first piece
pub passed : {k : ℕ} {c v : List ℕ} {vs : List (List ℕ)} {m : List ℕ} → At k c (v ∷ vs) m → At (k + length v) c vs m
passed {k} {c} {v} {vs} {m} a = record { is = dropped (length v) a ∙ drop-append_seam v (joined vs m) }

-- two pieces as one
pub together : {k : ℕ} {c u v : List ℕ} {vs : List (List ℕ)} {m : List ℕ} → At k c (u ∷ v ∷ vs) m → At k c ((u ++ v) ∷ vs) m
together {u} {v} {vs} {m} a = record { is = a.is ∙ sym (append_assoc u v (joined vs m)) }

-- ---- bytes and numbers

module _ {k : ℕ} {c : List ℕ} {vs : List (List ℕ)} {m : List ℕ} where
  pub read_byte : (j : ℕ) → At k c vs m → byte (k + j) c ≡ get_or (joined vs m) j 0
  unfolding byte
  read_byte j a = sym (get_or-drop k c j 0) ∙ ap (λ (l : List ℕ). get_or l j 0) a.is

  pub read_first : At k c vs m → byte k c ≡ get_or (joined vs m) 0 0
  read_first a = ap (λ (i : ℕ). byte i c) (sym (add-zero k)) ∙ read_byte 0 a

  read_part : (n : ℕ) → At k c vs m → part k n c ≡ take n (joined vs m)
  unfolding part
  read_part n a = ap (λ (l : List ℕ). take n l) a.is

  pub read_two : {n : ℕ} → At k c vs m → take 2 (joined vs m) ≡ enc2 n → Fact (fits_two n) → two k c ≡ n
  read_two {n} a e h = two_of k c n (read_part 2 a ∙ e) (omega arith)

  pub read_four : {n : ℕ} → At k c vs m → take 4 (joined vs m) ≡ enc4 n → Fact (fits_four n) → four k c ≡ n
  read_four {n} a e h = four_of k c n (read_part 4 a ∙ e) (omega arith)

-- ---- strings

-- the string v stands at place k, and behind it the rest
pub record Strung (k : ℕ) (c v : List ℕ) (vs : List (List ℕ)) (m : List ℕ) : Type 0 where
  pub size : two k c ≡ length v
  pub is : string_at k c ≡ v
  pub next : At (behind k c) c vs m

pub strung : {k : ℕ} {c : List ℕ} {vs : List (List ℕ)} {m : List ℕ} (v : List ℕ)
    → Fact (not_too_long c) → At k c (string v ∷ vs) m → Strung k c v vs m
unfolding string_at behind
strung {k} {c} {vs} {m} v short a =
    record { size = size; is = rw size (read_part (length v) bytes ∙ take-append_seam v (joined vs m)); next = rw size (passed bytes) }
  where
    size : two k c ≡ length v
    size = read_two a refl (let e = ap length a.is in let l = length-drop k c in let s = length-append v (joined vs m) in omega arith)

    bytes : At (k + 2) c (v ∷ vs) m
    bytes = record { is = dropped 2 a }

-- ---- strings that stand in b too, from place j on

module _ {k : ℕ} {c : List ℕ} {vs : List (List ℕ)} {m : List ℕ} (j : ℕ) (b : List ℕ) (a : At k c (drop j b ∷ vs) m) (n : ℕ) (h : j + n ≤ length b) where
  inside : n ≤ length (drop j b)
  inside = rw (length-drop j b) (omega arith)

  same-part : part k n c ≡ part j n b
  unfolding part
  same-part = read_part n a ∙ take-append-le n (drop j b) (joined vs m) inside

  same-behind : At (k + n) c (drop (j + n) b ∷ vs) m
  same-behind = record {
    is = dropped n a ∙ drop-append-le n (drop j b) (joined vs m) inside ∙ ap (λ (l : List ℕ). l ++ joined vs m) (drop-drop n j b);
  }

two-part : (k : ℕ) (c : List ℕ) → two 0 (part k 2 c) ≡ two k c
unfolding two
two-part k c = rw (byte-part k 2 0 c (omega arith), byte-part k 2 1 c (omega arith), add-zero k)

-- the string of b at place j stands at place k, and behind it what stands behind it in b
record SameString (k : ℕ) (c : List ℕ) (j : ℕ) (b : List ℕ) (vs : List (List ℕ)) (m : List ℕ) : Type 0 where
  size : two k c ≡ two j b
  is : string_at k c ≡ string_at j b
  next : At (behind k c) c (drop (behind j b) b ∷ vs) m

same-string : {k : ℕ} {c : List ℕ} {vs : List (List ℕ)} {m : List ℕ} (j : ℕ) (b : List ℕ)
    → behind j b ≤ length b → At k c (drop j b ∷ vs) m → SameString k c j b vs m
unfolding string_at behind
same-string {k} {c} {vs} {m} j b h a =
    record { size = size; is = rw size (same-part (j + 2) b bytes (two j b) h); next = rw size (same-behind (j + 2) b bytes (two j b) h) }
  where
    size : two k c ≡ two j b
    size = sym (two-part k c) ∙ ap (λ (l : List ℕ). two 0 l) (same-part j b a 2 (omega arith)) ∙ two-part j b

    bytes : At (k + 2) c (drop (j + 2) b ∷ vs) m
    bytes = same-behind j b a 2 (omega arith)

behind-strings : (n k : ℕ) (c : List ℕ) → k ≤ behind_strings n k c
unfolding behind
behind-strings zero k c = omega arith
behind-strings (suc n) k c = let h = behind-strings n (k + 2 + two k c) c in omega arith

-- n strings, up to the end of b: they read alike, and behind them stands the rest
pub record SameStrings (n k : ℕ) (c : List ℕ) (j : ℕ) (b : List ℕ) (vs : List (List ℕ)) (m : List ℕ) : Type 0 where
  pub are : strings n k c ≡ strings n j b
  pub first : 1 ≤ n → string_at k c ≡ string_at j b
  pub filled : Fact (filled_at n j b) → Fact (filled_at n k c)
  pub next : At (behind_strings n k c) c vs m

pub same-strings : (n : ℕ) {k : ℕ} {c : List ℕ} {vs : List (List ℕ)} {m : List ℕ} (j : ℕ) (b : List ℕ)
    → behind_strings n j b ≡ length b → At k c (drop j b ∷ vs) m → SameStrings n k c j b vs m
same-strings zero {vs} {m} j b e a =
    let none : drop j b ≡ [] = drop_of_length-le b {i = j} (omega arith) in
    record {
      are = refl;
      first = λ h. absurd (omega arith);
      filled = λ f. f;
      next = record { is = a.is ∙ ap (λ (l : List ℕ). l ++ joined vs m) none };
    }
same-strings (suc n) j b e a =
    let one = same-string j b (let h = behind-strings n (behind j b) b in omega arith) a in
    let more = same-strings n (behind j b) b e one.next in
    record {
      are = λ t. one.is t ∷ more.are t;
      first = λ h. one.is;
      filled = λ f. (rw one.size f.0, more.filled f.1);
      next = more.next;
    }

-- ---- the end of a call

-- the MAC m stands at place k, and ends the call
pub record Sealed (k : ℕ) (c m : List ℕ) : Type 0 where
  pub is : part k mac_bytes c ≡ m
  pub end : k + mac_bytes ≡ length c

pub sealed : {k : ℕ} {c m : List ℕ} → At k c [] m → length m ≡ mac_bytes → Sealed k c m
sealed {k} {c} {m} a l = record {
  is = read_part mac_bytes a ∙ take_all mac_bytes m (omega arith);
  end = let e = ap length a.is in let d = length-drop k c in omega arith;
}

pub length_seal : (key name : List ℕ) (counter : ℕ) (text : List ℕ) → length (mac_under key name counter text) ≡ mac_bytes
unfolding mac_under
length_seal key name counter text = length-mac _ text

-- ---- the start of a call

-- the call c of method n starts with its method and session, and then the pieces
pub record Headed (n : ℕ) (i : Issuer) (c : List ℕ) (vs : List (List ℕ)) (m : List ℕ) : Type 0 where
  pub method : method_of c ≡ n
  pub session : subject c ≡ i.session
  pub long : 5 ≤ length c
  pub next : At 5 c vs m

-- as the definitions join them: from the left
abbrev pub written : List ℕ → List (List ℕ) → List ℕ → List ℕ
written p [] m = p ++ m
written p (v ∷ vs) m = written (p ++ v) vs m

written_is : (p : List ℕ) (vs : List (List ℕ)) (m : List ℕ) → written p vs m ≡ p ++ joined vs m
written_is p [] m = refl
written_is p (v ∷ vs) m = written_is (p ++ v) vs m ∙ append_assoc p v (joined vs m)

pub headed : (n : ℕ) (i : Issuer) (vs : List (List ℕ)) (m : List ℕ) → Fact (fits_four i.session) → Headed n i (written (head_of n i) vs m) vs m
headed n i vs m h = rw (written_is (head_of n i) vs m) (record {
  method = unfold byte in refl;
  session = read_four {k = 1} {c = head_of n i ++ joined vs m} {vs = enc4 i.session ∷ vs} {m = m} (record { is = refl }) refl h;
  long = omega arith;
  next = record { is = refl };
})

-- such a call has the length and a method of a call
pub is_known : {n : ℕ} {i : Issuer} {c : List ℕ} {vs : List (List ℕ)} {m : List ℕ} → Headed n i c vs m → Fact (not_too_long c)
    → test (one_of session_methods n) ≡ true
    → Fact (known c)
is_known {n} h short t = (h.long, (short, inr (inl (rw h.method ((both (one_of session_methods n)).0 t)))))
