-- A store as its records and back: nothing is lost where every record has 256 bytes.
use mathlib.Core.Path.{◌≡◌, refl, ap, ◌∙◌}
use mathlib.Core.List.Memᴰ
use mathlib.Core.List.{List, [], ◌∷◌, ◌++◌, Memᴰ}
use mathlib.Core.Logic.{◌⊎◌, inl, inr}
use Prim.Native.Nat.{ℕ, zero, suc, ◌*◌, ◌/◌, ◌%◌, ◌≤◌}
use native.Mathlib.Omega.{arith}
use lib.ListN.{length, take, drop, length-append, length-drop, take-append-drop}
use lib.Seq.{take_at, drop_at, length-take-le}
use Rattle.paper.specs.Limits.{record_bytes}
use Rattle.paper.specs.Form.{Rec}
use Rattle.paper.specs.Records.{records_of, records, joined}

abbrev pub Whole : List Rec → Type 0
Whole rs = (x : Rec) → Memᴰ x rs → length x ≡ record_bytes

pub length-joined : (rs : List Rec) → Whole rs → length (joined rs) ≡ length rs * record_bytes
unfolding joined
length-joined [] w = refl
length-joined (r ∷ rs) w =
    let a = length-append r (joined rs) in
    let b = w r (Memᴰ.head refl) in
    let c = length-joined rs (λ x m. w x (Memᴰ.tail m)) in
    omega arith

records_of_joined : (rs : List Rec) → Whole rs → records_of (length rs) (joined rs) ≡ rs
unfolding records_of joined
records_of_joined [] w = refl
records_of_joined (r ∷ rs) w =
    let b = w r (Memᴰ.head refl) in
    rw (take_at r (joined rs) record_bytes b, drop_at r (joined rs) record_bytes b, records_of_joined rs (λ x m. w x (Memᴰ.tail m)))

pub records-joined : (rs : List Rec) → Whole rs → records (joined rs) ≡ rs
unfolding records
records-joined rs w =
    let a = length-joined rs w in
    let e : length (joined rs) / record_bytes ≡ length rs = omega arith in
    rw e (records_of_joined rs w)

joined-records_of : (n : ℕ) (s : List ℕ) → length s ≡ n * record_bytes → joined (records_of n s) ≡ s
unfolding records_of joined
joined-records_of zero [] l = refl
joined-records_of zero (b ∷ s) l = absurd (omega arith)
joined-records_of (suc n) s l =
    let d = length-drop record_bytes s in
    ap (λ (t : List ℕ). take record_bytes s ++ t) (joined-records_of n (drop record_bytes s) (omega arith)) ∙ take-append-drop record_bytes s

pub joined-records : (s : List ℕ) → length s % record_bytes ≡ 0 → joined (records s) ≡ s
unfolding records
joined-records s e = joined-records_of (length s / record_bytes) s (omega arith)

length-records_of : (n : ℕ) (s : List ℕ) → length (records_of n s) ≡ n
unfolding records_of
length-records_of zero s = refl
length-records_of (suc n) s = ap suc (length-records_of n (drop record_bytes s))

pub length-records : (s : List ℕ) → length (records s) ≡ length s / record_bytes
unfolding records
length-records s = length-records_of (length s / record_bytes) s

whole_of : (n : ℕ) (s : List ℕ) → n * record_bytes ≤ length s → Whole (records_of n s)
unfolding records_of
whole_of zero s l x m = absurd (Memᴰ.not-nil m)
whole_of (suc n) s l x m = go (Memᴰ.cases_cons m) (λ w. whole_of n (drop record_bytes s) (let d = length-drop record_bytes s in omega arith) x w)
  where
    go : (x ≡ take record_bytes s) ⊎ Memᴰ x (records_of n (drop record_bytes s))
        → (Memᴰ x (records_of n (drop record_bytes s)) → length x ≡ record_bytes) → length x ≡ record_bytes
    go (inl e) h = ap length e ∙ length-take-le record_bytes s (omega arith)
    go (inr w) h = h w

-- every record of a store has 256 bytes
pub whole_records : (s : List ℕ) → Whole (records s)
unfolding records
whole_records s = whole_of (length s / record_bytes) s (omega arith)
