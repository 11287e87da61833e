-- A new record at the lowest free place: who is there afterwards, and what is said of every record or every pair.
use mathlib.Core.Path.{◌≡◌, refl, sym, ap, ◌∙◌, subst}
use mathlib.Core.Bool.{Bool, true, false, ◌&&◌, ◌||◌, cond}
use mathlib.Core.List.Memᴰ
use mathlib.Core.List.{List, [], ◌∷◌, Memᴰ}
use mathlib.Core.Logic.{◌⊎◌, inl, inr}
use Prim.Native.Nat.{ℕ, suc, ◌+◌, ◌≤◌}
use native.Mathlib.Omega.{arith}
use lib.ListN.{length, length-replicate}
use Rattle.hmac.proofs.Sameness.{same_eq, eq_same}
use Rattle.paper.specs.Bytes.{byte, two, four}
use Rattle.paper.specs.Form.{Rec, Form, test, every, exists, Pairs, keep, seek}
use Rattle.paper.specs.Records.{kind, zeros, is_free, insert}
use Rattle.paper.proofs.Forms.{contrary}
use Rattle.laws.proofs.Bytes.{byte-zeros_of}
use Rattle.laws.proofs.Choice.{either}

-- ---- the free record

pub free_is : (r : Rec) → is_free r ≡ true → r ≡ zeros
unfolding is_free
free_is r e = same_eq r zeros e

pub free_zeros : is_free zeros ≡ true
unfolding is_free
free_zeros = eq_same zeros zeros refl

pub length-zeros : length zeros ≡ 256
unfolding zeros
length-zeros = length-replicate {A = ℕ} 256 0

pub byte-zeros : (i : ℕ) → byte i zeros ≡ 0
unfolding zeros
byte-zeros i = byte-zeros_of 256 i

pub two-zeros : (i : ℕ) → two i zeros ≡ 0
unfolding two
two-zeros i = rw (byte-zeros i, byte-zeros (i + 1))

pub four-zeros : (i : ℕ) → four i zeros ≡ 0
unfolding four
four-zeros i = rw (byte-zeros i, byte-zeros (i + 1), byte-zeros (i + 2), byte-zeros (i + 3))

-- a record with a kind is not free
pub not_free : (r : Rec) → 1 ≤ kind r → is_free r ≡ false
not_free r k = either (is_free r) (λ e. let z = ap kind (free_is r e) ∙ byte-zeros 0 in absurd (omega arith)) (λ e. e)

-- ---- the insertion

pub length-insert : (n : Rec) (rs : List Rec) → length (insert n rs) ≡ length rs
length-insert n [] = refl
length-insert n (x ∷ rs) = go (is_free x) (length-insert n rs)
  where
    go : (b : Bool) → length (insert n rs) ≡ length rs → length (cond b (n ∷ rs) (x ∷ insert n rs)) ≡ suc (length rs)
    go true h = refl
    go false h = ap suc h

pub mem_insert : (n : Rec) (rs : List Rec) {x : Rec} → Memᴰ x (insert n rs) → (x ≡ n) ⊎ Memᴰ x rs
mem_insert n [] m = inr m
mem_insert n (y ∷ ys) {x} m = go (is_free y) m (λ w. mem_insert n ys w)
  where
    later : (x ≡ n) ⊎ Memᴰ x ys → (x ≡ n) ⊎ Memᴰ x (y ∷ ys)
    later (inl e) = inl e
    later (inr w) = inr (Memᴰ.tail w)

    past : (Memᴰ x (insert n ys) → (x ≡ n) ⊎ Memᴰ x ys) → (x ≡ y) ⊎ Memᴰ x (insert n ys) → (x ≡ n) ⊎ Memᴰ x (y ∷ ys)
    past h (inl e) = inr (Memᴰ.head e)
    past h (inr w) = later (h w)

    go : (b : Bool) → Memᴰ x (cond b (n ∷ ys) (y ∷ insert n ys)) → (Memᴰ x (insert n ys) → (x ≡ n) ⊎ Memᴰ x ys) → (x ≡ n) ⊎ Memᴰ x (y ∷ ys)
    go true w h = later (Memᴰ.cases_cons w)
    go false w h = past h (Memᴰ.cases_cons w)

-- who was there and is not free is there still
pub insert_mem : (n : Rec) (rs : List Rec) {x : Rec} → Memᴰ x rs → is_free x ≡ false → Memᴰ x (insert n rs)
insert_mem n [] m e = absurd (Memᴰ.not-nil m)
insert_mem n (y ∷ ys) {x} m e = go (Memᴰ.cases_cons m) (λ w. insert_mem n ys w e)
  where
    at_y : (b : Bool) → is_free y ≡ b → x ≡ y → Memᴰ x (cond b (n ∷ ys) (y ∷ insert n ys))
    at_y true q i = contrary (sym q ∙ sym (ap is_free i) ∙ e)
    at_y false q i = Memᴰ.head i

    past_y : (b : Bool) → Memᴰ x ys → Memᴰ x (insert n ys) → Memᴰ x (cond b (n ∷ ys) (y ∷ insert n ys))
    past_y true w v = Memᴰ.tail w
    past_y false w v = Memᴰ.tail v

    go : (x ≡ y) ⊎ Memᴰ x ys → (Memᴰ x ys → Memᴰ x (insert n ys)) → Memᴰ x (cond (is_free y) (n ∷ ys) (y ∷ insert n ys))
    go (inl i) h = at_y (is_free y) refl i
    go (inr w) h = past_y (is_free y) w (h w)

pub insert_old : (n : Rec) (rs : List Rec) {x : Rec} → Memᴰ x rs → 1 ≤ kind x → Memᴰ x (insert n rs)
insert_old n rs {x} m k = insert_mem n rs m (not_free x k)

pub insert_new : (n : Rec) (rs : List Rec) → exists is_free rs ≡ true → Memᴰ n (insert n rs)
insert_new n [] e = contrary (sym e)
insert_new n (x ∷ rs) e = go (is_free x) e (insert_new n rs)
  where
    go : (b : Bool) → (b || exists is_free rs) ≡ true → (exists is_free rs ≡ true → Memᴰ n (insert n rs)) → Memᴰ n (cond b (n ∷ rs) (x ∷ insert n rs))
    go true q h = Memᴰ.head refl
    go false q h = Memᴰ.tail (h q)

pub insert_all : (P : Rec → Type 0) (n : Rec) (rs : List Rec) → P n → ((x : Rec) → Memᴰ x rs → P x) → (y : Rec) → Memᴰ y (insert n rs) → P y
insert_all P n rs p h y m = go (mem_insert n rs m)
  where
    go : (y ≡ n) ⊎ Memᴰ y rs → P y
    go (inl e) = subst P (sym e) p
    go (inr w) = h y w

pub pairs-insert : (P : Rec → Rec → Type 0) (n : Rec) (rs : List Rec) → ((x : Rec) → Memᴰ x rs → P n x × P x n) → Pairs P rs → Pairs P (insert n rs)
pairs-insert P n [] h p = tt
pairs-insert P n (x ∷ rs) h p = go (is_free x) (pairs-insert P n rs (λ y m. h y (Memᴰ.tail m)) p.1)
  where
    go : (b : Bool) → Pairs P (insert n rs) → Pairs P (cond b (n ∷ rs) (x ∷ insert n rs))
    go true q = ((λ y m. (h y (Memᴰ.tail m)).0), p.1)
    go false q = (insert_all (λ z. P x z) n rs (h x (Memᴰ.head refl)).1 p.0, q)

-- tests: one that neither the new record nor a free one passes; one that both pass
pub exists-insert : (t : Rec → Bool) (n : Rec) (rs : List Rec) → t n ≡ false → t zeros ≡ false → exists t (insert n rs) ≡ exists t rs
exists-insert t n [] a z = refl
exists-insert t n (x ∷ rs) a z = go (is_free x) refl (exists-insert t n rs a z)
  where
    go : (b : Bool) → is_free x ≡ b → exists t (insert n rs) ≡ exists t rs → exists t (cond b (n ∷ rs) (x ∷ insert n rs)) ≡ (t x || exists t rs)
    go true e i = rw (a, ap t (free_is x e) ∙ z)
    go false e i = rw i

pub every-insert : (t : Rec → Bool) (n : Rec) (rs : List Rec) → t n ≡ true → t zeros ≡ true → every t (insert n rs) ≡ every t rs
every-insert t n [] a z = refl
every-insert t n (x ∷ rs) a z = go (is_free x) refl (every-insert t n rs a z)
  where
    go : (b : Bool) → is_free x ≡ b → every t (insert n rs) ≡ every t rs → every t (cond b (n ∷ rs) (x ∷ insert n rs)) ≡ (t x && every t rs)
    go true e i = rw (a, ap t (free_is x e) ∙ z)
    go false e i = rw i

-- records kept or sought that are neither the new one nor free
pub keep-insert : (φ : Rec → Form) (n : Rec) (rs : List Rec) → test (φ n) ≡ false → test (φ zeros) ≡ false → keep φ (insert n rs) ≡ keep φ rs
keep-insert φ n [] a z = refl
keep-insert φ n (x ∷ rs) a z = go (is_free x) refl (keep-insert φ n rs a z)
  where
    go : (b : Bool) → is_free x ≡ b → keep φ (insert n rs) ≡ keep φ rs
        → keep φ (cond b (n ∷ rs) (x ∷ insert n rs)) ≡ cond (test (φ x)) (x ∷ keep φ rs) (keep φ rs)
    go true e i = rw (a, ap (λ (r : Rec). test (φ r)) (free_is x e) ∙ z)
    go false e i = rw i

pub seek-insert : (φ : Rec → Form) (n : Rec) (rs : List Rec) → test (φ n) ≡ false → test (φ zeros) ≡ false → seek φ (insert n rs) ≡ seek φ rs
seek-insert φ n [] a z = refl
seek-insert φ n (x ∷ rs) a z = go (is_free x) refl (seek-insert φ n rs a z)
  where
    go : (b : Bool) → is_free x ≡ b → seek φ (insert n rs) ≡ seek φ rs → seek φ (cond b (n ∷ rs) (x ∷ insert n rs)) ≡ cond (test (φ x)) x (seek φ rs)
    go true e i = rw (a, ap (λ (r : Rec). test (φ r)) (free_is x e) ∙ z)
    go false e i = rw i
