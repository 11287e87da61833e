-- Session a along the calls: it holds its key, or has a stale pending, or is open no more. What every call leaves of that.
use mathlib.Core.Path.{◌≡◌, refl, sym, ap, ◌∙◌, subst}
use mathlib.Core.Bool.{Bool, false}
use mathlib.Core.List.Memᴰ
use mathlib.Core.List.{List, map, Memᴰ}
use mathlib.Core.Logic.{◌⊎◌, inl, inr}
use Prim.Native.Nat.{ℕ, ◌*◌, ◌≤◌, ◌<◌}
use native.Mathlib.Omega.{arith}
use lib.ListN.{length}
use Rattle.paper.specs.Form.{Rec, Form, ◌equals◌, ◌and◌, ◌or◌, some, Fact}
use Rattle.paper.specs.Records.{kind, SESSION, PUK, KEY, PENDING, COUNTER, OPEN, session, state, is_stale, is, next_session, zeros, insert}
use Rattle.paper.specs.Closing.{held, stale, Keys, effect, pending_on}
use Rattle.paper.specs.Pin.{clear}
use Rattle.laws.proofs.Edits.{clear-same, stale-same, stale-mark, stale_at}
use Rattle.laws.proofs.Places.{Same, from, hit, four_kept}
use Rattle.laws.proofs.Losses.{goes_among, effect_is}
use Rattle.laws.proofs.Lists.{map_all}
use Rattle.laws.proofs.Inserting.{byte-zeros, length-zeros, insert_old, insert_all, mem_insert}
use Rattle.laws.proofs.Stores.{Whole}

-- a stale pending of session a; session a, open
abbrev pub marked : ℕ → Rec → Form
marked a q = kind q equals PENDING and session q equals a and is_stale q equals 1

abbrev pub live : ℕ → Rec → Form
live a r = is SESSION a a r and state r equals OPEN

-- no close of session a can succeed
pub data Lost (a : ℕ) (rs : List Rec) : Type 0 where
  stained : Fact (some rs (marked a)) → Lost a rs
  shut : (Fact (some rs (live a)) → ⊥) → Lost a rs

pub data Fate (a k : ℕ) (rs : List Rec) : Type 0 where
  holding : Fact (some rs (held a k)) → Fate a k rs
  lost : Lost a rs → Fate a k rs

-- its handle was given before the counter's number
abbrev pub Below : ℕ → List Rec → Type 0
Below a rs = (x : Rec) → Memᴰ x rs → kind x ≡ COUNTER → a < next_session x * 65536

pub record Turn (a : ℕ) (rs rs' : List Rec) : Type 0 where
  pub whole : Whole rs'
  pub below : Below a rs'
  pub lost' : Lost a rs → Lost a rs'
  pub fate : (k : ℕ) → Fate a k rs → Fate a k rs'

pub turn_then : (a : ℕ) (rs rs' rs'' : List Rec) → Turn a rs rs' → Turn a rs' rs'' → Turn a rs rs''
turn_then a rs rs' rs'' t u = record { whole = u.whole; below = u.below; lost' = λ l. u.lost' (t.lost' l); fate = λ k f. u.fate k (t.fate k f) }

pub turn_refl : (a : ℕ) (rs : List Rec) → Whole rs → Below a rs → Turn a rs rs
turn_refl a rs w b = record { whole = w; below = b; lost' = λ l. l; fate = λ k f. f }

-- ---- an edit of every record

-- what an edit makes of a record: nothing, a stale pending, a PUK, policy or key with other bytes, or a free record
pub data Harmless (x y : Rec) : Type 0 where
  same : y ≡ x → Harmless x y
  staled : kind x ≡ PENDING → y ≡ stale x → Harmless x y
  turned : PUK ≤ kind x → kind x ≤ KEY → kind y ≡ kind x → length y ≡ length x → session y ≡ session x → Harmless x y
  freed : (kind x ≡ PENDING → ⊥) → y ≡ zeros → Harmless x y

pub record Gentle (a : ℕ) (f : Rec → Rec) (rs : List Rec) : Type 0 where
  pub long : (x : Rec) → Memᴰ x rs → length (f x) ≡ 256
  pub counter : (x : Rec) → Memᴰ x rs → kind (f x) ≡ COUNTER → (kind x ≡ COUNTER) × (next_session x ≤ next_session (f x))
  pub opens : (x : Rec) → Memᴰ x rs → Fact (live a (f x)) → Fact (live a x)
  pub pending : (x : Rec) → Memᴰ x rs → kind x ≡ PENDING → session x ≡ a → (f x ≡ x) ⊎ (f x ≡ stale x)

-- a stale mark keeps kind and session
pub stale-kind : (x : Rec) → kind (stale x) ≡ kind x
stale-kind x = (stale-same x).at 0 refl

pub stale-session : (x : Rec) → session (stale x) ≡ session x
stale-session x = four_kept stale_at x (stale x) (stale-same x) 8 refl

mark_of_lem : (a : ℕ) (x : Rec) → length x ≡ 256 → kind x ≡ PENDING → session x ≡ a → Fact (marked a (stale x))
mark_of_lem a x l k e = (stale-kind x ∙ k, (stale-session x ∙ e, stale-mark x (omega arith)))

-- what every such edit keeps
module _ (a : ℕ) (f : Rec → Rec) (rs : List Rec) (b : Below a rs)
    (counter : (x : Rec) → Memᴰ x rs → kind (f x) ≡ COUNTER → (kind x ≡ COUNTER) × (next_session x ≤ next_session (f x))) where
  below_map : Below a (map f rs)
  below_map = map_all (λ y. kind y ≡ COUNTER → a < next_session y * 65536) f rs (λ x m k. more x (b x m (counter x m k).0) (counter x m k).1)
    where
      more : (x : Rec) → a < next_session x * 65536 → next_session x ≤ next_session (f x) → a < next_session (f x) * 65536
      more x p q = omega arith

-- an edit after which the session is open no more
pub turn-ended : (a : ℕ) (f : Rec → Rec) (rs : List Rec) → Whole rs → Below a rs → ((x : Rec) → Memᴰ x rs → length (f x) ≡ 256)
    → ((x : Rec) → Memᴰ x rs → kind (f x) ≡ COUNTER → (kind x ≡ COUNTER) × (next_session x ≤ next_session (f x)))
    → ((x : Rec) → Memᴰ x rs → Fact (live a (f x)) → ⊥) → Turn a rs (map f rs)
turn-ended a f rs w b long counter gone =
    record { whole = map_all (λ y. length y ≡ 256) f rs long; below = below_map a f rs b counter; lost' = λ l. shut ended; fate = λ k f. lost (shut ended) }
  where
    ended : Fact (some (map f rs) (live a)) → ⊥
    ended v = let o = Memᴰ.of_map f rs v.1 in gone o.0 o.1 (subst (λ y. Fact (live a y)) (sym o.2) v.2)

pub turn-map : (a : ℕ) (f : Rec → Rec) (rs : List Rec) → Whole rs → Below a rs → Gentle a f rs → Turn a rs (map f rs)
turn-map a f rs w b g =
    record {
      whole = map_all (λ y. length y ≡ 256) f rs g.long;
      below = below_map a f rs b g.counter;
      lost' = still;
      fate = fates;
    }
  where
    at_mark : (q : Rec) → Memᴰ q rs → Fact (marked a q) → (f q ≡ q) ⊎ (f q ≡ stale q) → Fact (some (map f rs) (marked a))
    at_mark q m p (inl e) = (f q, Memᴰ.map f m, subst (λ y. Fact (marked a y)) (sym e) p)
    at_mark q m p (inr e) = (f q, Memᴰ.map f m, subst (λ y. Fact (marked a y)) (sym e) (mark_of_lem a q (w q m) p.0 p.1.0))

    still : Lost a rs → Lost a (map f rs)
    still (stained v) = stained (at_mark v.0 v.1 v.2 (g.pending v.0 v.1 v.2.0 v.2.1.0))
    still (shut n) = shut (λ v. let o = Memᴰ.of_map f rs v.1 in n (o.0, o.1, g.opens o.0 o.1 (subst (λ y. Fact (live a y)) (sym o.2) v.2)))

    at_held : (k : ℕ) (q : Rec) → Memᴰ q rs → Fact (held a k q) → (f q ≡ q) ⊎ (f q ≡ stale q) → Fate a k (map f rs)
    at_held k q m p (inl e) = holding (f q, Memᴰ.map f m, subst (λ y. Fact (held a k y)) (sym e) p)
    at_held k q m p (inr e) = lost (stained (f q, Memᴰ.map f m, subst (λ y. Fact (marked a y)) (sym e) (mark_of_lem a q (w q m) p.0 p.1.0)))

    fates : (k : ℕ) → Fate a k rs → Fate a k (map f rs)
    fates k (holding v) = at_held k v.0 v.1 v.2 (g.pending v.0 v.1 v.2.0 v.2.1.0)
    fates k (lost l) = lost (still l)

pub gentle_of : (a : ℕ) (f : Rec → Rec) (rs : List Rec) → Whole rs → ((x : Rec) → Memᴰ x rs → Harmless x (f x)) → Gentle a f rs
gentle_of a f rs w h =
    record {
      long = λ x m. long x (w x m) (h x m);
      counter = λ x m k. count x k (h x m);
      opens = λ x m p. open_before x p (h x m);
      pending = λ x m k e. pend x k (h x m);
    }
  where
    long : (x : Rec) → length x ≡ 256 → Harmless x (f x) → length (f x) ≡ 256
    long x l (same e) = ap length e ∙ l
    long x l (staled k e) = ap length e ∙ (stale-same x).long ∙ l
    long x l (turned p q k e s) = e ∙ l
    long x l (freed n e) = ap length e ∙ length-zeros

    count : (x : Rec) → kind (f x) ≡ COUNTER → Harmless x (f x) → (kind x ≡ COUNTER) × (next_session x ≤ next_session (f x))
    count x k (same e) = (ap kind (sym e) ∙ k, rw e (omega arith))
    count x k (staled p e) = absurd (let i = ap kind e ∙ stale-kind x in omega arith)
    count x k (turned p q i e s) = absurd (omega arith)
    count x k (freed n e) = absurd (let i = ap kind e ∙ byte-zeros 0 in omega arith)

    open_before : (x : Rec) → Fact (live a (f x)) → Harmless x (f x) → Fact (live a x)
    open_before x p (same e) = subst (λ y. Fact (live a y)) e p
    open_before x p (staled k e) = absurd (let i = ap kind e ∙ stale-kind x in let j = p.0.0 in omega arith)
    open_before x p (turned u v k e s) = absurd (let j = p.0.0 in omega arith)
    open_before x p (freed n e) = absurd (let i = ap kind e ∙ byte-zeros 0 in let j = p.0.0 in omega arith)

    pend : (x : Rec) → kind x ≡ PENDING → Harmless x (f x) → (f x ≡ x) ⊎ (f x ≡ stale x)
    pend x k (same e) = inl e
    pend x k (staled i e) = inr e
    pend x k (turned u v i e s) = absurd (omega arith)
    pend x k (freed n e) = absurd (n k)

pub turn_harmless : (a : ℕ) (f : Rec → Rec) (rs : List Rec) → Whole rs → Below a rs → ((x : Rec) → Memᴰ x rs → Harmless x (f x)) → Turn a rs (map f rs)
turn_harmless a f rs w b h = turn-map a f rs w b (gentle_of a f rs w h)

-- ---- a new record

pub turn-insert : (a : ℕ) (n : Rec) (rs : List Rec) → Whole rs → Below a rs → length n ≡ 256 → (kind n ≡ COUNTER → ⊥) → (Fact (live a n) → ⊥) → Turn a rs (insert n rs)
turn-insert a n rs w b l c o =
    record {
      whole = insert_all (λ y. length y ≡ 256) n rs l w;
      below = insert_all (λ y. kind y ≡ COUNTER → a < next_session y * 65536) n rs (λ k. absurd (c k)) b;
      lost' = still;
      fate = fates;
    }
  where
    not_new : (y : Rec) → Fact (live a y) → (y ≡ n) ⊎ Memᴰ y rs → Memᴰ y rs
    not_new y p (inl e) = absurd (o (subst (λ z. Fact (live a z)) e p))
    not_new y p (inr m) = m

    still : Lost a rs → Lost a (insert n rs)
    still (stained v) = stained (v.0, insert_old n rs v.1 (let k = v.2.0 in omega arith), v.2)
    still (shut h) = shut (λ v. h (v.0, not_new v.0 v.2 (mem_insert n rs v.1), v.2))

    fates : (k : ℕ) → Fate a k rs → Fate a k (insert n rs)
    fates k (holding v) = holding (v.0, insert_old n rs v.1 (let i = v.2.0 in omega arith), v.2)
    fates k (lost h) = lost (still h)

-- ---- keys removed and unlocked

-- an edit of a PUK, a policy or a key that touches neither kind nor session
pub same-turned : (touched : ℕ → Bool) (x y : Rec) → Same touched x y → touched 0 ≡ false → hit touched 8 4 ≡ false → PUK ≤ kind x → kind x ≤ KEY → Harmless x y
same-turned touched x y w a b p q = turned p q (w.at 0 a) w.long (four_kept touched x y w 8 b)

pub effect_harmless : (d u : Keys) (rs : List Rec) (x : Rec) → Harmless x (effect d u rs x)
effect_harmless d u rs x =
    effect_is d u rs (Harmless x) x (λ g. freed (λ k. let w = (goes_among d rs x g).1 in omega arith) refl)
    (λ n k. same-turned (from 2 1) x (clear 2 x) (clear-same 2 x) refl refl (let e = k.0 in omega arith) (let e = k.0 in omega arith))
    (λ n k. same-turned (from 3 1) x (clear 3 x) (clear-same 3 x) refl refl (let e = k.0 in omega arith) (let e = k.0 in omega arith))
    (λ n p. staled (on p) refl) (λ n k p q. same refl)
  where
    on : Fact (pending_on d x or pending_on u x) → kind x ≡ PENDING
    on (inl p) = p.0
    on (inr p) = p.0

-- the effect keeps a record's session, or frees it
pub effect-session : (d u : Keys) (rs : List Rec) (x : Rec) → (session (effect d u rs x) ≡ session x) ⊎ (effect d u rs x ≡ zeros)
effect-session d u rs x = go (effect_harmless d u rs x)
  where
    go : Harmless x (effect d u rs x) → (session (effect d u rs x) ≡ session x) ⊎ (effect d u rs x ≡ zeros)
    go (same e) = inl (ap session e)
    go (staled k e) = inl (ap session e ∙ stale-session x)
    go (turned p q k l e) = inl e
    go (freed n e) = inr e
