-- Two sessions in a sound store that want no key in common: what the one does leaves the other's records, and what it sees, as they were.
use mathlib.Core.Path.{◌≡◌, refl, sym, ap, ◌∙◌, subst}
use mathlib.Core.Bool.{true, false}
use mathlib.Core.List.Memᴰ
use mathlib.Core.List.{List, map, Memᴰ}
use mathlib.Core.Logic.{◌⊎◌, inl, inr}
use Prim.Native.Nat.{ℕ}
use native.Mathlib.Omega.{arith}
use lib.Dec.{leb, lit≤}
use borrow.Author.Tests.{leb-true}
use Rattle.paper.specs.Bytes.{byte}
use Rattle.paper.specs.Form.{Rec, Form, ◌equals◌, ◌and◌, some, Fact}
use Rattle.paper.specs.Records.{kind, SESSION, KEY, PENDING, CLOSED, own, session, parent, state, is_stale, operation, session_of, is, at, bears, block, zeros}
use Rattle.paper.specs.Sound.{has_handle}
use Rattle.paper.specs.Closing.{held, holds, closing, goes, key_goes}
use Rattle.paper.specs.Pin.{clear}
use Rattle.paper.specs.Act.{Act, refuse, inside, close}
use Rattle.paper.specs.Posting.{Look, look, is_target, target, home}
use Rattle.paper.specs.Answer.{is_open}
use Rattle.paper.proofs.Forms.{both, cases}
use Rattle.laws.proofs.Choice.{fails, only_out}
use Rattle.laws.proofs.Bytes.{split}
use Rattle.laws.proofs.Fields.{tabled_field}
use Rattle.laws.proofs.Inserting.{byte-zeros, four-zeros}
use Rattle.laws.proofs.Lists.{at_found, at_byte}
use Rattle.laws.proofs.Places.{from, four_kept}
use Rattle.laws.proofs.Edits.{clear-same, stale-same}
use Rattle.laws.proofs.Stores.{Whole}
use Rattle.laws.proofs.Facts.{Facts}
use Rattle.rule.proofs.SessionHandles.{opened, seat, seat_of, object-home}
use Rattle.rule.proofs.KeepsToSession.{KeepsTo}
use Rattle.rule.proofs.ClosedRecord.{closing_out}
use Rattle.rule.proofs.LocalEffect.{keep_kept, seek_kept, Off, Homed, effect_still}
use Rattle.laws.proofs.Handles.{unique}
use Rattle.laws.proofs.Losses.{all_lost, keys_in, goes_key, goes_session, effect_is}
use Rattle.rule.proofs.TwoEffects.{effect_none, is_pending}
use Rattle.rule.proofs.ActsAsEdits.{edit_of, new_of, Closing, outcome, edit_away, edit_session, born, edit_keeps, keep-placed, seek-placed}

-- ---- what a sound store says of pendings

module _ (rs : List Rec) (F : Facts rs) where
  pub holds-held : (s op k : ℕ) → holds s op rs k ≡ true → Fact (some rs (held s k))
  unfolding holds
  holds-held s op k e = let w = (both (some rs (λ q. held s k q and operation q equals op))).0 e in (w.0, w.1, w.2.0)

  pub held_real : (s k : ℕ) → Fact (some rs (held s k)) → k ≡ 0 → ⊥
  held_real s k (q, m, h) z = let i = ((F.alone q m).target_unless_stale h.0).1 (h.1.1.1 ∙ z) in let j = h.1.1.0 in omega arith

  pub holds-zero : (s op : ℕ) → holds s op rs 0 ≡ true → ⊥
  holds-zero s op e = held_real s 0 (holds-held s op 0 e) refl

  -- what a session holds is no key of an open session
  pub off_open : (t : ℕ) → Fact (is_open t rs) → (s op : ℕ) → Off t (holds s op rs)
  off_open t o s op k e i = go (holds-held s op k e)
    where
      go : Fact (some rs (held s k)) → ⊥
      go (q, m, h) =
          let y = opened t rs o in
          let n : Fact (parent q equals 0) → ⊥ = λ z. held_real s k (q, m, h) (sym h.1.1.1 ∙ z) in
          let c = (F.related (at SESSION t t rs) y.there q m).target_managed y.kind= h.0 n (y.own= ∙ sym i ∙ ap session_of (sym h.1.1.1)) in
          let a = c.0 in
          let b = y.state= in
          omega arith

  pub homed : (t : ℕ) → Homed t rs
  homed t x m k e = (object-home rs F x m (rw k (lit≤ tt, lit≤ tt))).0 ∙ e

  pub session-own : (x : Rec) → Memᴰ x rs → kind x ≡ SESSION → own x ≡ session x
  session-own x m k = ((F.alone x m).session_carries k).0

  -- sessions and objects do not bear 0
  pub borne : (x : Rec) → Memᴰ x rs → Fact (has_handle x) → session x ≡ 0 → ⊥
  borne x m (lo, hi) z = cases (kind x equals SESSION)
      (λ k. let s = (seat rs F x m k).least in let o = session-own x m k in omega arith) (λ n. let s = (object-home rs F x m (omega arith, hi)).1.least in omega arith)

  pub stale_or_not : (q : Rec) → Memᴰ q rs → kind q ≡ PENDING → (is_stale q ≡ 0) ⊎ (parent q ≡ 0)
  stale_or_not q m k =
      let b = leb-true (byte 2 q) 1 (split (leb 0 (byte 2 q)) (leb (byte 2 q) 1) (tabled_field 2 PENDING q k (F.alone q m).tabled)).1 in
      cases (is_stale q equals 1) (λ e. inr (((F.alone q m).target_unless_stale k).0 e)) (λ n. inl (omega arith))

-- ---- two parties

pub record Two (rs : List Rec) (a b : ℕ) (wa wb : ℕ → Type 0) : Type 0 where
  pub facts : Facts rs
  pub whole : Whole rs
  pub other : a ≡ b → ⊥
  pub open_a : Fact (is_open a rs)
  pub open_b : Fact (is_open b rs)
  pub apart : (k : ℕ) → (k ≡ 0 → ⊥) → Fact (some rs (held a k)) ⊎ wa k → Fact (some rs (held b k)) ⊎ wb k → ⊥

pub swap_two : (rs : List Rec) (a b : ℕ) (wa wb : ℕ → Type 0) → Two rs a b wa wb → Two rs b a wb wa
swap_two rs a b wa wb T = record { facts = T.facts; whole = T.whole; other = λ e. T.other (sym e); open_a = T.open_b; open_b = T.open_a; apart = λ k z x y. T.apart k z y x }

-- a's records, and b's act
module _ (rs : List Rec) (a b : ℕ) (wa wb : ℕ → Type 0) (T : Two rs a b wa wb) where
  abbrev F : Facts rs
  F = T.facts

  pub real_a : a ≡ 0 → ⊥
  real_a z = let s = (seat_of rs F a T.open_a).least in omega arith

  pub real_b : b ≡ 0 → ⊥
  real_b z = let s = (seat_of rs F b T.open_b).least in omega arith

  -- b holds nothing that a wants
  pub not_held : (op k : ℕ) → Fact (some rs (held a k)) ⊎ wa k → holds b op rs k ≡ true → ⊥
  not_held op k w e = T.apart k (held_real rs F b k (holds-held rs F b op k e)) w (inl (holds-held rs F b op k e))

  pub pending_spared : (op : ℕ) (x : Rec) → Memᴰ x rs → kind x ≡ PENDING → session x ≡ a → holds b op rs (parent x) ≡ true → ⊥
  pending_spared op x m k e h = go (stale_or_not rs F x m k)
    where
      go : (is_stale x ≡ 0) ⊎ (parent x ≡ 0) → ⊥
      go (inl i) = not_held op (parent x) (inl (x, m, (k, (e, (i, refl))))) h
      go (inr i) = holds-zero rs F b op (ap (holds b op rs) (sym i) ∙ h)

  -- b's close leaves a's records
  pub close_spares : (x : Rec) → Memᴰ x rs → session x ≡ a → closing b rs x ≡ x
  close_spares x m e = closing_out b rs x (λ i. T.other (sym e ∙ i))
      ∙ effect_still a (holds b 50 rs) (holds b 51 rs) rs (homed rs F a) (off_open rs F a T.open_a b 50) (off_open rs F a T.open_a b 51) x e
      (λ k. homed rs F a x m k e) (λ k. session-own rs F x m k ∙ e) (λ k. (pending_spared 50 x m k e, pending_spared 51 x m k e))

  pub edit_spares : (B : Act) → (x : Rec) → Memᴰ x rs → session x ≡ a → edit_of b B rs x ≡ x
  edit_spares (refuse n) x m e = only_out (bears b) (λ r. zeros) x (λ i. T.other (sym e ∙ i))
  edit_spares (inside h t g new) x m e = only_out (bears b) g x (λ i. T.other (sym e ∙ i))
  edit_spares (close t) x m e = close_spares x m e

  module _ (B : Act) (keeps_to : KeepsTo b wb B) where
    abbrev rs_b : List Rec
    rs_b = outcome b B rs

    -- a's own records after b's act
    pub block_a : block a rs_b ≡ block a rs
    unfolding block
    block_a =
        keep-placed (bears a) (new_of B) b wb (born b wb B keeps_to) (λ x e i. T.other (sym e ∙ i)) (λ z. real_a (sym z ∙ four-zeros 8)) (map (edit_of b B rs) rs)
        ∙ keep_kept (bears a) (edit_of b B rs) rs (edit_keeps b wb B keeps_to (bears a) (λ x e i. T.other (sym e ∙ i)) (λ z. real_a (sym z ∙ four-zeros 8)) rs rs (edit_spares B) back)
      where
        back : (x : Rec) → Memᴰ x rs → (session x ≡ b → ⊥) → session (edit_of b B rs x) ≡ a → session x ≡ a
        back x m n e = go (edit_session b wb B keeps_to rs x)
          where
            go : (session (edit_of b B rs x) ≡ session x) ⊎ (edit_of b B rs x ≡ zeros) → session x ≡ a
            go (inl i) = sym i ∙ e
            go (inr i) = absurd (real_a (sym e ∙ ap session i ∙ four-zeros 8))

    -- any session's but b's, where b does not close
    pub block_t : (Closing B → ⊥) → (t : ℕ) → (t ≡ b → ⊥) → (t ≡ 0 → ⊥) → block t rs_b ≡ block t rs
    unfolding block
    block_t c t nb nz =
        keep-placed (bears t) (new_of B) b wb (born b wb B keeps_to) (λ x e i. nb (sym e ∙ i)) (λ z. nz (sym z ∙ four-zeros 8)) (map (edit_of b B rs) rs)
        ∙ keep_kept (bears t) (edit_of b B rs) rs (edit_keeps b wb B keeps_to (bears t) (λ x e i. nb (sym e ∙ i)) (λ z. nz (sym z ∙ four-zeros 8)) rs rs
        (λ x m e. edit_away b wb B c rs x (λ i. nb (sym e ∙ i))) (λ x m n e. ap session (sym (edit_away b wb B c rs x n)) ∙ e))

    -- ---- the look at a key that b neither has nor holds

    module _ (k : ℕ) (not-b : session_of k ≡ b → ⊥) (free : Fact (some rs (held b k)) → ⊥) where
      abbrev sk : ℕ
      sk = session_of k

      not_zero : (j : ℕ) → (j ≡ 0 → ⊥) → (o s : ℕ) → Fact (is j o s zeros) → ⊥
      not_zero j n o s p = n (sym p.0 ∙ byte-zeros 0)

      at_same : (j o : ℕ) → (j ≡ 0 → ⊥) → ((x : Rec) → Memᴰ x rs → Fact (is j o sk x) → edit_of b B rs x ≡ x)
          → ((x : Rec) → Memᴰ x rs → (session x ≡ b → ⊥) → Fact (is j o sk (edit_of b B rs x)) → Fact (is j o sk x)) → at j o sk rs_b ≡ at j o sk rs
      unfolding at
      at_same j o n stay back =
          seek-placed (is j o sk) (new_of B) b wb (born b wb B keeps_to) (λ x p i. not-b (sym p.1.1 ∙ i)) (not_zero j n o sk) (map (edit_of b B rs) rs)
          ∙ seek_kept (is j o sk) (edit_of b B rs) rs (edit_keeps b wb B keeps_to (is j o sk) (λ x p i. not-b (sym p.1.1 ∙ i)) (not_zero j n o sk) rs rs stay back)

      look_away : (Closing B → ⊥) → look k rs_b ≡ look k rs
      unfolding look
      look_away c = rw (at_same KEY k (λ z. omega arith) away back, at_same SESSION sk (λ z. omega arith) away back)
        where
          away : {j o : ℕ} (x : Rec) → Memᴰ x rs → Fact (is j o sk x) → edit_of b B rs x ≡ x
          away x m p = edit_away b wb B c rs x (λ i. not-b (sym p.1.1 ∙ i))

          back : {j o : ℕ} (x : Rec) → Memᴰ x rs → (session x ≡ b → ⊥) → Fact (is j o sk (edit_of b B rs x)) → Fact (is j o sk x)
          back {j} {o} x m n p = subst (λ y. Fact (is j o sk y)) (edit_away b wb B c rs x n) p

-- two looks that decide alike: the same, or neither finds the key
abbrev pub Sight : Look → Look → Type 0
Sight l l' = (l ≡ l') ⊎ ((l.there ≡ false) × (l'.there ≡ false))

module _ (rs : List Rec) (a b : ℕ) (wa wb : ℕ → Type 0) (T : Two rs a b wa wb) (k : ℕ) (not-b : session_of k ≡ b → ⊥) (free : Fact (some rs (held b k)) → ⊥) where
  untaken : (op : ℕ) → holds b op rs k ≡ true → ⊥
  untaken op e = free (holds-held rs T.facts b op k e)

  abbrev kin : Rec → Form
  kin = is KEY k (session_of k)

  abbrev seat' : Rec → Form
  seat' = is SESSION (session_of k) (session_of k)

  key_stay : (x : Rec) → Fact (kin x) → closing b rs x ≡ x
  key_stay x p = closing_out b rs x (λ i. not-b (sym p.1.1 ∙ i))
      ∙ effect_none (holds b 50 rs) (holds b 51 rs) rs x (λ g. untaken 50 (ap (holds b 50 rs) (sym p.1.0) ∙ goes_key (holds b 50 rs) rs x p.0 g))
      (λ i. untaken 51 (ap (holds b 51 rs) (sym p.1.0) ∙ i.1)) (λ i. let c = i.0 in let d = p.0 in omega arith)
      (λ i. let c = is_pending (holds b 50 rs) (holds b 51 rs) rs x i in let d = p.0 in omega arith)

  key_back : (x : Rec) → (session x ≡ b → ⊥) → Fact (kin (closing b rs x)) → Fact (kin x)
  key_back x n = rw (closing_out b rs x n) (effect_is (holds b 50 rs) (holds b 51 rs) rs (λ y. Fact (kin y) → Fact (kin x)) x
      (λ g p. absurd (let c = p.0 in let z = byte-zeros 0 in omega arith))
      (λ s i p. let w = clear-same 2 x in (i.0, (sym (four_kept (from 2 1) x (clear 2 x) w 4 refl) ∙ p.1.0, sym (four_kept (from 2 1) x (clear 2 x) w 8 refl) ∙ p.1.1)))
      (λ s i p. absurd (let c = p.0 in let d = (clear-same 3 x).at 0 refl in let e = i.0 in omega arith))
      (λ s i p. absurd (let c = p.0 in let d = (stale-same x).at 0 refl in let e = is_pending (holds b 50 rs) (holds b 51 rs) rs x i in omega arith))
      (λ s c d e p. p))

  ses_same : (x : Rec) → (session x ≡ b → ⊥) → kind (closing b rs x) ≡ SESSION → closing b rs x ≡ x
  ses_same x n = rw (closing_out b rs x n) (effect_is (holds b 50 rs) (holds b 51 rs) rs (λ y. kind y ≡ SESSION → y ≡ x) x
      (λ g p. absurd (let z = byte-zeros 0 in omega arith))
      (λ s i p. absurd (let d = (clear-same 2 x).at 0 refl in let e = i.0 in omega arith))
      (λ s i p. absurd (let d = (clear-same 3 x).at 0 refl in let e = i.0 in omega arith))
      (λ s i p. absurd (let d = (stale-same x).at 0 refl in let e = is_pending (holds b 50 rs) (holds b 51 rs) rs x i in omega arith))
      (λ s c d e p. refl))

  -- the session of a key that stays
  ses_stay : (z : Rec) → Memᴰ z rs → Fact (kin z) → (x : Rec) → Fact (seat' x) → closing b rs x ≡ x
  ses_stay z m q x p = closing_out b rs x (λ i. not-b (sym p.1.1 ∙ i))
      ∙ effect_none (holds b 50 rs) (holds b 51 rs) rs x off (λ i. let c = i.0 in let d = p.0 in omega arith) (λ i. let c = i.0 in let d = p.0 in omega arith)
      (λ i. let c = is_pending (holds b 50 rs) (holds b 51 rs) rs x i in let d = p.0 in omega arith)
    where
      off : Fact (goes (holds b 50 rs) rs x) → ⊥
      off g =
          let l = (goes_session (holds b 50 rs) rs x p.0 g).1 in
          untaken 50 (ap (holds b 50 rs) (sym q.1.0) ∙ (all_lost rs (keys_in x) (key_goes (holds b 50 rs) rs) l z m (q.0, q.1.1 ∙ sym p.1.0)).1)

  module _ (t : List ℕ) where
    abbrev rs' : List Rec
    rs' = outcome b (close t) rs

    target-same : target k rs' ≡ target k rs
    target-same = at_same rs a b wa wb T (close t) tt k not-b free KEY k (λ z. omega arith) (λ x m p. key_stay x p) (λ x m n p. key_back x n p)

    home_same : (z : Rec) → Memᴰ z rs → Fact (kin z) → home k rs' ≡ home k rs
    home_same z m q = at_same rs a b wa wb T (close t) tt k not-b free SESSION (session_of k) (λ z. omega arith) (λ x l p. ses_stay z m q x p)
        (λ x l n p. subst (λ y. Fact (seat' y)) (ses_same x n p.0) p)

    key_found : (l : List Rec) → kind (target k l) ≡ KEY → Memᴰ (target k l) l × Fact (kin (target k l))
    key_found l e = at_found KEY k (session_of k) l (at_byte KEY k (session_of k) l 0 (λ z. omega arith))

    ses_found : (l : List Rec) → state (home k l) ≡ CLOSED → Memᴰ (home k l) l × Fact (seat' (home k l))
    ses_found l e = at_found SESSION (session_of k) (session_of k) l (at_byte SESSION (session_of k) (session_of k) l 1 (λ z. omega arith))

    -- a key of a closed session afterwards was one before
    target-before : Fact (is_target k rs') → Fact (is_target k rs)
    target-before (i, j) =
        let w = ses_found rs' j in
        let o = Memᴰ.of_map (closing b rs) rs w.0 in
        let p = subst (λ y. Fact (seat' y)) (sym o.2) w.1 in
        (ap kind (sym target-same) ∙ i, before o.0 o.1 p (ap state o.2 ∙ j))
      where
        before : (x : Rec) → Memᴰ x rs → Fact (seat' (closing b rs x)) → state (closing b rs x) ≡ CLOSED → state (home k rs) ≡ CLOSED
        before x m p c = go (edit_session b wb (close t) tt rs x)
          where
            not_own : (session (closing b rs x) ≡ session x) ⊎ (closing b rs x ≡ zeros) → session x ≡ b → ⊥
            not_own (inl e) i = not-b (sym p.1.1 ∙ e ∙ i)
            not_own (inr e) i = let z = ap kind e ∙ byte-zeros 0 in let d = p.0 in omega arith

            go : (session (closing b rs x) ≡ session x) ⊎ (closing b rs x ≡ zeros) → state (home k rs) ≡ CLOSED
            go e =
                let s = ses_same x (not_own e) p.0 in
                let q = subst (λ y. Fact (seat' y)) s p in
                let w = at_found SESSION (session_of k) (session_of k) rs (x, m, q) in
                let i = unique rs T.facts (home k rs) x w.0 m (rw w.1.0 (lit≤ tt, lit≤ tt)) (rw q.0 (lit≤ tt, lit≤ tt)) (w.1.1.0 ∙ sym q.1.0) in
                ap state i ∙ ap state (sym s) ∙ c

    pub sight_close : Sight (look k rs) (look k rs')
    unfolding look
    sight_close = cases (is_target k rs)
        (λ i. let w = key_found rs i.0 in inl (rw (home_same (target k rs) w.0 w.1, target-same)))
        (λ n. inr (fails (is_target k rs) n, fails (is_target k rs') (λ i. n (target-before i))))

-- what a's call sees of the key that it names, after b's act
pub sight : (rs : List Rec) (a b : ℕ) (wa wb : ℕ → Type 0) (T : Two rs a b wa wb) (B : Act) → KeepsTo b wb B → (k : ℕ) → (session_of k ≡ b → ⊥) → (Fact (some rs (held b k)) → ⊥)
    → Sight (look k rs) (look k (outcome b B rs))
sight rs a b wa wb T (refuse n) t k nb free = inl (sym (look_away rs a b wa wb T (refuse n) t k nb free (λ c. c)))
sight rs a b wa wb T (inside h t' g new) t k nb free = inl (sym (look_away rs a b wa wb T (inside h t' g new) t k nb free (λ c. c)))
sight rs a b wa wb T (close t') t k nb free = sight_close rs a b wa wb T k nb free t'
