-- Method 2 keeps the store sound: the counter goes on, and a new session takes the lowest free place.
use mathlib.Core.Path.{◌≡◌, refl, sym, ap, ◌∙◌, subst}
use mathlib.Core.Bool.{true}
use mathlib.Core.List.Memᴰ
use mathlib.Core.List.{List, [], ◌∷◌, ◌++◌, map, Memᴰ, append_assoc}
use Prim.Native.Nat.{ℕ, suc, ◌+◌, ◌*◌, ◌≤◌, ◌<◌}
use native.Mathlib.Omega.{arith}
use lib.ListN.{length, take, drop, length-drop, take-append-drop}
use lib.Seq.{length-take-le}
use lib.Dec.{eqb, lit≤, lit<}
use Rattle.hmac.proofs.Sameness.{eq_same}
use Rattle.paper.specs.Limits.{longest_id, key_bytes, handle_step, most_sessions, most_objects, id_width, bytes_from}
use Rattle.paper.specs.Bytes.{part, enc2, enc4, padded_text, zeros_of, over, all_within}
use Rattle.paper.specs.Form.{Rec, ◌equals◌, ◌=<◌, Fact}
use Rattle.paper.specs.Records.{kind, SESSION, COUNTER, OPEN, CLOSED, own, session, state, client_id, next_session, mac_counter, insert, handle}
use Rattle.paper.specs.Table.{obeys_table, fields_of}
use Rattle.paper.specs.Sound.{has_handle}
use Rattle.paper.specs.Calls.{Create, create_in, create_form, server_at, times_at}
use Rattle.paper.specs.Act.{flat, plain}
use Rattle.paper.specs.Sessions.{counter, client_taken, create_faults, given, session_record, counted, create_session}
use Rattle.paper.proofs.Forms.{settled, cases}
use Rattle.laws.proofs.Choice.{chosen, holds, only-is, only_out}
use Rattle.laws.proofs.Bytes.{byte_of, two_of, four_of, length_part, two_most}
use Rattle.laws.proofs.Strings.{text_of}
use Rattle.laws.proofs.Building.{Match, match, ◌&◌, done, is_u8, is_u16, is_bytes, is_blank_lem, is_ident, field_built, tabled_built, offset, wide, nth}
use Rattle.laws.proofs.CallForms.{CreateClauses, create_clauses}
use Rattle.laws.proofs.Lists.{map_all}
use Rattle.laws.proofs.Facts.{Facts}
use Rattle.rule.proofs.Kin.{Kin, kin_same}
use Rattle.rule.proofs.Alone.{alone-session}
use Rattle.rule.proofs.RecordEdits.{long, number_range, kin_onward, alone_onward, next_onward}
use Rattle.laws.proofs.Handles.{one-counter, counter_there}
use Rattle.rule.proofs.QuietEdits.{softly}
use Rattle.rule.proofs.StoreEntry.{entered}
use Rattle.rule.proofs.MadeRecords.{Named, word, named_of}
use Rattle.rule.proofs.UserCalls.{Stays}

-- ---- the record

pub record CreateRanges (q : Create) : Type 0 where
  pub server : Named q.server
  pub client : Named q.client
  pub key : length q.key ≡ key_bytes
  pub limit : (1 ≤ q.limit) × (q.limit < 65536)
  pub privacy : q.privacy ≤ 1
  pub times : length q.times ≡ 8

-- values before the rest of a record
abbrev onto : List (List ℕ) → Rec → Rec
onto [] r = r
onto (v ∷ vs) r = v ++ onto vs r

module _ (h : ℕ) (q : Create) (small : h < word) (R : CreateRanges q) where
  abbrev head : List (List ℕ)
  head =
      (SESSION ∷ []) ∷ (OPEN ∷ []) ∷ enc2 1 ∷ enc4 h ∷ enc4 h ∷ enc4 0 ∷ padded_text longest_id q.server ∷ padded_text longest_id q.client
      ∷ q.key ∷ enc2 0 ∷ enc2 q.limit ∷ (q.privacy ∷ []) ∷ (given q.management ∷ []) ∷ []

  -- ClientTime and SessionLifeTime stand together in the record, and are two fields of the table
  abbrev session_values : List (List ℕ)
  session_values =
      (SESSION ∷ []) ∷ (OPEN ∷ []) ∷ enc2 1 ∷ enc4 h ∷ enc4 h ∷ enc4 0 ∷ padded_text longest_id q.server ∷ padded_text longest_id q.client
      ∷ q.key ∷ enc2 0 ∷ enc2 q.limit ∷ (q.privacy ∷ []) ∷ (given q.management ∷ [])
      ∷ take 4 q.times ∷ drop 4 q.times ∷ zeros_of (bytes_from 128) ∷ []

  is-flat : session_record h q ≡ flat session_values
  unfolding session_record
  is-flat = ap (onto head) halves
    where
      halves : flat (q.times ∷ zeros_of (bytes_from 128) ∷ []) ≡ flat (take 4 q.times ∷ drop 4 q.times ∷ zeros_of (bytes_from 128) ∷ [])
      halves =
          ap (λ (t : List ℕ). t ++ (zeros_of (bytes_from 128) ++ [])) (sym (take-append-drop 4 q.times))
          ∙ append_assoc (take 4 q.times) (drop 4 q.times) (zeros_of (bytes_from 128) ++ [])

  flag : given q.management ≤ 1
  flag = chosen (λ (n : ℕ). n ≤ 1) (eqb (length q.management) 0) 0 1 (λ e. lit≤ tt) (λ e. lit≤ tt)

  session_match : Match (fields_of SESSION) session_values
  session_match =
      match
      (is_u8 SESSION SESSION SESSION (lit≤ tt) (lit≤ tt) & is_u8 OPEN CLOSED OPEN (lit≤ tt) (lit≤ tt)
      & is_u16 1 (suc most_objects) 1 (lit≤ tt) (lit≤ tt) (lit< tt) & is_bytes 4 (enc4 h) refl & is_bytes 4 (enc4 h) refl & is_blank_lem 4
      & is_ident longest_id 1 q.server R.server.0 R.server.1 (lit< tt) R.server.2
      & is_ident longest_id 1 q.client R.client.0 R.client.1 (lit< tt) R.client.2
      & is_bytes key_bytes q.key R.key & is_bytes 2 (enc2 0) refl
      & is_u16 1 65535 q.limit R.limit.0 (let l = R.limit in omega arith) R.limit.1
      & is_u8 0 1 q.privacy (omega arith) R.privacy & is_u8 0 1 (given q.management) (omega arith) flag
      & is_bytes 4 (take 4 q.times) (length-take-le 4 q.times (let l = R.times in omega arith))
      & is_bytes 4 (drop 4 q.times) (length-drop 4 q.times ∙ (let l = R.times in omega arith)) & is_blank_lem (bytes_from 128) & done)

  session-at : (j : ℕ) → part (offset j (fields_of SESSION)) (wide j (fields_of SESSION)) (session_record h q) ≡ nth j session_values
  session-at j =
      ap (part (offset j (fields_of SESSION)) (wide j (fields_of SESSION))) is-flat ∙ field_built j (fields_of SESSION) session_values session_match

  session-kind : kind (session_record h q) ≡ SESSION
  session-kind = byte_of 0 (session_record h q) SESSION (session-at 0)

  session-own : own (session_record h q) ≡ h
  session-own = four_of 4 (session_record h q) h (session-at 3) small

  session-session : session (session_record h q) ≡ h
  session-session = four_of 8 (session_record h q) h (session-at 4) small

  session-state : state (session_record h q) ≡ OPEN
  session-state = byte_of 1 (session_record h q) OPEN (session-at 1)

  session-mac : mac_counter (session_record h q) ≡ 0
  session-mac = two_of 114 (session_record h q) 0 (session-at 9) (lit< tt)

  session_client : part 49 id_width (session_record h q) ≡ padded_text longest_id q.client
  session_client = session-at 7

  session-tabled : obeys_table (session_record h q) ≡ true
  session-tabled = ap obeys_table is-flat ∙ tabled_built SESSION session_values session_match (ap kind (sym is-flat) ∙ session-kind) refl

-- ---- the counter goes on

module _ (rs : List Rec) (F : Facts rs) where
  abbrev N : ℕ
  N = next_session (counter rs)

  is-counter : (x : Rec) → Memᴰ x rs → kind x ≡ COUNTER → next_session x ≡ N
  is-counter x i k = let w = counter_there rs F in ap next_session (one-counter rs F x (counter rs) i w.0 k w.1)

  pos : 1 ≤ N
  pos = let w = counter_there rs F in (number_range (counter rs) (F.alone (counter rs) w.0) w.1).0

  -- every handle lies below the next session's
  low : (x : Rec) → Memᴰ x rs → Fact (has_handle x) → own x ≡ N * handle_step → ⊥
  low x i a e =
      let c = counter_there rs F in
      cases (kind x equals SESSION)
      (λ k. let g = (F.related (counter rs) c.0 x i).below_counter c.1 k in omega arith)
      (λ k.
      let o = (F.alone x i).object_carries (omega arith, a.1) in
      let w = (F.housed x i).session_there (omega arith, a.1) in
      let l = ((F.alone w.0 w.1).session_carries w.2.0).1.1 in
      let q = w.2.1.0 in
      let g = (F.related (counter rs) c.0 w.0 w.1).below_counter c.1 w.2.0 in
      omega arith)

  module _ (left : N ≤ most_sessions) where
    F1 : Facts (map counted rs)
    unfolding counted
    F1 =
        softly (λ r. kind r equals COUNTER) (λ r. over 4 (enc4 (next_session r + 1)) r) rs F
        (record {
          no_key = λ x i p k. omega arith;
          kin = λ x i p. kin_onward x (F.alone x i) p;
          alone = λ x i p. let c = is-counter x i p in alone_onward x (F.alone x i) p (omega arith);
          state= = λ x i p k. absurd (omega arith);
        })

    kin : (x : Rec) → Memᴰ x rs → Kin x (counted x)
    unfolding counted
    kin x i =
        only-is (Kin x) (λ r. kind r equals COUNTER) (λ r. over 4 (enc4 (next_session r + 1)) r) x (λ k. kin_onward x (F.alone x i) k)
        (λ n. kin_same x x refl)

    same : (x : Rec) → (kind x ≡ COUNTER → ⊥) → counted x ≡ x
    unfolding counted
    same x n = only_out (λ r. kind r equals COUNTER) (λ r. over 4 (enc4 (next_session r + 1)) r) x n

    next : (x : Rec) → Memᴰ x rs → kind x ≡ COUNTER → next_session (counted x) ≡ N + 1
    unfolding counted
    next x i k =
        only-is (λ y. next_session y ≡ N + 1) (λ r. kind r equals COUNTER) (λ r. over 4 (enc4 (next_session r + 1)) r) x
        (λ j. next_onward x (F.alone x i) j ∙ ap (λ (n : ℕ). n + 1) (is-counter x i j)) (λ n. absurd (n k))

    back : (y : Rec) → Memᴰ y (map counted rs) → (kind y ≡ COUNTER → ⊥) → Memᴰ y rs
    back y i n =
        let w = Memᴰ.of_map counted rs i in
        let K = kin w.0 w.1 in
        subst (λ z. Memᴰ z rs) (sym (same w.0 (λ k. n (sym (ap kind w.2) ∙ K.kind= ∙ k))) ∙ w.2) w.1

    born : (n : Rec) → kind n ≡ SESSION → own n ≡ N * handle_step → session n ≡ N * handle_step → obeys_table n ≡ true → state n ≡ OPEN → mac_counter n ≡ 0
        → ((x : Rec) → Memᴰ x rs → kind x ≡ SESSION → part 49 id_width x ≡ part 49 id_width n → ⊥) → Facts (insert n (map counted rs))
    born n k o t b v z free =
        let p = pos in
        entered n (map counted rs) F1
        (record {
          sort = (omega arith, omega arith);
          alone = alone-session n b k (omega arith) (omega arith) (omega arith) (omega arith) (λ q. absurd (omega arith));
          fresh = λ x i a e. cases (kind x equals COUNTER) (λ j. let h = a.1 in omega arith) (λ j. low x (back x i j) a (e ∙ o));
          named = λ x i a c. let d = c.0 in absurd (omega arith);
          client = λ x i a c. free x (back x i (λ j. omega arith)) a;
          held = λ x i a c. absurd (omega arith);
          young = λ a. v;
          counted = map_all (λ x. kind x ≡ COUNTER → kind n ≡ SESSION → suc (own n) ≤ next_session x * handle_step) counted rs (λ x i a c.
              let K = kin x i in
              let k1 = K.kind= in
              let e = next x i (omega arith) in
              omega arith);
          inside = λ x i a c. let d = c.0 in absurd (omega arith);
          home = λ c. let d = c.0 in absurd (omega arith);
          puk = λ c. absurd (omega arith);
          policy = λ c. absurd (omega arith);
          target = λ c. absurd (omega arith);
          under = λ x i g. let d = g.1.0 in absurd (omega arith);
          alike = λ x y mx my g gn. let d = gn.1.0 in absurd (omega arith);
          pinned = λ x i a c. absurd (omega arith);
          managed = λ x i a c. absurd (omega arith);
        })

-- ---- the call

module _ (c chip : List ℕ) (bytes : all_within 0 255 c ≡ true) (rs : List Rec) (F : Facts rs) where
  abbrev q : Create
  q = create_in c chip

  ranges : CreateClauses c chip → (q.limit ≡ 0 → ⊥) → CreateRanges q
  ranges W z =
      record {
        server = named_of (server_at c) c W.server;
        client = named_of key_bytes chip W.client;
        key = length_part 0 key_bytes chip W.key;
        limit = (holds (1 =< q.limit) (λ n. z (omega arith)), two_most c bytes (times_at c + 8));
        privacy = W.privacy;
        times = length_part (times_at c) 8 c (omega arith);
      }

  pub create_kept : Stays (create_session c chip rs)
  unfolding create_session
  create_kept =
      settled Stays (create_faults c chip q rs) (λ n. plain n rs) _ (λ n. F) (λ g.
      let nonzero : q.limit ≡ 0 → ⊥ = search in
      let R = ranges (create_clauses c chip (holds (create_form c chip) (search))) nonzero in
      let left = holds (next_session (counter rs) =< most_sessions) (search) in
      let free : Fact (client_taken q.client rs) → ⊥ = search in
      let h = handle (next_session (counter rs)) 0 in
      let small : h < word = omega arith in
      let e : h ≡ next_session (counter rs) * handle_step = omega arith in
      born rs F left (session_record h q) (session-kind h q small R) (session-own h q small R ∙ e) (session-session h q small R ∙ e)
      (session-tabled h q small R)
      (session-state h q small R) (session-mac h q small R) (λ x i k p.
      free
      (x, i, (k, eq_same (client_id x) q.client (text_of 49 longest_id x q.client (p ∙ session_client h q small R) R.client.1 (lit< tt) (rw (long x (F.alone x i)) (lit≤ tt)))))))
