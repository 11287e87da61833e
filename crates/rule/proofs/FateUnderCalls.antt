-- Every call leaves of session a what SessionFate.antt says: the session calls, a new session, and the user calls.
use mathlib.Core.Path.{◌≡◌, refl, sym, ap, ◌∙◌, subst}
use mathlib.Core.List.{List, [], ◌∷◌, map, Memᴰ}
use mathlib.Core.Option.{Option, none, some as just}
use mathlib.Core.Logic.{◌⊎◌, inl, inr}
use Prim.Native.Nat.{ℕ, ◌+◌, ◌≤◌}
use native.Mathlib.Omega.{arith}
use lib.ListN.{length}
use lib.Dec.{lit≤, lit<}
use Rattle.paper.specs.Limits.{longest_id, longest_pin, key_bytes, bytes_from}
use Rattle.paper.specs.Bytes.{enc2, enc4, over, padded_text, zeros_of}
use Rattle.paper.specs.Form.{Rec, Form, ◌equals◌, ◌=<◌, no, ◌and◌, some, Fact, only}
use Rattle.paper.specs.Records.{kind, SESSION, KEY, PENDING, COUNTER, OPEN, own, session, parent, bears, next_session, retry_limit, zeros, insert, block, at, handle}
use Rattle.paper.specs.Closing.{stale, closing, Keys, effect, holds, one, no_keys}
use Rattle.paper.specs.Pin.{clear, add_one, the_key, the_puk, pin_missed, pin_hit, puk_missed, puk_hit}
use Rattle.paper.specs.Calls.{subject, is_session_call, post_in, Create, create_in, create_form, times_at, typed_new, server_at}
use Rattle.paper.specs.Act.{Out, plain, Act, refuse, inside, close, perform, wiped, placed, fits_in, no_attestation}
use Rattle.paper.specs.Posting.{look, target}
use Rattle.paper.specs.Sessions.{counter, create_faults, create_session, counted, session_record, given}
use Rattle.paper.specs.Users.{policy_of, puk_of, given_pin, new_pin, changed}
use Rattle.paper.specs.Answer.{session_act, session_step, step, is_open}
use Rattle.paper.proofs.Forms.{cases, settled}
use Rattle.laws.proofs.Choice.{holds as holds', chosen, only-is, only_out}
use Rattle.laws.proofs.Bytes.{length_part, length_over, byte-over_other, four-over_other}
use Rattle.laws.proofs.Places.{Same, from, four_kept}
use Rattle.laws.proofs.Edits.{clear-same, add_same, shut-same, shut-state, onward_same, onward_next}
use Rattle.laws.proofs.Inserting.{byte-zeros, length-zeros}
use Rattle.laws.proofs.Stores.{Whole}
use Rattle.laws.proofs.Facts.{Facts}
use Rattle.laws.proofs.Handles.{counter_there}
use Rattle.laws.proofs.CallForms.{CreateClauses, create_clauses}
use Rattle.laws.proofs.Methods.{by_user, by_step}
use Rattle.rule.proofs.MadeHeads.{newly, newly_kind, newly_own, length-flat, total, length-zeros_of, length_kept}
use Rattle.rule.proofs.RecordEdits.{number_range}
use Rattle.rule.proofs.KeepsToSession.{Mild, Born, KeepsTo, Asking, keeps_to}
use Rattle.rule.proofs.ClosedRecord.{struck, closing-is, closing_out, sealed-is, shut-kind, shut-session}
use Rattle.rule.proofs.SessionFate.{live, Below, Turn, turn_then, turn_refl, turn-ended, turn-map, turn-insert, turn_harmless, Harmless, same, staled, turned, Gentle, gentle_of, same-turned, effect_harmless}

module _ (a : ℕ) (rs : List Rec) (w : Whole rs) (b : Below a rs) where
  -- ---- session calls

  dead : (Fact (live a zeros) → ⊥)
  dead p = let i = p.0.0 in let j = byte-zeros 0 in omega arith

  turn-wiped : (s : ℕ) → Turn a rs (map (only (bears s) (λ r. zeros)) rs)
  turn-wiped s = cases (s equals a) (λ e. turn-ended a f rs w b long count (λ x m. gone e x))
      (λ n. turn-map a f rs w b (record { long = long; counter = count; opens = opens; pending = λ x m k e. inl (only_out (bears s) (λ r. zeros) x (λ i. n (sym i ∙ e))) }))
    where
      f : Rec → Rec
      f = only (bears s) (λ r. zeros)

      long : (x : Rec) → Memᴰ x rs → length (f x) ≡ 256
      long x m = only-is (λ y. length y ≡ 256) (bears s) (λ r. zeros) x (λ i. length-zeros) (λ n. w x m)

      count : (x : Rec) → Memᴰ x rs → kind (f x) ≡ COUNTER → (kind x ≡ COUNTER) × (next_session x ≤ next_session (f x))
      count x m = only-is (λ y. kind y ≡ COUNTER → (kind x ≡ COUNTER) × (next_session x ≤ next_session y)) (bears s) (λ r. zeros) x
          (λ i k. absurd (let j = byte-zeros 0 in omega arith)) (λ n k. (k, omega arith))

      opens : (x : Rec) → Memᴰ x rs → Fact (live a (f x)) → Fact (live a x)
      opens x m = only-is (λ y. Fact (live a y) → Fact (live a x)) (bears s) (λ r. zeros) x (λ i p. absurd (dead p)) (λ n p. p)

      gone : s ≡ a → (x : Rec) → Fact (live a (f x)) → ⊥
      gone e x = only-is (λ y. Fact (live a y) → ⊥) (bears s) (λ r. zeros) x (λ i. dead) (λ n p. n (p.0.1.1 ∙ sym e))

  turn_mild : (s : ℕ) (g : Rec → Rec) → ((x : Rec) → Mild x (g x)) → Turn a rs (map (only (bears s) g) rs)
  turn_mild s g h = turn-map a (only (bears s) g) rs w b
      (record {
        long = λ x m. only-is (λ y. length y ≡ 256) (bears s) g x (λ i. (h x).long ∙ w x m) (λ n. w x m);
        counter = λ x m. only-is (λ y. kind y ≡ COUNTER → (kind x ≡ COUNTER) × (next_session x ≤ next_session y)) (bears s) g x (λ i k. counts x k) (λ n k. (k, omega arith));
        opens = λ x m. only-is (λ y. Fact (live a y) → Fact (live a x)) (bears s) g x (λ i p. opens x p) (λ n p. p);
        pending = λ x m k e. only-is (λ y. (y ≡ x) ⊎ (y ≡ stale x)) (bears s) g x (λ i. inl ((h x).others (λ z. omega arith) (λ z. omega arith))) (λ n. inl refl);
      })
    where
      counts : (x : Rec) → kind (g x) ≡ COUNTER → (kind x ≡ COUNTER) × (next_session x ≤ next_session (g x))
      counts x k =
          let i = sym (h x).kind= ∙ k in
          (i, rw ((h x).others (λ z. omega arith) (λ z. omega arith)) (omega arith))

      opens : (x : Rec) → Fact (live a (g x)) → Fact (live a x)
      opens x p =
          let m = h x in
          let k = sym m.kind= ∙ p.0.0 in
          ((k, (sym m.own= ∙ p.0.1.0, sym m.session= ∙ p.0.1.1)), sym (m.state= k) ∙ p.1)

  turn-placed : (s : ℕ) (asks : ℕ → Type 0) (n : Option Rec) (rs' : List Rec) → Born s asks n → Turn a rs rs' → Turn a rs (placed n rs')
  turn-placed s asks none rs' h t = t
  turn-placed s asks (just n) rs' h t = turn_then a rs rs' (insert n rs') t
      (turn-insert a n rs' t.whole t.below h.long (λ k. let m = h.most in omega arith) (λ p. let m = h.least in let k = p.0.0 in omega arith))

  -- a close
  turn-closing : (s : ℕ) → Turn a rs (map (closing s rs) rs)
  turn-closing s = cases (s equals a) (λ e. turn-ended a f rs w b long count (gone e))
      (λ n. turn-map a f rs w b (record { long = long; counter = count; opens = opens n; pending = λ x m k e. rw (closing_out s rs x (λ i. n (sym i ∙ e))) (beyond.pending x m k e) }))
    where
      f : Rec → Rec
      f = closing s rs

      beyond : Gentle a (struck s rs) rs
      beyond = gentle_of a (struck s rs) rs w (λ x m. effect_harmless (holds s 50 rs) (holds s 51 rs) rs x)

      long : (x : Rec) → Memᴰ x rs → length (f x) ≡ 256
      long x m = closing-is s rs (λ y. length y ≡ 256) x
          (λ e. sealed-is s rs (λ y. length y ≡ 256) x (λ k. length-zeros) (λ k h. (shut-same x).long ∙ w x m) (λ k h. length-zeros) (λ i j. w x m))
          (λ n. beyond.long x m)

      Counts : Rec → Rec → Type 0
      Counts x y = kind y ≡ COUNTER → (kind x ≡ COUNTER) × (next_session x ≤ next_session y)

      free_counts : (x : Rec) → Counts x zeros
      free_counts x k = absurd (let j = byte-zeros 0 in omega arith)

      count : (x : Rec) → Memᴰ x rs → Counts x (f x)
      count x m = closing-is s rs (Counts x) x
          (λ e. sealed-is s rs (Counts x) x (λ k. free_counts x) (λ k h i. absurd (let j = shut-kind x in omega arith)) (λ k h. free_counts x) (λ i j k. (k, omega arith)))
          (λ n. beyond.counter x m)

      opens : (s ≡ a → ⊥) → (x : Rec) → Memᴰ x rs → Fact (live a (f x)) → Fact (live a x)
      opens n x m = closing-is s rs (λ y. Fact (live a y) → Fact (live a x)) x
          (λ e. sealed-is s rs (λ y. Fact (live a y) → Fact (live a x)) x (λ k p. absurd (dead p))
          (λ k h p. absurd (n (sym e ∙ sym (shut-session x) ∙ p.0.1.1))) (λ k h p. absurd (dead p)) (λ i j p. p))
          (λ i. beyond.opens x m)

      gone : s ≡ a → (x : Rec) → Memᴰ x rs → Fact (live a (f x)) → ⊥
      gone e x m = closing-is s rs (λ y. Fact (live a y) → ⊥) x
          (λ i. sealed-is s rs (λ y. Fact (live a y) → ⊥) x (λ k. dead)
          (λ k h p. let c = shut-state x (let l = w x m in omega arith) in let o = p.1 in omega arith) (λ k h. dead) (λ i j p. j p.0.0))
          (λ n p. n ((beyond.opens x m p).0.1.1 ∙ sym e))

  turn-perform : (s : ℕ) (asks : ℕ → Type 0) (act : Act) → KeepsTo s asks act → Turn a rs (perform s act rs).store
  unfolding perform
  turn-perform s asks (refuse n) t = turn-wiped s
  turn-perform s asks (close t') t = turn-closing s
  turn-perform s asks (inside h t' g new) t =
      chosen (λ (o : Out). Turn a rs o.store) (fits_in new rs) (record { status = 0; handle = h; attestation = t'; store = placed new (map (only (bears s) g) rs) }) (wiped s 2 rs)
      (λ e. go t) (λ e. turn-wiped s)
    where
      go : (((x : Rec) → g x ≡ zeros) × (new ≡ none)) ⊎ (((x : Rec) → Mild x (g x)) × Born s asks new) → Turn a rs (placed new (map (only (bears s) g) rs))
      go (inl (z, n)) = rw n (subst (λ (f : Rec → Rec). Turn a rs (map (only (bears s) f) rs)) (λ i x. sym (z x) i) (turn-wiped s))
      go (inr (m, n)) = turn-placed s asks new (map (only (bears s) g) rs) n (turn_mild s g m)

  turn-session : (c chip : List ℕ) → Facts rs → Fact (is_open (subject c) rs) → Fact (is_session_call c) → Turn a rs (session_step c chip rs).store
  unfolding session_step
  turn-session c chip F o i = turn-perform (subject c) (Asking c chip) (session_act c chip (block (subject c) rs) (look (post_in c chip).key rs)) (keeps_to c chip rs F o i)

  -- ---- a new session

  turn_create : (c chip : List ℕ) → Facts rs → Turn a rs (create_session c chip rs).store
  unfolding create_session
  turn_create c chip F = settled (λ (o : Out). Turn a rs o.store) (create_faults c chip q rs) (λ n. plain n rs)
      (record { status = 0; handle = h; attestation = no_attestation; store = insert (session_record h q) (map counted rs) })
      (λ n. turn_refl a rs w b) (λ f. made (create_clauses c chip (holds' (create_form c chip) (search))) (holds' (next_session (counter rs) =< 65535) (search)))
    where
      q : Create
      q = create_in c chip

      h : ℕ
      h = handle (next_session (counter rs)) 0

      Moves : Rec → Rec → Type 0
      Moves x y = (length y ≡ 256) × (kind y ≡ kind x) × (kind x ≡ COUNTER → next_session x ≤ next_session y) × ((kind x ≡ COUNTER → ⊥) → y ≡ x)

      moves : (x : Rec) → Memᴰ x rs → Moves x (counted x)
      moves x m = unfold counted in only-is (Moves x) (λ r. kind r equals COUNTER) (λ r. over 4 (enc4 (next_session r + 1)) r) x
          (λ k. let o = onward_same x in (
            o.long ∙ w x m,
            o.at 0 refl,
            (λ i. rw (onward_next x (let l = w x m in omega arith) (let l = (number_range x (F.alone x m) k).1 in omega arith)) (omega arith)),
            λ n. absurd (n k),
          ))
          (λ n. (w x m, refl, (λ k. absurd (n k)), λ n. refl))

      ticked : Turn a rs (map counted rs)
      ticked = turn-map a counted rs w b
          (record {
            long = λ x m. (moves x m).0;
            counter = λ x m k. let e = moves x m in (sym e.1 ∙ k, e.2 (sym e.1 ∙ k));
            opens = λ x m p. subst (λ y. Fact (live a y)) ((moves x m).3 (λ k. let e = (moves x m).1 in let i = p.0.0 in omega arith)) p;
            pending = λ x m k e. inl ((moves x m).3 (λ i. omega arith));
          })

      rest : List (List ℕ)
      rest = padded_text longest_id q.server ∷ padded_text longest_id q.client ∷ q.key ∷ enc2 0 ∷ enc2 q.limit ∷ (q.privacy ∷ []) ∷ (given q.management ∷ []) ∷ q.times ∷ zeros_of (bytes_from 128) ∷ []

      is_newly : session_record h q ≡ newly SESSION OPEN 0 1 h h 0 rest
      is_newly = unfold session_record in refl

      long_enough : CreateClauses c chip → total rest ≡ 240
      long_enough W =
          let a = length_kept (server_at c) longest_id c W.server.most in
          let b = length_kept key_bytes longest_id chip W.client.most in
          let d = length_part 0 key_bytes chip W.key in
          let e = length_part (times_at c) 8 c (omega arith) in
          let z = length-zeros_of (bytes_from 128) in
          omega arith

      made : CreateClauses c chip → next_session (counter rs) ≤ 65535 → Turn a rs (insert (session_record h q) (map counted rs))
      made f l =
          let t = ticked in
          let below = b (counter rs) (counter_there rs F).0 (counter_there rs F).1 in
          turn_then a rs (map counted rs) (insert (session_record h q) (map counted rs)) t
          (rw is_newly (turn-insert a (newly SESSION OPEN 0 1 h h 0 rest) (map counted rs) t.whole t.below (let x = length-flat rest in let y = long_enough f in omega arith)
          (λ k. let i = newly_kind SESSION OPEN 0 1 h h 0 rest in omega arith)
          (λ p. let o = newly_own SESSION OPEN 0 1 h h 0 rest (omega arith) in let e = p.0.1.0 in omega arith)))

  -- ---- user calls

  turn_edit : (f : Rec → Rec) → ((x : Rec) → Harmless x (f x)) → Turn a rs (map f rs)
  turn_edit f h = turn_harmless a f rs w b (λ x m. h x)

  turn-effect : (d u : Keys) (rs' : List Rec) → Turn a rs rs' → Turn a rs (map (effect d u rs') rs')
  turn-effect d u rs' t = turn_then a rs rs' (map (effect d u rs') rs') t (turn_harmless a (effect d u rs') rs' t.whole t.below (λ x m. effect_harmless d u rs' x))

  -- an edit of keys, or of PUKs, in one byte
  at_key : (key : Rec) (e : Rec → Rec) → ((x : Rec) → Same (from 2 1) x (e x)) → (x : Rec) → Harmless x (only (the_key key) e x)
  at_key key e h x = only-is (Harmless x) (the_key key) e x (λ i. same-turned (from 2 1) x (e x) (h x) refl refl (let k = i.0 in omega arith) (let k = i.0 in omega arith)) (λ n. same refl)

  harm_pin_missed : (key x : Rec) → Harmless x (pin_missed key x)
  unfolding pin_missed
  harm_pin_missed key x = at_key key (add_one 2) (add_same 2) x

  harm_pin_hit : (key x : Rec) → Harmless x (pin_hit key x)
  unfolding pin_hit
  harm_pin_hit key x = at_key key (clear 2) (clear-same 2) x

  harm_puk_missed : (puk x : Rec) → Harmless x (puk_missed puk x)
  unfolding puk_missed
  harm_puk_missed puk x = only-is (Harmless x) (λ r. the_puk puk r and no (retry_limit r equals 0)) (add_one 3) x
      (λ i. same-turned (from 3 1) x (add_one 3 x) (add_same 3 x) refl refl (let k = i.0.0 in omega arith) (let k = i.0.0 in omega arith)) (λ n. same refl)

  harm_puk_hit : (puk x : Rec) → Harmless x (puk_hit puk x)
  unfolding puk_hit
  harm_puk_hit puk x = only-is (Harmless x) (the_puk puk) (clear 3) x
      (λ i. same-turned (from 3 1) x (clear 3 x) (clear-same 3 x) refl refl (let k = i.0 in omega arith) (let k = i.0 in omega arith)) (λ n. same refl)

  -- a new PIN, the count cleared, pendings marked
  Keyed : Rec → Rec → Type 0
  Keyed x y = (y ≡ x) ⊎ ((kind x ≡ KEY) × (kind y ≡ KEY) × (length y ≡ length x) × (session y ≡ session x))

  keyed_pin : (key pol : Rec) (v : List ℕ) (x : Rec) → Keyed x (only (given_pin key pol) (new_pin v) x)
  unfolding Keyed new_pin
  keyed_pin key pol v x = only-is (Keyed x) (given_pin key pol) (new_pin v) x (λ g. let k = is_key g in inr
      (k, byte-over_other 49 0 (padded_text longest_pin v) x (inr (lit< tt)) ∙ k, length_over 49 (padded_text longest_pin v) x, four-over_other 49 8 (padded_text longest_pin v) x (inr (lit≤ tt)))) (λ n. inl refl)
    where
      is_key : Fact (given_pin key pol x) → kind x ≡ KEY
      is_key (inl i) = i.0
      is_key (inr i) = i.1.1.0

  keyed_hit : (key x y : Rec) → Keyed x y → Keyed x (pin_hit key y)
  unfolding Keyed pin_hit
  keyed_hit key x y h = only-is (Keyed x) (the_key key) (clear 2) y (λ i. inr (go i.0 h)) (λ n. h)
    where
      s : Same (from 2 1) y (clear 2 y)
      s = clear-same 2 y

      kept : session (clear 2 y) ≡ session y
      kept = four_kept (from 2 1) y (clear 2 y) s 8 refl

      go : kind y ≡ KEY → Keyed x y → (kind x ≡ KEY) × (kind (clear 2 y) ≡ KEY) × (length (clear 2 y) ≡ length x) × (session (clear 2 y) ≡ session x)
      go k (inl e) = (sym (ap kind e) ∙ k, s.at 0 refl ∙ k, s.long ∙ ap length e, kept ∙ ap session e)
      go k (inr (p, q, l, r)) = (p, s.at 0 refl ∙ q, s.long ∙ l, kept ∙ r)

  harm_changed : (key pol : Rec) (v : List ℕ) (x : Rec) → Harmless x (changed key pol v rs x)
  unfolding changed Keyed
  harm_changed key pol v x = only-is (Harmless x) stalely stale y (λ p. marks keyed p.0) (λ n. stays keyed)
    where
      stalely : Rec → Form
      stalely q = kind q equals PENDING and some rs (λ z. given_pin key pol z and own z equals parent q)

      y : Rec
      y = pin_hit key (only (given_pin key pol) (new_pin v) x)

      keyed : Keyed x y
      keyed = keyed_hit key x (only (given_pin key pol) (new_pin v) x) (keyed_pin key pol v x)

      stays : Keyed x y → Harmless x y
      stays (inl e) = same e
      stays (inr (p, q, l, r)) = turned (omega arith) (omega arith) (q ∙ sym p) l r

      marks : Keyed x y → kind y ≡ PENDING → Harmless x (stale y)
      marks (inl e) k = rw e (staled (sym (ap kind e) ∙ k) refl)
      marks (inr (p, q, l, r)) k = absurd (omega arith)

  -- ---- every call

  pub turn_step : (c chip : List ℕ) → Facts rs → (Fact (is_session_call c) → Fact (is_open (subject c) rs)) → Turn a rs (step c chip rs).store
  turn_step c chip F o =
      by_step c chip rs (λ (o : Out). Turn a rs o.store)
      (record {
        session = λ i. turn-session c chip F (o i) i;
        create = turn_create c chip F;
        user = by_user c chip rs (λ (o : Out). Turn a rs o.store)
            (record {
              stays = λ n. turn_refl a rs w b;
              pin_wrong = λ i l. turn_edit (pin_missed x) (harm_pin_missed x);
              puk_wrong = λ l. turn_edit (puk_missed puk) (harm_puk_missed puk);
              removes = turn-effect (one (subject c)) no_keys rs (turn_refl a rs w b);
              removes_by_puk = turn-effect (one (subject c)) no_keys (map (puk_hit puk) rs) (turn_edit (puk_hit puk) (harm_puk_hit puk));
              unlocks = turn-effect no_keys (one (subject c)) rs (turn_refl a rs w b);
              changes = λ g. turn_edit (changed x (policy_of x rs) (typed_new c) rs) (harm_changed x (policy_of x rs) (typed_new c));
              uses = turn_edit (pin_hit x) (harm_pin_hit x);
            });
      })
    where
      x : Rec
      x = target (subject c) rs

      puk : Rec
      puk = puk_of (policy_of x rs) rs
