-- Methods 50 and 51 keep the store sound: a session asks for the removal or the unlocking of a key.
use mathlib.Core.Path.{◌≡◌, sym, ap, ◌∙◌}
use mathlib.Core.Bool.{true}
use mathlib.Core.List.{List, Memᴰ}
use mathlib.Core.Option.{some as just}
use Prim.Native.Nat.{ℕ, ◌+◌, ◌≤◌}
use Prim.Native.String.{String}
use native.Mathlib.Omega.{arith}
use Rattle.paper.specs.Limits.{most_objects}
use Rattle.paper.specs.Bytes.{all_within}
use Rattle.paper.specs.Form.{Rec, ◌equals◌, ◌=<◌, say, no, ◌and◌, some, Fact}
use Rattle.paper.specs.Records.{by_value, kind, SESSION, KEY, PENDING, own, session, parent, session_of, at, block, state, key_management, next_object, mac_counter, key_limit, is_stale}
use Rattle.paper.specs.Closing.{held}
use Rattle.paper.specs.Calls.{subject, post_in}
use Rattle.paper.specs.Act.{inside, perform, advance}
use Rattle.paper.specs.Posting.{target, home, is_target, Look, look, post_faults, pending_record}
use Rattle.paper.specs.Answer.{is_open}
use Rattle.paper.proofs.Forms.{both, Clear}
use Rattle.laws.proofs.Choice.{holds}
use Rattle.laws.proofs.Bytes.{four_most}
use Rattle.laws.proofs.Fields.{tabled_field}
use Rattle.laws.proofs.Lists.{at_found, at_byte, block_in}
use Rattle.laws.proofs.Facts.{Facts}
use Rattle.laws.proofs.Handles.{unique}
use Rattle.rule.proofs.RecordEdits.{within_of}
use Rattle.rule.proofs.UserCalls.{Stays}
use Rattle.rule.proofs.CallersSession.{made, ready, small}
use Rattle.rule.proofs.NewObject.{numbered}
use Rattle.rule.proofs.MadeRecords.{pending_head, pending_operation, pending_mark}
use Rattle.rule.proofs.NewObjectFits.{sprout_pending}

-- the look at the key, as facts
look_there : (k : ℕ) (rs : List Rec) → (look k rs).there ≡ true → Fact (is_target k rs)
unfolding look
look_there k rs e = (both (is_target k rs)).0 e

look_managed : (k : ℕ) (rs : List Rec) → (look k rs).managed ≡ true → key_management (home k rs) ≡ 1
unfolding look
look_managed k rs e = (both (key_management (home k rs) equals 1)).0 e

look_pinned : (k : ℕ) (rs : List Rec) → (look k rs).pinned ≡ true → parent (target k rs) ≡ 0 → ⊥
unfolding look
look_pinned k rs e = (both (no (parent (target k rs) equals 0))).0 e

module _ (c chip : List ℕ) (bytes : all_within 0 255 c ≡ true) (rs : List Rec) (F : Facts rs) (O : Fact (is_open (subject c) rs)) where
  abbrev s : ℕ
  s = subject c

  abbrev blk : List Rec
  blk = block s rs

  abbrev ses : Rec
  ses = at SESSION s s blk

  abbrev k : ℕ
  k = (post_in c chip).key

  abbrev l : Look
  l = look k rs

  module _ (T : Fact (is_target k rs)) where
    key_here : Memᴰ (target k rs) rs × ((kind (target k rs) ≡ KEY) × ((own (target k rs) ≡ k) × (session (target k rs) ≡ session_of k)))
    key_here = at_found KEY k (session_of k) rs (at_byte KEY k (session_of k) rs 0 (λ z. let e = T.0 in omega arith))

    home_here : Memᴰ (home k rs) rs × ((kind (home k rs) ≡ SESSION) × ((own (home k rs) ≡ session_of k) × (session (home k rs) ≡ session_of k)))
    home_here = at_found SESSION (session_of k) (session_of k) rs (at_byte SESSION (session_of k) (session_of k) rs 1 (λ z. let e = T.1 in omega arith))

    a_handle : k ≡ 0 → ⊥
    a_handle z =
        let w = key_here in
        let j = w.1.0 in
        let e = w.1.1.0 in
        let o = (F.alone (target k rs) w.0).object_carries (omega arith, omega arith) in
        omega arith

    is_key : (x : Rec) → Memᴰ x rs → kind x ≡ KEY → own x ≡ k → x ≡ target k rs
    is_key x i a e = let w = key_here in let b = w.1.0 in unique rs F x (target k rs) i w.0 (omega arith, omega arith) (omega arith, omega arith) (e ∙ sym w.1.1.0)

    is_home : (x : Rec) → Memᴰ x rs → kind x ≡ SESSION → own x ≡ session_of k → x ≡ home k rs
    is_home x i a e = let w = home_here in let b = w.1.0 in unique rs F x (home k rs) i w.0 (omega arith, omega arith) (omega arith, omega arith) (e ∙ sym w.1.1.0)

    -- a pending on the key that this session has is not stale
    not_stale : (x : Rec) → Memᴰ x rs → kind x ≡ PENDING → parent x ≡ k → is_stale x ≡ 0
    not_stale x i a e =
        let r = within_of 0 1 (is_stale x) (tabled_field 2 PENDING x a (F.alone x i).tabled) in
        let t = ((F.alone x i).target_unless_stale a).0 in
        holds (is_stale x equals 0) (λ n. a_handle (sym e ∙ t (omega arith)))

  pub post_kept : (op : ℕ) (name : String) → 50 ≤ op → op ≤ 51 → Clear (post_faults op name c chip (post_in c chip) (by_value ses) blk l) → (h : ℕ) (t : List ℕ)
      → Stays (perform s (inside h t (advance s 1 1) (just (pending_record op s k (by_value ses)))) rs)
  post_kept op name lo hi g h t =
      let T = look_there k rs (holds (say l.there) (search)) in
      let M = look_managed k rs (holds (say l.managed) (search)) in
      let once : Fact (some blk (held s k)) → ⊥ = search in
      let pin : Fact (op equals 51 and no (say l.pinned)) → ⊥ = search in
      let R = ready s rs F O 1 (holds (next_object ses =< most_objects) (search)) (holds (mac_counter ses + 1 =< key_limit ses) (search)) in
      let r = numbered s (next_object ses) 1 rs F R in
      let a = small s rs F O (next_object ses) r.1 in
      let b = four_most c bytes 5 in
      let n = pending_record op s k (by_value ses) in
      let x = key_here T in
      made s rs F O h t 1 n R
      (sprout_pending s (next_object ses) rs r.0 r.1 n k (pending_head op s k (by_value ses) a b lo hi) (a_handle T) (pending_mark op s k (by_value ses) a b lo hi)
      (target k rs, x.0, x.1)
      (λ x i j e f z.
      look_pinned k rs (holds (say l.pinned) (λ m. pin (sym (pending_operation op s k (by_value ses) a b lo hi) ∙ f, m)))
      (ap parent (sym (is_key T x i j e)) ∙ z))
      (λ x i j e. let h = is_home T x i j e in (ap state h ∙ T.1, ap key_management h ∙ M))
      (λ x i j e f. once (x, block_in s rs i e, (j, (e, (not_stale T x i j f, f))))))
