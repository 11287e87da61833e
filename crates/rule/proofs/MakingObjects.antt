-- Methods 8, 9 and 10 keep the store sound: a session makes a PUK, a PIN policy or a key.
use mathlib.Core.Path.{◌≡◌, refl, sym, ap, ◌∙◌}
use mathlib.Core.Bool.{true}
use mathlib.Core.List.{List, [], Memᴰ}
use mathlib.Core.Logic.{inl, inr}
use mathlib.Core.Option.{some as just}
use Prim.Native.Nat.{ℕ, ◌+◌, ◌≤◌}
use native.Mathlib.Omega.{arith}
use lib.ListN.{length}
use lib.Dec.{lit≤, lit<}
use borrow.Author.Tests.{eq-eqb}
use Rattle.hmac.specs.Same.{same}
use Rattle.hmac.proofs.Sameness.{same_eq}
use Rattle.paper.specs.Limits.{longest_pin, last_format, last_grouping, last_patterns, last_protection, most_objects, pin_width}
use Rattle.paper.specs.Bytes.{byte, four, part, padded_text, zeros_of, all_within}
use Rattle.paper.specs.Table.{is_blank}
use Rattle.paper.specs.Form.{Rec, ◌equals◌, ◌=<◌, say, ◌and◌, some, Fact}
use Rattle.paper.specs.Records.{by_value, kind, SESSION, PUK, POLICY, KEY, own, session, parent, at, block, is, next_object, mac_counter, key_limit, grouping, value}
use Rattle.paper.specs.Sound.{governs, is_in}
use Rattle.paper.specs.Text.{pin_fits}
use Rattle.paper.specs.Calls.{subject, behind_id, puk_in, puk_form, policy_in, policy_form, Key, key_in, key_form, policy_at}
use Rattle.paper.specs.Act.{inside, perform, advance}
use Rattle.paper.specs.Objects.{not_there, puk_faults, puk_record, policy_faults, policy_record, pin_of, unlike, unprotected, breaks_rule, key_faults, key_record}
use Rattle.paper.specs.Answer.{is_open}
use Rattle.paper.proofs.Forms.{cases, Clear}
use Rattle.laws.proofs.Choice.{holds}
use Rattle.laws.proofs.Bytes.{most, four_most}
use Rattle.laws.proofs.Strings.{padded_of}
use Rattle.laws.proofs.Fields.{tabled_field}
use Rattle.laws.proofs.CallStrings.{length-string}
use Rattle.laws.proofs.CallForms.{puk_clauses, policy_clauses, key_clauses}
use Rattle.laws.proofs.Lists.{at_block, at_found, at_none, at_byte, block_in, block_out}
use Rattle.laws.proofs.Facts.{Facts}
use Rattle.laws.proofs.Handles.{at-is}
use Rattle.rule.proofs.RecordEdits.{long}
use Rattle.rule.proofs.ChangedPins.{pin_length}
use Rattle.rule.proofs.UserCalls.{Stays}
use Rattle.rule.proofs.CallersSession.{made, ready, small, unnamed}
use Rattle.rule.proofs.NewObject.{numbered}
use Rattle.rule.proofs.MadeRecords.{named_of, PolicyRanges, KeyRanges, puk_head, puk_named, puk_errors_lem, policy_head, policy_named, policy_lengths, key_head, key_named, key_pin, key_pin_length, key_errors_lem, key_protection, key_digest}
use Rattle.rule.proofs.NewObjectFits.{sprout_puk, sprout_policy, sprout_key}

-- who is named is found among the session's records
module _ (s : ℕ) (rs : List Rec) where
  pub found : (k h : ℕ) → 1 ≤ k → (Fact (not_there k (at k h s (block s rs)) h) → ⊥) → (h ≡ 0 → ⊥)
      → Memᴰ (at k h s (block s rs)) rs × Fact (is k h s (at k h s (block s rs)))
  found k h l n z =
      let w = at_found k h s (block s rs) (at_byte k h s (block s rs) 0 (λ q. n (z, λ e. omega arith))) in
      ((block_out s rs w.0).0, w.1)

  found_in : (k h : ℕ) → 1 ≤ k → (Fact (not_there k (at k h s (block s rs)) h) → ⊥) → (h ≡ 0 → ⊥) → Fact (is_in rs k h s)
  found_in k h l n z = let w = found k h l n z in (at k h s (block s rs), w.0, w.1)

module _ (c chip : List ℕ) (rs : List Rec) (F : Facts rs) where
  abbrev s : ℕ
  s = subject c

  abbrev blk : List Rec
  blk = block s rs

  abbrev ses : Rec
  ses = at SESSION s s blk

  -- ---- the PIN of 10, and its policy

  abbrev q : Key
  q = key_in c chip

  abbrev pol : Rec
  pol = at POLICY q.policy s blk

  is_policy : (x : Rec) → Memᴰ x rs → kind x ≡ POLICY → own x ≡ q.policy → session x ≡ s → x ≡ pol
  is_policy x i k e t = sym (at_block POLICY q.policy s rs ∙ at-is rs F POLICY q.policy s x (lit≤ tt) (lit≤ tt) i (k, (e, t)))

  -- handle 0 names none
  no_policy : q.policy ≡ 0 → parent pol ≡ 0
  no_policy z = ap parent (at_none POLICY q.policy s blk nobody) ∙ (unfold four byte in refl)
    where
      nobody : Fact (some blk (is POLICY q.policy s)) → ⊥
      nobody w =
          let k = w.2.0 in
          let e = w.2.1.0 in
          let o = (F.alone w.0 (block_out s rs w.1).0).object_carries (omega arith, omega arith) in
          omega arith

  bare_pin : q.policy ≡ 0 → pin_of q pol ≡ []
  bare_pin z = rw (eq-eqb q.policy 0 z)

  pin_range : (Fact (not_there POLICY pol q.policy) → ⊥) → (Fact (breaks_rule q (pin_of q pol) pol) → ⊥) → (q.policy ≡ 0 → ⊥)
      → (1 ≤ length (pin_of q pol)) × (length (pin_of q pol) ≤ longest_pin)
  pin_range n b z =
      let w = found s rs POLICY q.policy (lit≤ tt) n z in
      pin_length pol (F.alone pol w.0) w.1.0 (pin_of q pol) (holds (say (pin_fits pol (pin_of q pol))) (λ m. b (z, m)))

  pub short : (Fact (not_there POLICY pol q.policy) → ⊥) → (Fact (breaks_rule q (pin_of q pol) pol) → ⊥) → length (pin_of q pol) ≤ longest_pin
  short n b = cases (q.policy equals 0) (λ z. rw (bare_pin z) (lit≤ tt)) (λ z. (pin_range n b z).1)

  same_pin : (Fact (unlike (pin_of q pol) pol blk) → ⊥) → (y : Rec) → Memᴰ y rs → session y ≡ s → grouping pol ≡ 1 → Fact (governs pol y)
      → part 49 pin_width y ≡ padded_text longest_pin (pin_of q pol)
  same_pin u y i t g gy =
      padded_of longest_pin 0 49 y (tabled_field 8 KEY y gy.1.0 (F.alone y i).tabled) (rw (long y (F.alone y i)) (lit≤ tt)) (lit< tt)
      ∙ ap (padded_text longest_pin)
      (same_eq (value y) (pin_of q pol) (holds (say (same (value y) (pin_of q pol))) (λ m. u (g, (y, block_in s rs i t, (gy, m))))))

  -- ---- where no refusal applies, the store stays sound

  module _ (bytes : all_within 0 255 c ≡ true) (O : Fact (is_open s rs)) where
    abbrev Made : ℕ → Rec → Type 0
    Made used n = (h : ℕ) (t : List ℕ) → Stays (perform s (inside h t (advance s 1 used) (just n)) rs)

    pub puk_kept : Clear (puk_faults c chip (puk_in c chip) (puk_in c chip).value (by_value ses) blk) → Made 1 (puk_record s (puk_in c chip) (puk_in c chip).value (by_value ses))
    puk_kept g h t =
        let W = puk_clauses c chip (holds (puk_form c chip) (search)) in
        let p = puk_in c chip in
        let I = named_of 5 c W.id in
        let f = holds (p.format =< last_format) (search) in
        let R = ready s rs F O 1 (holds (next_object ses =< most_objects) (search)) (holds (mac_counter ses + 1 =< key_limit ses) (search)) in
        let r = numbered s (next_object ses) 1 rs F R in
        let l = small s rs F O (next_object ses) r.1 in
        let n = puk_record s p p.value (by_value ses) in
        made s rs F O h t 1 n R
        (sprout_puk s (next_object ses) rs r.0 r.1 n (puk_head s p p.value (by_value ses) l I W.least W.most f) (puk_errors_lem s p p.value (by_value ses) l I W.least W.most f)
        (unnamed s rs F O p.id I.1 (search) n (puk_named s p p.value (by_value ses) l I W.least W.most f)))

    pub policy_kept : Clear (policy_faults c chip (policy_in c) (at PUK (policy_in c).puk s blk) (by_value ses) blk) → Made 1 (policy_record s (policy_in c) (by_value ses))
    policy_kept g h t =
        let W = policy_clauses c chip (holds (policy_form c chip) (search)) in
        let p = policy_in c in
        let I = named_of 5 c W.id in
        let up : Fact (not_there PUK (at PUK p.puk s blk) p.puk) → ⊥ = search in
        let nonzero : p.retry ≡ 0 → ⊥ = search in
        let lengths = holds (1 =< p.min_length and p.min_length =< p.max_length and p.max_length =< longest_pin) (search) in
        let Q : PolicyRanges p =
        record {
          format = holds (p.format =< last_format) (search);
          retry = (holds (1 =< p.retry) (λ n. nonzero (omega arith)), most 255 c bytes (behind_id c + 7));
          grouping = holds (p.grouping =< last_grouping) (search);
          flags = (W.defined, W.modifiable);
          patterns = holds (p.patterns =< last_patterns) (search);
          lengths = (omega arith, omega arith, omega arith);
        } in
        let R = ready s rs F O 1 (holds (next_object ses =< most_objects) (search)) (holds (mac_counter ses + 1 =< key_limit ses) (search)) in
        let r = numbered s (next_object ses) 1 rs F R in
        let l = small s rs F O (next_object ses) r.1 in
        let a = four_most c bytes (behind_id c) in
        let n = policy_record s p (by_value ses) in
        made s rs F O h t 1 n R
        (sprout_policy s (next_object ses) rs r.0 r.1 n p.puk (policy_head s p (by_value ses) l a I Q) (policy_lengths s p (by_value ses) l a I Q)
        (found_in s rs PUK p.puk (lit≤ tt) up)
        (unnamed s rs F O p.id I.1 (search) n (policy_named s p (by_value ses) l a I Q)))

    pub key_kept : Clear (key_faults c chip q (pin_of q pol) pol (by_value ses) blk) → Made 2 (key_record s q (pin_of q pol) (by_value ses))
    key_kept g h t =
        let W = key_clauses c chip (holds (key_form c chip) (search)) in
        let I = named_of 5 c W.id in
        let b = length-string 0 chip W.public in
        let up : Fact (not_there POLICY pol q.policy) → ⊥ = search in
        let rule : Fact (breaks_rule q (pin_of q pol) pol) → ⊥ = search in
        let like : Fact (unlike (pin_of q pol) pol blk) → ⊥ = search in
        let guard : Fact (unprotected q pol) → ⊥ = search in
        let Q : KeyRanges q =
        record {
          deletion = holds (q.deletion =< last_protection) (search);
          caching = W.caching;
          export = holds (q.export =< last_protection) (search);
          public = (omega arith, omega arith);
        } in
        let R = ready s rs F O 2 (holds (next_object ses =< most_objects) (search)) (holds (mac_counter ses + 2 =< key_limit ses) (search)) in
        let r = numbered s (next_object ses) 2 rs F R in
        let l = small s rs F O (next_object ses) r.1 in
        let a = four_most c bytes (policy_at c) in
        let n = key_record s q (pin_of q pol) (by_value ses) in
        let len = key_pin_length s q (pin_of q pol) (by_value ses) l a I Q (short up rule) in
        let del = key_protection s q (pin_of q pol) (by_value ses) l a I Q (short up rule) in
        made s rs F O h t 2 n R
        (sprout_key s (next_object ses) rs r.0 r.1 n q.policy (key_head s q (pin_of q pol) (by_value ses) l a I Q (short up rule)) (key_errors_lem s q (pin_of q pol) (by_value ses) l a I Q (short up rule))
        (ap is_blank (key_digest s q (pin_of q pol) (by_value ses) l a I Q (short up rule)) ∙ blank32)
        (λ z. (len ∙ ap length (bare_pin z), (λ d. guard (inl (sym del ∙ d, z))), λ d. guard (inr (sym del ∙ d, no_policy z))))
        (λ z d. let p = pin_range up rule z in omega arith)
        (found_in s rs POLICY q.policy (lit≤ tt) up)
        (λ x i k e t d z. guard (inr (sym del ∙ d, sym (ap parent (is_policy x i k e t)) ∙ z)))
        (λ x y ix iy k e t g gy.
        let p = is_policy x ix k e t in
        key_pin s q (pin_of q pol) (by_value ses) l a I Q (short up rule) ∙ sym (same_pin like y iy (gy.1.1.1 ∙ t) (sym (ap grouping p) ∙ g) (rw p at gy)))
        (unnamed s rs F O q.id I.1 (search) n (key_named s q (pin_of q pol) (by_value ses) l a I Q (short up rule))))
      where
        blank32 : is_blank (zeros_of 32) ≡ true
        blank32 = unfold all_within in refl
