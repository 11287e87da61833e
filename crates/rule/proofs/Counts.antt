-- Error counts moved, and pendings marked stale: the store stays sound.
use mathlib.Core.Path.{◌≡◌, refl, sym, ap, ◌∙◌}
use mathlib.Core.List.{List, map, Memᴰ}
use Prim.Native.Nat.{ℕ, suc, ◌+◌, ◌%◌, ◌≤◌}
use native.Mathlib.Omega.{arith}
use lib.Dec.{lit≤}
use Rattle.paper.specs.Bytes.{byte}
use Rattle.paper.specs.Form.{Rec, Form, ◌equals◌, ◌=<◌, no, ◌and◌, Fact, only}
use Rattle.paper.specs.Records.{kind, PUK, POLICY, KEY, PENDING, session, parent, at, retry_limit, key_errors, puk_errors}
use Rattle.paper.specs.Sound.{governs}
use Rattle.paper.specs.Pin.{clear, add_one, the_key, the_puk, pin_missed, pin_hit, puk_missed, puk_hit}
use Rattle.paper.specs.Closing.{stale}
use Rattle.paper.specs.Users.{policy_of}
use Rattle.laws.proofs.Places.{Same, from, part_kept}
use Rattle.laws.proofs.Edits.{clear-same, clear_zero, add_same, add_is}
use Rattle.laws.proofs.Verdicts.{locked_at}
use Rattle.laws.proofs.Choice.{holds}
use Rattle.laws.proofs.Facts.{Facts}
use Rattle.laws.proofs.Handles.{at-is, at_only}
use Rattle.rule.proofs.RecordEdits.{long, policy_range, kin_count, alone-count, kin_puk_count, alone_puk_count, kin_stale, alone-stale}
use Rattle.rule.proofs.QuietEdits.{softly, keyed, pins_kept}

module _ (rs : List Rec) (F : Facts rs) where
  -- some pendings marked stale
  pub stale_kept : (φ : Rec → Form) → ((x : Rec) → Fact (φ x) → kind x ≡ PENDING) → Facts (map (only φ stale) rs)
  stale_kept φ h =
      softly φ stale rs F
      (record {
        no_key = λ x m p k. let j = h x p in omega arith;
        kin = λ x m p. kin_stale x (F.alone x m) (h x p);
        alone = λ x m p. alone-stale x (F.alone x m) (h x p);
        state= = λ x m p k. let j = h x p in absurd (omega arith);
      })

  -- a PUK's count within its limit
  puk_count : (φ : Rec → Form) (e : Rec → Rec) → ((x : Rec) → Fact (φ x) → kind x ≡ PUK) → ((x : Rec) → Same (from 3 1) x (e x))
      → ((x : Rec) → Memᴰ x rs → Fact (φ x) → puk_errors (e x) ≤ retry_limit x) → Facts (map (only φ e) rs)
  puk_count φ e h S l =
      softly φ e rs F
      (record {
        no_key = λ x m p k. let j = h x p in omega arith;
        kin = λ x m p. kin_puk_count x (F.alone x m) (e x) (S x) (h x p);
        alone = λ x m p. alone_puk_count x (F.alone x m) (e x) (S x) (h x p) (l x m p);
        state= = λ x m p k. let j = h x p in absurd (omega arith);
      })

  -- a key's count: none without policy, and within the policy's limit
  key_count : (φ : Rec → Form) (e : Rec → Rec) → ((x : Rec) → Fact (φ x) → kind x ≡ KEY) → ((x : Rec) → Same (from 2 1) x (e x))
      → ((x : Rec) → Memᴰ x rs → Fact (φ x) → parent x ≡ 0 → key_errors (e x) ≡ 0)
      → ((p x : Rec) → Memᴰ p rs → Memᴰ x rs → Fact (φ x) → Fact (governs p x) → key_errors (e x) ≤ retry_limit p) → Facts (map (only φ e) rs)
  key_count φ e h S z l =
      keyed φ e rs F
      (record {
        a_key = λ x m p. h x p;
        kin = λ x m p. kin_count x (F.alone x m) (e x) (S x) (h x p);
        alone = λ x m p. alone-count x (F.alone x m) (e x) (S x) (h x p) (z x m p);
        path = λ x m p q. (S x).at 1 refl ∙ q;
        counts = λ p x mp mx q g. l p x mp mx q g;
        pins = pins_kept φ e rs F (λ x m p. part_kept (from 2 1) x (e x) (S x) 49 17 refl);
      })

  cleared : (i : ℕ) (x : Rec) → suc i ≤ 256 → Memᴰ x rs → byte i (clear i x) ≡ 0
  cleared i x h m = clear_zero i x (rw (long x (F.alone x m)) h)

  -- ---- right values

  pub pin_hit_kept : (key : Rec) → Facts (map (pin_hit key) rs)
  unfolding pin_hit
  pin_hit_kept key =
      key_count (the_key key) (clear 2) (λ x p. p.0) (clear-same 2) (λ x m p z. cleared 2 x (lit≤ tt) m)
      (λ p x mp mx q g. rw (cleared 2 x (lit≤ tt) mx) (omega arith))

  pub puk_hit_kept : (puk : Rec) → Facts (map (puk_hit puk) rs)
  unfolding puk_hit
  puk_hit_kept puk = puk_count (the_puk puk) (clear 3) (λ x p. p.0) (clear-same 3) (λ x m p. rw (cleared 3 x (lit≤ tt) m) (omega arith))

  -- ---- wrong values, where the count is not at its limit

  below : (limit errors : ℕ) → errors ≤ limit → (Fact (locked_at limit errors) → ⊥) → (limit ≡ 0 → ⊥) → (errors + 1) % 256 ≤ limit
  below limit errors h n z =
      let l = holds (suc errors =< limit) (λ q. n (z, omega arith)) in
      omega arith

  module _ (k s : ℕ) where
    abbrev x : Rec
    x = at KEY k s rs

    abbrev pol : Rec
    pol = policy_of x rs

    pub pin_missed_kept : (parent x ≡ 0 → ⊥) → (Fact (locked_at (retry_limit pol) (key_errors x)) → ⊥) → Facts (map (pin_missed x) rs)
    unfolding pin_missed
    pin_missed_kept pinned free =
        key_count (the_key x) (add_one 2) (λ y p. p.0) (add_same 2) (λ y m p z. absurd (pinned (ap parent (sym (me y m p)) ∙ z)))
        (λ p y mp my q g. let e = me y my q in rw (added y my) (limited p y mp my e g))
      where
        me : (y : Rec) → Memᴰ y rs → Fact (the_key x y) → y ≡ x
        me y m p = at_only rs F KEY k s y (omega arith) (omega arith) m p

        added : (y : Rec) → Memᴰ y rs → key_errors (add_one 2 y) ≡ (key_errors y + 1) % 256
        added y m = add_is 2 y (rw (long y (F.alone y m)) (lit≤ tt))

        limited : (p y : Rec) → Memᴰ p rs → Memᴰ y rs → y ≡ x → Fact (governs p y) → (key_errors y + 1) % 256 ≤ retry_limit p
        limited p y mp my e g =
            let q = at-is rs F POLICY (parent x) (session x) p (omega arith) (omega arith) mp (g.0, (sym g.1.1.0 ∙ ap parent e, sym g.1.1.1 ∙ ap session e)) in
            let c = (F.related p mp y my).key_counts g in
            let a = ap key_errors e in
            let b = ap retry_limit q in
            below (retry_limit p) (key_errors y) c (λ l. free ((λ z. l.0 (sym b ∙ z)), sym a ∙ l.1 ∙ sym b)) (λ z. nonzero p mp g.0 z)
          where
            nonzero : (p : Rec) → Memᴰ p rs → kind p ≡ POLICY → retry_limit p ≡ 0 → ⊥
            nonzero p m j z = let r = policy_range p (F.alone p m) j in omega arith

  module _ (o s : ℕ) where
    abbrev puk : Rec
    puk = at PUK o s rs

    pub puk_missed_kept : (Fact (locked_at (retry_limit puk) (puk_errors puk)) → ⊥) → Facts (map (puk_missed puk) rs)
    unfolding puk_missed
    puk_missed_kept free =
        puk_count (λ r. the_puk puk r and no (retry_limit r equals 0)) (add_one 3) (λ y p. p.0.0) (add_same 3) (λ y m p.
        let e = at_only rs F PUK o s y (omega arith) (omega arith) m p.0 in
        let a = ap puk_errors e in
        let b = ap retry_limit e in
        rw (add_is 3 y (rw (long y (F.alone y m)) (lit≤ tt)))
        (below (retry_limit y) (puk_errors y) ((F.alone y m).puk_counts p.0.0) (λ l. free ((λ z. l.0 (b ∙ z)), sym a ∙ l.1 ∙ b)) p.1))
