-- Method 83 done: a key gets a new PIN, under a shared policy with all its keys. The store stays sound.
use mathlib.Core.Path.{◌≡◌, refl, sym, ap, ◌∙◌, subst}
use mathlib.Core.Bool.{true, ◌&&◌}
use mathlib.Core.List.{List, map, Memᴰ}
use mathlib.Core.Logic.{inl, inr}
use Prim.Native.Nat.{ℕ, ◌≤◌}
use native.Mathlib.Omega.{arith}
use lib.ListN.{length}
use Rattle.hmac.specs.Same.{same}
use Rattle.hmac.proofs.Sameness.{eq_same}
use Rattle.paper.specs.Limits.{longest_pin, pin_width}
use Rattle.paper.specs.Bytes.{part, padded_text, within}
use Rattle.paper.specs.Form.{Rec, Form, ◌equals◌, ◌and◌, some, Fact, only}
use Rattle.paper.specs.Records.{kind, POLICY, KEY, PENDING, own, session, parent, at, grouping, format, patterns, min_length, max_length}
use Rattle.paper.specs.Sound.{governs}
use Rattle.paper.specs.Text.{pin_fits, format_fits, pattern_fits}
use Rattle.paper.specs.Pin.{pin_hit}
use Rattle.paper.specs.Closing.{stale}
use Rattle.paper.specs.Users.{policy_of, given_pin, new_pin, changed}
use Rattle.paper.proofs.Forms.{cases}
use Rattle.laws.proofs.Bytes.{split}
use Rattle.laws.proofs.Choice.{only_in, only_out}
use Rattle.laws.proofs.Fields.{tabled_field}
use Rattle.laws.proofs.Lists.{map-map, at_found}
use Rattle.laws.proofs.Edits.{pin_same}
use Rattle.laws.proofs.Facts.{Alone, Facts}
use Rattle.laws.proofs.Handles.{unique, at_only}
use Rattle.rule.proofs.RecordEdits.{within_of, kin_new_pin, alone_new_pin, now_pin}
use Rattle.rule.proofs.QuietEdits.{keyed}
use Rattle.rule.proofs.Counts.{stale_kept, pin_hit_kept}

-- a PIN that meets its policy has 1 to 16 bytes
pub pin_length : (p : Rec) → Alone p → kind p ≡ POLICY → (v : List ℕ) → pin_fits p v ≡ true → (1 ≤ length v) × (length v ≤ longest_pin)
unfolding pin_fits
pin_length p A k v e =
    let w = within_of (min_length p) (max_length p) (length v) (split (within (min_length p) (max_length p) (length v)) (format_fits (format p) v && pattern_fits (patterns p) v) e).0 in
    let a = within_of 1 longest_pin (min_length p) (tabled_field 11 POLICY p k A.tabled) in
    let b = within_of 1 longest_pin (max_length p) (tabled_field 12 POLICY p k A.tabled) in
    (omega arith, omega arith)

module _ (rs : List Rec) (F : Facts rs) (k s : ℕ) where
  abbrev x : Rec
  x = at KEY k s rs

  abbrev pol : Rec
  pol = policy_of x rs

  module _ (mx : Memᴰ x rs) (kx : kind x ≡ KEY) (pinned : parent x ≡ 0 → ⊥) where
    -- its policy is there
    pub policy_found : Memᴰ pol rs × ((kind pol ≡ POLICY) × ((own pol ≡ parent x) × (session pol ≡ session x)))
    policy_found = at_found POLICY (parent x) (session x) rs ((F.housed x mx).policy_there kx pinned)

    module _ (v : List ℕ) (least : 1 ≤ length v) (most : length v ≤ longest_pin) where
      abbrev group : Rec → Form
      group = given_pin x pol

      group_key : (r : Rec) → Fact (group r) → kind r ≡ KEY
      group_key r (inl p) = p.0
      group_key r (inr p) = p.1.1.0

      group_policy : (r : Rec) → Memᴰ r rs → Fact (group r) → (parent r ≡ parent x) × (session r ≡ session x)
      group_policy r m (inl p) = let e = at_only rs F KEY k s r (omega arith) (omega arith) m p in (ap parent e, ap session e)
      group_policy r m (inr p) = let w = policy_found.1.1 in (p.1.1.1.0 ∙ w.0, p.1.1.1.1 ∙ w.1)

      has_policy : (r : Rec) → Memᴰ r rs → Fact (group r) → parent r ≡ 0 → ⊥
      has_policy r m p z = pinned (sym (group_policy r m p).0 ∙ z)

      in_group : (r : Rec) → Memᴰ r rs → Fact (group r) → part 49 pin_width (only group (new_pin v) r) ≡ padded_text longest_pin v
      in_group r m p = ap (part 49 pin_width) (only_in group (new_pin v) r p) ∙ now_pin r (F.alone r m) v least most (group_key r p) (has_policy r m p)

      alike : (p y z : Rec) → Memᴰ p rs → Memᴰ y rs → Memᴰ z rs → grouping p ≡ 1 → Fact (governs p y) → Fact (governs p z)
          → same (part 49 pin_width (only group (new_pin v) y)) (part 49 pin_width (only group (new_pin v) z)) ≡ true
      alike p y z mp my mz g gy gz = cases (own p equals parent x and session p equals session x)
          (λ w.
          let f = policy_found in
          let kp = f.1.0 in
          let kq = gy.0 in
          let i = unique rs F p pol mp f.0 (omega arith, omega arith) (omega arith, omega arith) (w.0 ∙ sym f.1.1.0) in
          eq_same (part 49 pin_width (only group (new_pin v) y)) (part 49 pin_width (only group (new_pin v) z))
          (in_group y my (inr (rw i at g, rw i at gy)) ∙ sym (in_group z mz (inr (rw i at g, rw i at gz)))))
          (λ n. rw (out y my gy n, out z mz gz n) (F.shares p mp y my z mz gy.0 g gy gz))
        where
          out : (r : Rec) → Memᴰ r rs → Fact (governs p r) → ((own p ≡ parent x) × (session p ≡ session x) → ⊥) → only group (new_pin v) r ≡ r
          out r m gr n = only_out group (new_pin v) r (λ q. let w = group_policy r m q in n (sym gr.1.1.0 ∙ w.0, sym gr.1.1.1 ∙ w.1))

      pins_set : Facts (map (only group (new_pin v)) rs)
      pins_set =
          keyed group (new_pin v) rs F
          (record {
            a_key = λ r m p. group_key r p;
            kin = λ r m p. kin_new_pin r (F.alone r m) v least most (group_key r p) (has_policy r m p);
            alone = λ r m p. alone_new_pin r (F.alone r m) v least most (group_key r p) (has_policy r m p);
            path = λ r m p q. (pin_same v most r).at 1 refl ∙ q;
            counts = λ p r mp m q g. rw ((pin_same v most r).at 2 refl) ((F.related p mp r m).key_counts g);
            pins = alike;
          })

      abbrev pub stale_pin : Rec → Form
      stale_pin q = kind q equals PENDING and some rs (λ y. given_pin x pol y and own y equals parent q)

      pub changed_kept : Facts (map (changed x pol v rs) rs)
      unfolding changed
      changed_kept =
          subst Facts
          (map-map (only stale_pin stale) (pin_hit x) (map (only group (new_pin v)) rs)
          ∙ map-map (λ r. only stale_pin stale (pin_hit x r)) (only group (new_pin v)) rs)
          (stale_kept (map (pin_hit x) (map (only group (new_pin v)) rs)) (pin_hit_kept (map (only group (new_pin v)) rs) pins_set x) stale_pin (λ r p. p.0))
