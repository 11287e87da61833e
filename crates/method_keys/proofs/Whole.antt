-- Where no policy lets a PIN of more than 16 bytes by, as in a sound store, a new key's record has 256 bytes and nothing is cut.
use mathlib.Core.Path.{◌≡◌, refl, sym, ◌∙◌}
use mathlib.Core.Bool.{Bool, true, false, ◌&&◌}
use mathlib.Core.List.{List, []}
use Prim.Native.Nat.{ℕ, zero, suc, ◌≤◌}
use native.Mathlib.Omega.{arith}
use borrow.Author.Tests.{eq-eqb, leb-true}
use lib.Dec.{leb}
use lib.ListN.{length, length-append, length-replicate}
use Rattle.paper.specs.Limits.{longest_id, longest_public_key}
use Rattle.paper.specs.Bytes.{byte, two, within}
use Rattle.paper.specs.Form.{Rec, ◌equals◌, test, Fact, some, Fault}
use Rattle.paper.specs.Records.{SessionValue, POLICY, is, at, block, max_length}
use Rattle.paper.specs.Table.{obeys_table}
use Rattle.paper.specs.Sound.{Sound}
use Rattle.paper.specs.Text.{pin_fits, format_fits, pattern_fits}
use Rattle.paper.specs.Calls.{subject, Key, key_in, key_form}
use Rattle.paper.specs.Act.{refuse}
use Rattle.paper.specs.Objects.{pin_of, breaks_rule, key_record, make_key_by}
use Rattle.paper.proofs.Forms.{both, cases, contrary}
use Rattle.laws.proofs.Bytes.{split}
use Rattle.laws.proofs.Fields.{tabled_field}
use Rattle.laws.proofs.Lists.{at_block, at_found, at_none}
use Rattle.store_draft.proofs.Laying.{laid_whole}
use Rattle.method_acts.specs.Rungs.{status}
use Rattle.method_acts.proofs.Climbs.{cleared, settle-done, settle_not}
use Rattle.laws.proofs.CallStrings.{string_short}
use Rattle.method_keys.specs.Keys.{cut}
use Rattle.method_keys.proofs.Makes.{its_policy, its_pin, key_ladder, key_not, key_done}

-- a PIN that meets its policy is no longer than the policy says
fits_long : (pol : Rec) (v : List ℕ) → pin_fits pol v ≡ true → length v ≤ max_length pol
unfolding pin_fits
fits_long pol v e =
    let a = split (within (byte 52 pol) (byte 53 pol) (length v)) (format_fits (byte 1 pol) v && pattern_fits (byte 51 pol) v) e in
    let b = split (leb (byte 52 pol) (length v)) (leb (length v) (byte 53 pol)) a.0 in
    leb-true (length v) (byte 53 pol) b.1

module _ (q : Key) (pol : Rec) (short : max_length pol ≤ 16) (ruled : Fact (breaks_rule q (pin_of q pol) pol) → ⊥) where
  pin_short : length (pin_of q pol) ≤ 16
  pin_short = cases (q.policy equals 0) (λ e. rw (eq-eqb q.policy 0 e) (omega arith)) (λ n. go n (pin_fits pol (pin_of q pol)) refl)
    where
      go : (q.policy ≡ 0 → ⊥) → (b : Bool) → pin_fits pol (pin_of q pol) ≡ b → length (pin_of q pol) ≤ 16
      go n true e = let l = fits_long pol (pin_of q pol) e in omega arith
      go n false e = absurd (ruled (n, λ t. contrary (sym t ∙ e)))

-- so its record is whole
key_whole : (c chip : List ℕ) (s : ℕ) (v : List ℕ) (x : SessionValue) → test (key_form c chip) ≡ true → length v ≤ 16
    → length (key_record s (key_in c chip) v x) ≡ 256
unfolding key_record
key_whole c chip s v x e h =
    let f = (both (key_form c chip)).0 e in
    let named : two 5 c ≤ longest_id = search in
    let keyed : two 0 chip ≤ longest_public_key = search in
    let l = string_short 5 c in
    let m = string_short 0 chip in
    simp (length-append, length-replicate) (omega arith)

pub uncut : (x : SessionValue) (c chip : List ℕ) (rs : List Rec) → max_length (its_policy c chip rs) ≤ 16
    → cut (make_key_by x c chip (block (subject c) rs)) ≡ make_key_by x c chip (block (subject c) rs)
unfolding make_key_by
uncut x c chip rs short = go (status fs) refl
  where
    fs : List Fault
    fs = key_ladder x c chip rs

    whole : status fs ≡ 0 → length (key_record (subject c) (key_in c chip) (its_pin c chip rs) x) ≡ 256
    whole z =
        let w = cleared fs refl z in
        key_whole c chip (subject c) (its_pin c chip rs) x
        (cases (key_form c chip) (λ p. (both (key_form c chip)).1 p) (λ n. absurd (w.0 n)))
        (pin_short (key_in c chip) (its_policy c chip rs) short (search))

    go : (n : ℕ) → status fs ≡ n → cut (make_key_by x c chip (block (subject c) rs)) ≡ make_key_by x c chip (block (subject c) rs)
    go zero z =
        key_done x c chip rs z
        ∙ rw (laid_whole (key_record (subject c) (key_in c chip) (its_pin c chip rs) x) (whole z))
        (sym (settle-done fs refuse _ refl z))
    go (suc n) z =
        let h : status fs ≡ 0 → ⊥ = λ y. (let w : suc n ≡ 0 = sym z ∙ y in omega arith) in
        key_not x c chip rs h ∙ sym (settle_not fs refuse _ refl h)

-- and a sound store has no other policies
tabled_longest : (r : Rec) → byte 0 r ≡ POLICY → obeys_table r ≡ true → max_length r ≤ 16
tabled_longest r k t = leb-true (byte 53 r) 16 (split (leb 1 (byte 53 r)) (leb (byte 53 r) 16) (tabled_field 12 POLICY r k t)).1

nothing_long : max_length [] ≤ 16
unfolding byte
nothing_long = omega arith

pub longest_short : (h t : ℕ) (rs : List Rec) → Fact (Sound rs) → max_length (at POLICY h t (block t rs)) ≤ 16
longest_short h t rs F = rw (at_block POLICY h t rs) (cases (some rs (is POLICY h t))
    (λ w. let f = at_found POLICY h t rs w in tabled_longest (at POLICY h t rs) f.1.0 (F.1.0 (at POLICY h t rs) f.0).0)
    (λ n. rw (at_none POLICY h t rs n) nothing_long))
