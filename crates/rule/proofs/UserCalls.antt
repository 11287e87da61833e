-- Methods 80, 82, 83 and 100 keep the store sound, whatever they answer.
use mathlib.Core.Path.{◌≡◌}
use mathlib.Core.List.{List, map, Memᴰ}
use mathlib.Core.Logic.{◌⊎◌, inl, inr}
use Prim.Native.Nat.{ℕ}
use native.Mathlib.Omega.{arith}
use Rattle.paper.specs.Form.{Rec, say, Fact}
use Rattle.paper.specs.Records.{kind, KEY, own, session, parent, session_of, delete_protection}
use Rattle.paper.specs.Text.{pin_fits}
use Rattle.paper.specs.Calls.{subject, typed_new}
use Rattle.paper.specs.Pin.{puk_hit}
use Rattle.paper.specs.Closing.{one, no_keys}
use Rattle.paper.specs.Posting.{target, is_target}
use Rattle.paper.specs.Act.{Out}
use Rattle.paper.specs.Users.{policy_of, puk_of}
use Rattle.paper.specs.Answer.{user_step}
use Rattle.laws.proofs.Choice.{holds}
use Rattle.laws.proofs.Lists.{at_found, at_byte}
use Rattle.laws.proofs.Methods.{by_user}
use Rattle.laws.proofs.Facts.{Facts}
use Rattle.rule.proofs.Effect.{effect_kept}
use Rattle.rule.proofs.Counts.{pin_hit_kept, puk_hit_kept, pin_missed_kept, puk_missed_kept}
use Rattle.rule.proofs.ChangedPins.{pin_length, policy_found, changed_kept}

abbrev pub Stays : Out → Type 0
Stays o = Facts o.store

module _ (c chip : List ℕ) (rs : List Rec) (F : Facts rs) where
  abbrev k : ℕ
  k = subject c

  abbrev x : Rec
  x = target k rs

  abbrev pol : Rec
  pol = policy_of x rs

  abbrev puk : Rec
  puk = puk_of pol rs

  -- the key is there
  key_found : Fact (is_target k rs) → Memᴰ x rs × ((kind x ≡ KEY) × ((own x ≡ k) × (session x ≡ session_of k)))
  key_found t = at_found KEY k (session_of k) rs (at_byte KEY k (session_of k) rs 0 (λ z. let e = t.0 in omega arith))

  -- protection 1 and 2 need a policy
  protected : Fact (is_target k rs) → delete_protection x ≡ 1 → parent x ≡ 0 → ⊥
  protected t e z = let w = key_found t in ((F.alone x w.0).bare_key w.1.0 z).1.1.0 e

  -- a PIN is asked of a key with a policy
  pinned : (Fact (is_target k rs) × (delete_protection x ≡ 1)) ⊎ (parent x ≡ 0 → ⊥) → parent x ≡ 0 → ⊥
  pinned (inl a) = protected a.0 a.1
  pinned (inr n) = n

  pub user_kept : Stays (user_step c chip rs)
  user_kept =
      by_user c chip rs Stays
      (record {
        stays = λ n. F;
        pin_wrong = λ a l. pin_missed_kept rs F k (session_of k) (pinned a) l;
        puk_wrong = λ l. puk_missed_kept rs F (parent pol) (session pol) l;
        removes = effect_kept (one k) no_keys rs F;
        removes_by_puk = effect_kept (one k) no_keys (map (puk_hit puk) rs) (puk_hit_kept rs F puk);
        unlocks = effect_kept no_keys (one k) rs F;
        changes = λ g.
            let w = key_found (holds (is_target k rs) (search)) in
            let n : parent x ≡ 0 → ⊥ = search in
            let q = policy_found rs F k (session_of k) w.0 w.1.0 n in
            let v = pin_length pol (F.alone pol q.0) q.1.0 (typed_new c) (holds (say (pin_fits pol (typed_new c))) (search)) in
            changed_kept rs F k (session_of k) w.0 w.1.0 n (typed_new c) v.0 v.1;
        uses = pin_hit_kept rs F x;
      })
