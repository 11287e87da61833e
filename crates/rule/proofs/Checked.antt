-- Status 0 means that no refusal of the method's list applied, the MAC's among them.
use mathlib.Core.Path.{◌≡◌, refl, sym, ap, ap₂, ◌∙◌}
use mathlib.Core.Bool.{true}
use mathlib.Core.List.{List}
use Prim.Native.Nat.{ℕ, ◌≤◌}
use Prim.Native.String.{String}
use native.Mathlib.Omega.{arith}
use Rattle.hmac.specs.Same.{same}
use Rattle.hmac.proofs.Sameness.{same_eq}
use Rattle.paper.specs.Form.{Rec, say, no, Fact, Fault, settle}
use Rattle.paper.specs.Records.{by_value, records, SESSION, PUK, POLICY, KEY, at, block}
use Rattle.paper.specs.Calls.{subject, is_session_call, close_in, puk_in, policy_in, key_in, path_in, post_in}
use Rattle.paper.specs.Mac.{mac, close_data, puk_data, policy_data, key_data, path_data, post_data}
use Rattle.paper.specs.Objects.{pin_of, puk_faults, policy_faults, key_faults, path_faults, make_policy_by, make_puk_by, make_key_by, set_path_by}
use Rattle.paper.specs.Posting.{Look, look, post_faults, post_by}
use Rattle.paper.specs.Sessions.{close_faults, close_by}
use Rattle.paper.specs.Act.{Out, Act, refuse, perform}
use Rattle.paper.specs.Answer.{answer, session_act, session_step}
use Rattle.paper.proofs.Forms.{Clear}
use Rattle.laws.proofs.Choice.{holds}
use Rattle.laws.proofs.Lists.{at_block}
use Rattle.laws.proofs.Methods.{is-session, numbered, settled_by_number, close_act, puk_act, policy_act, key_act, path_act, delete_act, unlock_act}
use Rattle.rule.specs.Refusals.{Taken}
use Rattle.rule.specs.Checked.{caller, object, Accepted, Checked}
use Rattle.rule.proofs.Refusals.{status-is, session-step}

pub refused : (t n : ℕ) (rs : List Rec) → 1 ≤ n → (perform t (refuse n) rs).status ≡ 0 → ⊥
unfolding perform
refused t n rs l e = omega arith

-- what is answered 0 was refused by no statement of its list
zero_clear : (t : ℕ) (rs : List Rec) (fs : List Fault) (b : Act) → numbered fs ≡ true
    → (perform t (settle fs refuse b) rs).status ≡ 0 → Clear fs
zero_clear t rs fs b e = settled_by_number (λ x. (perform t x rs).status ≡ 0 → Clear fs) fs refuse b e (λ n l z. absurd (refused t n rs l z)) (λ k z. k)

-- two lists of bytes that did not differ
agreed : (given made : List ℕ) → (Fact (no (say (same given made))) → ⊥) → given ≡ made
agreed given made n = same_eq given made (holds (say (same given made)) n)

-- the act that was performed
pub zero_act : (s c chip reply : List ℕ) → Taken s c reply → (answer s c chip reply).status ≡ 0 → Fact (is_session_call c) → (b : Act)
    → session_act c chip (block (subject c) (records s)) (look (post_in c chip).key (records s)) ≡ b → (perform (subject c) b (records s)).status ≡ 0
unfolding session_step
zero_act s c chip reply T z h b e =
    ap (λ (x : Act). (perform (subject c) x (records s)).status) (sym e)
    ∙ sym (ap (λ (o : Out). o.status) (session-step c chip (records s) h)) ∙ sym (status-is s c chip reply T) ∙ z

-- the MAC's refusal, taken from each list by its statement
module _ (s c chip reply : List ℕ) where
  abbrev blk : List Rec
  blk = block (subject c) (records s)

  abbrev ses : Rec
  ses = at SESSION (subject c) (subject c) blk

  same-session : ses ≡ caller s c
  same-session = at_block SESSION (subject c) (subject c) (records s)

  same_object : (k o : ℕ) → at k o (subject c) blk ≡ object s c k o
  same_object k o = at_block k o (subject c) (records s)

  abbrev seen : Look
  seen = look (post_in c chip).key (records s)

  -- no refusal of the method's list applied
  cleared : (m : ℕ) (fs : List Fault) (d : Act) → numbered fs ≡ true → Fact (is_session_call c) → Accepted m s c chip reply
      → session_act c chip blk seen ≡ settle fs refuse d → Clear fs
  cleared m fs d n h a e = zero_clear (subject c) (records s) fs d n (zero_act s c chip reply a.taken a.zero h (settle fs refuse d) e)

  closes : Accepted 3 s c chip reply → (close_in c).mac ≡ mac (by_value (caller s c)) "closeProvisioningSession" (close_data (by_value (caller s c)) (close_in c))
  unfolding close_by
  closes a =
      let k : Clear (close_faults c chip (close_in c) (by_value ses) blk) = cleared 3 (close_faults c chip (close_in c) (by_value ses) blk) _ refl (is-session c a.is refl) a (close_act c chip blk seen a.is) in
      agreed (close_in c).mac (mac (by_value ses) "closeProvisioningSession" (close_data (by_value ses) (close_in c))) (search)
      ∙ ap (λ (x : Rec). mac (by_value x) "closeProvisioningSession" (close_data (by_value x) (close_in c))) same-session

  puks : Accepted 8 s c chip reply → (puk_in c chip).mac ≡ mac (by_value (caller s c)) "createPUKPolicy" (puk_data (puk_in c chip))
  unfolding make_puk_by
  puks a =
      let k : Clear (puk_faults c chip (puk_in c chip) (puk_in c chip).value (by_value ses) blk) = cleared 8 (puk_faults c chip (puk_in c chip) (puk_in c chip).value (by_value ses) blk) _ refl (is-session c a.is refl) a (puk_act c chip blk seen a.is) in
      agreed (puk_in c chip).mac (mac (by_value ses) "createPUKPolicy" (puk_data (puk_in c chip))) (search)
      ∙ ap (λ (x : Rec). mac (by_value x) "createPUKPolicy" (puk_data (puk_in c chip))) same-session

  policies : Accepted 9 s c chip reply
      → (policy_in c).mac ≡ mac (by_value (caller s c)) "createPINPolicy" (policy_data (policy_in c) (object s c PUK (policy_in c).puk))
  unfolding make_policy_by
  policies a =
      let u : Rec = at PUK (policy_in c).puk (subject c) blk in
      let k : Clear (policy_faults c chip (policy_in c) u (by_value ses) blk) = cleared 9 (policy_faults c chip (policy_in c) u (by_value ses) blk) _ refl (is-session c a.is refl) a (policy_act c chip blk seen a.is) in
      agreed (policy_in c).mac (mac (by_value ses) "createPINPolicy" (policy_data (policy_in c) u)) (search)
      ∙ ap₂ (λ (x y : Rec). mac (by_value x) "createPINPolicy" (policy_data (policy_in c) y)) same-session (same_object PUK (policy_in c).puk)

  keys : Accepted 10 s c chip reply
      → (key_in c chip).mac ≡ mac (by_value (caller s c)) "createKeyEntry" (key_data (key_in c chip) (object s c POLICY (key_in c chip).policy))
  unfolding make_key_by
  keys a =
      let p : Rec = at POLICY (key_in c chip).policy (subject c) blk in
      let k : Clear (key_faults c chip (key_in c chip) (pin_of (key_in c chip) p) p (by_value ses) blk) =
      cleared 10 (key_faults c chip (key_in c chip) (pin_of (key_in c chip) p) p (by_value ses) blk) _ refl (is-session c a.is refl) a (key_act c chip blk seen a.is) in
      agreed (key_in c chip).mac (mac (by_value ses) "createKeyEntry" (key_data (key_in c chip) p)) (search)
      ∙ ap₂ (λ (x y : Rec). mac (by_value x) "createKeyEntry" (key_data (key_in c chip) y)) same-session (same_object POLICY (key_in c chip).policy)

  paths : Accepted 12 s c chip reply
      → (path_in c).mac ≡ mac (by_value (caller s c)) "setCertificatePath" (path_data (object s c KEY (path_in c).key) (path_in c))
  unfolding set_path_by
  paths a =
      let x : Rec = at KEY (path_in c).key (subject c) blk in
      let k : Clear (path_faults c chip (path_in c) x (by_value ses)) =
      cleared 12 (path_faults c chip (path_in c) x (by_value ses)) _ refl (is-session c a.is refl) a (path_act c chip blk seen a.is) in
      agreed (path_in c).mac (mac (by_value ses) "setCertificatePath" (path_data x (path_in c))) (search)
      ∙ ap₂ (λ (y z : Rec). mac (by_value y) "setCertificatePath" (path_data z (path_in c))) same-session (same_object KEY (path_in c).key)

  posts : (op : ℕ) (name : String) → Clear (post_faults op name c chip (post_in c chip) (by_value ses) blk seen)
      → (post_in c chip).mac ≡ mac (by_value (caller s c)) name (post_data (post_in c chip))
  posts op name k =
      agreed (post_in c chip).mac (mac (by_value ses) name (post_data (post_in c chip))) (search)
      ∙ ap (λ (x : Rec). mac (by_value x) name (post_data (post_in c chip))) same-session

  deletions : Accepted 50 s c chip reply → (post_in c chip).mac ≡ mac (by_value (caller s c)) "postDeleteKey" (post_data (post_in c chip))
  unfolding post_by
  deletions a =
      posts 50 "postDeleteKey"
      (cleared 50 (post_faults 50 "postDeleteKey" c chip (post_in c chip) (by_value ses) blk seen) _ refl (is-session c a.is refl) a (delete_act c chip blk seen a.is))

  unlockings : Accepted 51 s c chip reply → (post_in c chip).mac ≡ mac (by_value (caller s c)) "postUnlockKey" (post_data (post_in c chip))
  unfolding post_by
  unlockings a =
      posts 51 "postUnlockKey"
      (cleared 51 (post_faults 51 "postUnlockKey" c chip (post_in c chip) (by_value ses) blk seen) _ refl (is-session c a.is refl) a (unlock_act c chip blk seen a.is))

pub checked : Checked
checked = record { closes = closes; puks = puks; policies = policies; keys = keys; paths = paths; deletions = deletions; unlockings = unlockings }
