-- Methods 80, 82, 83 and 100: the user deletes, unlocks, changes or uses a key of a closed session. A refusal changes at most one
-- error count.
use Rattle.std.specs.Prelude.{cond, List, [], ◌∷◌, map, ℕ, length, eqb}
use Rattle.paper.specs.Limits.{longest_pin}
use Rattle.paper.specs.Bytes.{padded_text, over}
use Rattle.paper.specs.Form.{Rec, Form, ◌equals◌, say, no, ◌and◌, ◌or◌, some, only, Fault, ◌gives◌, settle}
use Rattle.paper.specs.Records.{kind, PUK, POLICY, PENDING, at, own, session, parent, grouping, user_modifiable, delete_protection}
use Rattle.paper.specs.Sound.{governs}
use Rattle.paper.specs.Text.{pin_fits}
use Rattle.paper.specs.Calls.{subject, typed, typed_new, typed_form, change_form}
use Rattle.paper.specs.Pin.{Verdict, locked, wrong, right, pin_check, puk_check, the_key, pin_missed, pin_hit, puk_missed, puk_hit}
use Rattle.paper.specs.Closing.{one, no_keys, effect, stale}
use Rattle.paper.specs.Objects.{not_there}
use Rattle.paper.specs.Posting.{target, is_target}
use Rattle.paper.specs.Act.{Out, plain}

-- A key's policy, and a policy's PUK.
abbrev pub policy_of : Rec → List Rec → Rec
policy_of x rs = at POLICY (parent x) (session x) rs

abbrev pub puk_of : Rec → List Rec → Rec
puk_of pol rs = at PUK (parent pol) (session pol) rs

-- At the limit, status 1 and no change; wrong, status 1 and the count moved; right, 0.
abbrev pub tried : Verdict → List Rec → List Rec → List Rec → Out
tried locked rs missed done = plain 1 rs
tried wrong rs missed done = plain 1 missed
tried right rs missed done = plain 0 done

abbrev pub removed : ℕ → List Rec → List Rec
removed k rs = map (effect (one k) no_keys rs) rs

abbrev pub unlocked : ℕ → List Rec → List Rec
unlocked k rs = map (effect no_keys (one k) rs) rs

-- 80 delete. A value where DeleteProtection is 0 is status 1, nothing changed.
abbrev pub delete_faults : List ℕ → List ℕ → Rec → List Rec → List Fault
delete_faults c chip x rs =
    (no (typed_form c chip) gives 16)
    ∷ (no (is_target (subject c) rs) gives 7)
    ∷ (delete_protection x equals 3 gives 17)
    ∷ (delete_protection x equals 0 and no (length (typed c) equals 0) gives 1)
    ∷ []

-- It compares the PIN under DeleteProtection 1, the PUK under 2.
unfoldable pub delete_key : List ℕ → List ℕ → List Rec → Out
delete_key c chip rs =
    let k = subject c in
    let x = target k rs in
    let pol = policy_of x rs in
    let puk = puk_of pol rs in
    settle (delete_faults c chip x rs) (λ n. plain n rs)
    (cond (eqb (delete_protection x) 0) (plain 0 (removed k rs))
    (cond (eqb (delete_protection x) 1) (tried (pin_check pol x (typed c)) rs (map (pin_missed x) rs) (removed k rs))
    (tried (puk_check puk (typed c)) rs (map (puk_missed puk) rs) (removed k (map (puk_hit puk) rs)))))

-- 82 unlock: without PUK; a parent missing.
abbrev pub unlock_faults : List ℕ → List ℕ → Rec → Rec → Rec → List Rec → List Fault
unlock_faults c chip x pol puk rs =
    (no (typed_form c chip) gives 16)
    ∷ (no (is_target (subject c) rs) gives 7)
    ∷ (parent x equals 0 or (kind pol equals POLICY and parent pol equals 0) gives 17)
    ∷ (not_there POLICY pol (parent x) or not_there PUK puk (parent pol) gives 20)
    ∷ []

-- Right also clears the key's count.
unfoldable pub unlock_key : List ℕ → List ℕ → List Rec → Out
unlock_key c chip rs =
    let k = subject c in
    let x = target k rs in
    let pol = policy_of x rs in
    let puk = puk_of pol rs in
    settle (unlock_faults c chip x pol puk rs) (λ n. plain n rs)
    (tried (puk_check puk (typed c)) rs (map (puk_missed puk) rs) (unlocked k rs))

-- 83 change: without PIN, with UserModifiable 0, or with a new PIN that breaks the policy.
abbrev pub change_faults : List ℕ → List ℕ → Rec → Rec → List Rec → List Fault
change_faults c chip x pol rs =
    (no (change_form c chip) gives 16)
    ∷ (no (is_target (subject c) rs) gives 7)
    ∷ (parent x equals 0 gives 17)
    ∷ (user_modifiable pol equals 0 gives 17)
    ∷ (no (say (pin_fits pol (typed_new c))) gives 17)
    ∷ []

-- Under grouping 1 it sets the PIN of all the policy's keys; the count of the named key alone becomes 0.
abbrev pub given_pin : Rec → Rec → Rec → Form
given_pin x pol r = the_key x r or (grouping pol equals 1 and governs pol r)

unfoldable pub new_pin : List ℕ → Rec → Rec
new_pin v r = over 49 (padded_text longest_pin v) r

unfoldable pub changed : Rec → Rec → List ℕ → List Rec → Rec → Rec
changed x pol v rs r =
    only (λ q. kind q equals PENDING and some rs (λ y. given_pin x pol y and own y equals parent q)) stale
    (pin_hit x (only (given_pin x pol) (new_pin v) r))

unfoldable pub change_pin : List ℕ → List ℕ → List Rec → Out
change_pin c chip rs =
    let x = target (subject c) rs in
    let pol = policy_of x rs in
    settle (change_faults c chip x pol rs) (λ n. plain n rs)
    (tried (pin_check pol x (typed c)) rs (map (pin_missed x) rs) (map (changed x pol (typed_new c) rs) rs))

-- 100 use: a parent missing; a value for a key without PIN is status 1, nothing changed.
abbrev pub use_faults : List ℕ → List ℕ → Rec → Rec → List Rec → List Fault
use_faults c chip x pol rs =
    (no (typed_form c chip) gives 16)
    ∷ (no (is_target (subject c) rs) gives 7)
    ∷ (not_there POLICY pol (parent x) gives 20)
    ∷ (parent x equals 0 and no (length (typed c) equals 0) gives 1)
    ∷ []

unfoldable pub use_key : List ℕ → List ℕ → List Rec → Out
use_key c chip rs =
    let x = target (subject c) rs in
    let pol = policy_of x rs in
    settle (use_faults c chip x pol rs) (λ n. plain n rs)
    (cond (eqb (parent x) 0) (plain 0 rs)
    (tried (pin_check pol x (typed c)) rs (map (pin_missed x) rs) (map (pin_hit x) rs)))
