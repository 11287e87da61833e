-- Fakes that the paper shuts out, each as something said of a store's whole behaviour. The stories' steps show that `answer` is none of them.
use mathlib.Core.Path.{◌≡◌, ap, subst}
use mathlib.Core.List.{List}
use Prim.Native.Nat.{ℕ, ◌≤◌}
use native.Mathlib.Omega.{arith}
use lib.ListN.{get_or}
use Rattle.hmac.specs.Same.{same}
use Rattle.paper.specs.Bytes.{byte, two, four}
use Rattle.paper.specs.Records.{records, records_of, joined, at, SESSION, mac_counter, key_errors}
use Rattle.paper.specs.Calls.{subject}
use Rattle.paper.specs.Posting.{target}
use Rattle.paper.specs.Answer.{Answer, answer}
use Rattle.worked.specs.Hex.{hex}
use Rattle.worked.proofs.Life as life
use Rattle.worked.proofs.Conflict as conflict
use Rattle.worked.proofs.Locked as locked

-- From store, call, chip bytes and reply buffer to the answer.
abbrev Behaviour : Type 0
Behaviour = List ℕ → List ℕ → List ℕ → List ℕ → Answer

-- Refusing all calls.
abbrev RefusesAll : Behaviour → Type 0
RefusesAll f = (s c chip reply : List ℕ) → 1 ≤ (f s c chip reply).status

pub not_refusing : RefusesAll answer → ⊥
not_refusing f =
    let h : 1 ≤ 0 = subst (λ (a : Answer). 1 ≤ a.status) life.step_1 (f _ _ _ _) in
    omega arith

-- One fixed status.
abbrev Fixed : ℕ → Behaviour → Type 0
Fixed n f = (s c chip reply : List ℕ) → (f s c chip reply).status ≡ n

pub not_fixed : (n : ℕ) → Fixed n answer → ⊥
not_fixed n f =
    let zero : 0 ≡ n = subst (λ (a : Answer). a.status ≡ n) life.step_1 (f _ _ _ _) in
    let six : 6 ≡ n = subst (λ (a : Answer). a.status ≡ n) conflict.step_4 (f _ _ _ _) in
    omega arith

-- Answering 0 with the store untouched: but the counter, at byte 7, moved.
abbrev Untouching : Behaviour → Type 0
Untouching f = (s c chip reply : List ℕ) → (f s c chip reply).status ≡ 0 → (f s c chip reply).store ≡ s

pub not_untouching : Untouching answer → ⊥
unfolding joined
not_untouching f =
    let same : joined life.store_1 ≡ joined life.store_0 =
    subst (λ (a : Answer). a.store ≡ joined life.store_0) life.step_1 (f _ _ _ _ (ap (λ (a : Answer). a.status) life.step_1)) in
    let moved : ◌≡◌ {A = ℕ} 2 1 = ap (λ (l : List ℕ). get_or l 7 0) same in
    omega arith

-- Obeying only the first call of a session: one whose MAC counter has moved is refused.
abbrev macs_of : List ℕ → List ℕ → ℕ
macs_of c s = mac_counter (at SESSION (subject c) (subject c) (records s))

abbrev FirstOnly : Behaviour → Type 0
FirstOnly f = (s c chip reply : List ℕ) → 1 ≤ macs_of c s → 1 ≤ (f s c chip reply).status

pub not_first_only : FirstOnly answer → ⊥
unfolding byte two four records records_of joined at
not_first_only f =
    let h : 1 ≤ 0 = subst (λ (a : Answer). 1 ≤ a.status) life.step_3 (f _ _ _ _ (lib.Dec.lit≤ tt)) in
    omega arith

-- A MAC that wasn't counted.
abbrev MacUncounted : Behaviour → Type 0
MacUncounted f = (s c chip reply : List ℕ) → macs_of c (f s c chip reply).store ≡ macs_of c s

pub not_mac_uncounted : MacUncounted answer → ⊥
unfolding byte two four records records_of joined at
not_mac_uncounted f =
    let h : ◌≡◌ {A = ℕ} 1 0 = subst (λ (a : Answer). macs_of (hex life.call_2) a.store ≡ macs_of (hex life.call_2) (joined life.store_1)) life.step_2 (f _ _ _ _) in
    omega arith

-- An error count that wasn't counted.
abbrev errors_of : List ℕ → List ℕ → ℕ
errors_of c s = key_errors (target (subject c) (records s))

abbrev ErrorUncounted : Behaviour → Type 0
ErrorUncounted f = (s c chip reply : List ℕ) → errors_of c (f s c chip reply).store ≡ errors_of c s

pub not_error_uncounted : ErrorUncounted answer → ⊥
unfolding byte two four records records_of joined at
not_error_uncounted f =
    let h : ◌≡◌ {A = ℕ} 2 1 = subst (λ (a : Answer). errors_of (hex locked.call_1) a.store ≡ errors_of (hex locked.call_1) (joined locked.store_0)) locked.step_1 (f _ _ _ _) in
    omega arith
