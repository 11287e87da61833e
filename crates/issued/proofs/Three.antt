-- Which calls are answered 3. An answer has a number only where a refusal of that number applied: 3 stands in no list but the methods', so
-- where the MAC's refusal is refuted, the answer is not 3.
use mathlib.Core.Path.{◌≡◌, sym, ap, ◌∙◌}
use mathlib.Core.Bool.{false, cond}
use mathlib.Core.List.{List, [], ◌∷◌}
use mathlib.Core.Logic.{inl, inr}
use mathlib.Core.Option.{Option}
use Prim.Native.Nat.{ℕ}
use native.Mathlib.Omega.{arith}
use lib.Dec.{eqb, ltb}
use lib.ListN.{length}
use borrow.Author.Tests.{eq-eqb}
use Rattle.paper.specs.Limits.{reply_bytes}
use Rattle.paper.specs.Form.{Rec, Form, say, ◌or◌, Fact, Fault, ◌gives◌, settle}
use Rattle.paper.specs.Records.{records, block}
use Rattle.paper.specs.Calls.{subject, is_session_call, post_in}
use Rattle.paper.specs.Posting.{Look, look}
use Rattle.paper.specs.Act.{Out, Act, refuse, inside, close, fits_in, wiped, perform}
use Rattle.paper.specs.Answer.{Answer, answer, Judged, judged, told, step, session_step, session_act, early_faults}
use Rattle.paper.proofs.Forms.{contrary}
use Rattle.laws.proofs.Choice.{choose, chosen}
use Rattle.rule.proofs.Refusals.{same, session-step}

-- ---- the refusals of one number

-- a refusal of number n applies
abbrev pub applies : ℕ → List Fault → Form
applies n [] = say false
applies n ((φ gives m) ∷ fs) = cond (eqb m n) (φ or applies n fs) (applies n fs)

first_applies : (n m : ℕ) (φ : Form) (fs : List Fault) → m ≡ n → Fact φ → Fact (applies n ((φ gives m) ∷ fs))
first_applies n m φ fs e p = rw (eq-eqb m n e) (inl p)

later_applies : (n m : ℕ) (φ : Form) (fs : List Fault) → Fact (applies n fs) → Fact (applies n ((φ gives m) ∷ fs))
later_applies n m φ fs p = chosen Fact (eqb m n) (φ or applies n fs) (applies n fs) (λ e. inr p) (λ e. p)

-- where none of number n applies, what holds of every other number, and of what is done, holds of the outcome
pub settled_but : {A : Type 0} (P : A → Type 0) (n : ℕ) (fs : List Fault) (a : ℕ → A) (b : A) → (Fact (applies n fs) → ⊥)
    → ((m : ℕ) → (m ≡ n → ⊥) → P (a m)) → P b → P (settle fs a b)
settled_but P n [] a b no-n refused done = done
settled_but P n ((φ gives m) ∷ fs) a b no-n refused done =
    choose P φ (a m) (settle fs a b) (λ p. refused m (λ e. no-n (first_applies n m φ fs e p)))
    (λ q. settled_but P n fs a b (λ p. no-n (later_applies n m φ fs p)) refused done)

-- ---- the answer 3

-- the early refusals are 21, 19, 16 and 5
late : (s c chip reply : List ℕ) → (answer s c chip reply).status ≡ 3 → (step c chip (records s)).status ≡ 3
unfolding answer judged
late s c chip reply =
    chosen (λ (a : Answer). a.status ≡ 3 → Late) (ltb (length reply) reply_bytes) _ _ (λ e z. absurd (omega arith)) (λ e.
    settled_but (λ (j : Judged). j.status ≡ 3 → Late) 3 (early_faults s c) (same s) (told (step c chip (records s))) (λ p. contrary (sym p))
    (λ m n z. absurd (n z)) (λ z. z))
  where
    Late : Type 0
    Late = (step c chip (records s)).status ≡ 3

-- an act that is not answered 3: what is done where no refusal applies is answered 0, or 2 where there is no room; a refusal by its number
abbrev pub Not3 : ℕ → List Rec → Act → Type 0
Not3 t rs b = (perform t b rs).status ≡ 3 → ⊥

pub close_3 : (t : ℕ) (rs : List Rec) (w : List ℕ) → Not3 t rs (close w)
unfolding perform
close_3 t rs w z = omega arith

pub inside_3 : (t : ℕ) (rs : List Rec) (h : ℕ) (w : List ℕ) (g : Rec → Rec) (new : Option Rec) → Not3 t rs (inside h w g new)
unfolding perform
inside_3 t rs h w g new = chosen (λ (o : Out). o.status ≡ 3 → ⊥) (fits_in new rs) _ (wiped t 2 rs) (λ e z. omega arith) (λ e z. omega arith)

refuse_3 : (t : ℕ) (rs : List Rec) (m : ℕ) → (m ≡ 3 → ⊥) → Not3 t rs (refuse m)
unfolding perform
refuse_3 t rs m n = n

-- what a session call sees: its session's own records, and the key that 50 and 51 name
abbrev pub blk : List ℕ → List ℕ → List Rec
blk s c = block (subject c) (records s)

abbrev pub seen : List ℕ → List ℕ → List ℕ → Look
seen s c chip = look (post_in c chip).key (records s)

-- a session call of whose list no refusal of number 3 applies
pub not_3 : (s c chip : List ℕ) (fs : List Fault) (b : Act) → Fact (is_session_call c) → session_act c chip (blk s c) (seen s c chip) ≡ settle fs refuse b
    → Not3 (subject c) (records s) b → (Fact (applies 3 fs) → ⊥) → (reply : List ℕ) → (answer s c chip reply).status ≡ 3 → ⊥
unfolding session_step
not_3 s c chip fs b h act done no-3 reply z =
    settled_but (Not3 (subject c) (records s)) 3 fs refuse b no-3 (refuse_3 (subject c) (records s)) done
    (ap (λ (x : Act). (perform (subject c) x (records s)).status) (sym act)
    ∙ sym (ap (λ (o : Out). o.status) (session-step c chip (records s) h)) ∙ late s c chip reply z)
