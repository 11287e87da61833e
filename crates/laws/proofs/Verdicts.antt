-- What a typed value comes to: locked, wrong or right, as facts about limit, count and value.
use mathlib.Core.Path.{◌≡◌}
use mathlib.Core.Bool.{true, cond}
use mathlib.Core.List.{List}
use Prim.Native.Nat.{ℕ}
use Rattle.hmac.specs.Same.{same}
use Rattle.paper.specs.Form.{Rec, Form, ◌equals◌, say, no, ◌and◌, Fact}
use Rattle.paper.specs.Records.{retry_limit, key_errors, puk_errors, value}
use Rattle.paper.specs.Pin.{Verdict, locked, wrong, right, verdict, pin_check, puk_check}
use Rattle.paper.specs.Act.{Out, plain}
use Rattle.paper.specs.Users.{tried}
use Rattle.laws.proofs.Choice.{choose}

-- at the limit, and the limit counts
abbrev pub locked_at : ℕ → ℕ → Form
locked_at limit errors = no (limit equals 0) and errors equals limit

pub verdict-is : (P : Verdict → Type 0) (limit errors : ℕ) (stored typed : List ℕ) → (Fact (locked_at limit errors) → P locked)
    → ((Fact (locked_at limit errors) → ⊥) → (same stored typed ≡ true → ⊥) → P wrong)
    → ((Fact (locked_at limit errors) → ⊥) → same stored typed ≡ true → P right)
    → P (verdict limit errors stored typed)
verdict-is P limit errors stored typed a b c =
    choose P (locked_at limit errors) locked (cond (same stored typed) right wrong) a (λ n.
    choose P (say (same stored typed)) right wrong (c n) (b n))

module _ (P : Out → Type 0) (rs missed done : List Rec) (stays : P (plain 1 rs)) where
  pub tried_pin : (policy key : Rec) (typed : List ℕ) → ((Fact (locked_at (retry_limit policy) (key_errors key)) → ⊥) → P (plain 1 missed))
      → ((Fact (locked_at (retry_limit policy) (key_errors key)) → ⊥) → P (plain 0 done)) → P (tried (pin_check policy key typed) rs missed done)
  unfolding pin_check
  tried_pin policy key typed b c =
      verdict-is (λ v. P (tried v rs missed done)) (retry_limit policy) (key_errors key) (value key) typed (λ l. stays) (λ n w. b n) (λ n e. c n)

  pub tried_puk : (puk : Rec) (typed : List ℕ) → ((Fact (locked_at (retry_limit puk) (puk_errors puk)) → ⊥) → P (plain 1 missed))
      → ((Fact (locked_at (retry_limit puk) (puk_errors puk)) → ⊥) → P (plain 0 done)) → P (tried (puk_check puk typed) rs missed done)
  unfolding puk_check
  tried_puk puk typed b c =
      verdict-is (λ v. P (tried v rs missed done)) (retry_limit puk) (puk_errors puk) (value puk) typed (λ l. stays) (λ n w. b n) (λ n e. c n)
