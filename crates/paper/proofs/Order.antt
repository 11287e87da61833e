-- Every list of refusals keeps to the paper's order.
use mathlib.Core.Path.{◌≡◌, refl}
use mathlib.Core.Bool.{Bool, true, false, cond}
use mathlib.Core.List.{List, [], ◌∷◌}
use Prim.Native.Nat.{ℕ}
use Prim.Native.String.{String}
use lib.Dec.{eqb}
use Rattle.paper.specs.Form.{Rec, Fault, ◌gives◌}
use Rattle.paper.specs.Numbers.{early_order, late_order}
use Rattle.paper.specs.Records.{SessionValue}
use Rattle.paper.specs.Calls.{Create, Close, Puk, Policy, Key, Path, Post}
use Rattle.paper.specs.Objects.{puk_faults, policy_faults, key_faults, path_faults}
use Rattle.paper.specs.Posting.{Look, post_faults}
use Rattle.paper.specs.Sessions.{create_faults, close_faults, abort_faults}
use Rattle.paper.specs.Users.{delete_faults, unlock_faults, change_faults, use_faults}
use Rattle.paper.specs.Answer.{early_faults}

abbrev statuses : List Fault → List ℕ
statuses [] = []
statuses ((φ gives n) ∷ fs) = n ∷ statuses fs

-- each number stands in the order no earlier than the one before it
abbrev ordered : List ℕ → List ℕ → Bool
ordered os [] = true
ordered [] (n ∷ ns) = false
ordered (o ∷ os) (n ∷ ns) = cond (eqb n o) (ordered (o ∷ os) ns) (ordered os (n ∷ ns))

pub early_ordered : (s c : List ℕ) → ordered early_order (statuses (early_faults s c)) ≡ true
early_ordered s c = refl

module _ (c chip : List ℕ) (x y z : Rec) (ses : SessionValue) (rs : List Rec) where
  pub create_ordered : (q : Create) → ordered late_order (statuses (create_faults c chip q rs)) ≡ true
  create_ordered q = refl

  pub close_ordered : (q : Close) → ordered late_order (statuses (close_faults c chip q ses rs)) ≡ true
  close_ordered q = refl

  pub abort_ordered : ordered late_order (statuses (abort_faults c chip)) ≡ true
  abort_ordered = refl

  pub puk_ordered : (q : Puk) (v : List ℕ) → ordered late_order (statuses (puk_faults c chip q v ses rs)) ≡ true
  puk_ordered q v = refl

  pub policy_ordered : (q : Policy) → ordered late_order (statuses (policy_faults c chip q x ses rs)) ≡ true
  policy_ordered q = refl

  pub key_ordered : (q : Key) (v : List ℕ) → ordered late_order (statuses (key_faults c chip q v x ses rs)) ≡ true
  key_ordered q v = refl

  pub path_ordered : (q : Path) → ordered late_order (statuses (path_faults c chip q x ses)) ≡ true
  path_ordered q = refl

  pub post_ordered : (op : ℕ) (name : String) (q : Post) (l : Look) → ordered late_order (statuses (post_faults op name c chip q ses rs l)) ≡ true
  post_ordered op name q l = refl

  pub delete_ordered : ordered late_order (statuses (delete_faults c chip x rs)) ≡ true
  delete_ordered = refl

  pub unlock_ordered : ordered late_order (statuses (unlock_faults c chip x y z rs)) ≡ true
  unlock_ordered = refl

  pub change_ordered : ordered late_order (statuses (change_faults c chip x y rs)) ≡ true
  change_ordered = refl

  pub use_ordered : ordered late_order (statuses (use_faults c chip x y rs)) ≡ true
  use_ordered = refl
