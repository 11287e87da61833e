-- The place behind one string more is behind the string that stands there.
use mathlib.Core.Path.{◌≡◌, refl}
use mathlib.Core.List.{List}
use Prim.Native.Nat.{ℕ, zero, suc, ◌+◌}
use native.Mathlib.Numerals.{add-one}
use Rattle.paper.specs.Bytes.{behind}
use Rattle.paper.specs.Calls.{behind_strings}

pub behind_more : (n k : ℕ) (c : List ℕ) → behind_strings (n + 1) k c ≡ behind (behind_strings n k c) c
behind_more zero k c = refl
behind_more (suc n) k c = rw add-one (rw add-one at (behind_more n (behind k c) c))
