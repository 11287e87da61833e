-- The law of the walk over a path's strings, of which i are read: each of those left has at least one byte.
use mathlib.Core.Path.{◌≡◌}
use mathlib.Core.Bool.{◌&&◌}
use mathlib.Core.List.{List}
use Prim.Native.Nat.{ℕ, suc, ◌+◌, ◌-◌, ◌<◌}
use native.Mathlib.Omega.{arith}
use lib.Dec.{leb}
use Rattle.paper.specs.Bytes.{two, behind}
use Rattle.paper.specs.Form.{test}
use Rattle.paper.specs.Calls.{filled_at}

pub filled_more : (n i k : ℕ) (c : List ℕ) → i < n → test (filled_at (n - i) k c) ≡ (leb 1 (two k c) && test (filled_at (n - (i + 1)) (behind k c) c))
filled_more n i k c h =
    let e : n - i ≡ suc (n - (i + 1)) = omega arith in
    rw e
