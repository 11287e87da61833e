-- Invariant: p counts with the bytes, and the answer for all bytes is that for those so far, and the answer for those from there on (`ident_more`).
use Prim.Native.Nat.{◌-◌}
use mathlib.Core.Bool.{not, ◌&&◌}
use mathlib.Core.Path.{◌≡◌}
use lib.ListN.{drop, take}
use Rattle.paper.specs.Table.{is_blank, printable}
use Rattle.sound_alone.proofs.ident_then_blank.Given as goal

abbrev pub invariant-loop-b : goal.invariant-loop-b
invariant-loop-b l = (l.p ≡ l.b-index) × (is_blank (drop l.v l.s) && printable (take l.v l.s) ≡ not l.bad && (is_blank (drop (l.v - l.b-index) (drop l.b-index l.s)) && printable (take (l.v - l.b-index) (drop l.b-index l.s))))
