-- Numbers the caller sees: the order in which refusals are tried. Each method's list of refusals keeps to it (proofs/Order.antt).
use Rattle.std.specs.Prelude.{List, [], ◌∷◌, ℕ}

-- before the method: the reply is too short, the store unsound, the call's method or length wrong, no such open session
abbrev pub early_order : List ℕ
early_order = 21 ∷ 19 ∷ 16 ∷ 5 ∷ []

-- the method's own: form, algorithm, key, rule, parent, PIN or PUK, MAC, signature, close, room
abbrev pub late_order : List ℕ
late_order = 16 ∷ 8 ∷ 7 ∷ 17 ∷ 20 ∷ 1 ∷ 3 ∷ 4 ∷ 6 ∷ 2 ∷ []
