-- Laws of the message schedule: its next word, early and late, and how an array that is filled from the front becomes it.
use Rattle.std.proofs.Common.{◌≡◌, ℕ, ◌+◌, ◌-◌, ◌*◌, ◌<◌, ◌≤◌, List, length, get_or, take, set, sym, ◌∙◌, add-one, arith, take_all, get_or-take, take-suc-set, le-ltb, lt-ltb}
use Rattle.sha256.specs.Sha256.{schedule, next_word, word_at, mixed}

-- the first sixteen words are the block's
pub early : (b ws : List ℕ) (t : ℕ) → t < 16 → next_word b ws t ≡ word_at b (t * 4)
unfolding next_word
early b ws t h = rw (lt-ltb t 16 h)

-- each later word mixes four before it, read from any list that begins with the words so far
pub late : (b ws w : List ℕ) (t : ℕ) → 16 ≤ t → take t w ≡ ws
    → next_word b ws t ≡ mixed (get_or w (t - 2) 0) (get_or w (t - 7) 0) (get_or w (t - 15) 0) (get_or w (t - 16) 0)
unfolding next_word
late b ws w t h e =
    rw (le-ltb t 16 h, ← e, get_or-take t w (t - 2) 0 (omega arith), get_or-take t w (t - 7) 0 (omega arith), get_or-take t w (t - 15) 0 (omega arith), get_or-take t w (t - 16) 0 (omega arith))

-- one word more is stored
pub grow : (b w : List ℕ) (t v : ℕ) → t < length w → take t w ≡ schedule b t → v ≡ next_word b (schedule b t) t
    → take (t + 1) (set w t v) ≡ schedule b (t + 1)
unfolding schedule
grow b w t v h e p = rw (add-one, take-suc-set) (cc)

-- all are stored
pub whole : (b w : List ℕ) (t : ℕ) → t ≤ 64 → 64 ≤ t → length w ≡ 64 → take t w ≡ schedule b t → w ≡ schedule b 64
whole b w t p q l e =
    let z : t ≡ 64 = omega arith in
    let f : take 64 w ≡ schedule b 64 = rw z at e in
    sym (take_all 64 w (omega arith)) ∙ f
