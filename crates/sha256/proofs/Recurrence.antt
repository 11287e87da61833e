-- The message schedule obeys the standard's recurrence: W t is the block's word t for t < 16, and beyond mixes W (t - 2), W (t - 7), W (t - 15), W (t - 16).
-- Nothing cites it: it shows that the definition, which grows a list, says what the standard prints.
use Rattle.std.proofs.Common.{◌≡◌, ℕ, zero, suc, ◌-◌, ◌*◌, ◌<◌, ◌≤◌, List, length, get_or, take, sym, refl, ap, ◌∙◌, ⊎_elim, eq-or-lt_of_le, arith, length-append, take_all, get_or-take}
use lib.Seq.{get_or_at, take-append-le}
use Rattle.sha256.specs.Sha256.{schedule, next_word, word_at, mixed}
use Rattle.sha256.proofs.Schedule.{early, late}

schedule-length : (b : List ℕ) (n : ℕ) → length (schedule b n) ≡ n
unfolding schedule
schedule-length b zero = refl
schedule-length b (suc n) = simp length-append (omega (arith, schedule-length b n))

-- the first t words of more are the first t words
front : (b : List ℕ) (t n : ℕ) → t ≤ n → take t (schedule b n) ≡ schedule b t
unfolding schedule
front b t zero h = let z : t ≡ 0 = omega arith in rw z
front b t (suc n) h =
    ⊎_elim
    (λ e. rw e (take_all (suc n) (schedule b (suc n)) (omega (arith, schedule-length b (suc n)))))
    (λ l. take-append-le t (schedule b n) _ (omega (arith, schedule-length b n)) ∙ front b t n (omega arith))
    (eq-or-lt_of_le h)

abbrev W : List ℕ → ℕ → ℕ
W b t = get_or (schedule b 64) t 0

-- a word stands where it was put
word-is : (b : List ℕ) (t : ℕ) → t < 64 → W b t ≡ next_word b (schedule b t) t
unfolding schedule
word-is b t h =
    sym (get_or-take (suc t) (schedule b 64) t 0 (omega arith))
    ∙ ap (λ (l : List ℕ). get_or l t 0) (front b (suc t) 64 (omega arith))
    ∙ get_or_at (schedule b t) (next_word b (schedule b t) t) _ 0 t (schedule-length b t)

recurrence_early : (b : List ℕ) (t : ℕ) → t < 16 → W b t ≡ word_at b (t * 4)
recurrence_early b t h = word-is b t (omega arith) ∙ early b (schedule b t) t h

recurrence_late : (b : List ℕ) (t : ℕ) → 16 ≤ t → t < 64 → W b t ≡ mixed (W b (t - 2)) (W b (t - 7)) (W b (t - 15)) (W b (t - 16))
recurrence_late b t h l = word-is b t l ∙ late b (schedule b t) (schedule b 64) t h (front b t 64 (omega arith))
