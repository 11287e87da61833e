-- What a record asks of the others, said in one pass over them (`met`) and as the paper's clauses (`settled`).
use mathlib.Core.Bool.{Bool, true, false, cond}
use mathlib.Core.Path.{◌≡◌, refl, sym, ◌∙◌}
use mathlib.Core.List.Memᴰ
use mathlib.Core.List.{List, [], ◌∷◌, Memᴰ}
use mathlib.Core.Logic.{◌⊎◌, inl, inr}
use Rattle.hmac.proofs.Sameness.{same_eq, eq_same}
use Rattle.paper.specs.Limits.{pin_width}
use Rattle.paper.specs.Bytes.{part}
use Rattle.paper.specs.Form.{Rec, Form, each, ◌and◌, test, Fact, seek}
use Rattle.paper.specs.Records.{KEY, own, session}
use Rattle.paper.specs.Sound.{housed, policies_used, pins_shared}
use Rattle.paper.proofs.Forms.{Agree, both, contrary}
use Rattle.sound_pairs.proofs.Relations.{same_test, not_fact}
use Rattle.store_records.specs.Choices.{chosen}
use Rattle.store_records.specs.declared.Choice.TheVariants.{Child}
use Rattle.sound_kin.specs.Settled.{alike, met, asks, settled}

-- where some record is such, the first such is one of them
pub sought : (φ : Rec → Form) (rs : List Rec) (y : Rec) → Memᴰ y rs → Fact (φ y) → Memᴰ (seek φ rs) rs × Fact (φ (seek φ rs))
sought φ [] y m h = absurd (Memᴰ.not-nil m)
sought φ (x ∷ xs) y m h = go (test (φ x)) (both (φ x)) (Memᴰ.cases_cons m) (sought φ xs y)
  where
    go : (b : Bool) → Agree b (Fact (φ x)) → (y ≡ x) ⊎ Memᴰ y xs
        → (Memᴰ y xs → Fact (φ y) → Memᴰ (seek φ xs) xs × Fact (φ (seek φ xs)))
        → Memᴰ (cond b x (seek φ xs)) (x ∷ xs) × Fact (φ (cond b x (seek φ xs)))
    go true a w k = (Memᴰ.head refl, a.0 refl)
    go false a (inl e) k = contrary (sym (a.1 (rw e at h)))
    go false a (inr i) k = let z = k i h in (Memᴰ.tail z.0, z.1)

module _ (p : Rec) (rs : List Rec) where
  -- the first key under p, if p is a policy
  abbrev first_key : Rec
  first_key = seek (chosen (Child KEY (own p) (session p))) rs

  pub pins_alike : Fact (each rs (alike p first_key)) → Fact (pins_shared rs p)
  pins_alike w k g x mx gx y my gy =
      let of : Rec → _ = part 49 pin_width in
      eq_same (of x) (of y) (sym (same_eq (of first_key) (of x) (w x mx g gx)) ∙ same_eq (of first_key) (of y) (w y my g gy))

  pub alike_pins : Fact (pins_shared rs p) → Fact (each rs (alike p first_key))
  alike_pins w y my g gy = let z = sought (chosen (Child KEY (own p) (session p))) rs y my gy.1 in w gy.0 g first_key z.0 (gy.0, z.1) y my gy

  -- where all is there that p asks for
  module _ (there : test (housed rs p) ≡ true) where
    pub met-settled : (f : Rec) → f ≡ first_key → test (each rs (met rs p f)) ≡ test (settled rs p)
    met-settled f e =
        rw (e, there)
        (same_test (each rs (met rs p first_key)) (each rs (policies_used rs p) and pins_shared rs p)
        (λ w. ((λ y m. (w y m).0), pins_alike (λ y m. (w y m).1)))
        (λ w y m. (w.0 y m, alike_pins w.1 y m)))

    pub unasked : test (asks p) ≡ false → test (settled rs p) ≡ true
    unasked e =
        let n = not_fact (asks p) e in
        (both (settled rs p)).1 ((both (housed rs p)).0 there, ((λ y m g. absurd (n (inl g))), (λ k. absurd (n (inr k)))))
