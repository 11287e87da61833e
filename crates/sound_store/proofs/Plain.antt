-- A store whose records are sound one by one, bear different marks and stand near the neighbours that were shown is sound.
use mathlib.Core.Bool.{true}
use mathlib.Core.List.{List, Memᴰ}
use mathlib.Core.Path.{◌≡◌}
use Prim.Native.Nat.{ℕ, ◌/◌, ◌%◌, ◌≤◌}
use borrow.Author.Tests.{leb-true}
use lib.Dec.{eqb, leb}
use lib.ListN.{length}
use Rattle.paper.specs.Bytes.{byte}
use Rattle.paper.specs.Form.{Rec, each, test}
use Rattle.paper.specs.Sound.{has_counter, alone, Sound, length_fits}
use Rattle.paper.proofs.Forms.{both}
use Rattle.laws.proofs.Bytes.{split}
use Rattle.laws.proofs.Facts.{Alone, alone_of}
use Rattle.sound_quick.specs.Marks.{marks_differ}
use Rattle.sound_quick.proofs.Apart.{apart_by_marks}
use Rattle.sound_quick.proofs.Sited.{sited_sound}
use Rattle.sound_store.specs.Shown.{Shown}

pub plain-sound : (rs : List Rec) → test (has_counter rs) ≡ true → test (each rs alone) ≡ true → (marks_differ rs ≡ true) × Shown rs → test (Sound rs) ≡ true
plain-sound rs c a (m, w) =
    sited_sound rs A (apart_by_marks rs A m) w.m (λ i. byte i w.up) (λ i. byte i w.over) (λ i. byte i w.under) w.sited
    ((both (has_counter rs)).0 c)
  where
    A : (r : Rec) → Memᴰ r rs → Alone r
    A r n = alone_of r ((both (each rs alone)).0 a r n)

-- A length that fits is that of at most 256 records.
pub at_most : (s : List ℕ) → length_fits s ≡ true → length s / 256 ≤ 256
unfolding length_fits
at_most s h = leb-true _ _ (split (leb 2 (length s / 256)) _ (split (eqb (length s % 256) 0) _ h).1).1
