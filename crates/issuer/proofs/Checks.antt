-- What a check answers, by cases: no SessionKey or no next counter, a value of another length, and else whether the two are the same.
use mathlib.Core.Path.{◌≡◌, refl}
use mathlib.Core.Bool.{Bool, true, false, ◌&&◌}
use mathlib.Core.List.{List}
use Prim.Native.Nat.{ℕ, ◌+◌}
use lib.ListN.{length}
use lib.Dec.{eqb, leb}
use borrow.Author.Tests.{eq-eqb, ne_eqb}
use Rattle.hmac.specs.Same.{same}
use Rattle.paper.specs.Bytes.{ascii}
use Rattle.paper.specs.Form.{◌equals◌, ◌=<◌, ◌and◌, test}
use Rattle.paper.specs.Mac.{mac_under}
use Rattle.paper.specs.Issuing.{attests}
use Rattle.paper.proofs.Forms.{contrary}
use Rattle.laws.proofs.Bytes.{split}

after_no : (a : Bool) → false ≡ (a && false)
after_no true = refl
after_no false = refl

module _ (key : List ℕ) (counter : ℕ) (text given : List ℕ) where
  pub unready : test (length key equals 32 and counter + 1 =< 65535) ≡ false → false ≡ test (attests key counter text given)
  unready h = go (eqb (length key) 32) (leb (counter + 1) 65535) (eqb (length given) 32) _ h
    where
      go : (a b g s : Bool) → (a && b) ≡ false → false ≡ (a && (g && (b && s)))
      go true true g s e = contrary e
      go true false g s e = after_no g
      go false b g s e = refl

  pub of_other_length : (length given ≡ 32 → ⊥) → false ≡ test (attests key counter text given)
  of_other_length h = rw (ne_eqb (length given) 32 h) (after_no (eqb (length key) 32))

  pub compared : {r : Bool} → test (length key equals 32 and counter + 1 =< 65535) ≡ true → length given ≡ 32
      → r ≡ same given (mac_under key (ascii "Device Attestation") (counter + 1) text) → r ≡ test (attests key counter text given)
  compared h l e =
      let w = split (eqb (length key) 32) (leb (counter + 1) 65535) h in
      rw (w.0, eq-eqb (length given) 32 l, w.1) e
