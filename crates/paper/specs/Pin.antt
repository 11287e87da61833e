-- PIN and PUK: what a typed value comes to, and how the count moves.
use Rattle.std.specs.Prelude.{not, ◌&&◌, cond, List, [], ◌∷◌, ℕ, ◌+◌, eqb}
use Rattle.hmac.specs.Same.{same}
use Rattle.paper.specs.Bytes.{byte, enc1, over}
use Rattle.paper.specs.Form.{Rec, Form, ◌equals◌, no, ◌and◌, only}
use Rattle.paper.specs.Records.{KEY, PUK, is, own, session, retry_limit, key_errors, puk_errors, value}

-- At the limit; else wrong or right. A limit of 0 keeps no count and never locks.
pub data Verdict : Type 0 where
  locked wrong right : Verdict

abbrev pub verdict : ℕ → ℕ → List ℕ → List ℕ → Verdict
verdict limit errors stored typed =
    cond (not (eqb limit 0) && eqb errors limit) locked (cond (same stored typed) right wrong)

unfoldable pub pin_check : Rec → Rec → List ℕ → Verdict
pin_check policy key typed = verdict (retry_limit policy) (key_errors key) (value key) typed

unfoldable pub puk_check : Rec → List ℕ → Verdict
puk_check puk typed = verdict (retry_limit puk) (puk_errors puk) (value puk) typed

-- A wrong value adds one, a right one sets 0: byte 2 of a key, byte 3 of a PUK.
unfoldable pub clear : ℕ → Rec → Rec
clear i r = over i (0 ∷ []) r

unfoldable pub add_one : ℕ → Rec → Rec
add_one i r = over i (enc1 (byte i r + 1)) r

abbrev pub the_key : Rec → Rec → Form
the_key key r = is KEY (own key) (session key) r

abbrev pub the_puk : Rec → Rec → Form
the_puk puk r = is PUK (own puk) (session puk) r

unfoldable pub pin_missed : Rec → Rec → Rec
pin_missed key = only (the_key key) (add_one 2)

unfoldable pub pin_hit : Rec → Rec → Rec
pin_hit key = only (the_key key) (clear 2)

unfoldable pub puk_missed : Rec → Rec → Rec
puk_missed puk = only (λ r. the_puk puk r and no (retry_limit r equals 0)) (add_one 3)

unfoldable pub puk_hit : Rec → Rec → Rec
puk_hit puk = only (the_puk puk) (clear 3)
