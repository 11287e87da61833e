-- A store with no room. Each step: the records before, a call with its chip bytes, the reply, the records after.
-- Written by scripts/worked.py.
use mathlib.Core.Path.{refl}
use mathlib.Core.List.{List, [], ◌∷◌}
use Prim.Native.String.{String}
use Rattle.sha256.specs.Sha256.{zeros_for, padded, initial, word_at, mixed, next_word, schedule, T1, T2, round, rounds, sums, compressed, after, SHA256}
use Rattle.hmac.specs.Hmac.{filled, key_block, xored, HMAC}
use Rattle.hmac.specs.Same.{same}
use Rattle.paper.specs.Act.{perform, moved, advance}
use Rattle.paper.specs.Answer.{session_act, session_step, user_step, step, judged, written, answer, fresh_counter, formatted}
use Rattle.paper.specs.Bytes.{byte, two, four, part, over, string_at, behind, text_at, all_within}
use Rattle.paper.specs.Closing.{stale, effect, holds, shut, sealed, closing, carry_out, closed_literally}
use Rattle.paper.specs.Form.{only}
use Rattle.paper.specs.Mac.{mac_under}
use Rattle.paper.specs.Objects.{puk_record, make_puk_by, policy_record, make_policy_by, key_record, make_key_by, certified, set_path_by}
use Rattle.paper.specs.Pin.{pin_check, puk_check, clear, add_one, pin_missed, pin_hit, puk_missed, puk_hit}
use Rattle.paper.specs.Posting.{look, pending_record, post_by}
use Rattle.paper.specs.Records.{records_of, records, joined, at, block, zeros, is_free}
use Rattle.paper.specs.Sessions.{session_record, counted, create_session, close_by, abort_session}
use Rattle.paper.specs.Sound.{length_fits, sound}
use Rattle.paper.specs.Table.{obeys_table}
use Rattle.paper.specs.Text.{alphanumeric, utf8_from, format_fits, two_equal_from, three_equal_from, rising_from, falling_from, pattern_fits, pin_fits}
use Rattle.paper.specs.Users.{delete_key, unlock_key, new_pin, changed, change_pin, use_key}
use Rattle.paper.specs.Form.{Rec}
use Rattle.worked.specs.Hex.{row, answers}

abbrev pub store_0 : List Rec
store_0 =
    row "0600000000000001" ∷
    row "" ∷ []

-- the last free record
abbrev pub store_1 : List Rec
store_1 =
    row "0600000000000002" ∷
    row "01010001000100000001000000000000025331000000000000000000000000000000000000000000000000000000000000024331000000000000000000000000000000000000000000000000000000000000000102030405060708090a0b0c0d0e0f101112131415161718191a1b1c1d1e1f000000090001" ∷ []

abbrev pub call_1 : String
call_1 = "02002f687474703a2f2f786d6c6e732e776562706b692e6f72672f736b732f616c676f726974686d2373657373696f6e2e310000025331000145000e68747470733a2f2f69737375657200014b00000000000000000009"

pub step_1 : answers store_0 call_1 "000102030405060708090a0b0c0d0e0f101112131415161718191a1b1c1d1e1f00024331" "00000100000000000000000000000000000000000000000000000000000000000000000000" store_1
unfolding zeros_for padded initial word_at mixed next_word schedule T1 T2 round rounds sums compressed after SHA256 filled key_block xored HMAC same perform moved advance session_act session_step user_step step judged written answer fresh_counter formatted byte two four part over string_at behind text_at all_within stale effect holds shut sealed closing carry_out closed_literally only mac_under puk_record make_puk_by policy_record make_policy_by key_record make_key_by certified set_path_by pin_check puk_check clear add_one pin_missed pin_hit puk_missed puk_hit look pending_record post_by records_of records joined at block zeros is_free session_record counted create_session close_by abort_session length_fits sound obeys_table alphanumeric utf8_from format_fits two_equal_from three_equal_from rising_from falling_from pattern_fits pin_fits delete_key unlock_key new_pin changed change_pin use_key
step_1 = refl

-- no room for a second session: nothing changes
abbrev pub store_2 : List Rec
store_2 =
    row "0600000000000002" ∷
    row "01010001000100000001000000000000025331000000000000000000000000000000000000000000000000000000000000024331000000000000000000000000000000000000000000000000000000000000000102030405060708090a0b0c0d0e0f101112131415161718191a1b1c1d1e1f000000090001" ∷ []

abbrev pub call_2 : String
call_2 = "02002f687474703a2f2f786d6c6e732e776562706b692e6f72672f736b732f616c676f726974686d2373657373696f6e2e310000025331000145000e68747470733a2f2f69737375657200014b00000000000000000014"

pub step_2 : answers store_1 call_2 "6465666768696a6b6c6d6e6f707172737475767778797a7b7c7d7e7f8081828300024332" "02000000000000000000000000000000000000000000000000000000000000000000000000" store_2
unfolding zeros_for padded initial word_at mixed next_word schedule T1 T2 round rounds sums compressed after SHA256 filled key_block xored HMAC same perform moved advance session_act session_step user_step step judged written answer fresh_counter formatted byte two four part over string_at behind text_at all_within stale effect holds shut sealed closing carry_out closed_literally only mac_under puk_record make_puk_by policy_record make_policy_by key_record make_key_by certified set_path_by pin_check puk_check clear add_one pin_missed pin_hit puk_missed puk_hit look pending_record post_by records_of records joined at block zeros is_free session_record counted create_session close_by abort_session length_fits sound obeys_table alphanumeric utf8_from format_fits two_equal_from three_equal_from rising_from falling_from pattern_fits pin_fits delete_key unlock_key new_pin changed change_pin use_key
step_2 = refl

-- no room for an object: the session is gone
abbrev pub store_3 : List Rec
store_3 =
    row "0600000000000002" ∷
    row "" ∷ []

abbrev pub call_3 : String
call_3 = "0800010000000370756b000650554b50554b0003f401c84d55ae70aa94bfaa982c8125da20f661ce3f958167f8c049e26fa0524c"

pub step_3 : answers store_2 call_3 "3132333435363738" "02000000000000000000000000000000000000000000000000000000000000000000000000" store_3
unfolding zeros_for padded initial word_at mixed next_word schedule T1 T2 round rounds sums compressed after SHA256 filled key_block xored HMAC same perform moved advance session_act session_step user_step step judged written answer fresh_counter formatted byte two four part over string_at behind text_at all_within stale effect holds shut sealed closing carry_out closed_literally only mac_under puk_record make_puk_by policy_record make_policy_by key_record make_key_by certified set_path_by pin_check puk_check clear add_one pin_missed pin_hit puk_missed puk_hit look pending_record post_by records_of records joined at block zeros is_free session_record counted create_session close_by abort_session length_fits sound obeys_table alphanumeric utf8_from format_fits two_equal_from three_equal_from rising_from falling_from pattern_fits pin_fits delete_key unlock_key new_pin changed change_pin use_key
step_3 = refl
