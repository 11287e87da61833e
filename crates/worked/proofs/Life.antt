-- One session from create to close. Each step: the records before, a call with its chip bytes, the reply, the records after.
-- Written by scripts/worked.py.
use mathlib.Core.Path.{refl}
use mathlib.Core.List.{List, [], ◌∷◌}
use Prim.Native.String.{String}
use Rattle.sha256.specs.Sha256.{zeros_for, padded, initial, word_at, mixed, next_word, schedule, T1, T2, round, rounds, sums, compressed, after, SHA256}
use Rattle.hmac.specs.Hmac.{filled, key_block, xored, HMAC}
use Rattle.hmac.specs.Same.{same}
use Rattle.paper.specs.Act.{perform, moved, advance}
use Rattle.paper.specs.Answer.{session_act, session_step, user_step, step, judged, written, answer, fresh_counter, formatted}
use Rattle.paper.specs.Bytes.{byte, two, four, part, over, string_at, behind, text_at, all_within}
use Rattle.paper.specs.Closing.{stale, effect, holds, shut, sealed, closing, carry_out, closed_literally}
use Rattle.paper.specs.Form.{only}
use Rattle.paper.specs.Mac.{mac_under}
use Rattle.paper.specs.Objects.{puk_record, make_puk_by, policy_record, make_policy_by, key_record, make_key_by, certified, set_path_by}
use Rattle.paper.specs.Pin.{pin_check, puk_check, clear, add_one, pin_missed, pin_hit, puk_missed, puk_hit}
use Rattle.paper.specs.Posting.{look, pending_record, post_by}
use Rattle.paper.specs.Records.{records_of, records, joined, at, block, zeros, is_free}
use Rattle.paper.specs.Sessions.{session_record, counted, create_session, close_by, abort_session}
use Rattle.paper.specs.Sound.{length_fits, sound}
use Rattle.paper.specs.Table.{obeys_table}
use Rattle.paper.specs.Text.{alphanumeric, utf8_from, format_fits, two_equal_from, three_equal_from, rising_from, falling_from, pattern_fits, pin_fits}
use Rattle.paper.specs.Users.{delete_key, unlock_key, new_pin, changed, change_pin, use_key}
use Rattle.paper.specs.Form.{Rec}
use Rattle.worked.specs.Hex.{row, answers}

abbrev pub store_0 : List Rec
store_0 =
    row "0600000000000001" ∷
    row "" ∷
    row "" ∷
    row "" ∷
    row "" ∷
    row "" ∷ []

-- a session is made
abbrev pub store_1 : List Rec
store_1 =
    row "0600000000000002" ∷
    row "01010001000100000001000000000000025331000000000000000000000000000000000000000000000000000000000000024331000000000000000000000000000000000000000000000000000000000000000102030405060708090a0b0c0d0e0f101112131415161718191a1b1c1d1e1f000000090001" ∷
    row "" ∷
    row "" ∷
    row "" ∷
    row "" ∷ []

abbrev pub call_1 : String
call_1 = "02002f687474703a2f2f786d6c6e732e776562706b692e6f72672f736b732f616c676f726974686d2373657373696f6e2e310000025331000145000e68747470733a2f2f69737375657200014b00000000000000000009"

pub step_1 : answers store_0 call_1 "000102030405060708090a0b0c0d0e0f101112131415161718191a1b1c1d1e1f00024331" "00000100000000000000000000000000000000000000000000000000000000000000000000" store_1
unfolding zeros_for padded initial word_at mixed next_word schedule T1 T2 round rounds sums compressed after SHA256 filled key_block xored HMAC same perform moved advance session_act session_step user_step step judged written answer fresh_counter formatted byte two four part over string_at behind text_at all_within stale effect holds shut sealed closing carry_out closed_literally only mac_under puk_record make_puk_by policy_record make_policy_by key_record make_key_by certified set_path_by pin_check puk_check clear add_one pin_missed pin_hit puk_missed puk_hit look pending_record post_by records_of records joined at block zeros is_free session_record counted create_session close_by abort_session length_fits sound obeys_table alphanumeric utf8_from format_fits two_equal_from three_equal_from rising_from falling_from pattern_fits pin_fits delete_key unlock_key new_pin changed change_pin use_key
step_1 = refl

-- a PUK
abbrev pub store_2 : List Rec
store_2 =
    row "0600000000000002" ∷
    row "01010002000100000001000000000000025331000000000000000000000000000000000000000000000000000000000000024331000000000000000000000000000000000000000000000000000000000000000102030405060708090a0b0c0d0e0f101112131415161718191a1b1c1d1e1f000100090001" ∷
    row "020003000001000100010000000000000370756b0000000000000000000000000000000000000000000000000000000000083132333435363738" ∷
    row "" ∷
    row "" ∷
    row "" ∷ []

abbrev pub call_2 : String
call_2 = "0800010000000370756b000650554b50554b0003f401c84d55ae70aa94bfaa982c8125da20f661ce3f958167f8c049e26fa0524c"

pub step_2 : answers store_1 call_2 "3132333435363738" "00000100010000000000000000000000000000000000000000000000000000000000000000" store_2
unfolding zeros_for padded initial word_at mixed next_word schedule T1 T2 round rounds sums compressed after SHA256 filled key_block xored HMAC same perform moved advance session_act session_step user_step step judged written answer fresh_counter formatted byte two four part over string_at behind text_at all_within stale effect holds shut sealed closing carry_out closed_literally only mac_under puk_record make_puk_by policy_record make_policy_by key_record make_key_by certified set_path_by pin_check puk_check clear add_one pin_missed pin_hit puk_missed puk_hit look pending_record post_by records_of records joined at block zeros is_free session_record counted create_session close_by abort_session length_fits sound obeys_table alphanumeric utf8_from format_fits two_equal_from three_equal_from rising_from falling_from pattern_fits pin_fits delete_key unlock_key new_pin changed change_pin use_key
step_2 = refl

-- a PIN policy under it
abbrev pub store_3 : List Rec
store_3 =
    row "0600000000000002" ∷
    row "01010003000100000001000000000000025331000000000000000000000000000000000000000000000000000000000000024331000000000000000000000000000000000000000000000000000000000000000102030405060708090a0b0c0d0e0f101112131415161718191a1b1c1d1e1f000200090001" ∷
    row "020003000001000100010000000000000370756b0000000000000000000000000000000000000000000000000000000000083132333435363738" ∷
    row "0300030000010002000100000001000103706f6c00000000000000000000000000000000000000000000000000000000000101000408" ∷
    row "" ∷
    row "" ∷ []

abbrev pub call_3 : String
call_3 = "09000100000003706f6c000100010101000300000408006dfa4f14ae310519826127701bda4e2dcc7c7939f1a66df23b1bfa084958db02"

pub step_3 : answers store_2 call_3 "" "00000100020000000000000000000000000000000000000000000000000000000000000000" store_3
unfolding zeros_for padded initial word_at mixed next_word schedule T1 T2 round rounds sums compressed after SHA256 filled key_block xored HMAC same perform moved advance session_act session_step user_step step judged written answer fresh_counter formatted byte two four part over string_at behind text_at all_within stale effect holds shut sealed closing carry_out closed_literally only mac_under puk_record make_puk_by policy_record make_policy_by key_record make_key_by certified set_path_by pin_check puk_check clear add_one pin_missed pin_hit puk_missed puk_hit look pending_record post_by records_of records joined at block zeros is_free session_record counted create_session close_by abort_session length_fits sound obeys_table alphanumeric utf8_from format_fits two_equal_from three_equal_from rising_from falling_from pattern_fits pin_fits delete_key unlock_key new_pin changed change_pin use_key
step_3 = refl

-- a key under that, with a PIN that the user chose
abbrev pub store_4 : List Rec
store_4 =
    row "0600000000000002" ∷
    row "01010004000100000001000000000000025331000000000000000000000000000000000000000000000000000000000000024331000000000000000000000000000000000000000000000000000000000000000102030405060708090a0b0c0d0e0f101112131415161718191a1b1c1d1e1f000400090001" ∷
    row "020003000001000100010000000000000370756b0000000000000000000000000000000000000000000000000000000000083132333435363738" ∷
    row "0300030000010002000100000001000103706f6c00000000000000000000000000000000000000000000000000000000000101000408" ∷
    row "04000002000100030001000000010002036b657900000000000000000000000000000000000000000000000000000000000431323435000000000000000000000000000000000000000000000000000000000e5055424c49432d4b45592d4f4e45" ∷
    row "" ∷ []

abbrev pub call_4 : String
call_4 = "0a0001000000036b6579002b687474703a2f2f786d6c6e732e776562706b692e6f72672f736b732f616c676f726974686d236b65792e3100000001000200043132343500000002000000001b75726e3a6f69643a312e322e3834302e31303034352e332e312e3700000000289f2f6112cad86305ec4ac0f6ad1a0a765d9e56c7f8f9d07c0306e510f647fe"

pub step_4 : answers store_3 call_4 "000e5055424c49432d4b45592d4f4e450000" "00000100031b824a04305ad77e795df31c9b1801b776143e27e331f49cecb1f81597f8e78d" store_4
unfolding zeros_for padded initial word_at mixed next_word schedule T1 T2 round rounds sums compressed after SHA256 filled key_block xored HMAC same perform moved advance session_act session_step user_step step judged written answer fresh_counter formatted byte two four part over string_at behind text_at all_within stale effect holds shut sealed closing carry_out closed_literally only mac_under puk_record make_puk_by policy_record make_policy_by key_record make_key_by certified set_path_by pin_check puk_check clear add_one pin_missed pin_hit puk_missed puk_hit look pending_record post_by records_of records joined at block zeros is_free session_record counted create_session close_by abort_session length_fits sound obeys_table alphanumeric utf8_from format_fits two_equal_from three_equal_from rising_from falling_from pattern_fits pin_fits delete_key unlock_key new_pin changed change_pin use_key
step_4 = refl

-- its certificate path
abbrev pub store_5 : List Rec
store_5 =
    row "0600000000000002" ∷
    row "01010004000100000001000000000000025331000000000000000000000000000000000000000000000000000000000000024331000000000000000000000000000000000000000000000000000000000000000102030405060708090a0b0c0d0e0f101112131415161718191a1b1c1d1e1f000500090001" ∷
    row "020003000001000100010000000000000370756b0000000000000000000000000000000000000000000000000000000000083132333435363738" ∷
    row "0300030000010002000100000001000103706f6c00000000000000000000000000000000000000000000000000000000000101000408" ∷
    row "04010002000100030001000000010002036b657900000000000000000000000000000000000000000000000000000000000431323435000000000000000000000000000000000000000000000000000000000e5055424c49432d4b45592d4f4e4500000000000000000000000000000000000000000000000000000000000000000000000000000000000000000000000000000000000000000000000000000000000000000000000000000000000000000000af230ad402ff8ad7743a884801a3b78ab186056cac1f3b32e5c293125f20c48b" ∷
    row "" ∷ []

abbrev pub call_5 : String
call_5 = "0c000100000001000302000b43455254494649434154450002434190321bc0ac04cc6375b7e20c55b6dd01f521f722f417fd05963c034b2984f1a9"

pub step_5 : answers store_4 call_5 "" "00000000000000000000000000000000000000000000000000000000000000000000000000" store_5
unfolding zeros_for padded initial word_at mixed next_word schedule T1 T2 round rounds sums compressed after SHA256 filled key_block xored HMAC same perform moved advance session_act session_step user_step step judged written answer fresh_counter formatted byte two four part over string_at behind text_at all_within stale effect holds shut sealed closing carry_out closed_literally only mac_under puk_record make_puk_by policy_record make_policy_by key_record make_key_by certified set_path_by pin_check puk_check clear add_one pin_missed pin_hit puk_missed puk_hit look pending_record post_by records_of records joined at block zeros is_free session_record counted create_session close_by abort_session length_fits sound obeys_table alphanumeric utf8_from format_fits two_equal_from three_equal_from rising_from falling_from pattern_fits pin_fits delete_key unlock_key new_pin changed change_pin use_key
step_5 = refl

-- the session closes
abbrev pub store_6 : List Rec
store_6 =
    row "0600000000000002" ∷
    row "010200040001000000010000000000000253310000000000000000000000000000000000000000000000000000000000000243310000000000000000000000000000000000000000000000000000000000000000000000000000000000000000000000000000000000000000000000000000000700090001" ∷
    row "020003000001000100010000000000000370756b0000000000000000000000000000000000000000000000000000000000083132333435363738" ∷
    row "0300030000010002000100000001000103706f6c00000000000000000000000000000000000000000000000000000000000101000408" ∷
    row "04010002000100030001000000010002036b657900000000000000000000000000000000000000000000000000000000000431323435000000000000000000000000000000000000000000000000000000000e5055424c49432d4b45592d4f4e4500000000000000000000000000000000000000000000000000000000000000000000000000000000000000000000000000000000000000000000000000000000000000000000000000000000000000000000af230ad402ff8ad7743a884801a3b78ab186056cac1f3b32e5c293125f20c48b" ∷
    row "" ∷ []

abbrev pub call_6 : String
call_6 = "030001000000014e25c73c0fdfdfecd37e47b861202abb650f330e1a420fbed5f325281a069dc613"

pub step_6 : answers store_5 call_6 "" "0000000000a5d1d288c53ba6017f2d7addd17640e49ef51fcefa8a4ff085594d5506a7cf49" store_6
unfolding zeros_for padded initial word_at mixed next_word schedule T1 T2 round rounds sums compressed after SHA256 filled key_block xored HMAC same perform moved advance session_act session_step user_step step judged written answer fresh_counter formatted byte two four part over string_at behind text_at all_within stale effect holds shut sealed closing carry_out closed_literally only mac_under puk_record make_puk_by policy_record make_policy_by key_record make_key_by certified set_path_by pin_check puk_check clear add_one pin_missed pin_hit puk_missed puk_hit look pending_record post_by records_of records joined at block zeros is_free session_record counted create_session close_by abort_session length_fits sound obeys_table alphanumeric utf8_from format_fits two_equal_from three_equal_from rising_from falling_from pattern_fits pin_fits delete_key unlock_key new_pin changed change_pin use_key
step_6 = refl
