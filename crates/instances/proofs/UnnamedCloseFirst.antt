-- A close, and a removal of that session's own new key, the close first. Each step: the records before, a call with its chip bytes, the reply, the records after.
-- Written by scripts/instances.py.
use mathlib.Core.Path.{refl}
use mathlib.Core.List.{List, [], ◌∷◌}
use Prim.Native.String.{String}
use Rattle.sha256.specs.Sha256.{zeros_for, padded, initial, word_at, mixed, next_word, schedule, T1, T2, round, rounds, sums, compressed, after, SHA256}
use Rattle.hmac.specs.Hmac.{filled, key_block, xored, HMAC}
use Rattle.hmac.specs.Same.{same}
use Rattle.paper.specs.Act.{perform, moved, advance}
use Rattle.paper.specs.Answer.{session_act, session_step, user_step, step, judged, written, answer, fresh_counter, formatted}
use Rattle.paper.specs.Bytes.{byte, two, four, part, over, string_at, behind, text_at, all_within}
use Rattle.paper.specs.Closing.{stale, effect, holds, shut, sealed, closing, carry_out, closed_literally}
use Rattle.paper.specs.Form.{only}
use Rattle.paper.specs.Mac.{mac_under}
use Rattle.paper.specs.Objects.{puk_record, make_puk_by, policy_record, make_policy_by, key_record, make_key_by, certified, set_path_by}
use Rattle.paper.specs.Pin.{pin_check, puk_check, clear, add_one, pin_missed, pin_hit, puk_missed, puk_hit}
use Rattle.paper.specs.Posting.{look, pending_record, post_by}
use Rattle.paper.specs.Records.{records_of, records, joined, at, block, zeros, is_free}
use Rattle.paper.specs.Sessions.{session_record, counted, create_session, close_by, abort_session}
use Rattle.paper.specs.Sound.{length_fits, sound}
use Rattle.paper.specs.Table.{obeys_table}
use Rattle.paper.specs.Text.{alphanumeric, utf8_from, format_fits, two_equal_from, three_equal_from, rising_from, falling_from, pattern_fits, pin_fits}
use Rattle.paper.specs.Users.{delete_key, unlock_key, new_pin, changed, change_pin, use_key}
use Rattle.paper.specs.Form.{Rec}
use Rattle.worked.specs.Hex.{row, answers}

abbrev pub call_1 : String
call_1 = "030001000000014e4ed5b0cb97843a3fc2fa5143f8f9a732cf238df97c14c63e72f67cd6dd19cb49"

abbrev pub call_2 : String
call_2 = "3200020000000100010004415554486aceba42a06dab3eb99677bf003e0eca97795bac0fc35b76b7510a8fcc9d1e5a"

abbrev pub store_0 : List Rec
store_0 =
    row "0600000000000003" ∷
    row "01010002000100000001000000000000025331000000000000000000000000000000000000000000000000000000000000024331000000000000000000000000000000000000000000000000000000000000000102030405060708090a0b0c0d0e0f101112131415161718191a1b1c1d1e1f000300090001" ∷
    row "04010000000100010001000000000000036b657900000000000000000000000000000000000000000000000000000000000000000000000000000000000000000000000000000000000000000000000000000e5055424c49432d4b45592d4f4e4500000000000000000000000000000000000000000000000000000000000000000000000000000000000000000000000000000000000000000000000000000000000000000000000000000000000000000000af230ad402ff8ad7743a884801a3b78ab186056cac1f3b32e5c293125f20c48b" ∷
    row "010100010002000000020000000000000253320000000000000000000000000000000000000000000000000000000000000243320000000000000000000000000000000000000000000000000000000000006465666768696a6b6c6d6e6f707172737475767778797a7b7c7d7e7f80818283000000090001" ∷
    row "" ∷ []

-- session 1 closes: its key is a closed session's from now on
abbrev pub store_1 : List Rec
store_1 =
    row "0600000000000003" ∷
    row "010200020001000000010000000000000253310000000000000000000000000000000000000000000000000000000000000243310000000000000000000000000000000000000000000000000000000000000000000000000000000000000000000000000000000000000000000000000000000500090001" ∷
    row "04010000000100010001000000000000036b657900000000000000000000000000000000000000000000000000000000000000000000000000000000000000000000000000000000000000000000000000000e5055424c49432d4b45592d4f4e4500000000000000000000000000000000000000000000000000000000000000000000000000000000000000000000000000000000000000000000000000000000000000000000000000000000000000000000af230ad402ff8ad7743a884801a3b78ab186056cac1f3b32e5c293125f20c48b" ∷
    row "010100010002000000020000000000000253320000000000000000000000000000000000000000000000000000000000000243320000000000000000000000000000000000000000000000000000000000006465666768696a6b6c6d6e6f707172737475767778797a7b7c7d7e7f80818283000000090001" ∷
    row "" ∷ []

pub step_1 : answers store_0 call_1 "" "0000000000246a0041ae4dbe153b98a82ed3558da612fc533a65a50ce27ecd296064724890" store_1
unfolding zeros_for padded initial word_at mixed next_word schedule T1 T2 round rounds sums compressed after SHA256 filled key_block xored HMAC same perform moved advance session_act session_step user_step step judged written answer fresh_counter formatted byte two four part over string_at behind text_at all_within stale effect holds shut sealed closing carry_out closed_literally only mac_under puk_record make_puk_by policy_record make_policy_by key_record make_key_by certified set_path_by pin_check puk_check clear add_one pin_missed pin_hit puk_missed puk_hit look pending_record post_by records_of records joined at block zeros is_free session_record counted create_session close_by abort_session length_fits sound obeys_table alphanumeric utf8_from format_fits two_equal_from three_equal_from rising_from falling_from pattern_fits pin_fits delete_key unlock_key new_pin changed change_pin use_key
step_1 = refl

-- session 2 asks for it
abbrev pub store_2 : List Rec
store_2 =
    row "0600000000000003" ∷
    row "010200020001000000010000000000000253310000000000000000000000000000000000000000000000000000000000000243310000000000000000000000000000000000000000000000000000000000000000000000000000000000000000000000000000000000000000000000000000000500090001" ∷
    row "04010000000100010001000000000000036b657900000000000000000000000000000000000000000000000000000000000000000000000000000000000000000000000000000000000000000000000000000e5055424c49432d4b45592d4f4e4500000000000000000000000000000000000000000000000000000000000000000000000000000000000000000000000000000000000000000000000000000000000000000000000000000000000000000000af230ad402ff8ad7743a884801a3b78ab186056cac1f3b32e5c293125f20c48b" ∷
    row "010100020002000000020000000000000253320000000000000000000000000000000000000000000000000000000000000243320000000000000000000000000000000000000000000000000000000000006465666768696a6b6c6d6e6f707172737475767778797a7b7c7d7e7f80818283000100090001" ∷
    row "05320000000200010002000000010001" ∷ []

pub step_2 : answers store_1 call_2 "01" "00000000000000000000000000000000000000000000000000000000000000000000000000" store_2
unfolding zeros_for padded initial word_at mixed next_word schedule T1 T2 round rounds sums compressed after SHA256 filled key_block xored HMAC same perform moved advance session_act session_step user_step step judged written answer fresh_counter formatted byte two four part over string_at behind text_at all_within stale effect holds shut sealed closing carry_out closed_literally only mac_under puk_record make_puk_by policy_record make_policy_by key_record make_key_by certified set_path_by pin_check puk_check clear add_one pin_missed pin_hit puk_missed puk_hit look pending_record post_by records_of records joined at block zeros is_free session_record counted create_session close_by abort_session length_fits sound obeys_table alphanumeric utf8_from format_fits two_equal_from three_equal_from rising_from falling_from pattern_fits pin_fits delete_key unlock_key new_pin changed change_pin use_key
step_2 = refl
