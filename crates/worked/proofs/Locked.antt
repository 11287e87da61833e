-- A PIN that locks, and the PUK that unlocks it. Each step: the records before, a call with its chip bytes, the reply, the records after.
-- Written by scripts/worked.py.
use mathlib.Core.Path.{refl}
use mathlib.Core.List.{List, [], ◌∷◌}
use Prim.Native.String.{String}
use Rattle.sha256.specs.Sha256.{zeros_for, padded, initial, word_at, mixed, next_word, schedule, T1, T2, round, rounds, sums, compressed, after, SHA256}
use Rattle.hmac.specs.Hmac.{filled, key_block, xored, HMAC}
use Rattle.hmac.specs.Same.{same}
use Rattle.paper.specs.Act.{perform, moved, advance}
use Rattle.paper.specs.Answer.{session_act, session_step, user_step, step, judged, written, answer, fresh_counter, formatted}
use Rattle.paper.specs.Bytes.{byte, two, four, part, over, string_at, behind, text_at, all_within}
use Rattle.paper.specs.Closing.{stale, effect, holds, shut, sealed, closing, carry_out, closed_literally}
use Rattle.paper.specs.Form.{only}
use Rattle.paper.specs.Mac.{mac_under}
use Rattle.paper.specs.Objects.{puk_record, make_puk_by, policy_record, make_policy_by, key_record, make_key_by, certified, set_path_by}
use Rattle.paper.specs.Pin.{pin_check, puk_check, clear, add_one, pin_missed, pin_hit, puk_missed, puk_hit}
use Rattle.paper.specs.Posting.{look, pending_record, post_by}
use Rattle.paper.specs.Records.{records_of, records, joined, at, block, zeros, is_free}
use Rattle.paper.specs.Sessions.{session_record, counted, create_session, close_by, abort_session}
use Rattle.paper.specs.Sound.{length_fits, sound}
use Rattle.paper.specs.Table.{obeys_table}
use Rattle.paper.specs.Text.{alphanumeric, utf8_from, format_fits, two_equal_from, three_equal_from, rising_from, falling_from, pattern_fits, pin_fits}
use Rattle.paper.specs.Users.{delete_key, unlock_key, new_pin, changed, change_pin, use_key}
use Rattle.paper.specs.Form.{Rec}
use Rattle.worked.specs.Hex.{row, answers}

abbrev pub store_0 : List Rec
store_0 =
    row "0600000000000002" ∷
    row "010200040001000000010000000000000253310000000000000000000000000000000000000000000000000000000000000243310000000000000000000000000000000000000000000000000000000000000000000000000000000000000000000000000000000000000000000000000000000700090001" ∷
    row "020003000001000100010000000000000370756b0000000000000000000000000000000000000000000000000000000000083132333435363738" ∷
    row "0300030000010002000100000001000103706f6c00000000000000000000000000000000000000000000000000000000000101000408" ∷
    row "04010102000100030001000000010002036b657900000000000000000000000000000000000000000000000000000000000431323435000000000000000000000000000000000000000000000000000000000e5055424c49432d4b45592d4f4e4500000000000000000000000000000000000000000000000000000000000000000000000000000000000000000000000000000000000000000000000000000000000000000000000000000000000000000000af230ad402ff8ad7743a884801a3b78ab186056cac1f3b32e5c293125f20c48b" ∷ []

-- a wrong PIN is counted
abbrev pub store_1 : List Rec
store_1 =
    row "0600000000000002" ∷
    row "010200040001000000010000000000000253310000000000000000000000000000000000000000000000000000000000000243310000000000000000000000000000000000000000000000000000000000000000000000000000000000000000000000000000000000000000000000000000000700090001" ∷
    row "020003000001000100010000000000000370756b0000000000000000000000000000000000000000000000000000000000083132333435363738" ∷
    row "0300030000010002000100000001000103706f6c00000000000000000000000000000000000000000000000000000000000101000408" ∷
    row "04010202000100030001000000010002036b657900000000000000000000000000000000000000000000000000000000000431323435000000000000000000000000000000000000000000000000000000000e5055424c49432d4b45592d4f4e4500000000000000000000000000000000000000000000000000000000000000000000000000000000000000000000000000000000000000000000000000000000000000000000000000000000000000000000af230ad402ff8ad7743a884801a3b78ab186056cac1f3b32e5c293125f20c48b" ∷ []

abbrev pub call_1 : String
call_1 = "6400010003000439393939"

pub step_1 : answers store_0 call_1 "" "01000000000000000000000000000000000000000000000000000000000000000000000000" store_1
unfolding zeros_for padded initial word_at mixed next_word schedule T1 T2 round rounds sums compressed after SHA256 filled key_block xored HMAC same perform moved advance session_act session_step user_step step judged written answer fresh_counter formatted byte two four part over string_at behind text_at all_within stale effect holds shut sealed closing carry_out closed_literally only mac_under puk_record make_puk_by policy_record make_policy_by key_record make_key_by certified set_path_by pin_check puk_check clear add_one pin_missed pin_hit puk_missed puk_hit look pending_record post_by records_of records joined at block zeros is_free session_record counted create_session close_by abort_session length_fits sound obeys_table alphanumeric utf8_from format_fits two_equal_from three_equal_from rising_from falling_from pattern_fits pin_fits delete_key unlock_key new_pin changed change_pin use_key
step_1 = refl

-- the right one clears the count
abbrev pub store_2 : List Rec
store_2 =
    row "0600000000000002" ∷
    row "010200040001000000010000000000000253310000000000000000000000000000000000000000000000000000000000000243310000000000000000000000000000000000000000000000000000000000000000000000000000000000000000000000000000000000000000000000000000000700090001" ∷
    row "020003000001000100010000000000000370756b0000000000000000000000000000000000000000000000000000000000083132333435363738" ∷
    row "0300030000010002000100000001000103706f6c00000000000000000000000000000000000000000000000000000000000101000408" ∷
    row "04010002000100030001000000010002036b657900000000000000000000000000000000000000000000000000000000000431323435000000000000000000000000000000000000000000000000000000000e5055424c49432d4b45592d4f4e4500000000000000000000000000000000000000000000000000000000000000000000000000000000000000000000000000000000000000000000000000000000000000000000000000000000000000000000af230ad402ff8ad7743a884801a3b78ab186056cac1f3b32e5c293125f20c48b" ∷ []

abbrev pub call_2 : String
call_2 = "6400010003000431323435"

pub step_2 : answers store_1 call_2 "" "00000000000000000000000000000000000000000000000000000000000000000000000000" store_2
unfolding zeros_for padded initial word_at mixed next_word schedule T1 T2 round rounds sums compressed after SHA256 filled key_block xored HMAC same perform moved advance session_act session_step user_step step judged written answer fresh_counter formatted byte two four part over string_at behind text_at all_within stale effect holds shut sealed closing carry_out closed_literally only mac_under puk_record make_puk_by policy_record make_policy_by key_record make_key_by certified set_path_by pin_check puk_check clear add_one pin_missed pin_hit puk_missed puk_hit look pending_record post_by records_of records joined at block zeros is_free session_record counted create_session close_by abort_session length_fits sound obeys_table alphanumeric utf8_from format_fits two_equal_from three_equal_from rising_from falling_from pattern_fits pin_fits delete_key unlock_key new_pin changed change_pin use_key
step_2 = refl

-- a wrong PIN
abbrev pub store_3 : List Rec
store_3 =
    row "0600000000000002" ∷
    row "010200040001000000010000000000000253310000000000000000000000000000000000000000000000000000000000000243310000000000000000000000000000000000000000000000000000000000000000000000000000000000000000000000000000000000000000000000000000000700090001" ∷
    row "020003000001000100010000000000000370756b0000000000000000000000000000000000000000000000000000000000083132333435363738" ∷
    row "0300030000010002000100000001000103706f6c00000000000000000000000000000000000000000000000000000000000101000408" ∷
    row "04010102000100030001000000010002036b657900000000000000000000000000000000000000000000000000000000000431323435000000000000000000000000000000000000000000000000000000000e5055424c49432d4b45592d4f4e4500000000000000000000000000000000000000000000000000000000000000000000000000000000000000000000000000000000000000000000000000000000000000000000000000000000000000000000af230ad402ff8ad7743a884801a3b78ab186056cac1f3b32e5c293125f20c48b" ∷ []

abbrev pub call_3 : String
call_3 = "6400010003000439393939"

pub step_3 : answers store_2 call_3 "" "01000000000000000000000000000000000000000000000000000000000000000000000000" store_3
unfolding zeros_for padded initial word_at mixed next_word schedule T1 T2 round rounds sums compressed after SHA256 filled key_block xored HMAC same perform moved advance session_act session_step user_step step judged written answer fresh_counter formatted byte two four part over string_at behind text_at all_within stale effect holds shut sealed closing carry_out closed_literally only mac_under puk_record make_puk_by policy_record make_policy_by key_record make_key_by certified set_path_by pin_check puk_check clear add_one pin_missed pin_hit puk_missed puk_hit look pending_record post_by records_of records joined at block zeros is_free session_record counted create_session close_by abort_session length_fits sound obeys_table alphanumeric utf8_from format_fits two_equal_from three_equal_from rising_from falling_from pattern_fits pin_fits delete_key unlock_key new_pin changed change_pin use_key
step_3 = refl

-- and another
abbrev pub store_4 : List Rec
store_4 =
    row "0600000000000002" ∷
    row "010200040001000000010000000000000253310000000000000000000000000000000000000000000000000000000000000243310000000000000000000000000000000000000000000000000000000000000000000000000000000000000000000000000000000000000000000000000000000700090001" ∷
    row "020003000001000100010000000000000370756b0000000000000000000000000000000000000000000000000000000000083132333435363738" ∷
    row "0300030000010002000100000001000103706f6c00000000000000000000000000000000000000000000000000000000000101000408" ∷
    row "04010202000100030001000000010002036b657900000000000000000000000000000000000000000000000000000000000431323435000000000000000000000000000000000000000000000000000000000e5055424c49432d4b45592d4f4e4500000000000000000000000000000000000000000000000000000000000000000000000000000000000000000000000000000000000000000000000000000000000000000000000000000000000000000000af230ad402ff8ad7743a884801a3b78ab186056cac1f3b32e5c293125f20c48b" ∷ []

abbrev pub call_4 : String
call_4 = "6400010003000439393939"

pub step_4 : answers store_3 call_4 "" "01000000000000000000000000000000000000000000000000000000000000000000000000" store_4
unfolding zeros_for padded initial word_at mixed next_word schedule T1 T2 round rounds sums compressed after SHA256 filled key_block xored HMAC same perform moved advance session_act session_step user_step step judged written answer fresh_counter formatted byte two four part over string_at behind text_at all_within stale effect holds shut sealed closing carry_out closed_literally only mac_under puk_record make_puk_by policy_record make_policy_by key_record make_key_by certified set_path_by pin_check puk_check clear add_one pin_missed pin_hit puk_missed puk_hit look pending_record post_by records_of records joined at block zeros is_free session_record counted create_session close_by abort_session length_fits sound obeys_table alphanumeric utf8_from format_fits two_equal_from three_equal_from rising_from falling_from pattern_fits pin_fits delete_key unlock_key new_pin changed change_pin use_key
step_4 = refl

-- the third locks the key
abbrev pub store_5 : List Rec
store_5 =
    row "0600000000000002" ∷
    row "010200040001000000010000000000000253310000000000000000000000000000000000000000000000000000000000000243310000000000000000000000000000000000000000000000000000000000000000000000000000000000000000000000000000000000000000000000000000000700090001" ∷
    row "020003000001000100010000000000000370756b0000000000000000000000000000000000000000000000000000000000083132333435363738" ∷
    row "0300030000010002000100000001000103706f6c00000000000000000000000000000000000000000000000000000000000101000408" ∷
    row "04010302000100030001000000010002036b657900000000000000000000000000000000000000000000000000000000000431323435000000000000000000000000000000000000000000000000000000000e5055424c49432d4b45592d4f4e4500000000000000000000000000000000000000000000000000000000000000000000000000000000000000000000000000000000000000000000000000000000000000000000000000000000000000000000af230ad402ff8ad7743a884801a3b78ab186056cac1f3b32e5c293125f20c48b" ∷ []

abbrev pub call_5 : String
call_5 = "6400010003000439393939"

pub step_5 : answers store_4 call_5 "" "01000000000000000000000000000000000000000000000000000000000000000000000000" store_5
unfolding zeros_for padded initial word_at mixed next_word schedule T1 T2 round rounds sums compressed after SHA256 filled key_block xored HMAC same perform moved advance session_act session_step user_step step judged written answer fresh_counter formatted byte two four part over string_at behind text_at all_within stale effect holds shut sealed closing carry_out closed_literally only mac_under puk_record make_puk_by policy_record make_policy_by key_record make_key_by certified set_path_by pin_check puk_check clear add_one pin_missed pin_hit puk_missed puk_hit look pending_record post_by records_of records joined at block zeros is_free session_record counted create_session close_by abort_session length_fits sound obeys_table alphanumeric utf8_from format_fits two_equal_from three_equal_from rising_from falling_from pattern_fits pin_fits delete_key unlock_key new_pin changed change_pin use_key
step_5 = refl

-- now the right one is refused, and nothing changes
abbrev pub store_6 : List Rec
store_6 =
    row "0600000000000002" ∷
    row "010200040001000000010000000000000253310000000000000000000000000000000000000000000000000000000000000243310000000000000000000000000000000000000000000000000000000000000000000000000000000000000000000000000000000000000000000000000000000700090001" ∷
    row "020003000001000100010000000000000370756b0000000000000000000000000000000000000000000000000000000000083132333435363738" ∷
    row "0300030000010002000100000001000103706f6c00000000000000000000000000000000000000000000000000000000000101000408" ∷
    row "04010302000100030001000000010002036b657900000000000000000000000000000000000000000000000000000000000431323435000000000000000000000000000000000000000000000000000000000e5055424c49432d4b45592d4f4e4500000000000000000000000000000000000000000000000000000000000000000000000000000000000000000000000000000000000000000000000000000000000000000000000000000000000000000000af230ad402ff8ad7743a884801a3b78ab186056cac1f3b32e5c293125f20c48b" ∷ []

abbrev pub call_6 : String
call_6 = "6400010003000431323435"

pub step_6 : answers store_5 call_6 "" "01000000000000000000000000000000000000000000000000000000000000000000000000" store_6
unfolding zeros_for padded initial word_at mixed next_word schedule T1 T2 round rounds sums compressed after SHA256 filled key_block xored HMAC same perform moved advance session_act session_step user_step step judged written answer fresh_counter formatted byte two four part over string_at behind text_at all_within stale effect holds shut sealed closing carry_out closed_literally only mac_under puk_record make_puk_by policy_record make_policy_by key_record make_key_by certified set_path_by pin_check puk_check clear add_one pin_missed pin_hit puk_missed puk_hit look pending_record post_by records_of records joined at block zeros is_free session_record counted create_session close_by abort_session length_fits sound obeys_table alphanumeric utf8_from format_fits two_equal_from three_equal_from rising_from falling_from pattern_fits pin_fits delete_key unlock_key new_pin changed change_pin use_key
step_6 = refl

-- a wrong PUK is counted, at the PUK
abbrev pub store_7 : List Rec
store_7 =
    row "0600000000000002" ∷
    row "010200040001000000010000000000000253310000000000000000000000000000000000000000000000000000000000000243310000000000000000000000000000000000000000000000000000000000000000000000000000000000000000000000000000000000000000000000000000000700090001" ∷
    row "020003010001000100010000000000000370756b0000000000000000000000000000000000000000000000000000000000083132333435363738" ∷
    row "0300030000010002000100000001000103706f6c00000000000000000000000000000000000000000000000000000000000101000408" ∷
    row "04010302000100030001000000010002036b657900000000000000000000000000000000000000000000000000000000000431323435000000000000000000000000000000000000000000000000000000000e5055424c49432d4b45592d4f4e4500000000000000000000000000000000000000000000000000000000000000000000000000000000000000000000000000000000000000000000000000000000000000000000000000000000000000000000af230ad402ff8ad7743a884801a3b78ab186056cac1f3b32e5c293125f20c48b" ∷ []

abbrev pub call_7 : String
call_7 = "5200010003000130"

pub step_7 : answers store_6 call_7 "" "01000000000000000000000000000000000000000000000000000000000000000000000000" store_7
unfolding zeros_for padded initial word_at mixed next_word schedule T1 T2 round rounds sums compressed after SHA256 filled key_block xored HMAC same perform moved advance session_act session_step user_step step judged written answer fresh_counter formatted byte two four part over string_at behind text_at all_within stale effect holds shut sealed closing carry_out closed_literally only mac_under puk_record make_puk_by policy_record make_policy_by key_record make_key_by certified set_path_by pin_check puk_check clear add_one pin_missed pin_hit puk_missed puk_hit look pending_record post_by records_of records joined at block zeros is_free session_record counted create_session close_by abort_session length_fits sound obeys_table alphanumeric utf8_from format_fits two_equal_from three_equal_from rising_from falling_from pattern_fits pin_fits delete_key unlock_key new_pin changed change_pin use_key
step_7 = refl

-- the right PUK unlocks
abbrev pub store_8 : List Rec
store_8 =
    row "0600000000000002" ∷
    row "010200040001000000010000000000000253310000000000000000000000000000000000000000000000000000000000000243310000000000000000000000000000000000000000000000000000000000000000000000000000000000000000000000000000000000000000000000000000000700090001" ∷
    row "020003000001000100010000000000000370756b0000000000000000000000000000000000000000000000000000000000083132333435363738" ∷
    row "0300030000010002000100000001000103706f6c00000000000000000000000000000000000000000000000000000000000101000408" ∷
    row "04010002000100030001000000010002036b657900000000000000000000000000000000000000000000000000000000000431323435000000000000000000000000000000000000000000000000000000000e5055424c49432d4b45592d4f4e4500000000000000000000000000000000000000000000000000000000000000000000000000000000000000000000000000000000000000000000000000000000000000000000000000000000000000000000af230ad402ff8ad7743a884801a3b78ab186056cac1f3b32e5c293125f20c48b" ∷ []

abbrev pub call_8 : String
call_8 = "520001000300083132333435363738"

pub step_8 : answers store_7 call_8 "" "00000000000000000000000000000000000000000000000000000000000000000000000000" store_8
unfolding zeros_for padded initial word_at mixed next_word schedule T1 T2 round rounds sums compressed after SHA256 filled key_block xored HMAC same perform moved advance session_act session_step user_step step judged written answer fresh_counter formatted byte two four part over string_at behind text_at all_within stale effect holds shut sealed closing carry_out closed_literally only mac_under puk_record make_puk_by policy_record make_policy_by key_record make_key_by certified set_path_by pin_check puk_check clear add_one pin_missed pin_hit puk_missed puk_hit look pending_record post_by records_of records joined at block zeros is_free session_record counted create_session close_by abort_session length_fits sound obeys_table alphanumeric utf8_from format_fits two_equal_from three_equal_from rising_from falling_from pattern_fits pin_fits delete_key unlock_key new_pin changed change_pin use_key
step_8 = refl
