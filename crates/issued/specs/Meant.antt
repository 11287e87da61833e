-- An order that is written: each field in its range, each number of its field's width, and the call not too long. The width of a
-- number is that of its parameter in code, so the range that the issuer's half tests does not speak of it.
use Rattle.std.specs.Prelude.{List, ℕ, length}
use Rattle.paper.specs.Limits.{longest_call}
use Rattle.paper.specs.Form.{Form, ◌=<◌, ◌and◌}
use Rattle.paper.specs.Issuing.{Issuer, CloseOrder, close_ordered, close_call, PukOrder, puk_ordered, puk_call, PolicyOrder, policy_ordered, policy_call, KeyOrder, key_ordered, key_call, PathOrder, path_ordered, path_call, PostOrder, post_ordered, post_call}

abbrev pub fits_byte : ℕ → Form
fits_byte n = n =< 255

abbrev pub fits_two : ℕ → Form
fits_two n = n =< 65535

abbrev pub fits_four : ℕ → Form
fits_four n = n =< 4294967295

abbrev pub not_too_long : List ℕ → Form
not_too_long c = length c =< longest_call

abbrev pub close_meant : Issuer → CloseOrder → Form
close_meant i o = fits_four i.session and close_ordered i o and not_too_long (close_call i o)

abbrev pub puk_sized : Issuer → PukOrder → Form
puk_sized i o = fits_four i.session and fits_byte o.format and fits_byte o.retry

abbrev pub puk_meant : Issuer → PukOrder → Form
puk_meant i o = puk_sized i o and puk_ordered i o and not_too_long (puk_call i o)

-- the two flags are held by their range
abbrev pub policy_sized : Issuer → PolicyOrder → Form
policy_sized i o =
    fits_four i.session and fits_four o.puk and fits_byte o.format and fits_byte o.retry and fits_byte o.grouping
    and fits_byte o.patterns and fits_byte o.min_length and fits_byte o.max_length and fits_byte o.input

abbrev pub policy_meant : Issuer → PolicyOrder → Form
policy_meant i o = policy_sized i o and policy_ordered i o and not_too_long (policy_call i o)

abbrev pub key_sized : Issuer → KeyOrder → Form
key_sized i o =
    fits_four i.session and fits_four o.policy and fits_byte o.biometric and fits_byte o.export and fits_byte o.deletion
    and fits_byte o.usage and fits_two o.endorsed

abbrev pub key_meant : Issuer → KeyOrder → Form
key_meant i o = key_sized i o and key_ordered i o and not_too_long (key_call i o)

abbrev pub path_sized : Issuer → PathOrder → Form
path_sized i o = fits_four i.session and fits_four o.key and fits_byte o.count

abbrev pub path_meant : Issuer → PathOrder → Form
path_meant i o = path_sized i o and path_ordered i o and not_too_long (path_call i o)

abbrev pub post_sized : Issuer → PostOrder → Form
post_sized i o = fits_four i.session and fits_four o.key

abbrev pub post_meant : Issuer → PostOrder → Form
post_meant i o = post_sized i o and post_ordered i o and not_too_long (post_call i o)
