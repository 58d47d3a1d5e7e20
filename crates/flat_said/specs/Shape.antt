-- When statements have heads such as the grammar has them, however deep their blocks stand.
use Rattle.std.specs.Prelude.{Bool, true, ◌&&◌, nat_lt}
use Rattle.line_texts.specs.Said.{Said, no_more, space, statement, braced, count_of}
use Rattle.line_texts.specs.Tests.{is_head}

-- no head has a delimiter, and that of a statement without a block has a token
abbrev pub is_shaped : Said → Bool
is_shaped no_more = true
is_shaped (space text more) = is_shaped more
is_shaped (statement head more) = (nat_lt 0 (count_of head) && is_head head) && is_shaped more
is_shaped (braced head body more) = is_head head && (is_shaped body && is_shaped more)
