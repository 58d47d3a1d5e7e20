-- What the plain slow search for the fault of tokens asks of them. No public clause cites this file.
use Rattle.std.specs.Prelude.{ℕ, zero, suc, ◌+◌, ◌==◌, nat_lt, if◌then◌else◌, Bool, false, ◌&&◌, List, [], ◌∷◌, length, take, slice_get, Option, Some, None}
use Rattle.std.specs.List.{list_any}
use Rattle.stil_lex.specs.declared.token.Token.{Token}
use Rattle.stil_tree.specs.Signs.{open_brace, close_brace, is_sign, is_delimiter}
use Rattle.stil_tree.specs.Blocks.{open_braces}
use Rattle.stil_tree.specs.Grammar.{most_levels}
use Rattle.stil_tree.specs.declared.fault.TreeFault.{TreeFault}
use Rattle.stil_tree.specs.declared.fault.TreeFault.TheVariants.{OpenBlock, OpenStatement, StrayClose, TooDeep}

-- where the head begins that is not finished behind the tokens: the first index from which on no delimiter stands
abbrev pub head_start : List Token → ℕ
head_start [] = 0
head_start (t ∷ ts) = if list_any is_delimiter (t ∷ ts) then 1 + head_start ts else 0

-- whether a token is a `{` with which so many braces are open, where `before` are open before it
abbrev pub opens_if : ℕ → ℕ → Option Token → Bool
opens_if before braces None = false
opens_if before braces (Some t) = is_sign open_brace t && before + 1 == braces

-- whether the token at the index is
abbrev pub opens_at : ℕ → List Token → ℕ → Bool
opens_at braces tokens index = opens_if (open_braces (take index tokens)) braces (slice_get tokens index)

-- the last such index among the first so many
abbrev pub last_opening : ℕ → List Token → ℕ → ℕ
last_opening braces tokens zero = 0
last_opening braces tokens (suc n) = if opens_at braces tokens n then n else last_opening braces tokens n

-- the refusal of a head that is not finished where it must be
abbrev pub unfinished : List Token → Option TreeFault
unfinished tokens =
    if nat_lt (head_start tokens) (length tokens) then Some (OpenStatement (head_start tokens)) else None

-- the refusal of a `}` behind the tokens
abbrev pub refusal_at_close : List Token → Option TreeFault
refusal_at_close front = if open_braces front == 0 then Some (StrayClose (length front)) else unfinished front

-- the refusal of a token behind others
abbrev pub refusal_at : List Token → Token → Option TreeFault
refusal_at front t =
    if is_sign open_brace t && open_braces front == most_levels then Some (TooDeep (length front))
    else if is_sign close_brace t then refusal_at_close front
    else None

-- the refusal of the end of the tokens
abbrev pub refusal_at_end : List Token → Option TreeFault
refusal_at_end tokens =
    if nat_lt 0 (open_braces tokens) then Some (OpenBlock (last_opening (open_braces tokens) tokens (length tokens)))
    else unfinished tokens
