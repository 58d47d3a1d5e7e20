-- The fault of tokens that are no statements: the line is that of the token that the fault names, and the block is read
-- from the tokens before the place, and from the refused sign, if there is one.
use Rattle.std.specs.Prelude.{ℕ, ◌+◌, List, take, drop}
use Rattle.std.specs.List.{position_or_len}
use Rattle.stil_lex.specs.declared.token.Token.{Token}
use Rattle.stil_tree.specs.Signs.{close_brace, is_sign}
use Rattle.stil_tree.specs.Faults.{IsFault}
use Rattle.stil_tree.specs.declared.fault.TreeFault.{TreeFault}
use Rattle.stil_tree.specs.declared.fault.TreeFault.TheVariants.{NoMemory, OpenBlock, OpenStatement, StrayClose, TooDeep}
use Rattle.stil_form.specs.Setting.{line_at}
use Rattle.stil_ast.specs.declared.fault.StilKind.TheVariants as stil
use Rattle.stil_ast.specs.declared.fault.StilFault.{StilFault}
use Rattle.stil_program.specs.Places.{IsToldBehind}

-- the tokens before the `}` at which an unfinished head is met that begins at this index: before the first `}` behind
-- its first token, or all, where there is none
abbrev pub before_close : List Token → ℕ → List Token
before_close tokens first = take (first + position_or_len (is_sign close_brace) (drop first tokens)) tokens

-- what is told of a fault of statements
abbrev pub IsToldOf : List ℕ → List Token → TreeFault → StilFault → Type 0
IsToldOf bytes tokens NoMemory fault = ⊥
-- met at the text's end: the line is that of the innermost open `{`
IsToldOf bytes tokens (OpenBlock brace) fault =
    IsToldBehind bytes tokens stil.OpenBlock (line_at tokens brace) fault
-- met at a `}`, which isn't read, or at the text's end: the line is that of the unfinished head
IsToldOf bytes tokens (OpenStatement first) fault =
    IsToldBehind bytes (before_close tokens first) stil.OpenStatement (line_at tokens first) fault
-- met at a sign, which is read too: the line is the sign's
IsToldOf bytes tokens (StrayClose place) fault =
    IsToldBehind bytes (take (place + 1) tokens) stil.StrayClose (line_at tokens place) fault
IsToldOf bytes tokens (TooDeep place) fault =
    IsToldBehind bytes (take (place + 1) tokens) stil.TooDeep (line_at tokens place) fault

-- the fault of tokens without statements is this one
pub record IsStatementFault (bytes : List ℕ) (tokens : List Token) (fault : StilFault) : Type 0 where
  pub which : TreeFault
  pub refused : IsFault tokens which
  pub told : IsToldOf bytes tokens which fault
