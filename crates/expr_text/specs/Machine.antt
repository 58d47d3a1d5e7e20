-- What the code does at each lexeme. No public clause cites this file.
use Rattle.std.specs.Prelude.{ℕ, Bool, true, ◌&&◌, ◌==◌, if◌then◌else◌, List, [], ◌∷◌, length, Option, Some, None, option_map}
use Rattle.std.specs.List.{list_all}
use Rattle.expr_text.specs.Tree.{Tree, number, name, chain, linked, extreme, also}
use Rattle.expr_text.specs.Lexeme.{Lexeme, literal, word, operator, opening, comma, closing, is_in_range}
use Rattle.expr_text.specs.Front.{lexed}
use Rattle.expr_text.specs.Grammar.{most_parens}
use Rattle.expr_text.specs.declared.expr.Operator.{Operator}
use Rattle.expr_text.specs.declared.expr.Operator.TheVariants.{Plus, Minus, Times, Over}
use Rattle.expr_text.specs.declared.expr.Bound.{Bound}

-- operands that are joined so far, and the operator behind the last of them
pub record Unfinished : Type 0 where
  pub tree : Tree
  pub next : Operator

-- the operands before, if there are any, with one more
abbrev pub finished_by : Option Unfinished → Tree → Tree
finished_by None t = t
finished_by (Some u) t = linked u.tree u.next t

-- the same, where an operator follows
abbrev pub grown_by : Option Unfinished → Tree → Operator → Option Unfinished
grown_by None t op = Some (record { tree = chain t; next = op })
grown_by (Some u) t op = Some (record { tree = linked u.tree u.next t; next = op })

-- a sum up to a factor: the terms before, and the factors before in the last term
pub record Sum : Type 0 where
  pub terms : Option Unfinished
  pub factors : Option Unfinished

-- a sum of which nothing is read
abbrev pub nothing : Sum
nothing = record { terms = None; factors = None }

-- the sum with its last factor
abbrev pub total : Sum → Tree → Tree
total s t = finished_by s.terms (finished_by s.factors t)

-- what a parenthesis is for: a sum, or the operands of `min` or `max`, of which none is done, or some
pub data Purpose : Type 0 where
  grouping : Purpose
  no_operand : Bound → Purpose
  some_operands : Tree → Purpose

-- an open parenthesis: the sum around it, and its purpose
pub record Frame : Type 0 where
  pub around : Sum
  pub purpose : Purpose

-- the open parentheses, the innermost first, and the innermost sum, before a factor, or with one; or a refusal
pub data State : Type 0 where
  before : List Frame → Sum → State
  behind : List Frame → Sum → Tree → State
  refused : State

-- an operator behind a factor
abbrev pub with_operator : Sum → Tree → Operator → Sum
with_operator s t Plus = record { terms = grown_by s.terms (finished_by s.factors t) Plus; factors = None }
with_operator s t Minus = record { terms = grown_by s.terms (finished_by s.factors t) Minus; factors = None }
with_operator s t Times = record { terms = s.terms; factors = grown_by s.factors t Times }
with_operator s t Over = record { terms = s.terms; factors = grown_by s.factors t Over }

-- the purpose of a parenthesis that opens
abbrev pub purpose_of : Option Bound → Purpose
purpose_of None = grouping
purpose_of (Some bound) = no_operand bound

-- a parenthesis opens
abbrev pub opened : List Frame → Sum → Option Bound → State
opened fs s bound =
    if length fs == most_parens then refused
    else before (record { around = s; purpose = purpose_of bound } ∷ fs) nothing

-- a sum ends at a comma
abbrev pub separated_in : Purpose → Sum → List Frame → Tree → State
separated_in grouping around fs t = refused
separated_in (no_operand bound) around fs t =
    before (record { around = around; purpose = some_operands (extreme bound t) } ∷ fs) nothing
separated_in (some_operands others) around fs t =
    before (record { around = around; purpose = some_operands (also others t) } ∷ fs) nothing

-- a comma, which is refused outside all parentheses
abbrev pub separated : List Frame → Tree → State
separated [] t = refused
separated (f ∷ fs) t = separated_in f.purpose f.around fs t

-- a sum ends at a closing parenthesis
abbrev pub closed_in : Purpose → Sum → List Frame → Tree → State
closed_in grouping around fs t = behind fs around t
closed_in (no_operand bound) around fs t = refused
closed_in (some_operands others) around fs t = behind fs around (also others t)

-- a closing parenthesis, which is refused outside all parentheses
abbrev pub closed : List Frame → Tree → State
closed [] t = refused
closed (f ∷ fs) t = closed_in f.purpose f.around fs t

-- a lexeme before a factor
abbrev pub first_step : List Frame → Sum → Lexeme → State
first_step fs s (literal n) = behind fs s (number n.value n.unit)
first_step fs s (word bytes) = behind fs s (name bytes)
first_step fs s (operator op) = refused
first_step fs s (opening bound) = opened fs s bound
first_step fs s comma = refused
first_step fs s closing = refused

-- a lexeme behind a factor
abbrev pub next_step : List Frame → Sum → Tree → Lexeme → State
next_step fs s t (literal n) = refused
next_step fs s t (word bytes) = refused
next_step fs s t (operator op) = before fs (with_operator s t op)
next_step fs s t (opening bound) = refused
next_step fs s t comma = separated fs (total s t)
next_step fs s t closing = closed fs (total s t)

-- the state behind one lexeme more
abbrev pub step : State → Lexeme → State
step (before fs s) l = first_step fs s l
step (behind fs s t) l = next_step fs s t l
step refused l = refused

-- the state behind lexemes
abbrev pub run : State → List Lexeme → State
run state [] = state
run state (l ∷ ls) = run (step state l) ls

-- the tree at the end, if no parenthesis is open and a factor is the last
abbrev pub outcome : State → Option Tree
outcome (before fs s) = None
outcome (behind [] s t) = Some (total s t)
outcome (behind (f ∷ fs) s t) = None
outcome refused = None

-- the tree of lexemes, if they have one
abbrev pub parsed : List Lexeme → Option Tree
parsed ls = outcome (run (before [] nothing) ls)

-- the tree behind these lexemes, if there is one, and whether they and those before are in range
abbrev pub outcome_from : State → Bool → Option (List Lexeme) → Option (Tree × Bool)
outcome_from state in_range None = None
outcome_from state in_range (Some ls) =
    option_map (λ t. (t, in_range && list_all is_in_range ls)) (outcome (run state ls))

-- the tree that a text spells, if there is one, and whether all its literals are in range
abbrev pub read_of : List ℕ → Option (Tree × Bool)
read_of text = outcome_from (before [] nothing) true (lexed 0 text)
