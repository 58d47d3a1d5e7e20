-- Indices and references to signals at the front of a head, and what stands behind them.
use Rattle.std.specs.Prelude.{ℕ, ◌^◌, ◌&&◌, nat_lt, if◌then◌else◌, List, [], ◌∷◌, Option, Some, None, option_map}
use Rattle.std.specs.Option.{option_and_then}
use Rattle.stil_form.specs.declared.part.SignKind.TheVariants.{Open, Close, Dot}
use Rattle.stil_form.specs.declared.front.Span.{Span}
use Rattle.stil_form.specs.declared.front.Reference.{Reference}
use Rattle.stil_form.specs.declared.front.Reference.TheVariants as reference
use Rattle.stil_form.specs.Lexeme.{Lexeme, word, text, sign}
use Rattle.text_bytes.specs.Numbers.{number_by}
use Rattle.stil_form.specs.Words.{named_by}

-- the number that a word of digits is
abbrev pub index_by : Lexeme → Option ℕ
index_by (word digits) = number_by digits
index_by _ = None

-- the indices up to this last one, and what stands behind them
abbrev pub spanned : ℕ → List Lexeme → ℕ → Span × List Lexeme
spanned first rest last = (record { first = first; last = last }, rest)

-- the last index: `n]`
abbrev pub last_front : ℕ → List Lexeme → Option (Span × List Lexeme)
last_front first (last ∷ sign Close ∷ rest) = option_map (spanned first rest) (index_by last)
last_front first _ = None

-- what stands behind the first index: `]`, or `..n]`
abbrev pub behind_first : List Lexeme → ℕ → Option (Span × List Lexeme)
behind_first (sign Close ∷ rest) first = Some (spanned first rest first)
behind_first (sign Dot ∷ sign Dot ∷ rest) first = last_front first rest
behind_first _ first = None

-- indices behind their `[`
abbrev pub opened_front : List Lexeme → Option (Span × List Lexeme)
opened_front (first ∷ rest) = option_and_then (behind_first rest) (index_by first)
opened_front _ = None

-- indices in brackets: `[n]` or `[n..n]`
abbrev pub index_front : List Lexeme → Option (Span × List Lexeme)
index_front (sign Open ∷ rest) = opened_front rest
index_front _ = None

-- a reference without where its text lies in memory: a name with indices or without, or the text of a group expression
pub data Ref : Type 0 where
  named : List ℕ → Option Span → Ref
  group : List ℕ → Ref

-- what a reference names
abbrev pub ref_of : Reference → Ref
ref_of (reference.Name called span) = named called.now span
ref_of (reference.Group expression) = group expression.now

-- a name with these indices, and what stands behind them
abbrev pub ranged : List ℕ → Span × List Lexeme → Ref × List Lexeme
ranged called found = (named called (Some found.0), found.1)

-- a reference that begins with this name: indices follow where a `[` does
abbrev pub behind_name : List Lexeme → List ℕ → Option (Ref × List Lexeme)
behind_name (sign Open ∷ rest) called = option_map (ranged called) (opened_front rest)
behind_name rest called = Some (named called None, rest)

-- a reference: a name, `name[n]`, `name[n..n]`, or a text
abbrev pub reference_front : List Lexeme → Option (Ref × List Lexeme)
reference_front (text expression ∷ rest) = Some (group expression, rest)
reference_front (called ∷ rest) = option_and_then (behind_name rest) (named_by called)
reference_front [] = None

-- the two indices, where each is at most 2^32 - 1
abbrev pub indices_of : Span → Option (ℕ × ℕ)
indices_of span = if nat_lt span.first (2 ^ 32) && nat_lt span.last (2 ^ 32) then Some (span.first, span.last) else None
