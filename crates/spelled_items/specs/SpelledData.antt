-- Data of an assignment: the items that tokens spell, and where tokens spell no item (IEEE 1450-1999, clause 21).
use Rattle.std.specs.Prelude.{◌≡◌, ◌≤◌, ◌<◌, ℕ, ◌==◌, not, Bool, true, false, List, [], ◌∷◌, ◌++◌, map, replicate, Some}
use Rattle.stil_lex.specs.declared.token.Token.{Token}
use Rattle.stil_form.specs.declared.fault.FormKind.{FormKind}
use Rattle.stil_form.specs.declared.fault.FormKind.TheVariants.{Shape, LeftOut, OutOfRange}
use Rattle.stil_form.specs.declared.part.SignKind.TheVariants.{Hash, Percent, Backslash}
use Rattle.stil_form.specs.Lexeme.{Lexeme, word, sign, lexeme_at}
use Rattle.text_bytes.specs.Numbers.{number_by}
use Rattle.text_bytes.specs.Limits.{most_repeats}
use Rattle.stil_ast.specs.Meaning.Statements.{Item, a_character, hash, percent}
use Rattle.pat_read.specs.Data as words

-- a unit: `#`, `%`, or a word of exactly one letter or digit
pub data IsUnit : Lexeme → Item → Type 0 where
  hash_unit : IsUnit (sign Hash) hash
  percent_unit : IsUnit (sign Percent) percent
  character_unit : (byte : ℕ) → (byte == 95) ≡ false → IsUnit (word (byte ∷ [])) (a_character byte)

-- `\rN`: a `\`, and directly behind it a word that is `r` and the digits of the number N
pub record Repeats (bytes : List ℕ) (slash behind : Token) (times : ℕ) : Type 0 where
  pub digits : List ℕ
  pub opened : lexeme_at bytes slash ≡ sign Backslash
  pub adjacent : behind.start ≡ slash.end
  pub spelled : lexeme_at bytes behind ≡ word (114 ∷ digits)
  pub number : number_by digits ≡ Some times

-- tokens spell items: nothing spells none; a word without `_` spells its characters, `#` and `%` themselves; `\rN` with
-- a unit behind it spells the unit N times, at most 2^20
pub data Spells (bytes : List ℕ) : List Token → List Item → Type 0 where
  no_items : Spells bytes [] []
  characters : (token : Token) (tokens : List Token) (items : List Item) (spelled : List ℕ)
      → lexeme_at bytes token ≡ word spelled → words.has_underscore spelled ≡ false
      → Spells bytes tokens items → Spells bytes (token ∷ tokens) (map a_character spelled ++ items)
  one_hash : (token : Token) (tokens : List Token) (items : List Item)
      → lexeme_at bytes token ≡ sign Hash
      → Spells bytes tokens items → Spells bytes (token ∷ tokens) (hash ∷ items)
  one_percent : (token : Token) (tokens : List Token) (items : List Item)
      → lexeme_at bytes token ≡ sign Percent
      → Spells bytes tokens items → Spells bytes (token ∷ tokens) (percent ∷ items)
  repeated : (slash behind unit : Token) (tokens : List Token) (items : List Item) (times : ℕ) (item : Item)
      → Repeats bytes slash behind times → IsUnit (lexeme_at bytes unit) item → times ≤ most_repeats
      → Spells bytes tokens items
      → Spells bytes (slash ∷ behind ∷ unit ∷ tokens) (replicate times item ++ items)

-- a token that an item may begin with: a word without `_`, `#`, `%` or `\`
abbrev pub may_begin : Lexeme → Bool
may_begin (word spelled) = not (words.has_underscore spelled)
may_begin (sign Hash) = true
may_begin (sign Percent) = true
may_begin (sign Backslash) = true
may_begin _ = false

-- a word behind a `\` that is a form of data which this profile leaves out
abbrev pub is_left_out : Lexeme → Bool
is_left_out (word spelled) = words.is_left_out spelled
is_left_out _ = false

-- tokens that begin with no item, and why: a token that begins none; a `\` with nothing, a form that is left out, or
-- what is neither that nor `rN` behind it; `\rN` without a unit; a unit that is repeated too often
pub data Fails (bytes : List ℕ) : List Token → FormKind → Type 0 where
  no_beginning : (token : Token) (tokens : List Token)
      → may_begin (lexeme_at bytes token) ≡ false → Fails bytes (token ∷ tokens) Shape
  nothing_behind : (slash : Token) → lexeme_at bytes slash ≡ sign Backslash → Fails bytes (slash ∷ []) Shape
  left_out : (slash behind : Token) (tokens : List Token)
      → lexeme_at bytes slash ≡ sign Backslash → is_left_out (lexeme_at bytes behind) ≡ true
      → Fails bytes (slash ∷ behind ∷ tokens) LeftOut
  no_form : (slash behind : Token) (tokens : List Token)
      → lexeme_at bytes slash ≡ sign Backslash → is_left_out (lexeme_at bytes behind) ≡ false
      → ((times : ℕ) → Repeats bytes slash behind times → ⊥)
      → Fails bytes (slash ∷ behind ∷ tokens) Shape
  no_more : (slash behind : Token) (times : ℕ) → Repeats bytes slash behind times
      → Fails bytes (slash ∷ behind ∷ []) Shape
  no_unit : (slash behind other : Token) (tokens : List Token) (times : ℕ) → Repeats bytes slash behind times
      → ((item : Item) → IsUnit (lexeme_at bytes other) item → ⊥)
      → Fails bytes (slash ∷ behind ∷ other ∷ tokens) Shape
  too_often : (slash behind unit : Token) (tokens : List Token) (times : ℕ) (item : Item)
      → Repeats bytes slash behind times → IsUnit (lexeme_at bytes unit) item → most_repeats < times
      → Fails bytes (slash ∷ behind ∷ unit ∷ tokens) OutOfRange

-- the first fault from the left: tokens that spell items, and what begins with no item
pub record StopsAt (bytes : List ℕ) (tokens : List Token) (kind : FormKind) : Type 0 where
  pub front : List Token
  pub items : List Item
  pub rest : List Token
  pub split : tokens ≡ front ++ rest
  pub spelled : Spells bytes front items
  pub fails : Fails bytes rest kind
