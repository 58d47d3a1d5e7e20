-- What a line of a bench text says, by its spelling: an input, an output, or a net with its
-- function and the nets that this reads.
use Rattle.std.specs.Prelude.{◌≡◌, ◌==◌, ℕ, ◌<◌, Bool, true, false, not, ◌&&◌, ◌||◌, nat_le, List, [], ◌∷◌, ◌++◌, length, codes, Some}
use Rattle.std.specs.List.{AllPass}
use Rattle.std.specs.Str.{str_eq_ignore_ascii_case}
use Rattle.text_bytes.specs.Limits.{longest_name}
use Rattle.bench_net.specs.Gates.{function_of}
use Rattle.bench_net.specs.declared.gate.Function.{Function}
use Rattle.bench_net.specs.declared.line.Delimiter.{Delimiter}
use Rattle.bench_net.specs.declared.line.Delimiter.TheVariants.{Open, Close, Comma, Equals}

-- what parts words: a space or a tab. It is fewer bytes than the blanks of other texts
abbrev pub is_gap : ℕ → Bool
is_gap b = b == 32 || b == 9

-- a visible ASCII byte that is none of ( ) , = #
abbrev pub is_name_byte : ℕ → Bool
is_name_byte b = nat_le 33 b && nat_le b 126 && not (b == 40) && not (b == 41) && not
    (b == 44) && not (b == 61) && not (b == 35)

-- a part of a line: a word, or a delimiter
pub data Lexeme : Type 0 where
  word : List ℕ → Lexeme
  delimiter : Delimiter → Lexeme

-- the byte of a delimiter
abbrev pub delimiter_byte : Delimiter → ℕ
delimiter_byte Open = 40
delimiter_byte Close = 41
delimiter_byte Comma = 44
delimiter_byte Equals = 61

-- how a part is written
abbrev pub written : Lexeme → List ℕ
written (word w) = w
written (delimiter m) = delimiter_byte m ∷ []

-- whether the text goes on with a name's byte
abbrev pub goes_on : List ℕ → Bool
goes_on [] = false
goes_on (b ∷ bs) = is_name_byte b

-- a word is one or more name bytes, as many as stand there
abbrev pub IsPart : Lexeme → List ℕ → Type 0
IsPart (word w) rest = (0 < length w) × AllPass is_name_byte w × (goes_on rest ≡ false)
IsPart (delimiter m) rest = Unit {0}

-- nothing, or a comment, which runs to the line's end
abbrev pub IsComment : List ℕ → Type 0
IsComment [] = Unit {0}
IsComment (b ∷ bs) = b ≡ 35

-- the text ends: spaces and tabs, and a comment at most
pub record Ends (text : List ℕ) : Type 0 where
  pub gap : List ℕ
  pub rest : List ℕ
  pub whole : text ≡ gap ++ rest
  pub blank : AllPass is_gap gap
  pub comment : IsComment rest

-- the text begins with this part, after spaces and tabs, and goes on with the rest
pub record Begins (part : Lexeme) (text rest : List ℕ) : Type 0 where
  pub gap : List ℕ
  pub whole : text ≡ gap ++ (written part ++ rest)
  pub blank : AllPass is_gap gap
  pub part_is : IsPart part rest

-- the text is these parts in order, with spaces and tabs before, between and after them, and a comment at
-- most behind them
abbrev pub Spells : List Lexeme → List ℕ → Type 0
Spells [] text = Ends text
Spells (p ∷ ps) text = (rest : List ℕ) × Begins p text rest × Spells ps rest

-- what a line says; it says nothing where it is empty
pub data Form : Type 0 where
  nothing : Form
  input : List ℕ → Form
  output : List ℕ → Form
  gate : List ℕ → Function → List (List ℕ) → Form

-- the name of a net has at most 1,024 bytes
abbrev pub is_net : List ℕ → Bool
is_net name = nat_le (length name) longest_name

-- the net's name in parentheses
abbrev pub enclosed : List ℕ → List Lexeme
enclosed n = delimiter Open ∷ word n ∷ delimiter Close ∷ []

-- one or more nets with commas between them, up to the closing parenthesis
abbrev pub listed : List (List ℕ) → List Lexeme
listed [] = []
listed (p ∷ []) = word p ∷ delimiter Close ∷ []
listed (p ∷ q ∷ ps) = word p ∷ delimiter Comma ∷ listed (q ∷ ps)

-- the parts say this: INPUT(net), OUTPUT(net), or net = FUNCTION(net, net, ..)
abbrev pub Writes : Form → List Lexeme → Type 0
Writes nothing parts = parts ≡ []
Writes (input n) parts = (w : List ℕ) × (str_eq_ignore_ascii_case w (codes "INPUT") ≡ true)
    × (is_net n ≡ true) × (parts ≡ word w ∷ enclosed n)
Writes (output n) parts = (w : List ℕ) × (str_eq_ignore_ascii_case w (codes "OUTPUT") ≡ true)
    × (is_net n ≡ true) × (parts ≡ word w ∷ enclosed n)
Writes (gate n f pins) parts = (w : List ℕ) × (function_of w ≡ Some f) × (is_net n ≡ true)
    × (0 < length pins) × AllPass is_net pins
    × (parts ≡ word n ∷ delimiter Equals ∷ word w ∷ delimiter Open ∷ listed pins)

-- the line says this
pub record Says (line : List ℕ) (form : Form) : Type 0 where
  pub parts : List Lexeme
  pub spells : Spells parts line
  pub writes : Writes form parts
