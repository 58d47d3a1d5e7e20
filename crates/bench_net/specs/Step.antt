-- What the code computes of a line; no public clause cites it.
use Rattle.std.specs.Prelude.{◌==◌, ℕ, suc, List, [], ◌∷◌, take, drop, Option, Some, None, if◌then◌else◌, codes}
use Rattle.std.specs.Option.{option_map, option_and_then}
use Rattle.std.specs.Str.{str_eq_ignore_ascii_case}
use Rattle.bench_net.specs.Gates.{function_of}
use Rattle.bench_net.specs.declared.line.Delimiter.TheVariants.{Open, Close, Comma, Equals}
use Rattle.bench_net.specs.Line.{is_gap, is_name_byte, is_net, Lexeme, word, delimiter, Form, nothing, input, output, gate}

-- the text without the spaces and tabs in front
abbrev pub skipped : List ℕ → List ℕ
skipped [] = []
skipped (b ∷ bs) = if is_gap b then skipped bs else b ∷ bs

-- how many name bytes stand in front
abbrev pub name_len : List ℕ → ℕ
name_len [] = 0
name_len (b ∷ bs) = if is_name_byte b then suc (name_len bs) else 0

-- what stands at the front: nothing more, no part, or a part with the rest
pub data Step : Type 0 where
  ends : Step
  bad : Step
  begins : Lexeme → List ℕ → Step

-- a byte that begins no name, and the rest
abbrev pub delimiter_step : ℕ → List ℕ → Step
delimiter_step b bs =
    if b == 35 then ends
    else (if b == 40 then begins (delimiter Open) bs
    else (if b == 41 then begins (delimiter Close) bs
    else (if b == 44 then begins (delimiter Comma) bs
    else (if b == 61 then begins (delimiter Equals) bs
    else bad))))

-- what stands at the front of a text that begins with no space and no tab
abbrev pub front_step : List ℕ → Step
front_step [] = ends
front_step (b ∷ bs) =
    if is_name_byte b then begins (word (take (name_len (b ∷ bs)) (b ∷ bs)))
    (drop (name_len (b ∷ bs)) (b ∷ bs))
    else delimiter_step b bs

-- the net in parentheses, behind the opening one
abbrev pub enclosed_of : List Lexeme → Option (List ℕ)
enclosed_of [] = None
enclosed_of (delimiter m ∷ ps) = None
enclosed_of (word n ∷ []) = None
enclosed_of (word n ∷ word v ∷ ps) = None
enclosed_of (word n ∷ delimiter Open ∷ ps) = None
enclosed_of (word n ∷ delimiter Comma ∷ ps) = None
enclosed_of (word n ∷ delimiter Equals ∷ ps) = None
enclosed_of (word n ∷ delimiter Close ∷ []) = if is_net n then Some n else None
enclosed_of (word n ∷ delimiter Close ∷ p ∷ ps) = None

-- nothing behind the closing parenthesis
abbrev pub last_pin : List Lexeme → Option (List (List ℕ))
last_pin [] = Some []
last_pin (p ∷ ps) = None

-- one or more nets with commas between them, behind the opening parenthesis
abbrev pub pins_read : List Lexeme → Option (List (List ℕ))
pins_read [] = None
pins_read (delimiter m ∷ ps) = None
pins_read (word n ∷ []) = None
pins_read (word n ∷ word v ∷ ps) = None
pins_read (word n ∷ delimiter Open ∷ ps) = None
pins_read (word n ∷ delimiter Equals ∷ ps) = None
pins_read (word n ∷ delimiter Comma ∷ ps) = if is_net n then option_map (λ ns. n ∷ ns) (pins_read ps)
    else None
pins_read (word n ∷ delimiter Close ∷ ps) = if is_net n then option_map (λ ns. n ∷ ns) (last_pin ps)
    else None

-- what stands behind `net =`
abbrev pub call_of : List ℕ → List Lexeme → Option Form
call_of n [] = None
call_of n (delimiter m ∷ ps) = None
call_of n (word w ∷ []) = None
call_of n (word w ∷ word v ∷ ps) = None
call_of n (word w ∷ delimiter Close ∷ ps) = None
call_of n (word w ∷ delimiter Comma ∷ ps) = None
call_of n (word w ∷ delimiter Equals ∷ ps) = None
call_of n (word w ∷ delimiter Open ∷ ps) = option_and_then (λ f. option_map (gate n f) (pins_read ps))
    (function_of w)

-- what stands behind `INPUT(` or `OUTPUT(`
abbrev pub declared_of : List ℕ → List Lexeme → Option Form
declared_of w ps =
    if str_eq_ignore_ascii_case w (codes "INPUT") then option_map input (enclosed_of ps)
    else (if str_eq_ignore_ascii_case w (codes "OUTPUT") then option_map output (enclosed_of ps)
    else None)

-- what stands behind the first word
abbrev pub after_word : List ℕ → List Lexeme → Option Form
after_word w [] = None
after_word w (word v ∷ ps) = None
after_word w (delimiter Open ∷ ps) = declared_of w ps
after_word w (delimiter Close ∷ ps) = None
after_word w (delimiter Comma ∷ ps) = None
after_word w (delimiter Equals ∷ ps) = if is_net w then call_of w ps else None

-- what the parts of a line that isn't empty say
abbrev pub led_of : List Lexeme → Option Form
led_of [] = None
led_of (delimiter m ∷ ps) = None
led_of (word w ∷ ps) = after_word w ps

-- what the parts of a line say
abbrev pub line_of : List Lexeme → Option Form
line_of [] = Some nothing
line_of (p ∷ ps) = led_of (p ∷ ps)
