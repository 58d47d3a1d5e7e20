-- The code's parts and lines, without where they lie in memory.
use Rattle.std.specs.Prelude.{ℕ, List, map}
use Rattle.std.specs.Borrow.{Bor}
use Rattle.bench_net.specs.declared.line.Delimiter.{Delimiter}
use Rattle.bench_net.specs.declared.line.Part.{Part}
use Rattle.bench_net.specs.declared.line.Part.TheVariants as parts
use Rattle.bench_net.specs.declared.line.Front.{Front}
use Rattle.bench_net.specs.declared.line.Front.TheVariants as fronts
use Rattle.bench_net.specs.declared.line.Line.{Line}
use Rattle.bench_net.specs.declared.line.Line.TheVariants as lines
use Rattle.bench_net.specs.Line.{Lexeme, word, delimiter, Form, nothing, input, output, gate}
use Rattle.bench_net.specs.Step.{Step, ends, bad, begins}

-- a delimiter as a part
abbrev pub delimiter_part : Delimiter → Lexeme
delimiter_part m = delimiter m

-- a part
abbrev pub lexeme_of : Part → Lexeme
lexeme_of (parts.Word w) = word w.now
lexeme_of (parts.Delimiter m) = delimiter m

-- what stands at the front of a text
abbrev pub step_of_front : Front → Step
step_of_front fronts.Ends = ends
step_of_front fronts.Bad = bad
step_of_front (fronts.Begins p rest) = begins (lexeme_of p) rest.now

-- the texts that the references point to
abbrev pub texts : List (Bor (List ℕ)) → List (List ℕ)
texts names = map (λ n. n.now) names

-- what a line says
abbrev pub form_of : Line → Form
form_of lines.Nothing = nothing
form_of (lines.Input n) = input n.now
form_of (lines.Output n) = output n.now
form_of (lines.Gate n f pins) = gate n.now f (texts pins.items)
