-- A text that is a line is taken as that line.
use Rattle.std.proofs.Common.{◌≡◌, ℕ, Bool, true, false, List, None, sym, ◌∙◌, subst}
use Rattle.vcd_text.specs.Dump.{Line, spelled}
use Rattle.vcd_text.specs.Standing.{Standing, behind, FitsLine}
use Rattle.vcd_text.specs.Seen.{Takes, TakesText}
use Rattle.vcd_text.proofs.SpellingLemmas.{one_line}

-- whether a text is taken, by its line
pub takes_text : (old new : Standing) (line : Line) (text : List ℕ) (took : Bool) → FitsLine line → text ≡ spelled line
    → Takes old line took new → TakesText old text took new
takes_text old new line text true fits is took = (line, fits, is, took)
takes_text old new line text false fits is took = λ other good same.
    let one : line ≡ other = one_line line other fits good (sym is ∙ same) in
    subst (λ (l : Line). behind old l ≡ None) one took
