use Rattle.std.proofs.Common.{◌≡◌, ℕ, List, ◌≤◌, ◌+◌, ◌++◌, length, refl, ap, sym, subst, ◌∙◌, arith}
use Rattle.std.specs.List.{flat_map, range_with_len}
use Rattle.text_bytes.specs.Limits.{most_bytes}
use Rattle.drill_fine.specs.Texts.{vectors, vector_line, stil_head, stil_tail, stil_text}
use Rattle.drill_fine.proofs.NumberedLines.{goes_on}
use Rattle.drill_fine.proofs.TextLemmas.{length-stil_text}
use Rattle.stil_tool.proofs.drill_program.stil_text.Goals as goal
use Rattle.stil_tool.proofs.drill_program.stil_text.Goals.{In_ok-put_tail}

pub loop-place-preserved : goal.loop-place-preserved
loop-place-preserved c =
    let place = c.loop-place.place in
    let line = vector_line c.args.number in
    let on = goes_on line stil_head _ 0 place (place + 1) place (omega arith) refl c.loop-place.invariant in
    cc (c.in_ok-put_vector.ensures, c.from.ensures)

-- the text is the whole
whole : (c : In_ok-put_tail) → c.put_tail.new.text.items ≡ stil_text c.args.number
unfolding stil_text
whole c =
    let all : c.loop-place.place ≡ vectors c.args.number = omega arith in
    let lines = λ (n : ℕ). flat_map (vector_line c.args.number) (range_with_len 0 n) in
    c.in_ok-put_tail.ensures
    ∙ ap (λ (l : List ℕ). l ++ stil_tail) (c.loop-place.invariant ∙ ap (λ (n : ℕ). stil_head ++ lines n) all)

pub returns-clause-text : goal.returns-clause-text
returns-clause-text c = whole c

pub returns-clause-few : goal.returns-clause-few
returns-clause-few c =
    subst (λ (l : List ℕ). length l ≤ most_bytes) (sym (whole c)) (length-stil_text c.args.number (omega arith))
