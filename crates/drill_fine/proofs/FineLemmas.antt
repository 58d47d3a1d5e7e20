-- The text of a drill has no fault.
use Rattle.std.proofs.Common.{◌≡◌, ℕ, ◌+◌, ◌*◌, ◌≤◌, List, ◌∷◌, length, Option, None, sym, ap, ◌∙◌, arith}
use Rattle.std.specs.List.{range_with_len}
use Rattle.std.proofs.lemmas.List.FromFn.{length-range_with_len}
use Rattle.stil_lex.specs.declared.token.Token.{Token}
use Rattle.stil_form.specs.Setting.{line_at}
use Rattle.stil_ast.specs.Data.Bodies.{written_of}
use Rattle.stil_ast.specs.declared.fault.StilFault.{StilFault}
use Rattle.stil_ast.specs.Faults.Found.{or_else}
use Rattle.stil_ast.specs.Faults.ExecutiveFaults.{fifth_fault}
use Rattle.stil_ast.specs.Faults.CodeFaults.{sixth_fault}
use Rattle.stil_ast.specs.Faults.TextFaults.{blocks_fault}
use Rattle.stil_ast.specs.Faults.FrontFaults.{read_as, IsFaultOf}
use Rattle.stil_program.specs.Front.{IsFront}
use Rattle.time_expr.specs.TimesOf.{times_of}
use Rattle.drill_fine.specs.Texts.{vectors, stil_text}
use Rattle.drill_fine.specs.Said.{vectors_said}
use Rattle.drill_fine.proofs.SaidLemmas.{drill_tokens}
use Rattle.drill_fine.proofs.ReadLemmas.{stmts_from}
use Rattle.drill_fine.proofs.BlockLemmas.{wave_stmt, burst_at}
use Rattle.drill_fine.proofs.FrontLemmas.{blocks_for, drill_is_read}
use Rattle.drill_fine.proofs.CheckLemmas.{pattern_fine, pattern_goes_on}
use Rattle.drill_fine.proofs.PassLemmas.{fourth_fine, fifth_fine}
use Rattle.drill_fine.proofs.TreeLemmas.{sixth_fine}

-- the blocks of a drill have no fault
pub blocks_fine : (tokens : List Token) (n : ℕ) → n ≤ 200 → blocks_fault times_of (blocks_for tokens n) ≡ None
blocks_fine tokens n few =
    let is = range_with_len 0 (vectors n) in
    let body = written_of (wave_stmt ∷ stmts_from tokens n 72 is) in
    let a = line_at tokens (burst_at (vectors_said n) + 2 + 1 + 1 + 1) in
    let b = line_at tokens (burst_at (vectors_said n) + 2 + 1 + 5 + 1) in
    let c = line_at tokens (burst_at (vectors_said n) + 2 + 1 + 5 + 1 + 1 + 1) in
    let many : length is ≤ 200000 = omega (arith, length-range_with_len 0 (vectors n), few) in
    ap (λ (o : Option StilFault). or_else o (or_else (fifth_fault times_of (blocks_for tokens n)) (sixth_fault times_of (blocks_for tokens n)))) (fourth_fine body a b c)
    ∙ ap (λ (o : Option StilFault). or_else o (sixth_fault times_of (blocks_for tokens n)))
    (fifth_fine body a b c (1 + 4 * length is) (pattern_fine tokens n is many) (pattern_goes_on tokens n is))
    ∙ sixth_fine tokens n is a b c many

-- the text has no fault
pub text_fine : (n : ℕ) → n ≤ 200 → IsFaultOf times_of IsFront (stil_text n) None
text_fine n few = (read_as (blocks_for (drill_tokens n) n), drill_is_read n, sym (blocks_fine (drill_tokens n) n few))
