-- A drill's blocks have no fault of signals, groups and executives.
use Rattle.std.proofs.Common.{◌≡◌, ℕ, Bool, false, [], None, refl, ap, ◌∙◌}
use Rattle.text_bytes.specs.Bytes.{is_blank, is_digit, begins_name, is_word}
use Rattle.stil_ast.specs.Data.Places.{of_pattern}
use Rattle.stil_ast.specs.Data.Written.{Written}
use Rattle.stil_ast.specs.Meaning.Resolved.{resolved}
use Rattle.stil_ast.specs.Meaning.Running.{stops}
use Rattle.stil_ast.specs.Meaning.Signals.{names_of}
use Rattle.stil_ast.specs.Meaning.Variables.{picked, variables_fault}
use Rattle.stil_ast.specs.Meaning.Chains.{chains_named, chains_fault}
use Rattle.stil_ast.specs.Meaning.Bursts.{played, exec_scans}
use Rattle.stil_ast.specs.Faults.SignalFaults.{fourth_fault}
use Rattle.stil_ast.specs.Faults.TableFaults.{tables_fault}
use Rattle.stil_ast.specs.Faults.BurstFaults.{exec_names_fault}
use Rattle.stil_ast.specs.Faults.AssignmentFaults.{Checked, fine}
use Rattle.stil_ast.specs.Faults.PatternFaults.{check_pattern}
use Rattle.stil_ast.specs.Faults.ExecutiveFaults.{timed_of, behind_pattern, check_patterns, fifth_fault}
use Rattle.expr_text.specs.Range.{divisor_of, remainders}
use Rattle.expr_text.specs.Ratio.{lowest, lowest_signed}
use Rattle.expr_text.specs.Front.{capped, unit_front, number_front, paren_len, short_name, word_front, sign_front, front_of, lexed}
use Rattle.time_expr.specs.TimesOf.{times_of}
use Rattle.drill_fine.specs.Blocks.{drill_exec, drill_blocks}
use Rattle.drill_fine.proofs.CheckLemmas.{drill_scope, at_count}

-- signals and groups
pub fourth_fine : (body : Written) (a b c : ℕ) → fourth_fault (drill_blocks body a b c) ≡ None
fourth_fine body a b c = refl

-- the executive's names
pub names_fine : (body : Written) (a b c : ℕ) → exec_names_fault (drill_blocks body a b c) (drill_exec b c) ≡ None
names_fine body a b c = refl

-- its variables
pub variables_fine : (body : Written) (a b c : ℕ) → variables_fault times_of (picked (drill_blocks body a b c) (drill_exec b c)) ≡ None
variables_fine body a b c = refl

-- its tables
pub tables_fine : (body : Written) (a b c : ℕ) → tables_fault (timed_of times_of (drill_blocks body a b c) (drill_exec b c)) 0 ≡ None
unfolding is_blank is_digit begins_name is_word capped paren_len short_name word_front unit_front number_front sign_front front_of lexed
    lowest lowest_signed divisor_of remainders
tables_fine body a b c = refl

-- its chains
pub chains_fine : (body : Written) (a b c : ℕ)
    → chains_fault (names_of (drill_blocks body a b c)) (exec_scans (drill_blocks body a b c) (drill_exec b c))
    (chains_named (drill_blocks body a b c).scans (exec_scans (drill_blocks body a b c) (drill_exec b c))) ≡ None
chains_fine body a b c = refl

-- its patterns
pub patterns_fine : (body : Written) (a b c : ℕ) (walked : ℕ) → check_pattern drill_scope body 0 ≡ fine (at_count walked)
    → stops (resolved drill_scope of_pattern body) ≡ false
    → check_patterns (drill_blocks body a b c) (drill_exec b c) (played (drill_blocks body a b c) (drill_exec b c)) 0
    ≡ fine (at_count walked)
patterns_fine body a b c walked checked goes_on =
    ap (λ (s : Bool). behind_pattern s (check_pattern drill_scope body 0) (check_patterns (drill_blocks body a b c) (drill_exec b c) [])) goes_on
    ∙ ap (λ (r : Checked). behind_pattern false r (check_patterns (drill_blocks body a b c) (drill_exec b c) [])) checked

-- all of this pass
pub fifth_fine : (body : Written) (a b c : ℕ) (walked : ℕ) → check_pattern drill_scope body 0 ≡ fine (at_count walked)
    → stops (resolved drill_scope of_pattern body) ≡ false → fifth_fault times_of (drill_blocks body a b c) ≡ None
fifth_fine body a b c walked checked goes_on =
    rw (names_fine body a b c, variables_fine body a b c, tables_fine body a b c, chains_fine body a b c, patterns_fine body a b c walked checked goes_on) refl
