-- The statements of a drill's pattern have no fault.
use Rattle.std.proofs.Common.{◌≡◌, ℕ, ◌+◌, ◌*◌, ◌≤◌, true, false, List, [], ◌∷◌, length, refl, ap, ◌∙◌, arith}
use Rattle.std.specs.Prelude.{◌-◌, nat_lt, codes}
use Rattle.std.proofs.lemmas.Bool.{le-leb}
use Rattle.text_bytes.specs.Limits.{most_walked, deepest_calls}
use Rattle.stil_lex.specs.declared.token.Token.{Token}
use Rattle.stil_form.specs.Setting.{line_at}
use Rattle.stil_ast.specs.Data.Bodies.{written_of}
use Rattle.stil_ast.specs.Data.Places.{of_pattern}
use Rattle.stil_ast.specs.Data.Written.{Written, single}
use Rattle.stil_ast.specs.declared.body.Step.TheVariants.{Vector}
use Rattle.stil_ast.specs.Meaning.Signals.{names_of}
use Rattle.stil_ast.specs.Meaning.Resolved.{Scope, resolved}
use Rattle.stil_ast.specs.Meaning.Running.{stops}
use Rattle.stil_ast.specs.Faults.AssignmentFaults.{Walked, Checked, fine, Standing, may_walk, check_assign}
use Rattle.stil_ast.specs.Faults.PatternFaults.{on_top, check_list, check_calls, check_pattern}
use Rattle.drill_fine.specs.Texts.{driven_bit}
use Rattle.drill_fine.specs.Said.{bit_byte, look_byte}
use Rattle.drill_fine.specs.Blocks.{drill_signals, blocks_with}
use Rattle.line_texts.proofs.AssignmentLemmas.{gives}
use Rattle.drill_fine.proofs.ReadLemmas.{stmts_from}
use Rattle.drill_fine.proofs.BlockLemmas.{wave_stmt}

-- what the names in the pattern mean
abbrev pub drill_scope : Scope
drill_scope = record {
  names = names_of (blocks_with drill_signals [] [] [] []);
  tables = codes "w" ∷ [];
  macros = [];
  procedures = [];
  titles = record { pattern = codes "p"; macros = []; procedures = [] };
}

-- so many were walked
abbrev pub at_count : ℕ → Walked
at_count count = record { args = []; hashes = []; count = count }

-- the limit is far
pub may_walk_is : (count : ℕ) → count ≤ 1000000 → may_walk count ≡ true
may_walk_is count few = le-leb count most_walked (omega (arith, few))

-- an assignment to each of the signals
d_fine : (byte line count : ℕ) → may_walk (count + 1) ≡ true
    → check_assign drill_scope on_top (gives (codes "d") byte line) (at_count count) ≡ fine (at_count (count + 1))
d_fine byte line count h = rw h refl

ck_fine : (byte line count : ℕ) → may_walk (count + 1) ≡ true
    → check_assign drill_scope on_top (gives (codes "ck") byte line) (at_count count) ≡ fine (at_count (count + 1))
ck_fine byte line count h = rw h refl

q_fine : (byte line count : ℕ) → may_walk (count + 1) ≡ true
    → check_assign drill_scope on_top (gives (codes "q") byte line) (at_count count) ≡ fine (at_count (count + 1))
q_fine byte line count h = rw h refl

-- a vector in front of statements
vector_fine : (inner : Standing → Written → Walked → Checked) (line d_line ck_line q_line bit look count : ℕ) (rest : Written)
    → count + 4 ≤ 1000000
    → check_list drill_scope inner on_top
    (single line
    (Vector (gives (codes "d") bit d_line ∷ gives (codes "ck") 80 ck_line ∷ gives (codes "q") look q_line ∷ [])) rest)
    (at_count count)
    ≡ check_list drill_scope inner on_top rest (at_count (count + 1 + 1 + 1 + 1))
vector_fine inner line d_line ck_line q_line bit look count rest few =
    let m1 = may_walk_is (count + 1) (omega (arith, few)) in
    let m2 = d_fine bit d_line (count + 1) (may_walk_is (count + 1 + 1) (omega (arith, few))) in
    let m3 = ck_fine 80 ck_line (count + 1 + 1) (may_walk_is (count + 1 + 1 + 1) (omega (arith, few))) in
    let m4 = q_fine look q_line (count + 1 + 1 + 1) (may_walk_is (count + 1 + 1 + 1 + 1) (omega (arith, few))) in
    rw (m1, m2, m3, m4) refl

-- vectors
pub vectors_fine : (inner : Standing → Written → Walked → Checked) (tokens : List Token) (n at count : ℕ) (is : List ℕ)
    → count + 4 * length is ≤ 1000000
    → check_list drill_scope inner on_top (written_of (stmts_from tokens n at is)) (at_count count)
    ≡ fine (at_count (count + 4 * length is))
vectors_fine inner tokens n at count [] few = ap (λ (k : ℕ). fine (at_count k)) (omega arith)
vectors_fine inner tokens n at count (i ∷ is) few =
    vector_fine inner (line_at tokens at) (line_at tokens (at + 1 + 1)) (line_at tokens (at + 1 + 1 + 3 + 1)) (line_at tokens (at + 1 + 1 + 3 + 1 + 3 + 1))
    (bit_byte (driven_bit n i)) (look_byte (nat_lt i n) (driven_bit n (i - n))) count
    (written_of (stmts_from tokens n (at + 1 + 1 + 12 + 1) is)) (omega (arith, few))
    ∙ vectors_fine inner tokens n (at + 1 + 1 + 12 + 1) (count + 1 + 1 + 1 + 1) is (omega (arith, few))
    ∙ ap (λ (k : ℕ). fine (at_count k)) (omega arith)

-- the pattern
pub pattern_fine : (tokens : List Token) (n : ℕ) (is : List ℕ) → length is ≤ 200000
    → check_pattern drill_scope (written_of (wave_stmt ∷ stmts_from tokens n 72 is)) 0 ≡ fine (at_count (1 + 4 * length is))
pattern_fine tokens n is few =
    vectors_fine (check_calls drill_scope deepest_calls) tokens n 72 1 is (omega (arith, few))

-- nothing stops it
stops_none : (tokens : List Token) (n at : ℕ) (is : List ℕ) → stops (resolved drill_scope of_pattern (written_of (stmts_from tokens n at is))) ≡ false
stops_none tokens n at [] = refl
stops_none tokens n at (i ∷ is) = stops_none tokens n (at + 1 + 1 + 12 + 1) is

pub pattern_goes_on : (tokens : List Token) (n : ℕ) (is : List ℕ)
    → stops (resolved drill_scope of_pattern (written_of (wave_stmt ∷ stmts_from tokens n 72 is))) ≡ false
pattern_goes_on tokens n is = stops_none tokens n 72 is
