-- The flat tree of a drill's pattern, and what it is compiled to, have no fault.
use Rattle.std.proofs.Common.{◌≡◌, ℕ, ◌+◌, ◌*◌, ◌≤◌, Bool, true, false, List, [], ◌∷◌, ◌++◌, map, length, Option, Some, None, refl, ap, ◌∙◌, arith, length-append, cond}
use Rattle.std.specs.Prelude.{◌-◌, nat_lt, nat_le, slice_get, sum_by}
use Rattle.std.specs.List.{flat_map}
use Rattle.std.proofs.lemmas.Bool.{le-leb}
use Rattle.std.proofs.lemmas.List.{length-map}
use Rattle.text_bytes.specs.Limits.{deepest_calls, most_measure, most_cycles, most_row_characters}
use Rattle.text_bytes.specs.Bytes.{is_blank, is_digit, begins_name, is_word}
use Rattle.stil_lex.specs.declared.token.Token.{Token}
use Rattle.stil_form.specs.Setting.{line_at}
use Rattle.tester_types.specs.declared.wave.Table.{Table}
use Rattle.stil_ast.specs.Data.Bodies.{written_of}
use Rattle.stil_ast.specs.Data.Places.{of_pattern, Origin, Titles}
use Rattle.stil_ast.specs.Data.Texts.{has_name}
use Rattle.stil_ast.specs.Data.Written.{Written}
use Rattle.stil_ast.specs.Meaning.Statements.{Statements}
use Rattle.stil_ast.specs.Meaning.State.{State, start_of}
use Rattle.stil_ast.specs.Meaning.Resolved.{origin, resolved, setting_of}
use Rattle.stil_ast.specs.Meaning.Running.{Setting, Made}
use Rattle.stil_ast.specs.Meaning.Flat.{Flat, done, table, character, cycle, flat_run, measure}
use Rattle.stil_ast.specs.Meaning.Flattening.{Spot, Piece, flat_list, flat_calls, flat_of}
use Rattle.stil_ast.specs.Meaning.ExecutiveData.{Executive, vectors_of, measure_of, row_of, distinct_rows, rows_of}
use Rattle.stil_ast.specs.Meaning.Executive.{table_list, Part, cut_behind, tree_of, executives_of}
use Rattle.stil_ast.specs.Faults.Found.{fault_at, unless, or_else, first_in}
use Rattle.stil_ast.specs.Faults.BurstFaults.{exec_place}
use Rattle.stil_ast.specs.declared.fault.StilFault.{StilFault}
use Rattle.stil_ast.specs.declared.fault.StilKind.TheVariants.{TooLarge, TooManyCycles}
use Rattle.stil_ast.specs.Faults.CodeFaults.{have_waves, vector_fault, trees_fault, compile_fault, compile_faults, sixth_fault}
use Rattle.expr_text.specs.Range.{divisor_of, remainders}
use Rattle.expr_text.specs.Ratio.{lowest, lowest_signed}
use Rattle.expr_text.specs.Front.{capped, unit_front, number_front, paren_len, short_name, word_front, sign_front, front_of, lexed}
use Rattle.time_expr.specs.TimesOf.{times_of}
use Rattle.drill_fine.specs.Texts.{driven_bit}
use Rattle.drill_fine.specs.Said.{bit_byte, look_byte}
use Rattle.drill_fine.specs.Blocks.{drill_exec, drill_blocks}
use Rattle.drill_fine.proofs.ReadLemmas.{stmts_from}
use Rattle.drill_fine.proofs.BlockLemmas.{wave_stmt}
use Rattle.drill_fine.proofs.CheckLemmas.{drill_scope, pattern_goes_on}

-- what the statements stand on
abbrev pub drill_setting : Setting
drill_setting = setting_of drill_scope []

-- the flat tree of vectors
abbrev pub flat_vectors : List Token → ℕ → ℕ → List ℕ → Flat
flat_vectors tokens n at [] = done
flat_vectors tokens n at (i ∷ is) =
    character 0 (bit_byte (driven_bit n i)) (character 1 80 (character 2 (look_byte (nat_lt i n) (driven_bit n (i - n)))
    (cycle 0 (origin of_pattern (line_at tokens at)) (flat_vectors tokens n (at + 1 + 1 + 12 + 1) is))))

-- what stands behind vectors
vectors_flat : (inner : Option Statements → Spot → Piece) (tokens : List Token) (n at : ℕ) (is : List ℕ) (p : Origin)
    → (flat_list drill_setting inner (resolved drill_scope of_pattern (written_of (stmts_from tokens n at is))) (record { args = []; place = p })).flat
    ≡ flat_vectors tokens n at is
vectors_flat inner tokens n at [] p = refl
vectors_flat inner tokens n at (i ∷ is) p =
    ap (λ (f : Flat). character 0 (bit_byte (driven_bit n i)) (character 1 80 (character 2 (look_byte (nat_lt i n) (driven_bit n (i - n)))
    (cycle 0 (origin of_pattern (line_at tokens at)) f))))
    (vectors_flat inner tokens n (at + 1 + 1 + 12 + 1) is (origin of_pattern (line_at tokens at)))

-- the flat tree of the pattern
pub pattern_flat : (tokens : List Token) (n : ℕ) (is : List ℕ)
    → flat_of drill_setting (resolved drill_scope of_pattern (written_of (wave_stmt ∷ stmts_from tokens n 72 is)))
    ≡ table 0 (flat_vectors tokens n 72 is)
pattern_flat tokens n is =
    ap (table 0) (vectors_flat (flat_calls drill_setting deepest_calls) tokens n 72 is (origin of_pattern 8))

-- as large as there are vectors
measure_vectors : (tokens : List Token) (n at : ℕ) (is : List ℕ) → measure (flat_vectors tokens n at is) ≡ length is
measure_vectors tokens n at [] = refl
measure_vectors tokens n at (i ∷ is) = omega (arith, measure_vectors tokens n (at + 1 + 1 + 12 + 1) is)

-- a state with this table and these characters
abbrev pub state_with : List (Option ℕ) → State
state_with characters = record { table = Some 0; characters = characters }

-- three characters, whatever they are
abbrev pub three : Option ℕ → Option ℕ → Option ℕ → List (Option ℕ)
three a b c = a ∷ b ∷ c ∷ []

-- one made for each vector
made_count : (tokens : List Token) (n at : ℕ) (is : List ℕ) (base : State) (a b c : Option ℕ)
    → length (flat_run (flat_vectors tokens n at is) base (state_with (three a b c))).made ≡ length is
made_count tokens n at [] base a b c = refl
made_count tokens n at (i ∷ is) base a b c =
    omega (arith, made_count tokens n (at + 1 + 1 + 12 + 1) is base (Some (bit_byte (driven_bit n i))) (Some 80) (Some (look_byte (nat_lt i n) (driven_bit n (i - n)))))

-- the tables
abbrev pub drill_tables : List Table
drill_tables = table_list times_of (drill_blocks Rattle.stil_ast.specs.Data.Written.no_more 0 0 0) (drill_exec 0 0)

-- the characters of vectors have waves
waves_there : (high unknown seen : Bool)
    → have_waves (slice_get drill_tables 0) 0 (three (Some (bit_byte high)) (Some 80) (Some (look_byte unknown seen))) ≡ true
unfolding is_blank is_digit begins_name is_word capped paren_len short_name word_front unit_front number_front sign_front front_of lexed
    lowest lowest_signed divisor_of remainders
waves_there true true seen = refl
waves_there true false true = refl
waves_there true false false = refl
waves_there false true seen = refl
waves_there false false true = refl
waves_there false false false = refl

-- no vector has a fault
made_fine : (titles : Titles) (tokens : List Token) (n at : ℕ) (is : List ℕ) (base : State) (a b c : Option ℕ)
    → first_in (vector_fault drill_tables titles) (flat_run (flat_vectors tokens n at is) base (state_with (three a b c))).made ≡ None
made_fine titles tokens n at [] base a b c = refl
made_fine titles tokens n at (i ∷ is) base a b c =
    rw (waves_there (driven_bit n i) (nat_lt i n) (driven_bit n (i - n)))
    (made_fine titles tokens n (at + 1 + 1 + 12 + 1) is base (Some (bit_byte (driven_bit n i))) (Some 80) (Some (look_byte (nat_lt i n) (driven_bit n (i - n)))))

-- no more rows than there are
rows_within : (before rows : List (List ℕ)) → length (distinct_rows before rows) ≤ length before + length rows
rows_within before [] = omega arith
rows_within before (row ∷ rows) = by (λ others. rows_within others rows) (has_name before row)
  where
    by : ((others : List (List ℕ)) → length (distinct_rows others rows) ≤ length others + length rows) → (b : Bool)
        → length (distinct_rows (cond b before (before ++ (row ∷ []))) rows) ≤ length before + length (row ∷ rows)
    by all true = omega (arith, all before)
    by all false = omega (arith, all (before ++ (row ∷ [])), length-append before (row ∷ []))

-- an executive with this flat tree
abbrev pub drill_executive : Flat → ℕ → Executive
drill_executive flat line = record {
  name = [];
  line = line;
  tables = drill_tables;
  chains = [];
  trees = record { titles = drill_scope.titles; flat = flat } ∷ [];
}

-- the executives of a drill
pub executives_are : (tokens : List Token) (n : ℕ) (is : List ℕ) (a b c : ℕ)
    → executives_of times_of (drill_blocks (written_of (wave_stmt ∷ stmts_from tokens n 72 is)) a b c)
    ≡ drill_executive (table 0 (flat_vectors tokens n 72 is)) b ∷ []
executives_are tokens n is a b c =
    let statements = resolved drill_scope of_pattern (written_of (wave_stmt ∷ stmts_from tokens n 72 is)) in
    let part : Part = record { setting = drill_setting; statements = statements; titles = drill_scope.titles } in
    ap (λ (s : Bool). record { name = []; line = b; tables = drill_tables; chains = []; trees = map tree_of (cut_behind s part []) } ∷ [])
    (pattern_goes_on tokens n is)
    ∙ ap (λ (f : Flat). drill_executive f b ∷ []) (pattern_flat tokens n is)

-- nothing is wrong with what it is compiled to
compiled_fine : (tokens : List Token) (n : ℕ) (is : List ℕ) (line : ℕ) → length is ≤ 200000
    → compile_fault 3 [] (drill_executive (table 0 (flat_vectors tokens n 72 is)) line) ≡ None
compiled_fine tokens n is line few =
    let flat = flat_vectors tokens n 72 is in
    let x = drill_executive (table 0 flat) line in
    let base : State = record { table = None; characters = [] } in
    let made = (flat_run flat base (state_with (three None None None))).made in
    let many : length made ≡ length is = made_count tokens n 72 is base None None None in
    let size : sum_by measure_of ([] ++ (x ∷ [])) ≡ length is = omega (arith, measure_vectors tokens n 72 is) in
    let vectors : length (vectors_of 3 x) ≡ length is =
    length-map (made ++ []) (λ (m : Made). m.vector) ∙ omega (arith, length-append made [], many) in
    let rows = flat_map (λ (e : Executive). map row_of (vectors_of 3 e)) (x ∷ []) in
    let row_count : length rows ≡ length is =
    length-append (map row_of (vectors_of 3 x)) [] ∙ omega (arith, length-map (vectors_of 3 x) row_of, vectors) in
    let c1 = le-leb (sum_by measure_of ([] ++ (x ∷ []))) most_measure (omega (arith, size, few)) in
    let c2 = le-leb (length (vectors_of 3 x)) most_cycles (omega (arith, vectors, few)) in
    let c4 = le-leb (length (rows_of 3 ([] ++ (x ∷ []))) * 3) most_row_characters (omega (arith, rows_within [] rows, row_count, few)) in
    ap (λ (t : Bool). unless t (fault_at (exec_place [] line) TooLarge)
    (unless (nat_le (length (vectors_of 3 x)) most_cycles) (fault_at (exec_place [] line) TooManyCycles)
    (or_else (trees_fault drill_tables x.trees (start_of 3))
    (unless (nat_le (length (rows_of 3 ([] ++ (x ∷ []))) * 3) most_row_characters) (fault_at (exec_place [] line) TooLarge) None)))) c1
    ∙ ap (λ (t : Bool). unless t (fault_at (exec_place [] line) TooManyCycles)
    (or_else (trees_fault drill_tables x.trees (start_of 3))
    (unless (nat_le (length (rows_of 3 ([] ++ (x ∷ []))) * 3) most_row_characters) (fault_at (exec_place [] line) TooLarge) None))) c2
    ∙ ap (λ (o : Option StilFault). or_else (or_else o None)
    (unless (nat_le (length (rows_of 3 ([] ++ (x ∷ []))) * 3) most_row_characters) (fault_at (exec_place [] line) TooLarge) None))
    (made_fine drill_scope.titles tokens n 72 is base None None None)
    ∙ ap (λ (t : Bool). unless t (fault_at (exec_place [] line) TooLarge) None) c4

-- this pass has no fault
pub sixth_fine : (tokens : List Token) (n : ℕ) (is : List ℕ) (a b c : ℕ) → length is ≤ 200000
    → sixth_fault times_of (drill_blocks (written_of (wave_stmt ∷ stmts_from tokens n 72 is)) a b c) ≡ None
sixth_fine tokens n is a b c few =
    ap (compile_faults 3 []) (executives_are tokens n is a b c)
    ∙ ap (λ (o : Option StilFault). or_else o None) (compiled_fine tokens n is b few)
