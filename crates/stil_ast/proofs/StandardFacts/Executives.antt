-- Executives as plain data: their cycles, rows, tables and faults, and flat trees that are as good as each other.
use Rattle.std.proofs.Common.{◌≡◌, ℕ, zero, suc, ◌*◌, ◌^◌, List, [], ◌∷◌, Option, Some, None, refl, ap, map, codes}
use Rattle.std.proofs.lemmas.List.{set-set}
use Rattle.text_bytes.specs.Bytes.{is_digit}
use Rattle.stil_ast.specs.Data.Places.{of_pattern, of_macro, Origin}
use Rattle.stil_ast.specs.Meaning.Statements.{hash}
use Rattle.stil_ast.specs.Meaning.Flat.{Flat, done, table, character, cycle, repeat, flat_run}
use Rattle.stil_ast.specs.Meaning.Flattening.{flat_calls}
use Rattle.stil_ast.specs.Meaning.Least.{least_written}
use Rattle.stil_ast.specs.Meaning.ExecutiveData.{Executive, cycles_of, measure_of, rows_of, code_table, IsSameFlat}
use Rattle.stil_ast.specs.Data.Written.{Written, no_more, single, looped}
use Rattle.stil_ast.specs.Faults.CodeFaults.{compile_faults}
use Rattle.stil_ast.specs.Faults.PatternFaults.{check_calls}
use Rattle.stil_ast.proofs.StandardFacts.Texts.{signal, by_name, driven, assign, text_of, table as table_named}
use Rattle.stil_ast.proofs.StandardFacts.Lines.{line_of, cycle as line, items, use_table, fault, refused}
use Rattle.tester_types.specs.declared.signal.Direction.TheVariants.{In}
use Rattle.stil_ast.specs.declared.body.Step.TheVariants.{Vector, Macro}
use Rattle.stil_ast.specs.declared.fault.StilFault.{StilFault}
use Rattle.stil_ast.specs.declared.fault.StilKind.TheVariants.{NoTable, NoWave, NoData, ShiftForm, TooLarge}
use Rattle.tester_types.specs.declared.wave.Table.{Table}

-- a table with waves of signal 0 for these characters
abbrev waved : ℕ → List ℕ → Table
waved period characters = record {
  name = codes "w";
  period = period * 10 ^ 6;
  waves = map (λ (c : ℕ). record { signal = 0; character = c; events = [] }) characters;
}

-- an executive of one pattern p, whose macros stand in the block m
abbrev executive : List Table → Flat → Executive
executive tables flat = record {
  name = codes "e";
  line = 16;
  tables = tables;
  chains = [];
  trees = record { titles = record { pattern = codes "p"; macros = codes "m"; procedures = [] }; flat = flat } ∷ [];
}

abbrev at : ℕ → Origin
at n = record { body = of_pattern; line = n }

-- 1 and 0 in table 1, and 1 in table 0
abbrev three : Executive
three = executive (waved 100 (codes "1") ∷ waved 50 (codes "01") ∷ [])
    (table 1 (character 0 49 (cycle 0 (at 9) (character 0 48 (cycle 0 (at 10) (table 0 (character 0 49 (cycle 0 (at 11) done))))))))

pub three_cycles : map line_of (cycles_of 2 three)
    ≡ line 0 0 1 (codes "1-") ∷ line 1 50 1 (codes "0-") ∷ line 2 100 0 (codes "1-") ∷ []
three_cycles = refl

-- a row is a list of bytes with 0 for none, and stands once among the rows of all executives
pub two_rows : rows_of 2 (three ∷ three ∷ []) ≡ (49 ∷ 0 ∷ []) ∷ (48 ∷ 0 ∷ []) ∷ []
two_rows = refl

-- the tables of the second executive come behind those of the first
pub third_table : code_table (three ∷ []) 1 ≡ 3
third_table = refl

abbrev compiled : List Executive → Option StilFault
compiled executives = compile_faults 2 [] executives

pub no_fault : compiled (three ∷ three ∷ []) ≡ None
no_fault = refl

-- a vector without a table; one of a macro with a character that its table lacks, in the second executive
pub no_table : compiled (executive [] (cycle 0 (at 9) done) ∷ []) ≡ refused NoTable (codes "Pattern") (codes "p") 9
no_table = refl

pub no_wave : compiled (three ∷ executive (waved 100 (codes "1") ∷ []) (table 0 (character 0 48 (cycle 0 (record { body = of_macro; line = 21 }) done))) ∷ [])
    ≡ refused NoWave (codes "MacroDefs") (codes "m") 21
no_wave = refl

-- Loops one in another: 21 of them measure 2^22 - 2
abbrev nested : ℕ → Flat → Flat
nested zero flat = flat
nested (suc n) flat = repeat 1 (nested n flat) done

pub nested_measure : measure_of (executive [] (nested 21 done)) ≡ 4194302
nested_measure = refl

-- the measures of executives are added up
pub too_large : compiled (executive [] (nested 21 done) ∷ three ∷ []) ≡ refused TooLarge (codes "PatternExec") (codes "e") 16
too_large = refl

-- a tree without an assignment that another one overwrites is as good
pub overwritten : (s a b : ℕ) (rest : Flat) → IsSameFlat (character s a (character s b rest)) (character s b rest)
overwritten s a b rest = record {
  runs = λ base st. ap (λ (characters : List (Option ℕ)). flat_run rest base (record { table = st.table; characters = characters })) (set-set st.characters s (Some a) (Some b));
  measure = refl;
  least = λ base st. ap (λ (characters : List (Option ℕ)). least_written rest base (record { table = st.table; characters = characters })) (set-set st.characters s (Some a) (Some b));
}

-- `macro m { V { a=#; } V { a=#; } }`, in which a Loop stands round the second V or not
abbrev with_macro : Written → Written → Option StilFault
with_macro body pattern =
    fault (text_of (signal (codes "a") In ∷ []) [] (table_named (codes "w") (codes "100ns") (driven (by_name (codes "a")) ∷ []) ∷ [])
    (record { name = codes "m"; body = body } ∷ []) [] (use_table (codes "w") pattern))

abbrev takes : ℕ → Written → Written
takes n rest = single n (Vector (assign n (codes "a") (hash ∷ []) ∷ [])) rest

abbrev runs_m : List ℕ → Written
runs_m text = single 10 (Macro (codes "m") (assign 10 (codes "a") (items text) ∷ [])) no_more

-- outside of a Shift a signal may take again and again, but not in a Loop, and no more than was given
pub takes_twice : with_macro (takes 20 (takes 21 no_more)) (runs_m (codes "10")) ≡ None
unfolding check_calls flat_calls is_digit
takes_twice = refl

pub takes_in_loop : with_macro (takes 20 (looped 21 2 (takes 22 no_more) no_more)) (runs_m (codes "10"))
    ≡ refused ShiftForm (codes "MacroDefs") [] 22
unfolding check_calls is_digit
takes_in_loop = refl

pub takes_too_often : with_macro (takes 20 (takes 21 no_more)) (runs_m (codes "1"))
    ≡ refused NoData (codes "MacroDefs") [] 21
unfolding check_calls is_digit
takes_too_often = refl
