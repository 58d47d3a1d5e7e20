-- What statements do.
use Rattle.std.proofs.Common.{◌≡◌, ℕ, List, [], ◌∷◌, true, false, Option, Some, refl, map, codes}
use Rattle.stil_ast.specs.Meaning.State.{Vector, start_of}
use Rattle.stil_ast.specs.Meaning.Statements.{Item, a_character, hash, percent, Assign, Statements, finish, wave, vector, condition, loop, expand, call, shift, stop}
use Rattle.stil_ast.specs.Meaning.Flat.{measure}
use Rattle.stil_ast.specs.Meaning.Flattening.{flat_calls, flat_of}
use Rattle.stil_ast.specs.Meaning.Running.{Setting, Made, run, calls, outside}

-- the vectors of statements over so many signals, from the start
abbrev vectors : Setting → ℕ → Statements → List Vector
vectors t signals statements =
    map (λ (m : Made). m.vector) (run t statements (outside (start_of signals))).made

-- characters as items and as characters
abbrev items : List ℕ → List Item
items text = map a_character text

abbrev characters : List ℕ → List (Option ℕ)
characters text = map (λ c. Some c) text

abbrev to : ℕ → List Item → Assign
to signal given = record { signals = signal ∷ []; items = given }

abbrev in_table : ℕ → List ℕ → ℕ → Vector
in_table table text mark = record { table = Some table; characters = characters text; mark = mark }

abbrev no_calls : Setting
no_calls = record { outs = []; scan_outs = []; macros = []; procedures = [] }

-- a loop whose body changes the table: `W t1; Loop 3 { V { a=1; } W t2; }`
pub two_tables_in_a_loop : vectors no_calls 1 (wave 0 (loop 3 (vector (to 0 (items (codes "1")) ∷ []) (wave 1 finish)) finish))
    ≡ in_table 0 (codes "1") 0 ∷ in_table 1 (codes "1") 0 ∷ in_table 1 (codes "1") 0 ∷ []
two_tables_in_a_loop = refl

-- q assigns all of a, b and y
abbrev all_set : Statements
all_set =
    vector (to 0 (items (codes "1")) ∷ to 1 (items (codes "1")) ∷ to 2 (items (codes "H")) ∷ []) finish

abbrev with_q : Setting
with_q =
    record { outs = false ∷ false ∷ true ∷ []; scan_outs = []; macros = all_set ∷ []; procedures = all_set ∷ [] }

abbrev first_vector : Statements → Statements
first_vector rest =
    wave 0 (vector (to 0 (items (codes "0")) ∷ to 1 (items (codes "0")) ∷ to 2 (items (codes "X")) ∷ []) rest)

-- a procedure gives the caller's characters back: `V { a=0; b=0; y=X; } Call q; V { a=1; }`
pub procedure_gives_back : vectors with_q 3 (first_vector (call 0 [] (vector (to 0 (items (codes "1")) ∷ []) finish)))
    ≡ in_table 0 (codes "00X") 0 ∷ in_table 0 (codes "11H") 0 ∷ in_table 0 (codes "10X") 0 ∷ []
unfolding calls
procedure_gives_back = refl

-- and a macro doesn't
pub macro_keeps : vectors with_q 3 (first_vector (expand 0 [] (vector (to 0 (items (codes "1")) ∷ []) finish)))
    ≡ in_table 0 (codes "00X") 0 ∷ in_table 0 (codes "11H") 0 ∷ in_table 0 (codes "11H") 0 ∷ []
unfolding calls
macro_keeps = refl

-- `Shift { V { si1=#; si2=#; so1=#; so2=#; } }`, so1 and so2 being the ends of chains
abbrev unload : Statements
unload =
    shift (vector (to 0 (hash ∷ []) ∷ to 1 (hash ∷ []) ∷ to 2 (hash ∷ []) ∷ to 3 (hash ∷ []) ∷ []) finish) finish

abbrev with_unload : Setting
with_unload =
    record { outs = false ∷ false ∷ true ∷ true ∷ []; scan_outs = 2 ∷ []; macros = []; procedures = unload ∷ [] }

abbrev scan_start : Statements → Statements
scan_start rest =
    wave 0 (condition (to 0 (items (codes "0")) ∷ to 1 (items (codes "0")) ∷ to 2 (items (codes "X")) ∷ to 3 (items (codes "X")) ∷ []) rest)

-- short scan data are padded with what was held, in front for an In signal and at the end for an Out signal
pub padded : vectors with_unload 4 (scan_start (call 0
    (to 0 (items (codes "101")) ∷ to 1 (items (codes "11001")) ∷ to 2 (items (codes "LHL")) ∷ to 3 (items (codes "HHLLH")) ∷ []) finish))
    ≡ in_table 0 (codes "01LH") 1 ∷ in_table 0 (codes "01HH") 2 ∷ in_table 0 (codes "10LL") 3 ∷ in_table 0 (codes "00XL") 4 ∷ in_table 0 (codes "11XH") 5 ∷ []
unfolding calls
padded = refl

-- data left out are padded whole
pub left_out : vectors with_unload 4 (scan_start (call 0 (to 0 (items (codes "101")) ∷ to 1 (items (codes "11001")) ∷ []) finish))
    ≡ in_table 0 (codes "01XX") 1 ∷ in_table 0 (codes "01XX") 2 ∷ in_table 0 (codes "10XX") 3 ∷ in_table 0 (codes "00XX") 4 ∷ in_table 0 (codes "11XX") 5 ∷ []
unfolding calls
left_out = refl

-- `%` looks at the character that `#` then takes
pub looks_and_takes : vectors (record {
  outs = false ∷ [];
  scan_outs = [];
  macros = vector (to 0 (percent ∷ []) ∷ [])
      (vector (to 0 (hash ∷ []) ∷ []) (vector (to 0 (hash ∷ []) ∷ []) finish)) ∷ [];
  procedures = [];
}) 1
    (wave 0 (expand 0 (to 0 (items (codes "10")) ∷ []) finish))
    ≡ in_table 0 (codes "1") 0 ∷ in_table 0 (codes "1") 0 ∷ in_table 0 (codes "0") 0 ∷ []
unfolding calls
looks_and_takes = refl

-- nothing comes behind a Stop
pub stopped : vectors no_calls 1 (wave 0 (vector (to 0 (items (codes "1")) ∷ []) (stop (vector [] finish))))
    ≡ in_table 0 (codes "1") 0 ∷ []
stopped = refl

-- the measure of a Loop doesn't depend on how often it runs
pub loop_is_kept : measure (flat_of no_calls (wave 0 (loop 1000000000 (vector (to 0 (items (codes "0")) ∷ []) finish) finish))) ≡ 4
loop_is_kept = refl

-- passes of a Shift count one by one
pub passes_count : measure (flat_of with_unload (call 0 (to 1 (items (codes "11001")) ∷ []) finish)) ≡ 5
unfolding flat_calls
passes_count = refl
