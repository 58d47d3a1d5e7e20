-- The waves of tables are as many as the language counts.
use Rattle.std.proofs.Common.{◌≡◌, ℕ, suc, ◌+◌, Bool, cond, List, [], ◌∷◌, Option, Some, None, is_some, length, get_or, map, refl, sym, ap, ◌∙◌, arith}
use Rattle.std.specs.Prelude.{sum_by, count_by}
use Rattle.std.specs.List.{filter_map, cons_option, enumerate_from}
use Rattle.std.proofs.lemmas.List.Concat.{length-flat_map}
use Rattle.std.proofs.lemmas.List.Sums.{sum_by-cons}
use Rattle.stil_ast.specs.Data.Texts.{upwards}
use Rattle.stil_ast.specs.Faults.ExecutiveFaults.{timed_of}
use Rattle.stil_ast.specs.Faults.TableFaults.{Timed}
use Rattle.stil_ast.specs.Meaning.Executive.{exec_tables}
use Rattle.stil_ast.specs.Meaning.Tables.{Waveform, waveforms, waveform_of, wave_with, wave_of, waves_of, wave_count, every_character, made_table}
use Rattle.stil_ast.specs.declared.timing.TableDecl.{TableDecl}
use Rattle.tester_types.specs.declared.wave.Wave.{Wave}
use Rattle.tester_types.specs.declared.wave.Table.{Table}
use Rattle.expr_text.specs.Ratio.{Ratio}
use Rattle.time_expr.specs.TimesOf.{times_of}
use Rattle.wave_tables.specs.Laws.{WavesAreCounted}
use Rattle.wave_tables.proofs.RowLemmas.{sum_agree}

one_found : (o : Option Wave) (rest : List Wave)
    → length (cons_option o rest) ≡ cond {A = ℕ} (is_some o) 1 0 + length rest
one_found None rest = omega arith
one_found (Some w) rest = omega arith

-- as many are found as pass
found_length : (f : ℕ → Option Wave) (xs : List ℕ) → length (filter_map f xs) ≡ count_by (λ x. is_some (f x)) xs
found_length f [] = refl
found_length f (x ∷ xs) =
    one_found (f x) (filter_map f xs)
    ∙ ap (λ (n : ℕ). cond {A = ℕ} (is_some (f x)) 1 0 + n) (found_length f xs)
    ∙ sym (sum_by-cons (λ y. cond {A = ℕ} (is_some (f y)) 1 0) x xs)

wave_there : (t : Timed Ratio) (s c : ℕ) (o : Option Waveform)
    → is_some (wave_with t.times t.vars t.place s c o) ≡ is_some o
wave_there t s c None = refl
wave_there t s c (Some w) = refl

-- the waves of a signal
row_length : (t : Timed Ratio) (all : List Waveform) (s : ℕ)
    → length (filter_map (λ c. wave_of t.times t.vars t.place all s c) every_character)
    ≡ count_by (λ c. is_some (waveform_of all s c)) every_character
row_length t all s =
    found_length (λ c. wave_of t.times t.vars t.place all s c) every_character
    ∙ sum_agree (λ c. cond {A = ℕ} (is_some (wave_of t.times t.vars t.place all s c)) 1 0)
    (λ c. cond {A = ℕ} (is_some (waveform_of all s c)) 1 0) every_character (λ i h.
    ap (λ (b : Bool). cond {A = ℕ} b 1 0)
    (wave_there t s (get_or every_character i 0) (waveform_of all s (get_or every_character i 0))))

-- the waves of a table
waves_length : (t : Timed Ratio) (all : List Waveform) (signals : ℕ)
    → length (waves_of t.times t.vars t.place all signals) ≡ wave_count all signals
waves_length t all signals =
    length-flat_map (λ s. filter_map (λ c. wave_of t.times t.vars t.place all s c) every_character) (upwards 0 signals)
    ∙ sum_agree (λ s. length (filter_map (λ c. wave_of t.times t.vars t.place all s c) every_character))
    (λ s. count_by (λ c. is_some (waveform_of all s c)) every_character) (upwards 0 signals)
    (λ i h. row_length t all (get_or (upwards 0 signals) i 0))

-- the waves of all tables
tables_length : (t : Timed Ratio) (k : ℕ) (xs : List TableDecl)
    → sum_by (λ (x : Table). length x.waves)
    (map (made_table t.times t.vars t.names t.place t.tables) (enumerate_from k xs))
    ≡ sum_by (λ j. wave_count (waveforms t.names t.tables j) (length t.names.signals)) (upwards k (length xs))
tables_length t k [] = refl
tables_length t k (x ∷ xs) =
    let made : ℕ × TableDecl → Table = made_table t.times t.vars t.names t.place t.tables in
    let count : ℕ → ℕ = λ j. wave_count (waveforms t.names t.tables j) (length t.names.signals) in
    let next : k + 1 ≡ suc k = omega arith in
    sum_by-cons (λ (y : Table). length y.waves) (made (k, x)) (map made (enumerate_from (k + 1) xs))
    ∙ ap (λ (n : ℕ). n + sum_by (λ (y : Table). length y.waves) (map made (enumerate_from (k + 1) xs)))
    (waves_length t (waveforms t.names t.tables k) (length t.names.signals))
    ∙ ap (λ (n : ℕ). count k + n) (tables_length t (k + 1) xs
    ∙ ap (λ (n : ℕ). sum_by count (upwards n (length xs))) next)
    ∙ sym (sum_by-cons count k (upwards (suc k) (length xs)))

pub waves_counted : WavesAreCounted
waves_counted blocks e = tables_length (timed_of times_of blocks e) 0 (exec_tables blocks e)
