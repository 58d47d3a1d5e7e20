-- The cycles of an executive of a flat text are those of its code.
use Rattle.std.proofs.Common.{◌≡◌, ℕ, ◌+◌, List, [], ◌∷◌, ◌++◌, map, length, slice_get, sum_by, Option, Some, unwrap_or, refl, sym, ap, subst, ◌∙◌, append_assoc, length-append}
use Rattle.std.specs.List.{AllZip, enumerate_from}
use Rattle.std.specs.Option.{option_map_or}
use Rattle.std.proofs.lemmas.List.Sums.{sum_by_push}
use Rattle.std.proofs.Math.Seq.{take-append_seam}
use Rattle.tester_types.specs.declared.wave.Table.{Table}
use Rattle.packed_code.specs.declared.instr.Entry.{Entry}
use Rattle.packed_code.specs.Program.{Program}
use Rattle.packed_code.specs.Conditions.{characters_of}
use Rattle.packed_code.specs.Cycles.{period_of, timed}
use Rattle.stil_ast.specs.Meaning.State.{Vector}
use Rattle.stil_ast.specs.Meaning.Cycles.{Dated, starts_at, dated}
use Rattle.stil_ast.specs.Meaning.ExecutiveData.{period_at, table_at, vector_period}
use Rattle.flat_parts.specs.SameCycles.{IsSameCycle}
use Rattle.flat_cycles.proofs.RowLemmas.{characters_back}
use Rattle.flat_cycles.proofs.CallLemmas.{code_characters}

-- a table of the text beside one of the code
pub record IsSameTable (tables : List Table) (place : ℕ) (old : Table) : Type 0 where
  pub new : Table
  pub there : slice_get tables place ≡ Some new
  pub period : new.period ≡ old.period
  pub waves : new.waves ≡ old.waves

-- a vector beside what the instructions give: its table is the same, and its characters are the row's
pub record IsSameVector (code : Program) (tables : List Table) (entry : Entry) (v : Vector) : Type 0 where
  pub place : ℕ
  pub table : v.table ≡ Some place
  pub characters : v.characters ≡ code_characters code entry.row
  pub mark : v.mark ≡ 0
  pub old : Table
  pub old_is : slice_get code.tables entry.table ≡ Some old
  pub same : IsSameTable tables place old

module _ (code : Program) (tables : List Table) where
  -- such a vector is as long
  vector_long : (entry : Entry) (v : Vector) → IsSameVector code tables entry v → vector_period tables v ≡ period_of code.tables entry.table
  vector_long entry v is =
      ap (λ (o : Option ℕ). period_at (table_at tables o)) is.table
      ∙ ap period_at is.same.there ∙ is.same.period
      ∙ sym (ap (λ (o : Option Table). option_map_or (λ (t : Table). t.period) o 0) is.old_is)

  -- cycles that are numbered from a number on, where all vectors are these
  abbrev dated_from : (Vector → ℕ) → List Vector → ℕ → List Vector → List Dated
  dated_from period all number vectors =
      map (λ (v : ℕ × Vector). record { number = v.0; start = starts_at period all v.0; vector = v.1 }) (enumerate_from number vectors)

  -- the same cycles from a start and a number on
  abbrev AreSame : ℕ → List Entry → List Vector → ℕ → List Vector → Type 0
  AreSame start entries all number vectors =
      AllZip (IsSameCycle code tables) (timed code.tables start entries) (dated_from (vector_period tables) all number vectors)

  -- cycles behind others
  cycles_from : (before vectors : List Vector) (entries : List Entry) (start : ℕ) → sum_by (vector_period tables) before ≡ start
      → AllZip (IsSameVector code tables) entries vectors → AreSame start entries (before ++ vectors) (length before) vectors
  cycles_from before [] [] start at all = tt
  cycles_from before [] (entry ∷ entries) start at all = absurd all
  cycles_from before (v ∷ vectors) [] start at all = absurd all
  cycles_from before (v ∷ vectors) (entry ∷ entries) start at all =
      let period = vector_period tables in
      let is = all.0 in
      let next = start + period_of code.tables entry.table in
      let sum : sum_by period (before ++ v ∷ []) ≡ next =
      sum_by_push period before v ∙ ap (λ (n : ℕ). n + period v) at ∙ ap (λ (n : ℕ). start + n) (vector_long entry v is) in
      let later = cycles_from (before ++ v ∷ []) vectors entries next sum all.1 in
      let number : length (before ++ v ∷ []) ≡ length before + 1 = length-append before (v ∷ []) in (
        record {
          start = ap (sum_by period) (take-append_seam before (v ∷ vectors)) ∙ at;
          characters = ap (map (λ (c : Option ℕ). unwrap_or c 0)) is.characters ∙ characters_back (characters_of code.rows entry.row);
          number = is.place;
          named = is.table;
          old = is.old;
          old_is = is.old_is;
          new = is.same.new;
          new_is = is.same.there;
          period = is.same.period;
          waves = is.same.waves;
          mark = is.mark;
        },
        subst (λ (n : ℕ). AreSame next entries (before ++ v ∷ vectors) n vectors) number
            (subst (λ (l : List Vector). AreSame next entries l (length (before ++ v ∷ [])) vectors)
            (append_assoc before (v ∷ []) vectors) later),
      )

  -- the cycles of vectors that are those of instructions are theirs
  pub cycles_same : (entries : List Entry) (vectors : List Vector) → AllZip (IsSameVector code tables) entries vectors
      → AllZip (IsSameCycle code tables) (timed code.tables 0 entries) (dated (vector_period tables) vectors)
  cycles_same entries vectors all = cycles_from [] vectors entries 0 refl all
