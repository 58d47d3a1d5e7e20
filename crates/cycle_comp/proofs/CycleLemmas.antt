-- The cycles of an executive of a code, with rows read as characters and starts summed, are those of the text.
use Rattle.std.proofs.Common.{◌≡◌, ℕ, ◌+◌, ◌-◌, ◌≤◌, ◌==◌, Bool, true, false, cond, List, [], ◌∷◌, ◌++◌, length, map, take, Option, Some, None, refl, sym, ap, subst, ◌∙◌, append_assoc, arith}
use Rattle.std.specs.Prelude.{slice_get, unwrap_or, sum_by}
use Rattle.std.specs.List.{enumerate_from, AllByRecursion}
use Rattle.std.specs.Option.{option_map_or}
use Rattle.std.proofs.lemmas.Bool.{eqb-true, le-leb, false≢true}
use Rattle.std.proofs.lemmas.List.{length-append}
use Rattle.std.proofs.lemmas.List.Sums.{sum_by-append, sum_by-cons}
use Rattle.std.proofs.lemmas.Option.{get_or_from_slice_get}
use Rattle.text_bytes.specs.Bytes.{is_character}
use Rattle.tester_types.specs.declared.wave.Table.{Table}
use Rattle.stil_ast.specs.Meaning.State.{Vector}
use Rattle.stil_ast.specs.Meaning.Cycles.{Dated, dated, starts_at}
use Rattle.stil_ast.specs.Meaning.ExecutiveData.{row_of, period_at, table_at, vector_period}
use Rattle.packed_code.specs.declared.instr.Entry.{Entry}
use Rattle.packed_code.specs.Conditions.{characters_of}
use Rattle.packed_code.specs.Cycles.{period_of, timed}
use Rattle.cycle_comp.specs.Entries.{IsEntry, AreEntries}
use Rattle.cycle_comp.specs.Compiled.{character_of, table_in, read_cycle}
use Rattle.cycle_comp.proofs.VectorLemmas.{IsCharacter}

-- a vector whose table stands in the code behind others, and whose characters can be read again
pub record IsRead (first : ℕ) (own tables : List Table) (v : Vector) : Type 0 where
  pub table : ℕ
  pub table_is : v.table ≡ Some table
  pub room : first + table ≤ 65535
  pub stands : slice_get tables (first + table) ≡ slice_get own table
  pub characters : AllByRecursion IsCharacter v.characters

-- a character is not 0
one_again : (c : Option ℕ) → IsCharacter c → character_of (unwrap_or c 0) ≡ c
unfolding is_character
one_again None is = refl
one_again (Some c) is = by (c == 0) refl
  where
    by : (b : Bool) → (c == 0) ≡ b → cond b None (Some c) ≡ Some c
    by true zeroed = absurd (false≢true (ap is_character (sym (eqb-true c 0 zeroed)) ∙ is))
    by false other = refl

characters_again : (characters : List (Option ℕ)) → AllByRecursion IsCharacter characters
    → map character_of (map (λ (c : Option ℕ). unwrap_or c 0) characters) ≡ characters
characters_again [] all = refl
characters_again (c ∷ characters) all =
    ap (λ (d : Option ℕ). d ∷ map character_of (map (λ (c : Option ℕ). unwrap_or c 0) characters)) (one_again c all.0)
    ∙ ap (λ (ds : List (Option ℕ)). c ∷ ds) (characters_again characters all.1)

-- a table behind the first one is one of these
table_behind : (first table : ℕ) → table_in first (first + table) ≡ Some table
table_behind first table =
    let back : first + table - first ≡ table = omega arith in
    ap (λ (b : Bool). cond b (Some (first + table - first)) None) (le-leb first (first + table) (omega arith)) ∙ ap Some back

module _ (first : ℕ) (own tables : List Table) (rows : List (List ℕ)) where
  -- the number of its table
  table_at_first : (v : Vector) (e : Entry) (is : IsRead first own tables v) → IsEntry first rows v e → e.table ≡ first + is.table
  table_at_first v e is entry = omega (arith, entry.table is.table is.table_is, is.room)

  -- the period of a cycle is that of its vector
  period_is : (v : Vector) (e : Entry) → IsRead first own tables v → IsEntry first rows v e
      → period_of tables e.table ≡ vector_period own v
  period_is v e is entry =
      ap (period_of tables) (table_at_first v e is entry)
      ∙ (ap (λ (o : Option Table). option_map_or (λ (t : Table). t.period) o 0) is.stands
      ∙ (some_or_none (slice_get own is.table)
      ∙ ap (λ (o : Option ℕ). period_at (table_at own o)) (sym is.table_is)))
    where
      some_or_none : (o : Option Table) → option_map_or (λ (t : Table). t.period) o 0 ≡ period_at o
      some_or_none None = refl
      some_or_none (Some t) = refl

  -- one cycle
  one_cycle : (number start : ℕ) (v : Vector) (e : Entry) → IsRead first own tables v → IsEntry first rows v e
      → read_cycle first rows (number, record { start = start; table = e.table; row = e.row; mark = e.mark })
      ≡ record { number = number; start = start; vector = v }
  one_cycle number start v e is entry =
      let table : table_in first e.table ≡ v.table =
      ap (table_in first) (table_at_first v e is entry) ∙ (table_behind first is.table ∙ sym is.table_is) in
      let row : characters_of rows e.row ≡ row_of v = get_or_from_slice_get rows e.row (row_of v) [] entry.row in
      let characters : map character_of (characters_of rows e.row) ≡ v.characters =
      ap (map character_of) row ∙ characters_again v.characters is.characters in
      ap (λ (x : Vector). record { number = number; start = start; vector = x })
      (ap (λ (t : Option ℕ). record { table = t; characters = map character_of (characters_of rows e.row); mark = e.mark }) table
      ∙ (ap (λ (l : List (Option ℕ)). record { table = v.table; characters = l; mark = e.mark }) characters
      ∙ ap (λ (m : ℕ). record { table = v.table; characters = v.characters; mark = m }) entry.mark))

  -- the start of the vector behind others
  start_behind : (before : List Vector) (v : Vector) (vectors : List Vector)
      → starts_at (vector_period own) (before ++ v ∷ vectors) (length before) ≡ sum_by (vector_period own) before
  start_behind before v vectors = ap (sum_by (vector_period own)) (front before)
    where
      front : (before : List Vector) → take (length before) (before ++ v ∷ vectors) ≡ before
      front [] = refl
      front (b ∷ before) = ap (λ (l : List Vector). b ∷ l) (front before)

  -- all cycles behind those of some vectors
  pub read_behind : (before vectors : List Vector) (entries : List Entry) → AreEntries first rows vectors entries
      → AllByRecursion (IsRead first own tables) vectors
      → map (read_cycle first rows)
      (enumerate_from (length before) (timed tables (sum_by (vector_period own) before) entries))
      ≡ map (λ (v : ℕ × Vector). record {
        number = v.0;
        start = starts_at (vector_period own) (before ++ vectors) v.0;
        vector = v.1;
      }) (enumerate_from (length before) vectors)
  read_behind before [] [] are all = refl
  read_behind before [] (e ∷ entries) are all = absurd are
  read_behind before (v ∷ vectors) [] are all = absurd are
  read_behind before (v ∷ vectors) (e ∷ entries) are all =
      let period = vector_period own in
      let here : ℕ = sum_by period before in
      let next : List Vector = before ++ v ∷ [] in
      let size : length next ≡ length before + 1 = length-append before (v ∷ []) in
      let behind : here + period_of tables e.table ≡ sum_by period next =
      let one : sum_by period (v ∷ []) ≡ period v = omega (arith, sum_by-cons period v []) in
      omega (arith, period_is v e all.0 are.0, sum_by-append period before (v ∷ []), one) in
      let begin : starts_at period (before ++ v ∷ vectors) (length before) ≡ here = start_behind before v vectors in
      let first_one : read_cycle first rows (length before, record { start = here; table = e.table; row = e.row; mark = e.mark })
      ≡ record { number = length before; start = starts_at period (before ++ v ∷ vectors) (length before); vector = v } =
      one_cycle (length before) here v e all.0 are.0
      ∙ ap (λ (n : ℕ). record { number = length before; start = n; vector = v }) (sym begin) in
      let moved =
      subst (λ (n : ℕ). map (read_cycle first rows) (enumerate_from n (timed tables (sum_by period next) entries))
      ≡ map (λ (w : ℕ × Vector). record {
        number = w.0;
        start = starts_at period (next ++ vectors) w.0;
        vector = w.1;
      }) (enumerate_from n vectors)) size (read_behind next vectors entries are.1 all.1) in
      let rest : map (read_cycle first rows)
      (enumerate_from (length before + 1) (timed tables (here + period_of tables e.table) entries))
      ≡ map (λ (w : ℕ × Vector). record {
        number = w.0;
        start = starts_at period (before ++ v ∷ vectors) w.0;
        vector = w.1;
      }) (enumerate_from (length before + 1) vectors) =
      ap (λ (n : ℕ). map (read_cycle first rows) (enumerate_from (length before + 1) (timed tables n entries))) behind
      ∙ (moved
      ∙ ap (λ (l : List Vector). map (λ (w : ℕ × Vector). record {
        number = w.0;
        start = starts_at period l w.0;
        vector = w.1;
      }) (enumerate_from (length before + 1) vectors)) (append_assoc before (v ∷ []) vectors)) in
      ap (λ (d : Dated). d ∷ map (read_cycle first rows)
      (enumerate_from (length before + 1) (timed tables (here + period_of tables e.table) entries))) first_one
      ∙ ap (λ (l : List Dated). record {
        number = length before;
        start = starts_at period (before ++ v ∷ vectors) (length before);
        vector = v;
      } ∷ l) rest

  -- all cycles
  pub read_all : (vectors : List Vector) (entries : List Entry) → AreEntries first rows vectors entries
      → AllByRecursion (IsRead first own tables) vectors
      → map (read_cycle first rows) (enumerate_from 0 (timed tables 0 entries)) ≡ dated (vector_period own) vectors
  read_all vectors entries are all = read_behind [] vectors entries are all
