-- Two codes of one text say the same, although their instructions may differ: `codes_of_text`. A saved program is of one
-- code: `code_of_saved`.
use Rattle.std.proofs.Common.{◌≡◌, ℕ, zero, suc, ◌+◌, ◌-◌, ◌<◌, ◌≤◌, Bool, cond, List, [], ◌∷◌, ◌++◌, length, map, Option, Some, None, refl, sym, ap, ◌∙◌, subst, arith, ⊎_elim, append_assoc, length-append, zero-add}
use Rattle.std.specs.List.{AllByRecursion, enumerate_from, flat_map}
use Rattle.std.proofs.lemmas.List.{get_or_past, append-nil}
use Rattle.std.proofs.lemmas.Bool.{cases_lt, le-leb, ne_eqb}
use Rattle.std.proofs.lemmas.Option.{none-some, same_Some}
use Rattle.tester_types.specs.declared.cycle.Cycle.{Cycle}
use Rattle.tester_types.specs.declared.wave.Table.{Table}
use Rattle.packed_code.specs.Program.{Exec, Program}
use Rattle.packed_code.specs.Conditions.{characters_of}
use Rattle.packed_code.specs.Meaning.{Means}
use Rattle.packed_code.specs.Cycles.{exec_of, cycles_of, timed}
use Rattle.page_code.specs.Saved.{Saved}
use Rattle.page_code.proofs.LoadLemmas.{none_begins}
use Rattle.stil_ast.specs.Meaning.Chains.{Chain}
use Rattle.stil_ast.specs.Meaning.Cycles.{Dated}
use Rattle.stil_ast.specs.Meaning.State.{Vector}
use Rattle.stil_ast.specs.Meaning.ExecutiveData.{Executive, vectors_of, cycles_of as text_cycles, row_of, distinct_rows, rows_of, tables_of}
use Rattle.stil_ast.specs.Meaning.Signals.{Names, names_of}
use Rattle.stil_ast.specs.declared.blocks.Blocks.{Blocks}
use Rattle.stil_ast.specs.declared.executive.ExecDecl.{ExecDecl}
use Rattle.stil_program.proofs.FrontLemmas.{one_read}
use Rattle.burst_exec.specs.Executives.{AreExecutives}
use Rattle.cycle_comp.specs.Compiled.{chain_of, character_of, table_in, read_cycle, IsExecOf, IsCodeOf}
use Rattle.stil_program.specs.Program.{IsBlocksCode, IsProgramOf}
use Rattle.site_meaning.specs.Alike.{SaidCycle, said_by, said_cycles, AreCodesAlike}

-- ---- cycles that are read alike

-- a byte that isn't 0 is a character
some_character : (b : ℕ) → character_of (suc b) ≡ Some (suc b)
some_character b = ap (λ (t : Bool). cond {A = Option ℕ} t None (Some (suc b))) (ne_eqb (suc b) 0 (λ e. omega (arith, e)))

-- a byte of a row is the character that it is read as, or none
one_character : (a b : ℕ) → character_of a ≡ character_of b → a ≡ b
one_character zero zero same = refl
one_character zero (suc b) same = absurd (none-some (suc b) (same ∙ some_character b))
one_character (suc a) zero same = absurd (none-some (suc a) (sym same ∙ some_character a))
one_character (suc a) (suc b) same = same_Some (suc a) (suc b) (sym (some_character a) ∙ same ∙ some_character b)

one_row : (xs ys : List ℕ) → map character_of xs ≡ map character_of ys → xs ≡ ys
one_row [] [] same = refl
one_row [] (b ∷ ys) same = absurd (let no : [] ≡ character_of b ∷ map character_of ys = same in cc no)
one_row (a ∷ xs) [] same = absurd (let no : character_of a ∷ map character_of xs ≡ [] = same in cc no)
one_row (a ∷ xs) (b ∷ ys) same =
    ap (λ (x : ℕ). x ∷ xs) (one_character a b (first_is same)) ∙ ap (λ (l : List ℕ). b ∷ l) (one_row xs ys (rest_is same))
  where
    first_is : character_of a ∷ map character_of xs ≡ character_of b ∷ map character_of ys → character_of a ≡ character_of b
    first_is e = cc

    rest_is : character_of a ∷ map character_of xs ≡ character_of b ∷ map character_of ys → map character_of xs ≡ map character_of ys
    rest_is e = cc

-- a table of an executive's own
own_table : (first table : ℕ) → first ≤ table → table_in first table ≡ Some (table - first)
own_table first table low = ap (λ (b : Bool). cond b (Some (table - first)) None) (le-leb first table low)

one_table : (first a b : ℕ) → first ≤ a → first ≤ b → table_in first a ≡ table_in first b → a ≡ b
one_table first a b low high same =
    let apart = same_Some (a - first) (b - first) (sym (own_table first a low) ∙ same ∙ own_table first b high) in
    omega (arith, apart, low, high)

-- a cycle's table is one of the executive's own
abbrev IsOwn : ℕ → Cycle → Type 0
IsOwn first cycle = first ≤ cycle.table

said_alike : (first number : ℕ) (rows rows' : List (List ℕ)) (c c' : Cycle) → IsOwn first c → IsOwn first c'
    → read_cycle first rows (number, c) ≡ read_cycle first rows' (number, c') → said_by rows c ≡ said_by rows' c'
said_alike first number rows rows' c c' own own' same =
    let start : c.start ≡ c'.start = ap (λ (d : Dated). d.start) same in
    let table : c.table ≡ c'.table = one_table first c.table c'.table own own' (ap (λ (d : Dated). d.vector.table) same) in
    let characters : characters_of rows c.row ≡ characters_of rows' c'.row = one_row _ _ (ap (λ (d : Dated). d.vector.characters) same) in
    let mark : c.mark ≡ c'.mark = ap (λ (d : Dated). d.vector.mark) same in
    λ i. record { start = start i; table = table i; characters = characters i; mark = mark i }

all_said : (first number : ℕ) (rows rows' : List (List ℕ)) (cs cs' : List Cycle) → AllByRecursion (IsOwn first) cs
    → AllByRecursion (IsOwn first) cs'
    → map (read_cycle first rows) (enumerate_from number cs) ≡ map (read_cycle first rows') (enumerate_from number cs')
    → map (said_by rows) cs ≡ map (said_by rows') cs'
all_said first number rows rows' [] [] own own' same = refl
all_said first number rows rows' [] (c' ∷ cs') own own' same =
    absurd (let no : [] ≡ read_cycle first rows' (number, c') ∷ map (read_cycle first rows') (enumerate_from (number + 1) cs') = same in cc no)
all_said first number rows rows' (c ∷ cs) [] own own' same =
    absurd (let no : read_cycle first rows (number, c) ∷ map (read_cycle first rows) (enumerate_from (number + 1) cs) ≡ [] = same in cc no)
all_said first number rows rows' (c ∷ cs) (c' ∷ cs') own own' same =
    ap (λ (s : SaidCycle). s ∷ map (said_by rows) cs) (said_alike first number rows rows' c c' own.0 own'.0 (first_is same))
    ∙ ap (λ (l : List SaidCycle). said_by rows' c' ∷ l) (all_said first (number + 1) rows rows' cs cs' own.1 own'.1 (rest_is same))
  where
    later : List Dated
    later = map (read_cycle first rows) (enumerate_from (number + 1) cs)

    later' : List Dated
    later' = map (read_cycle first rows') (enumerate_from (number + 1) cs')

    first_is : read_cycle first rows (number, c) ∷ later ≡ read_cycle first rows' (number, c') ∷ later'
        → read_cycle first rows (number, c) ≡ read_cycle first rows' (number, c')
    first_is e = cc

    rest_is : read_cycle first rows (number, c) ∷ later ≡ read_cycle first rows' (number, c') ∷ later' → later ≡ later'
    rest_is e = cc

-- ---- executives of one text

-- they have the same, but for their flat trees
pub record AreAlike (signals : ℕ) (x y : Executive) : Type 0 where
  pub name : x.name ≡ y.name
  pub tables : x.tables ≡ y.tables
  pub chains : x.chains ≡ y.chains
  pub vectors : vectors_of signals x ≡ vectors_of signals y
  pub cycles_are : text_cycles signals x ≡ text_cycles signals y

abbrev AllAlike : ℕ → List Executive → List Executive → Type 0
AllAlike signals [] [] = Unit {0}
AllAlike signals (x ∷ xs) (y ∷ ys) = AreAlike signals x y × AllAlike signals xs ys
AllAlike signals _ _ = ⊥

-- those of the same declarations
are_alike : (blocks : Blocks) (es : List ExecDecl) (xs ys : List Executive) → AreExecutives blocks es xs → AreExecutives blocks es ys
    → AllAlike (length (names_of blocks).signals) xs ys
are_alike blocks [] [] [] a b = tt
are_alike blocks [] [] (y ∷ ys) a b = absurd b
are_alike blocks [] (x ∷ xs) ys a b = absurd a
are_alike blocks (e ∷ es) [] ys a b = absurd a
are_alike blocks (e ∷ es) (x ∷ xs) [] a b = absurd b
are_alike blocks (e ∷ es) (x ∷ xs) (y ∷ ys) a b = (
  record {
    name = a.0.name_is ∙ sym b.0.name_is;
    tables = a.0.tables_are ∙ sym b.0.tables_are;
    chains = a.0.chains_are ∙ sym b.0.chains_are;
    vectors = a.0.vectors_are ∙ sym b.0.vectors_are;
    cycles_are = a.0.cycles_are ∙ sym b.0.cycles_are;
  },
  are_alike blocks es xs ys a.1 b.1,
)

tables_alike : (signals : ℕ) (xs ys : List Executive) → AllAlike signals xs ys → tables_of xs ≡ tables_of ys
tables_alike signals [] [] all = refl
tables_alike signals [] (y ∷ ys) all = absurd all
tables_alike signals (x ∷ xs) [] all = absurd all
tables_alike signals (x ∷ xs) (y ∷ ys) all =
    ap (λ (l : List Table). l ++ tables_of xs) all.0.tables ∙ ap (λ (l : List Table). y.tables ++ l) (tables_alike signals xs ys all.1)

-- the rows of vectors of executives, one after another
all_rows : ℕ → List Executive → List (List ℕ)
all_rows signals xs = flat_map (λ (e : Executive). map row_of (vectors_of signals e)) xs

all_rows_alike : (signals : ℕ) (xs ys : List Executive) → AllAlike signals xs ys → all_rows signals xs ≡ all_rows signals ys
unfolding all_rows
all_rows_alike signals [] [] all = refl
all_rows_alike signals [] (y ∷ ys) all = absurd all
all_rows_alike signals (x ∷ xs) [] all = absurd all
all_rows_alike signals (x ∷ xs) (y ∷ ys) all =
    ap (λ (v : List Vector). map row_of v ++ all_rows signals xs) all.0.vectors
    ∙ ap (λ (l : List (List ℕ)). map row_of (vectors_of signals y) ++ l) (all_rows_alike signals xs ys all.1)

rows_alike : (signals : ℕ) (xs ys : List Executive) → AllAlike signals xs ys → rows_of signals xs ≡ rows_of signals ys
unfolding all_rows
rows_alike signals xs ys all = ap (distinct_rows []) (all_rows_alike signals xs ys all)

length_alike : (signals : ℕ) (xs ys : List Executive) → AllAlike signals xs ys → length xs ≡ length ys
length_alike signals [] [] all = refl
length_alike signals [] (y ∷ ys) all = absurd all
length_alike signals (x ∷ xs) [] all = absurd all
length_alike signals (x ∷ xs) (y ∷ ys) all = omega (arith, length_alike signals xs ys all.1)

-- ---- an executive of both codes

-- what both codes have under a number
record AreExecsAlike (code other : Program) (number : ℕ) : Type 0 where
  pub name : (exec_of code number).name ≡ (exec_of other number).name
  pub chains : (exec_of code number).chains ≡ (exec_of other number).chains
  pub cycles_are : said_cycles code number ≡ said_cycles other number

all_own : (first many : ℕ) (cs : List Cycle) → AllByRecursion (λ (c : Cycle). (first ≤ c.table) × (c.table < first + many)) cs
    → AllByRecursion (IsOwn first) cs
all_own first many [] all = tt
all_own first many (c ∷ cs) all = (all.0.0, all_own first many cs all.1)

-- where one stands, behind others that are alike too
exec_alike : (signals first first' number : ℕ) (x y : Executive) (code other : Program) → first ≡ first' → AreAlike signals x y
    → IsExecOf signals first x code number → IsExecOf signals first' y other number → AreExecsAlike code other number
exec_alike signals first first' number x y code other firsts alike a b =
    let b' = subst (λ (n : ℕ). IsExecOf signals n y other number) (sym firsts) b in
    record {
      name = a.name ∙ alike.name ∙ sym b.name;
      chains = a.chains ∙ ap (λ (l : List Chain). map chain_of l) alike.chains ∙ sym b.chains;
      cycles_are = all_said first 0 code.rows other.rows (cycles_of code number) (cycles_of other number)
          (all_own first (length x.tables) (cycles_of code number) a.inside)
          (all_own first (length y.tables) (cycles_of other number) b'.inside) (a.cycles ∙ alike.cycles_are ∙ sym b'.cycles);
    }

-- each of the executives of a code
abbrev Each : ℕ → List Executive → Program → Type 0
Each signals xs code =
    (before after : List Executive) (e : Executive) → xs ≡ before ++ e ∷ after
    → IsExecOf signals (length (tables_of before)) e code (length before)

-- one executive more in front
front_alike : (signals : ℕ) (xs ys : List Executive) (x y : Executive) → AllAlike signals xs ys → AreAlike signals x y
    → AllAlike signals (xs ++ x ∷ []) (ys ++ y ∷ [])
front_alike signals [] [] x y all one = (one, tt)
front_alike signals [] (z ∷ ys) x y all one = absurd all
front_alike signals (w ∷ xs) [] x y all one = absurd all
front_alike signals (w ∷ xs) (z ∷ ys) x y all one = (all.0, front_alike signals xs ys x y all.1 one)

-- those behind these
execs_alike : (signals : ℕ) (all all' front front' xs ys : List Executive) (code other : Program) → Each signals all code
    → Each signals all' other → all ≡ front ++ xs → all' ≡ front' ++ ys → AllAlike signals front front' → AllAlike signals xs ys
    → (k : ℕ) → k < length xs → AreExecsAlike code other (length front + k)
execs_alike signals all all' front front' [] ys code other each each' is is' fronts later k within = absurd (omega (arith, within))
execs_alike signals all all' front front' (x ∷ xs) [] code other each each' is is' fronts later k within = absurd later
execs_alike signals all all' front front' (x ∷ xs) (y ∷ ys) code other each each' is is' fronts later zero within =
    let size : length front ≡ length front' = length_alike signals front front' fronts in
    subst (AreExecsAlike code other) (omega arith)
    (exec_alike signals (length (tables_of front)) (length (tables_of front')) (length front) x y code other
    (ap (λ (l : List Table). length l) (tables_alike signals front front' fronts)) later.0 (each front xs x is)
    (subst (IsExecOf signals (length (tables_of front')) y other) (sym size) (each' front' ys y is')))
execs_alike signals all all' front front' (x ∷ xs) (y ∷ ys) code other each each' is is' fronts later (suc k) within =
    subst (AreExecsAlike code other) (omega (arith, length-append front (x ∷ [])))
    (execs_alike signals all all' (front ++ x ∷ []) (front' ++ y ∷ []) xs ys code other each each'
    (is ∙ sym (append_assoc front (x ∷ []) xs)) (is' ∙ sym (append_assoc front' (y ∷ []) ys))
    (front_alike signals front front' x y fronts later.0) later.1 k (omega (arith, within)))

-- past the last executive there is nothing
none_alike : (code other : Program) (number : ℕ) → code.tables ≡ other.tables → code.rows ≡ other.rows → length code.execs ≤ number
    → length other.execs ≤ number → AreExecsAlike code other number
none_alike code other number tables rows past past' =
    let none : Exec = record { name = []; chains = []; instrs = [] } in
    let here : exec_of code number ≡ none = get_or_past code.execs number none past in
    let there : exec_of other number ≡ none = get_or_past other.execs number none past' in
    record {
      name = ap (λ (e : Exec). e.name) (here ∙ sym there);
      chains = ap (λ (e : Exec). e.chains) (here ∙ sym there);
      cycles_are = ap (λ (e : Exec). map (said_by code.rows) (timed code.tables 0 (Means e.instrs))) (here ∙ sym there)
          ∙ ap (λ (l : List (List ℕ)). map (said_by l) (timed code.tables 0 (Means (exec_of other number).instrs))) rows
          ∙ ap (λ (l : List Table). map (said_by other.rows) (timed l 0 (Means (exec_of other number).instrs))) tables;
    }

-- ---- two codes

module _ (names : Names) (xs ys : List Executive) (code other : Program) (a : IsCodeOf names xs code) (b : IsCodeOf names ys other)
    (alike : AllAlike (length names.signals) xs ys) where
  tables_are : code.tables ≡ other.tables
  tables_are = a.tables ∙ tables_alike (length names.signals) xs ys alike ∙ sym b.tables

  rows_are : code.rows ≡ other.rows
  rows_are = a.rows ∙ rows_alike (length names.signals) xs ys alike ∙ sym b.rows

  -- an executive, wherever it stands
  exec_is : (number : ℕ) → AreExecsAlike code other number
  exec_is number =
      ⊎_elim
      (λ (low : number < length xs).
      subst (AreExecsAlike code other) (zero-add number)
      (execs_alike (length names.signals) xs ys [] [] xs ys code other a.each b.each refl refl tt alike number low))
      (λ (high : length xs ≤ number). none_alike code other number tables_are rows_are (omega (arith, high, a.count))
      (omega (arith, high, b.count, length_alike (length names.signals) xs ys alike)))
      (cases_lt number (length xs))

  pub codes_alike : AreCodesAlike code other
  codes_alike = record {
    signals = a.signals ∙ sym b.signals;
    tables = tables_are;
    rows = rows_are;
    execs = a.count ∙ length_alike (length names.signals) xs ys alike ∙ sym b.count;
    names = λ exec. (exec_is exec).name;
    chains = λ exec. (exec_is exec).chains;
    cycles = λ exec. (exec_is exec).cycles_are;
  }

pub codes_of_text : (bytes : List ℕ) (code other : Program) → IsProgramOf bytes code → IsProgramOf bytes other → AreCodesAlike code other
codes_of_text bytes code other a b =
    let one : IsBlocksCode a.blocks other =
    subst (λ (bs : Blocks). IsBlocksCode bs other) (one_read bytes b.blocks a.blocks b.text.read a.text.read) b.compiled in
    codes_alike (names_of a.blocks) a.compiled.executives one.executives code other a.compiled.code_is one.code_is
    (are_alike a.blocks a.blocks.executives a.compiled.executives one.executives a.compiled.are one.are)

-- ---- a saved program

pub code_of_saved : (bytes : List ℕ) (code other : Program) → Saved code bytes → Saved other bytes → other ≡ code
code_of_saved bytes code other a b =
    let same = sym (append-nil bytes) in
    ⊎_elim
    (λ x. ⊎_elim (λ y. (none_begins _ _ code other bytes bytes [] x y same).1)
    (λ y. (none_begins _ _ code other bytes bytes [] x y same).1) b)
    (λ x. ⊎_elim (λ y. (none_begins _ _ code other bytes bytes [] x y same).1)
    (λ y. (none_begins _ _ code other bytes bytes [] x y same).1) b) a

-- a code says what it says
pub code_alike : (code : Program) → AreCodesAlike code code
code_alike code = record {
  signals = refl;
  tables = refl;
  rows = refl;
  execs = refl;
  names = λ exec. refl;
  chains = λ exec. refl;
  cycles = λ exec. refl;
}
