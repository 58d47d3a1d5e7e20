-- What a datalog prints of the names of a program has no line feeds within its lines.
use Rattle.std.proofs.Common.{◌≡◌, ℕ, zero, suc, ◌+◌, ◌-◌, ◌≤◌, nat_le, Bool, true, false, not, cond, ◌||◌, List, [], ◌∷◌, ◌++◌, length, get_or, Option, Some, None, refl, ap, ◌∙◌, arith}
use Rattle.std.specs.Prelude.{slice_get}
use Rattle.std.specs.List.{AllByRecursion, find, list_all, list_any}
use Rattle.std.specs.Option.{option_map, option_map_or, option_and_then}
use Rattle.std.proofs.lemmas.Bool.{and_parts, leb-true, ne_eqb}
use Rattle.text_bytes.specs.Bytes.{is_printable}
use Rattle.tester_types.specs.Cells.{Cell, marked_cell}
use Rattle.tester_types.specs.Printing.{printed_name}
use Rattle.packed_code.specs.declared.parts.CodeChain.{CodeChain}
use Rattle.packed_code.specs.declared.parts.CodeSignal.{CodeSignal}
use Rattle.packed_code.specs.Program.{Exec, Program}
use Rattle.packed_code.specs.Conditions.{EachBehind, IsName, IsSignal, IsChain, IsExec, IsProgram}
use Rattle.packed_code.specs.Cycles.{exec_of}
use Rattle.packed_code.proofs.Lists.{each_all}
use Rattle.part_lines.specs.Lines.{is_feed, is_one_line}
use Rattle.part_lines.proofs.LineLemmas.{one_printed}

-- ---- names

-- printable bytes
least_is : (x : ℕ) → is_printable x ≡ true → 32 ≤ x
unfolding is_printable
least_is x is = leb-true 32 x (and_parts (nat_le 32 x) (nat_le x 126) is).0

printable_one : (name : List ℕ) → list_all is_printable name ≡ true → is_one_line name ≡ true
printable_one [] all = refl
printable_one (x ∷ name) all =
    let both = and_parts (is_printable x) (list_all is_printable name) all in
    let least : 32 ≤ x = least_is x both.0 in
    ap (λ (t : Bool). not (t || list_any is_feed name)) (ne_eqb x 10 (λ e. absurd (omega (arith, e, least))))
    ∙ printable_one name both.1

-- a name as it is printed
pub printed_one : (name : List ℕ) → list_all is_printable name ≡ true
    → is_one_line (printed_name name) ≡ true
printed_one name all = one_printed name (printable_one name all)

-- ---- the names of a program

-- the name of a signal; none has no byte
signals_printable : (before signals : List CodeSignal) → EachBehind IsSignal before signals
    → (k : ℕ)
    → list_all is_printable (option_map_or (λ (s : CodeSignal). s.name) (slice_get signals k) [])
    ≡ true
signals_printable before [] each k = refl
signals_printable before (s ∷ signals) each zero = each.0.name.text.printable
signals_printable before (s ∷ signals) each (suc k) = signals_printable (before ++ s ∷ []) signals each.1 k

-- both names of a cell, if there is one, are printable
abbrev pub IsPrinted : Option Cell → Type 0
IsPrinted None = Unit {0}
IsPrinted (Some cell) = (list_all is_printable cell.chain ≡ true) × (list_all is_printable cell.name ≡ true)

-- a name of a list
named : (names : List (List ℕ)) → AllByRecursion IsName names → (k : ℕ) (chain : List ℕ)
    → list_all is_printable chain ≡ true
    → IsPrinted (option_map (λ (name : List ℕ). record { chain = chain; name = name }) (slice_get names k))
named [] all k chain is = tt
named (n ∷ names) all zero chain is = (is, all.0.text.printable)
named (n ∷ names) all (suc k) chain is = named names all.1 k chain is

-- the cell of a chain
cell_printed : (chain : CodeChain) (signals mark : ℕ) → IsChain signals chain
    → IsPrinted (option_map (λ (name : List ℕ). record { chain = chain.name; name = name }) (marked_cell chain.length chain.cells mark))
cell_printed chain signals zero is = tt
cell_printed chain signals (suc index) is = by _
  where
    by : (t : Bool)
        → IsPrinted (option_map (λ (name : List ℕ). record { chain = chain.name; name = name })
        (cond {A = Option (List ℕ)} t (slice_get chain.cells (chain.length - 1 - index)) None))
    by true = named chain.cells (each_all IsName [] chain.cells is.cells) (chain.length - 1 - index) chain.name is.name.text.printable
    by false = tt

-- the cell of the first of chains that passes
found_printed : (test : CodeChain → Bool) (signals mark : ℕ) (chains : List CodeChain)
    → AllByRecursion (IsChain signals) chains
    → IsPrinted (option_and_then (λ (chain : CodeChain).
    option_map (λ (name : List ℕ). record { chain = chain.name; name = name }) (marked_cell chain.length chain.cells mark)) (find test chains))
found_printed test signals mark [] all = tt
found_printed test signals mark (c ∷ chains) all = by (test c) (found_printed test signals mark chains all.1)
  where
    by : (t : Bool) → IsPrinted (option_and_then (λ (chain : CodeChain).
        option_map (λ (name : List ℕ). record { chain = chain.name; name = name }) (marked_cell chain.length chain.cells mark)) (find test chains))
        → IsPrinted (option_and_then (λ (chain : CodeChain).
        option_map (λ (name : List ℕ). record { chain = chain.name; name = name }) (marked_cell chain.length chain.cells mark))
        (cond {A = Option CodeChain} t (Some c) (find test chains)))
    by true rest = cell_printed c signals mark all.0
    by false rest = rest

-- ---- a code whose names lines can show

pub record ShowsNames (code : Program) : Type 0 where
  pub signals : EachBehind IsSignal [] code.signals
  pub count : ℕ
  pub chains : (exec : ℕ) → AllByRecursion (IsChain count) (exec_of code exec).chains

-- the name of a signal
pub signal_printable : (code : Program) → ShowsNames code → (k : ℕ)
    → list_all is_printable (option_map_or (λ (s : CodeSignal). s.name) (slice_get code.signals k) []) ≡ true
signal_printable code shows k = signals_printable [] code.signals shows.signals k

-- the cell that a fail names
pub cell_of_printed : (code : Program) → ShowsNames code → (test : CodeChain → Bool) (exec mark : ℕ)
    → IsPrinted (option_and_then (λ (chain : CodeChain).
    option_map (λ (name : List ℕ). record { chain = chain.name; name = name }) (marked_cell chain.length chain.cells mark))
    (find test (exec_of code exec).chains))
cell_of_printed code shows test exec mark = found_printed test shows.count mark (exec_of code exec).chains (shows.chains exec)

-- the chains of an executive; none has no chains
chains_fit : (code : Program) (execs : List Exec) (k : ℕ)
    → AllByRecursion (IsExec (length code.signals) code.tables code.rows) execs
    → AllByRecursion (IsChain (length code.signals))
    (get_or execs k (record { name = []; chains = []; instrs = [] })).chains
chains_fit code [] k all = tt
chains_fit code (e ∷ execs) zero all = each_all (IsChain (length code.signals)) [] e.chains all.0.chains
chains_fit code (e ∷ execs) (suc k) all = chains_fit code execs k all.1

-- a code with all conditions is one
pub whole_shows : (code : Program) → IsProgram code → ShowsNames code
whole_shows code program = record {
  signals = program.signals;
  count = length code.signals;
  chains = λ exec. chains_fit code code.execs exec
      (each_all (IsExec (length code.signals) code.tables code.rows) [] code.execs program.execs);
}
