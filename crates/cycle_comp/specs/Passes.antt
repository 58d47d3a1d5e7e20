-- The instructions that the code writes, as a function of the tree and of what each vector's entry is; no public clause
-- cites it.
use Rattle.std.specs.Prelude.{◌≡◌, ℕ, zero, suc, ◌+◌, ◌==◌, ◌&&◌, nat_lt, Bool, true, false, List, [], ◌∷◌, ◌++◌, min, Some, None, slice_index_or, unwrap_or, if◌then◌else◌, Result, MatchResult}
use Rattle.std.specs.Cmp.Lexicographic.{pointwise}
use Rattle.tester_types.specs.declared.wave.Table.{Table}
use Rattle.stil_ast.specs.Data.Texts.{same}
use Rattle.stil_ast.specs.Meaning.State.{State, Vector}
use Rattle.stil_ast.specs.Meaning.Dealing.{with_character}
use Rattle.stil_ast.specs.Meaning.Running.{Ran, times, outside}
use Rattle.stil_ast.specs.Meaning.Flat.{Flat, done, table, character, back, cycle, repeat, save, saved, flat_run, measure}
use Rattle.stil_ast.specs.Meaning.ExecutiveData.{row_of}
use Rattle.packed_code.specs.declared.instr.Entry.{Entry}
use Rattle.packed_code.specs.declared.instr.Instr.{Instr}
use Rattle.packed_code.specs.declared.instr.Instr.TheVariants.{Run, Loop, End, Done}
use Rattle.cycle_comp.specs.Known.{Known, IsKnown, Moves}
use Rattle.cycle_comp.specs.Written.{HasEachOnce}
use Rattle.cycle_comp.specs.Writing.{looped, Trouble, Walked, IsStopped}

-- ---- entries

-- the number of a row among others, by the first that is equal
abbrev pub row_number : List (List ℕ) → List ℕ → ℕ
row_number [] row = 0
row_number (r ∷ rows) row = if same row r then 0 else suc (row_number rows row)

-- the entry of a vector among these rows
abbrev pub entry_in : ℕ → List (List ℕ) → Vector → Entry
entry_in first rows v =
    record { table = min (first + unwrap_or v.table 0) 65535; row = row_number rows (row_of v); mark = v.mark }

-- ---- one cycle more

-- a Run of an entry, once
abbrev pub once : Entry → Instr
once e = Run e.table e.row e.mark 1

-- whether an instruction runs this entry, and has room to run it once more
abbrev pub has_room : Entry → Instr → Bool
has_room e (Run t r m n) = (t == e.table) && (r == e.row) && (m == e.mark) && nat_lt n 4294967295
has_room e (Loop n) = false
has_room e End = false
has_room e Done = false

-- the same instruction, where it is a Run, once more
abbrev pub once_more : Instr → Instr
once_more (Run t r m n) = Run t r m (n + 1)
once_more (Loop n) = Loop n
once_more End = End
once_more Done = Done

-- an entry behind a last instruction
abbrev pub behind_last : Entry → Instr → List Instr
behind_last e last = if has_room e last then once_more last ∷ [] else last ∷ once e ∷ []

-- an entry behind instructions
abbrev pub with_entry : Entry → List Instr → List Instr
with_entry e [] = once e ∷ []
with_entry e (i ∷ []) = behind_last e i
with_entry e (i ∷ j ∷ code) = i ∷ with_entry e (j ∷ code)

-- ---- loops

-- whether two instructions are equal
abbrev pub same_instr : Instr → Instr → Bool
same_instr (Run t r m n) (Run u s k l) = (t == u) && (r == s) && (m == k) && (n == l)
same_instr (Loop n) (Loop l) = n == l
same_instr End End = true
same_instr Done Done = true
same_instr _ _ = false

-- whether two lists of instructions are equal
abbrev pub same_code : List Instr → List Instr → Bool
same_code a b = pointwise same_instr a b

-- the passes behind the first one, so many and one: the only one stands as it is
abbrev pub later_passes : ℕ → List Instr → List Instr
later_passes zero second = second
later_passes (suc n) second = looped (suc (suc n)) second

-- so many passes and two, of which these are the first two: nothing where they are empty; once where they are equal;
-- else the first one apart
abbrev pub passes : ℕ → List Instr → List Instr → List Instr
passes n [] second = []
passes n (i ∷ first) second =
    if same_code (i ∷ first) second then looped (suc (suc n)) (i ∷ first) else (i ∷ first) ++ later_passes n second

-- so many passes behind instructions: a single one is written behind them, others begin in lists of their own
abbrev pub with_passes : ℕ → (State → List Instr → List Instr) → (State → Ran State) → State → List Instr → List Instr
with_passes zero write run s code = code
with_passes (suc zero) write run s code = write s code
with_passes (suc (suc n)) write run s code = code ++ passes n (write s []) (write (run s).here [])

-- ---- trees

-- a vector of a state, with its mark
abbrev pub vector_at : State → ℕ → Vector
vector_at s mark = record { table = s.table; characters = s.characters; mark = mark }

-- the instructions of a tree behind others, where each vector has this entry
abbrev pub written : (Vector → Entry) → Flat → State → State → List Instr → List Instr
written e done base s code = code
written e (table t rest) base s code = written e rest base (record { table = Some t; characters = s.characters }) code
written e (character signal c rest) base s code = written e rest base (with_character signal (Some c) s) code
written e (back signal rest) base s code =
    written e rest base (with_character signal (slice_index_or base.characters signal None) s) code
written e (cycle mark spot rest) base s code = written e rest base s (with_entry (e (vector_at s mark)) code)
written e (repeat count body rest) base s code =
    written e rest base (times count (flat_run body base) s).here
    (with_passes count (written e body base) (flat_run body base) s code)
written e (save putting body rest) base s code =
    written e rest base (saved putting s (flat_run body s s)).here (written e body s s code)

-- the same of trees one after another
abbrev pub flats_written : (Vector → Entry) → List Flat → State → List Instr → List Instr
flats_written e [] s code = code
flats_written e (f ∷ flats) s code =
    flats_written e flats (flat_run f (outside s).held s).here (written e f (outside s).held s code)

-- ---- what the code writes

-- rows that begin with these, none of them twice
pub record GoesOn (rows all : List (List ℕ)) : Type 0 where
  pub more : List (List ℕ)
  pub are : all ≡ rows ++ more
  pub each_once : HasEachOnce all

-- whatever rows come behind these, the instructions are those of such a function of the entries among them
abbrev pub IsExact : ℕ → ((Vector → Entry) → List Instr → List Instr) → List Instr → List Instr → List (List ℕ) → Type 0
IsExact first write old new rows =
    (all : List (List ℕ)) → GoesOn rows all → new ≡ write (entry_in first all) old

-- ---- what a pass answers

-- A run was written, from one state on to another one: its vectors behind instructions and rows, by such a function of
-- their entries; and what the state behind it knows is so.
pub record WroteAll (tables : List Table) (first : ℕ) (r : Ran State) (size : ℕ)
    (write : (Vector → Entry) → List Instr → List Instr) (old new : Known) (before after : List Instr)
    (rows more : List (List ℕ)) : Type 0 where
  pub walked : Walked tables first r size before after rows more new.told
  pub known : IsKnown tables more new
  pub moves : Moves old new
  pub exact : IsExact first write before after more

-- what a pass answers that writes a tree: it was written, or else its first vector that can't run, or want of memory
abbrev pub Writes : List Table → ℕ → Flat → State → Known → Known → List Instr → List Instr → List (List ℕ)
    → List (List ℕ) → Result Unit Trouble → Type 0
Writes tables first tree base old new before after rows more result =
    MatchResult result
    (λ _. WroteAll tables first (flat_run tree base old.told) (measure tree)
    (λ entry code. written entry tree base old.told code) old new before after rows more)
    (IsStopped tables (flat_run tree base old.told).made)
