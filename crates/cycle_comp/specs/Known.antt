-- What a state knows of the latest vector that was made in it; no public clause cites it.
use Rattle.std.specs.Prelude.{◌≡◌, ℕ, ◌+◌, ◌^◌, ◌<◌, ◌≤◌, Bool, true, false, List, [], ◌∷◌, ◌++◌, Option, Some, None, map, slice_get, slice_index_or, unwrap_or}
use Rattle.tester_types.specs.declared.wave.Table.{Table}
use Rattle.stil_ast.specs.Meaning.State.{State}
use Rattle.stil_ast.specs.Meaning.Dealing.{has_signal}
use Rattle.stil_ast.specs.Faults.CodeFaults.{has_wave}
use Rattle.cycle_comp.specs.declared.state.Latest.{Latest}

-- a state of the language, its latest vector where that is known, the signals whose characters have changed since, and
-- how often the table or a character was set to another one
pub record Known : Type 0 where
  pub told : State
  pub latest : Option Latest
  pub changed : List ℕ
  pub moves : ℕ

-- nothing is known but the state itself
abbrev pub unknown : State → Known
unknown told = record { told = told; latest = None; changed = []; moves = 0 }

-- a vector of this table and of the row with this number was made just now
abbrev pub known : Known → ℕ → ℕ → Known
known s table row =
    record { told = s.told; latest = Some (record { table = table; row = row }); changed = []; moves = s.moves }

-- a row of bytes: the character of each signal, 0 for none
abbrev pub row_of_characters : List (Option ℕ) → List ℕ
row_of_characters characters = map (λ (c : Option ℕ). unwrap_or c 0) characters

-- whether the table of this number defines the character of a signal, if it has one
abbrev pub has_wave_at : List Table → ℕ → List (Option ℕ) → ℕ → Bool
has_wave_at tables table characters signal =
    has_wave (slice_get tables table) signal (slice_index_or characters signal None)

-- the latest vector's table defines the characters of all signals that haven't changed since
abbrev pub AreJudged : List Table → Known → Type 0
AreJudged tables s =
    (l : Latest) (signal : ℕ) → s.latest ≡ Some l → has_signal s.changed signal ≡ false →
    has_wave_at tables l.table s.told.characters signal ≡ true

-- where no signal has changed since, the latest vector's row is that of the state
abbrev pub IsNumbered : List (List ℕ) → Known → Type 0
IsNumbered rows s =
    (l : Latest) → s.latest ≡ Some l → s.changed ≡ []
    → slice_get rows l.row ≡ Some (row_of_characters s.told.characters)

-- what a state knows is so
pub record IsKnown (tables : List Table) (rows : List (List ℕ)) (s : Known) : Type 0 where
  pub judged : AreJudged tables s
  pub numbered : IsNumbered rows s

-- what one state knows is so wherever it is for another one
abbrev pub Keeps : Known → Known → Type 0
Keeps old new = (tables : List Table) (rows : List (List ℕ)) → IsKnown tables rows old → IsKnown tables rows new

-- from one state on to another one nothing was set to another value, unless their counts differ; a full count says
-- nothing
pub record Moves (old new : Known) : Type 0 where
  pub rises : old.moves ≤ new.moves
  pub stays : new.moves ≡ old.moves → new.moves + 1 < 2 ^ 64 → new.told ≡ old.told

-- one more signal has changed, or nothing is known any more
pub record IsNoted (signal : ℕ) (old new : Known) : Type 0 where
  pub told : new.told ≡ old.told
  pub moves : new.moves ≡ old.moves
  pub latest : (l : Latest) → new.latest ≡ Some l → old.latest ≡ Some l
  pub changed : (l : Latest) → new.latest ≡ Some l → new.changed ≡ old.changed ++ signal ∷ []
