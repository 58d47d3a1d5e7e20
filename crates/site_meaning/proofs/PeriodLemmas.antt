-- Each cycle of a whole program takes time.
use Rattle.std.proofs.Common.{◌≡◌, ℕ, ◌+◌, ◌<◌, List, [], ◌∷◌, length, get_or, replicate, Option, Some, None, refl, sym, subst, inl, inr}
use Rattle.std.specs.List.{AllByRecursion, slice_get}
use Rattle.std.specs.Option.{option_map_or}
use Rattle.std.proofs.lemmas.Bool.{cases_lt}
use Rattle.std.proofs.lemmas.List.{get_or_past}
use Rattle.std.proofs.lemmas.Option.{slice_get-get_or, get_or_from_slice_get}
use Rattle.tester_types.specs.declared.wave.Table.{Table}
use Rattle.packed_code.specs.declared.instr.Entry.{Entry}
use Rattle.packed_code.specs.declared.course.Course.{Course}
use Rattle.packed_code.specs.Meaning.{Means, bodies}
use Rattle.packed_code.proofs.CourseLemmas.{starts_on, starts_with}
use Rattle.packed_code.specs.Program.{Program, Exec}
use Rattle.packed_code.specs.Conditions.{IsProgram}
use Rattle.packed_code.specs.Cycles.{period_of, timed, exec_of, cycles_of}
use Rattle.packed_code.specs.Walk.{IsOf}
use Rattle.packed_code.proofs.WalkLemmas.{exec_is, begins_over, period_fits}
use Rattle.site_meaning.specs.Part.{Part, IsPart, stand_for}
use Rattle.site_meaning.proofs.InstantLemmas.{TakesTime}
use Rattle.site_meaning.proofs.ReachedLemmas.{none_or_some}

-- no table
abbrev no_table : Table
no_table = record { name = []; period = 0; waves = [] }

-- a cycle of a table that the program has
table_takes_time : (code : Program) (table row : ℕ) → IsProgram code → IsOf code table row → 0 < period_of code.tables table
table_takes_time code table row is of = go (slice_get code.tables table) refl
  where
    go : (found : Option Table) → slice_get code.tables table ≡ found → 0 < option_map_or (λ t. t.period) found 0
    go None none = absurd (none_or_some (slice_get code.tables table) (get_or code.tables table no_table) none
        (slice_get-get_or code.tables table no_table of.table))
    go (Some t) some =
        (period_fits code table t is of.table (sym (get_or_from_slice_get code.tables table t t some))).0

-- each cycle of an executive is of such a table
abbrev pub AreNamed : Program → List Entry → Type 0
AreNamed code entries = AllByRecursion (λ (entry : Entry). IsOf code entry.table entry.row) entries

-- a walk at its beginning
abbrev beginning : Course
beginning = record { at = 0; taken = 0; depth = 0; loops = replicate 64 (record { start = 0; left = 0 }) }

exec_named : (code : Program) (exec : ℕ) → IsProgram code → exec < length code.execs
    → AreNamed code (Means (exec_of code exec).instrs)
exec_named code exec is within =
    let instrs = (exec_of code exec).instrs in
    let begun = starts_on instrs beginning.loops refl (exec_is code exec is within).whole.rest in
    let all = starts_with instrs in
    subst (AreNamed code) all (begins_over code exec beginning is within begun all).named

none_named : (code : Program) → AreNamed code (Means [])
unfolding bodies
none_named code = tt

all_named : (code : Program) (exec : ℕ) → IsProgram code → AreNamed code (Means (exec_of code exec).instrs)
all_named code exec is =
    elim (cases_lt exec (length code.execs)) [
      | inl within ↦ exec_named code exec is within
      | inr past ↦ subst (λ (e : Exec). AreNamed code (Means e.instrs)) (sym (get_or_past code.execs exec no_exec past)) nothing
    ]
  where
    no_exec : Exec
    no_exec = record { name = []; chains = []; instrs = [] }

    nothing : AreNamed code (Means [])
    nothing = none_named code

-- cycles of named entries take time
timed_take : (part : Part) (die number start : ℕ) (entries : List Entry) → IsPart part → AreNamed part.code entries
    → AllByRecursion (TakesTime (stand_for part die number)) (timed part.code.tables start entries)
timed_take part die number start [] is named = tt
timed_take part die number start (entry ∷ entries) is named = (
  table_takes_time part.code entry.table entry.row is.code named.0,
  timed_take part die number (start + period_of part.code.tables entry.table) entries is named.1,
)

pub periods : (part : Part) (die number exec : ℕ) → IsPart part
    → AllByRecursion (TakesTime (stand_for part die number)) (cycles_of part.code exec)
periods part die number exec is =
    timed_take part die number 0 (Means (exec_of part.code exec).instrs) is (all_named part.code exec is.code)
