-- A walk over a code stays over it, and its cycles name tables and rows of the code.
use Rattle.std.proofs.Common.{◌≡◌, ℕ, zero, suc, ◌+◌, ◌*◌, ◌^◌, ◌<◌, ◌≤◌, List, [], ◌∷◌, length, get_or, replicate, refl, sym, ap, subst, arith}
use Rattle.std.specs.List.{AllByRecursion}
use Rattle.tester_types.specs.declared.wave.Table.{Table}
use Rattle.packed_code.specs.declared.instr.Entry.{Entry}
use Rattle.packed_code.specs.declared.instr.Instr.{Instr}
use Rattle.packed_code.specs.declared.instr.Instr.TheVariants.{Run, Loop, End, Done}
use Rattle.packed_code.specs.declared.course.Course.{Course}
use Rattle.packed_code.specs.Meaning.{repeated, top, on_top, closed, bodies, Means}
use Rattle.packed_code.specs.Course.{coming, IsOn}
use Rattle.packed_code.proofs.CountLemmas.{cycle_count-length}
use Rattle.packed_code.specs.declared.walker.Walk.{Walk}
use Rattle.packed_code.specs.Program.{Program}
use Rattle.packed_code.specs.Conditions.{IsInstr, IsExec, IsTable, IsProgram}
use Rattle.packed_code.specs.Cycles.{period_of, timed, exec_of, cycles_of}
use Rattle.packed_code.specs.Walk.{IsOf, IsOver, entries_left}
use Rattle.text_bytes.proofs.ListLemmas.{all_append}
use Rattle.packed_code.proofs.Lists.{behind_at, each_all, each_at, all_replicate}

-- ---- what instructions name, their cycles name

abbrev Named : Program → Entry → Type 0
Named code entry = IsOf code entry.table entry.row

all_repeated : (code : Program) (n : ℕ) (xs : List Entry) → AllByRecursion (Named code) xs → AllByRecursion (Named code) (repeated n xs)
unfolding repeated
all_repeated code zero xs h = tt
all_repeated code (suc n) xs h = all_append (Named code) xs (repeated n xs) h (all_repeated code n xs h)

all_on_top : (code : Program) (xs : List Entry) (bs : List (List Entry)) → AllByRecursion (Named code) xs
    → AllByRecursion (AllByRecursion (Named code)) bs → AllByRecursion (AllByRecursion (Named code)) (on_top xs bs)
all_on_top code xs [] h all = tt
all_on_top code xs (body ∷ more) h all = (all_append (Named code) xs body h all.0, all.1)

all_closed : (code : Program) (n : ℕ) (bs : List (List Entry)) → AllByRecursion (AllByRecursion (Named code)) bs
    → AllByRecursion (AllByRecursion (Named code)) (closed n bs)
all_closed code n [] all = tt
all_closed code n (body ∷ []) all = tt
all_closed code n (body ∷ after ∷ more) all =
    (all_append (Named code) (repeated n body) after (all_repeated code n body all.0) all.1.0, all.1.1)

all_bodies : (code : Program) (is : List Instr) → AllByRecursion (IsInstr code.tables code.rows) is
    → AllByRecursion (AllByRecursion (Named code)) (bodies is)
unfolding bodies
all_bodies code [] h = (tt, tt)
all_bodies code (Run table row mark times ∷ is) h =
    all_on_top code (replicate times (record { table = table; row = row; mark = mark })) (bodies is)
    (all_replicate (Named code) times (record { table = table; row = row; mark = mark }) (record { table = h.0.0; row = h.0.1; waves = h.0.3 }))
    (all_bodies code is h.1)
all_bodies code (Loop times ∷ is) h = all_closed code times (bodies is) (all_bodies code is h.1)
all_bodies code (End ∷ is) h = (tt, all_bodies code is h.1)
all_bodies code (Done ∷ is) h = (tt, tt)

all_top : (code : Program) (bs : List (List Entry)) → AllByRecursion (AllByRecursion (Named code)) bs → AllByRecursion (Named code) (top bs)
all_top code [] all = tt
all_top code (body ∷ more) all = all.0

-- ---- executives of a code

-- an executive of a code meets its conditions
pub exec_is : (code : Program) (exec : ℕ) → IsProgram code → exec < length code.execs
    → IsExec (length code.signals) code.tables code.rows (exec_of code exec)
exec_is code exec is lt =
    each_at (IsExec (length code.signals) code.tables code.rows) code.execs exec (record { name = []; chains = []; instrs = [] }) is.execs lt

-- as many cycles as entries
pub length-timed : (tables : List Table) (start : ℕ) (entries : List Entry) → length (timed tables start entries) ≡ length entries
length-timed tables start [] = refl
length-timed tables start (entry ∷ entries) = ap suc (length-timed tables (start + period_of tables entry.table) entries)

-- an executive has as many cycles as its instructions mean
pub length-cycles : (code : Program) (exec : ℕ) → length (cycles_of code exec) ≡ length (Means (exec_of code exec).instrs)
length-cycles code exec = length-timed code.tables 0 (Means (exec_of code exec).instrs)

-- a walk begins over its code
pub begins_over : (code : Program) (exec : ℕ) (course : Course) → IsProgram code → exec < length code.execs
    → IsOn (exec_of code exec).instrs course → coming (exec_of code exec).instrs course ≡ Means (exec_of code exec).instrs
    → IsOver code (record { exec = exec; start = 0; course = course })
begins_over code exec course is lt on comes =
    let fits = exec_is code exec is lt in
    let few = fits.whole.cycles in
    record {
      exec = lt;
      on = on;
      room = rw comes (omega (arith, few, cycle_count-length (exec_of code exec).instrs));
      named = rw comes (all_top code (bodies (exec_of code exec).instrs) (all_bodies code (exec_of code exec).instrs (each_all (IsInstr code.tables code.rows) [] (exec_of code exec).instrs fits.instrs)));
    }

-- a table of a code has a period in its range
pub period_fits : (code : Program) (table : ℕ) (found : Table) → IsProgram code → table < length code.tables → found ≡ get_or code.tables table found
    → (0 < found.period) × (found.period ≤ 1000000000000)
period_fits code table found is lt gets =
    let fits = behind_at (IsTable (length code.signals)) [] code.tables table found is.tables lt in
    (subst (λ (t : Table). 0 < t.period) (sym gets) fits.some, subst (λ (t : Table). t.period ≤ 1000000000000) (sym gets) fits.period)

-- a walk goes on over its code
pub goes_on_over : (code : Program) (old : Walk) (entry : Entry) (course : Course) (period : ℕ) → IsOver code old → period ≤ 1000000000000
    → IsOn (exec_of code old.exec).instrs course → entries_left code old ≡ entry ∷ coming (exec_of code old.exec).instrs course
    → IsOver code (record { exec = old.exec; start = old.start + period; course = course })
goes_on_over code old entry course period over small on given =
    let left = coming (exec_of code old.exec).instrs course in
    let room : old.start + 1000000000000 * length (entry ∷ left) ≤ 1000000000000 * 2 ^ 48 =
    subst (λ (xs : List Entry). old.start + 1000000000000 * length xs ≤ 1000000000000 * 2 ^ 48) given over.room in
    let named : AllByRecursion (Named code) (entry ∷ left) = subst (λ (xs : List Entry). AllByRecursion (Named code) xs) given over.named in
    record { exec = over.exec; on = on; room = omega (arith, room); named = named.1 }
