-- The cycles of a code that are listed one after another.
use Rattle.std.proofs.Common.{◌≡◌, ◌⊎◌, ℤ, ℕ, zero, suc, ◌+◌, ◌-◌, ◌*◌, ◌^◌, ◌<◌, ◌≤◌, List, [], ◌∷◌, ◌++◌, length, map, get_or, take, true, Option, Some, None, inl, inr, refl, sym, ap, ◌∙◌, subst, arith}
use Rattle.std.specs.Prelude.{codes, decimal, sum_by, option_to_list, IfNone, slice_get}
use Rattle.std.specs.List.{enumerate_from, flat_map, range_with_len}
use Rattle.tester_types.specs.Printing.{printed_name, printed_title}
use Rattle.tester_types.specs.declared.wave.Table.{Table}
use Rattle.tester_types.specs.declared.cycle.Cycle.{Cycle}
use Rattle.tester_types.specs.declared.cycle.Moment.{Moment}
use Rattle.packed_code.specs.Meaning.{Means}
use Rattle.edge_gen.specs.Signals.{no_skews, is_inside, keeps_inside}
use Rattle.edge_gen.specs.Moments.{moments_of}
use Rattle.packed_code.specs.Program.{Exec, Program}
use Rattle.packed_code.specs.Conditions.{IsProgram, IsEvent, IsRow, IsTable, IsWave, wave_count}
use Rattle.packed_code.proofs.Lists.{behind_at}
use Rattle.std.proofs.lemmas.Option.{get_or_from_slice_get, slice_get_within}
use Rattle.std.proofs.lemmas.List.Sums.{list_all-from_AllPass}
use Rattle.edge_gen.proofs.InsideLemmas.{unmoved_inside}
use Rattle.packed_code.proofs.CountLemmas.{cycle_count-length}
use Rattle.std.proofs.lemmas.Bool.{cases_order}
use Rattle.std.proofs.lemmas.List.{append-nil, append_assoc, length-append, length-map}
use Rattle.std.proofs.lemmas.List.FromFn.{length-enumerate_from}
use Rattle.std.proofs.Math.Seq.{get_or-append_seam}
use Rattle.std.proofs.Math.ListN.{get_or-eq_default}
use Rattle.std.proofs.lemmas.List.Sums.{sum_by_more, sum_by-append}
use Rattle.text_bytes.specs.Texts.{AreLines}
use Rattle.text_bytes.proofs.TextLemmas.{lines_behind}
use Rattle.packed_code.specs.Cycles.{cycles_of, exec_of}
use Rattle.code_listing.specs.declared.listing.Form.{Form}
use Rattle.code_listing.specs.declared.listing.Form.TheVariants.{Cycles, Events}
use Rattle.code_listing.specs.Listing.{Listed, ListedExec, no_table, listed, listed_exec, listing_of, cycles_in, time_of}
use Rattle.code_listing.specs.Room.{text_of}
use Rattle.code_listing.specs.Text.{names_of, exec_line, exec_text, execs_text, cycle_line, moment_line, moments_head, moments_text, instant_words, acts_words, cycles_among, instrs_among}
use Rattle.code_listing.proofs.LineLemmas.{ends_behind, lines_all}
use Rattle.packed_code.proofs.WalkLemmas.{exec_is, length-cycles}

-- ---- each text is whole lines

feed : (front : List ℕ) × (codes "\n" ≡ front ++ 10 ∷ [])
feed = ([], refl)

cycle_lines : (c : Listed) → AreLines (cycle_line c)
cycle_lines c = inr (ends_behind _ (codes "\n") feed)

moment_lines : (names : List (List ℕ)) (m : Moment) → AreLines (moment_line names m)
moment_lines names m = inr (ends_behind (instant_words m.at) (acts_words names m) (ends_behind _ (codes "\n") feed))

head_lines : (c : Listed) → AreLines (moments_head c)
head_lines c = inr (ends_behind
    (codes "cycle " ++ decimal c.number ++ codes " " ++ decimal c.start ++ codes " " ++ printed_name c.table.name) (codes "\n") feed)

-- of a cycle, in both forms
pub text_lines : (form : Form) (code : Program) (c : Listed) → AreLines (text_of form code c)
text_lines Cycles code c = cycle_lines c
text_lines Events code c = lines_behind (moments_head c) _ (head_lines c) (lines_all (moment_line (names_of code)) _ (moment_lines (names_of code)))

-- of an executive's first line
pub exec_lines : (e : ListedExec) → AreLines (exec_line e)
exec_lines e = inr (ends_behind (codes "exec " ++ decimal e.number ++ codes " " ++ printed_title e.name) (codes "\n") feed)

-- a sum with its first term apart
sum-first : {X : Type 0} (f : X → ℕ) (x : X) (xs : List X) → sum_by f (x ∷ xs) ≡ f x + sum_by f xs
sum-first f x xs =
    let one : sum_by f (x ∷ []) ≡ 0 + f x = refl in
    sum_by-append f (x ∷ []) xs ∙ omega (arith, one)

-- ---- the cycles of one executive

-- cycles from a number on, as they are listed
abbrev pub listed_from : Program → ℕ → List Cycle → List Listed
listed_from code number cycles = map (listed code) (enumerate_from number cycles)

-- ---- all executives

-- so many executives from a number on, as they are listed
abbrev pub execs_from : Program → ℕ → ℕ → List ListedExec
execs_from code exec n = map (listed_exec code) (range_with_len exec n)

-- the executives from this one on, so many of them and one more
pub execs_from-next : (code : Program) (exec n m : ℕ) → m ≡ suc n
    → execs_from code exec m ≡ listed_exec code exec ∷ execs_from code (exec + 1) n
execs_from-next code exec n m more = ap (execs_from code exec) more

-- ---- how much there is

-- the executive of a number, where an executive is wanted
abbrev no_exec : Exec
no_exec = record { name = []; chains = []; instrs = [] }

-- an executive's cycles are few, and so are its instructions
pub few_cycles : (code : Program) (exec : ℕ) → IsProgram code → exec < length code.execs
    → length (Means (exec_of code exec).instrs) ≤ 281474976710656
few_cycles code exec program within =
    let w = (exec_is code exec program within).whole.cycles in
    omega (arith, w, cycle_count-length (exec_of code exec).instrs)

pub few_instrs : (code : Program) (exec : ℕ) → IsProgram code → exec < length code.execs
    → length (exec_of code exec).instrs ≤ 4194305
few_instrs code exec program within = (exec_is code exec program within).few_instrs

-- one more executive is counted
pub cycles-more : (code : Program) (exec : ℕ) → exec < length code.execs
    → cycles_among (take (exec + 1) code.execs) ≡ cycles_among (take exec code.execs) + length (Means (exec_of code exec).instrs)
cycles-more code exec within = sum_by_more (λ (e : Exec). length (Means e.instrs)) code.execs exec no_exec within

pub instrs-more : (code : Program) (exec : ℕ) → exec < length code.execs
    → instrs_among (take (exec + 1) code.execs) ≡ instrs_among (take exec code.execs) + length (exec_of code exec).instrs
instrs-more code exec within = sum_by_more (λ (e : Exec). length e.instrs) code.execs exec no_exec within

-- ---- rows and tables of a code

-- a row has a character for each signal
pub row-long : (code : Program) (row : ℕ) (characters : List ℕ) → IsProgram code → slice_get code.rows row ≡ Some characters
    → length characters ≡ length code.signals
row-long code row characters program is =
    let within = slice_get_within code.rows row characters is in
    let same = get_or_from_slice_get code.rows row characters [] is in
    ap length (sym same) ∙ (behind_at (IsRow (length code.signals)) [] code.rows row [] program.rows within).places

-- each event of a table stays inside its cycle where no signal has a skew
pub stays : (code : Program) (table : ℕ) (n : ℕ) (t : Table) → IsProgram code → slice_get code.tables table ≡ Some t
    → keeps_inside t (no_skews n) ≡ true
stays code table n t program is =
    let within = slice_get_within code.tables table t is in
    let of_table = subst (IsTable (length code.signals) (take table code.tables)) (get_or_from_slice_get code.tables table t t is)
    (behind_at (IsTable (length code.signals)) [] code.tables table t program.tables within) in
    list_all-from_AllPass (is_inside t.period (no_skews n)) t.waves
    (λ j w there.
    let of_wave = behind_at (IsWave (length code.signals) t.period (2 ^ 20 - wave_count (take table code.tables))) [] t.waves j w of_table.waves there in
    unmoved_inside t.period n (get_or t.waves j w)
    (λ i event lt. (behind_at (IsEvent t.period) [] (get_or t.waves j w).events i event of_wave.events lt).inside))

-- ---- the text of one executive's cycles

-- one more cycle, as it is listed
pub whole-next : (text : Listed → List ℕ) (code : Program) (number : ℕ) (c : Cycle) (old left : List Cycle) (whole done : List ℕ)
    → old ≡ option_to_list (Some c) ++ left → whole ≡ done ++ flat_map text (listed_from code number old)
    → whole ≡ done ++ (text (listed code (number, c)) ++ flat_map text (listed_from code (number + 1) left))
whole-next text code number c old left whole done given is =
    is ∙ ap (λ (cs : List Cycle). done ++ flat_map text (listed_from code number cs)) given

-- the time that is left without it
pub time-next : (code : Program) (number : ℕ) (c : Cycle) (old left : List Cycle) → old ≡ option_to_list (Some c) ++ left
    → time_of (listed_from code number old) ≡ (listed code (number, c)).table.period + time_of (listed_from code (number + 1) left)
time-next code number c old left given =
    ap (λ (cs : List Cycle). time_of (listed_from code number cs)) given
    ∙ sum-first (λ (l : Listed). l.table.period) (listed code (number, c)) (listed_from code (number + 1) left)

-- and so many are left
pub length-next : (c : Cycle) (old left : List Cycle) → old ≡ option_to_list (Some c) ++ left → length old ≡ suc (length left)
length-next c old left given = ap length given

-- no cycle is left
pub none-left : (old left : List Cycle) (o : Option Cycle) → o ≡ None → old ≡ option_to_list o ++ left → IfNone o (left ≡ []) → length old ≡ 0
none-left old left o none given nothing =
    ap length given
    ∙ ap (λ (p : Option Cycle). length (option_to_list p ++ left)) none
    ∙ ap length (subst (λ (p : Option Cycle). IfNone p (left ≡ [])) none nothing)

-- where none is left the text is whole
pub all-put : (text : Listed → List ℕ) (code : Program) (number : ℕ) (left : List Cycle) (whole done : List ℕ) → length left ≡ 0
    → whole ≡ done ++ flat_map text (listed_from code number left) → done ≡ whole
all-put text code number [] whole done none is = sym (is ∙ append-nil done)
all-put text code number (c ∷ left) whole done none is = cc

-- and so is the time
pub all-timed : (code : Program) (number : ℕ) (left : List Cycle) (time all : ℕ) → length left ≡ 0
    → time + time_of (listed_from code number left) ≡ all → time ≡ all
all-timed code number [] time all none is = omega (arith, is)
all-timed code number (c ∷ left) time all none is = cc

-- ---- the text of all executives

-- the executives that are left, where some are
pub execs-next : (code : Program) (exec n : ℕ) → exec < n
    → execs_from code exec (n - exec) ≡ listed_exec code exec ∷ execs_from code (exec + 1) (n - (exec + 1))
execs-next code exec n within =
    let more : n - exec ≡ suc (n - (exec + 1)) = omega (arith, within) in execs_from-next code exec (n - (exec + 1)) (n - exec) more

-- as many cycles are listed as the executives have
length-listed : (code : Program) (exec : ℕ) → length (listed_exec code exec).cycles ≡ length (Means (exec_of code exec).instrs)
length-listed code exec =
    length-map (enumerate_from 0 (cycles_of code exec)) (listed code) ∙ length-enumerate_from 0 (cycles_of code exec) ∙ length-cycles code exec

length-execs : (code : Program) (before rest : List Exec) → code.execs ≡ before ++ rest
    → length (cycles_in (execs_from code (length before) (length rest))) ≡ cycles_among rest
length-execs code before [] cut = refl
length-execs code before (e ∷ rest) cut =
    let here : exec_of code (length before) ≡ e =
    ap (λ (es : List Exec). get_or es (length before) no_exec) cut ∙ get_or-append_seam before e rest no_exec in
    let next : length (before ++ e ∷ []) ≡ length before + 1 = length-append before (e ∷ []) in
    let more = length-execs code (before ++ e ∷ []) rest (cut ∙ sym (append_assoc before (e ∷ []) rest)) in
    let tail : length (cycles_in (execs_from code (length before + 1) (length rest))) ≡ cycles_among rest =
    subst (λ (n : ℕ). length (cycles_in (execs_from code n (length rest))) ≡ cycles_among rest) next more in
    length-append (listed_exec code (length before)).cycles (cycles_in (execs_from code (length before + 1) (length rest)))
    ∙ ap (λ (n : ℕ). n + length (cycles_in (execs_from code (length before + 1) (length rest))))
    (length-listed code (length before) ∙ ap (λ (x : Exec). length (Means x.instrs)) here)
    ∙ ap (λ (n : ℕ). length (Means e.instrs) + n) tail
    ∙ sym (sum-first (λ (x : Exec). length (Means x.instrs)) e rest)

pub length-listing : (code : Program) → length (cycles_in (listing_of code)) ≡ cycles_among code.execs
length-listing code = length-execs code [] code.execs refl

-- ---- how long it takes

period-short : (code : Program) (t : ℕ) → IsProgram code → (get_or code.tables t no_table).period ≤ 1000000000000
period-short code t program = by (cases_order t (length code.tables))
  where
    by : (t ≡ length code.tables) ⊎ ((t < length code.tables) ⊎ (length code.tables < t)) → (get_or code.tables t no_table).period ≤ 1000000000000
    by (inl end) = rw (get_or-eq_default code.tables no_table {n = t} (omega (arith, end))) (omega arith)
    by (inr (inl within)) = (behind_at (IsTable (length code.signals)) [] code.tables t no_table program.tables within).period
    by (inr (inr beyond)) = rw (get_or-eq_default code.tables no_table {n = t} (omega (arith, beyond))) (omega arith)

time-cycles : (code : Program) (n : ℕ) (cs : List Cycle) → IsProgram code → time_of (listed_from code n cs) ≤ length cs * 1000000000000
time-cycles code n [] program = omega arith
time-cycles code n (c ∷ cs) program =
    let here = period-short code c.table program in
    let rest = time-cycles code (n + 1) cs program in
    let sum = sum-first (λ (l : Listed). l.table.period) (listed code (n, c)) (listed_from code (n + 1) cs) in
    let long : length (c ∷ cs) ≡ length cs + 1 = omega arith in
    omega (arith, here, rest, sum, long)

time-execs : (code : Program) (exec n : ℕ) → IsProgram code
    → time_of (cycles_in (execs_from code exec n)) ≤ length (cycles_in (execs_from code exec n)) * 1000000000000
time-execs code exec zero program = omega arith
time-execs code exec (suc n) program =
    let own = (listed_exec code exec).cycles in
    let later = cycles_in (execs_from code (exec + 1) n) in
    let here = time-cycles code 0 (cycles_of code exec) program in
    let count : length own ≡ length (cycles_of code exec) = length-map (enumerate_from 0 (cycles_of code exec)) (listed code) ∙ length-enumerate_from 0 (cycles_of code exec) in
    let rest = time-execs code (exec + 1) n program in
    let sum = sum_by-append (λ (c : Listed). c.table.period) own later in
    let long = length-append own later in
    omega (arith, here, count, rest, sum, long)

pub time-short : (code : Program) → IsProgram code → length (cycles_in (listing_of code)) ≤ 65536
    → time_of (cycles_in (listing_of code)) < 2 ^ 128
time-short code program few = let most = time-execs code 0 (length code.execs) program in omega (arith, most, few)

-- the time of an executive's cycles, and of those behind it
pub time-split : (code : Program) (exec n : ℕ) → exec < n
    → time_of (cycles_in (execs_from code exec (n - exec)))
    ≡ time_of (listed_exec code exec).cycles + time_of (cycles_in (execs_from code (exec + 1) (n - (exec + 1))))
time-split code exec n within =
    ap (λ (es : List ListedExec). time_of (cycles_in es)) (execs-next code exec n within)
    ∙ sum_by-append (λ (c : Listed). c.table.period) (listed_exec code exec).cycles (cycles_in (execs_from code (exec + 1) (n - (exec + 1))))

-- an executive is put, and those behind it are left
pub text-next : (text : Listed → List ℕ) (code : Program) (exec n : ℕ) (whole done : List ℕ) → exec < n
    → whole ≡ done ++ execs_text text (execs_from code exec (n - exec))
    → whole ≡ done ++ (exec_text text (listed_exec code exec) ++ execs_text text (execs_from code (exec + 1) (n - (exec + 1))))
text-next text code exec n whole done within is = is ∙ ap (λ (es : List ListedExec). done ++ execs_text text es) (execs-next code exec n within)

-- the text of an executive is whole lines
pub exec-text-lines : (form : Form) (code : Program) (e : ListedExec) → AreLines (exec_text (text_of form code) e)
exec-text-lines form code e = lines_behind (exec_line e) (flat_map (text_of form code) e.cycles) (exec_lines e) (lines_all (text_of form code) e.cycles (text_lines form code))

-- the moments of a cycle, by its table and its row
pub moments-listed : (code : Program) (n : ℕ) (c : Cycle) (table : Table) (row : List ℕ) (skews : List ℤ) (moments : List Moment)
    → slice_get code.tables c.table ≡ Some table → slice_get code.rows c.row ≡ Some row → length row ≡ length code.signals
    → skews ≡ no_skews (length code.signals) → moments ≡ moments_of table row skews c.start
    → moments_head (listed code (n, c)) ++ flat_map (moment_line (names_of code)) moments ≡ moments_text (names_of code) (listed code (n, c))
moments-listed code n c table row skews moments found there long none are =
    let own : get_or code.tables c.table no_table ≡ table = get_or_from_slice_get code.tables c.table table no_table found in
    let its : get_or code.rows c.row [] ≡ row = get_or_from_slice_get code.rows c.row row [] there in
    let same : moments ≡ moments_of (get_or code.tables c.table no_table) (get_or code.rows c.row []) (no_skews (length (get_or code.rows c.row []))) c.start =
    are ∙ ap (λ (k : List ℤ). moments_of table row k c.start) (none ∙ ap no_skews (sym long ∙ sym (ap length its)))
    ∙ ap (λ (t : Table). moments_of t row (no_skews (length (get_or code.rows c.row []))) c.start) (sym own)
    ∙ ap (λ (r : List ℕ). moments_of (get_or code.tables c.table no_table) r (no_skews (length (get_or code.rows c.row []))) c.start) (sym its) in
    ap (λ (ms : List Moment). moments_head (listed code (n, c)) ++ flat_map (moment_line (names_of code)) ms) same
