-- Cycles of a text that are those of a code have their moments: `cycles_beside`.
use Rattle.std.proofs.Common.{◌≡◌, ℕ, ◌+◌, ◌-◌, ◌≤◌, ℤ, Bool, cond, List, [], ◌∷◌, ◌++◌, map, length, Option, Some, None, sym, ap, ◌∙◌, subst, arith, length-append}
use Rattle.std.specs.Prelude.{slice_get}
use Rattle.std.specs.List.{AllZip, AllByRecursion, enumerate_from}
use Rattle.std.specs.Option.{option_map_or}
use Rattle.std.proofs.lemmas.Bool.{le-leb}
use Rattle.std.proofs.lemmas.List.{get_or_append_left, get_or-append-add}
use Rattle.std.proofs.lemmas.Option.{same_Some, slice_get-get_or, slice_get_within, get_or_from_slice_get}
use Rattle.tester_types.specs.declared.wave.Table.{Table}
use Rattle.tester_types.specs.declared.wave.Wave.{Wave}
use Rattle.tester_types.specs.declared.cycle.Cycle.{Cycle}
use Rattle.packed_code.specs.Program.{Program}
use Rattle.packed_code.specs.Conditions.{characters_of}
use Rattle.edge_gen.specs.Moments.{moments_of}
use Rattle.die_sim.specs.Die.{Device}
use Rattle.stil_ast.specs.Meaning.Cycles.{Dated}
use Rattle.cycle_comp.specs.Compiled.{table_in, read_cycle}
use Rattle.flat_parts.specs.SameCycles.{IsSameCycle}
use Rattle.site_meaning.specs.Playing.{moments_in}
use Rattle.site_meaning.specs.Alike.{SaidCycle, said_by}
use Rattle.site_meaning.proofs.AlikeDies.{SayAll}
use Rattle.text_commands.proofs.ListedLemmas.{bytes_again}
use Rattle.flat_lots.proofs.PlayLemmas.{IsBeside, AreBeside}

-- ---- tables

-- a table that stands among others
there : (before own after : List Table) (n : ℕ) (t : Table) → slice_get own n ≡ Some t
    → slice_get (before ++ (own ++ after)) (length before + n) ≡ Some t
there before own after n t at =
    let within = slice_get_within own n t at in
    slice_get-get_or (before ++ (own ++ after)) (length before + n) t
    (omega (arith, within, length-append before (own ++ after), length-append own after))
    ∙ ap Some (get_or-append-add before (own ++ after) n t ∙ get_or_append_left own after t n within ∙ get_or_from_slice_get own n t t at)

-- the number of a table of the code among those of its executive
own_number : (first table number : ℕ) → first ≤ table → table_in first table ≡ Some number → table ≡ first + number
own_number first table number low is =
    let same : table - first ≡ number =
    same_Some (table - first) number (sym (ap (λ (b : Bool). cond b (Some (table - first)) None) (le-leb first table low)) ∙ is) in
    omega (arith, low, same)

-- the moments of tables with the same waves
moments_same : (old new : Table) (row : List ℕ) (skews : List ℤ) (time : ℕ) → new.waves ≡ old.waves
    → moments_of old row skews time ≡ moments_of new row skews time
unfolding moments_of
moments_same old new row skews time waves =
    ap (λ (ws : List Wave). moments_of (record { name = new.name; period = new.period; waves = ws }) row skews time) (sym waves)

-- ---- one cycle

module _ (code other : Program) (own before after : List Table) (tables : other.tables ≡ before ++ (own ++ after)) (skews : List ℤ) (die : Device) where
  cycle_beside : (n : ℕ) (c c' : Cycle) → length before ≤ c'.table
      → IsSameCycle code own c (read_cycle (length before) other.rows (n, c')) → IsBeside code other skews die c c'
  unfolding moments_in
  cycle_beside n c c' low is =
      let number : c'.table ≡ length before + is.number = own_number (length before) c'.table is.number low is.named in
      let found : slice_get other.tables c'.table ≡ Some is.new =
      ap (λ (ts : List Table). slice_get ts c'.table) tables
      ∙ ap (λ (k : ℕ). slice_get (before ++ (own ++ after)) k) number ∙ there before own after is.number is.new is.new_is in
      let row : characters_of code.rows c.row ≡ characters_of other.rows c'.row =
      sym is.characters ∙ bytes_again (characters_of other.rows c'.row) in
      record {
        moments = λ time.
            ap (λ (o : Option Table). option_map_or (λ table. moments_of table (characters_of code.rows c.row) skews time) o []) is.old_is
            ∙ moments_same is.old is.new (characters_of code.rows c.row) skews time is.waves
            ∙ ap (λ (r : List ℕ). moments_of is.new r skews time) row
            ∙ sym (ap (λ (o : Option Table). option_map_or (λ table. moments_of table (characters_of other.rows c'.row) skews time) o []) found);
        period =
            ap (λ (o : Option Table). option_map_or (λ (t : Table). t.period) o 0) is.old_is ∙ sym is.period
            ∙ sym (ap (λ (o : Option Table). option_map_or (λ (t : Table). t.period) o 0) found);
      }

  numbered_beside : (n : ℕ) (cs cs' : List Cycle) → AllByRecursion (λ (c : Cycle). length before ≤ c.table) cs'
      → AllZip (IsSameCycle code own) cs (map (read_cycle (length before) other.rows) (enumerate_from n cs'))
      → AreBeside code other skews die cs cs'
  numbered_beside n [] [] low are = tt
  numbered_beside n [] (c' ∷ cs') low are = absurd are
  numbered_beside n (c ∷ cs) [] low are = absurd are
  numbered_beside n (c ∷ cs) (c' ∷ cs') low are = (cycle_beside n c c' low.0 are.0, numbered_beside (n + 1) cs cs' low.1 are.1)

  -- the cycles of an executive
  pub cycles_beside : (cs cs' : List Cycle) (ds : List Dated) → AllByRecursion (λ (c : Cycle). length before ≤ c.table) cs'
      → map (read_cycle (length before) other.rows) (enumerate_from 0 cs') ≡ ds → AllZip (IsSameCycle code own) cs ds
      → AreBeside code other skews die cs cs'
  cycles_beside cs cs' ds low read are =
      numbered_beside 0 cs cs' low (subst (AllZip (IsSameCycle code own) cs) (sym read) are)

-- ---- a code that says the same

said_same : (code other : Program) (own : List Table) (c d : Cycle) (x : Dated) → code.tables ≡ other.tables
    → said_by code.rows c ≡ said_by other.rows d → IsSameCycle other own d x → IsSameCycle code own c x
said_same code other own c d x tables says is = record {
  start = is.start ∙ sym (ap (λ (s : SaidCycle). s.start) says);
  characters = is.characters ∙ sym (ap (λ (s : SaidCycle). s.characters) says);
  number = is.number;
  named = is.named;
  old = is.old;
  old_is =
      ap (λ (ts : List Table). slice_get ts c.table) tables ∙ ap (λ (s : SaidCycle). slice_get other.tables s.table) says ∙ is.old_is;
  new = is.new;
  new_is = is.new_is;
  period = is.period;
  waves = is.waves;
  mark = is.mark;
}

pub all_same : (code other : Program) (own : List Table) (cs ds : List Cycle) (xs : List Dated) → code.tables ≡ other.tables
    → SayAll code.rows other.rows cs ds → AllZip (IsSameCycle other own) ds xs → AllZip (IsSameCycle code own) cs xs
all_same code other own [] [] [] tables say are = tt
all_same code other own [] [] (x ∷ xs) tables say are = absurd are
all_same code other own [] (d ∷ ds) xs tables say are = absurd say
all_same code other own (c ∷ cs) [] xs tables say are = absurd say
all_same code other own (c ∷ cs) (d ∷ ds) [] tables say are = absurd are
all_same code other own (c ∷ cs) (d ∷ ds) (x ∷ xs) tables say are =
    (said_same code other own c d x tables say.0 are.0, all_same code other own cs ds xs tables say.1 are.1)
