-- What is written of one vector.
use Rattle.std.proofs.Common.{◌≡◌, ℕ, ◌+◌, Bool, true, false, cond, List, [], ◌∷◌, min, Option, Some, None, refl, ap, ◌∙◌}
use Rattle.std.specs.Prelude.{slice_get}
use Rattle.tester_types.specs.declared.wave.Table.{Table}
use Rattle.stil_ast.specs.Meaning.State.{State}
use Rattle.stil_ast.specs.Data.Places.{Origin}
use Rattle.stil_ast.specs.Meaning.ExecutiveData.{distinct_rows}
use Rattle.stil_ast.specs.Faults.CodeFaults.{have_waves}
use Rattle.stil_ast.specs.declared.fault.StilKind.{StilKind}
use Rattle.stil_ast.specs.declared.fault.StilKind.TheVariants.{NoTable, NoWave}
use Rattle.packed_code.specs.declared.instr.Instr.{Instr}
use Rattle.cycle_comp.specs.Known.{row_of_characters}
use Rattle.cycle_comp.specs.Writing.{IsPut, made_at, kind_under, fault_kind, IsFirst, Wrote}
use Rattle.cycle_comp.proofs.FaultLemmas.{first-alone}

-- without a table it can't run
pub no_table_first : (tables : List Table) (s : State) (mark : ℕ) (place : Origin) → s.table ≡ None
    → IsFirst tables (made_at s mark place ∷ []) place NoTable
no_table_first tables s mark place e =
    first-alone tables (made_at s mark place) NoTable (ap (kind_under tables (made_at s mark place)) e)

-- nor without a wave
kind_at : (tables : List Table) (s : State) (mark : ℕ) (place : Origin) (table : ℕ) (b : Bool) → s.table ≡ Some table
    → have_waves (slice_get tables table) 0 s.characters ≡ b
    → fault_kind tables (made_at s mark place) ≡ cond b None (Some NoWave)
kind_at tables s mark place table b e waves =
    ap (kind_under tables (made_at s mark place)) e
    ∙ ap (λ (has : Bool). cond {A = Option StilKind} has None (Some NoWave)) waves

pub no_wave_first : (tables : List Table) (s : State) (mark : ℕ) (place : Origin) (table : ℕ) → s.table ≡ Some table
    → have_waves (slice_get tables table) 0 s.characters ≡ false
    → IsFirst tables (made_at s mark place ∷ []) place NoWave
no_wave_first tables s mark place table e waves =
    first-alone tables (made_at s mark place) NoWave (kind_at tables s mark place table false e waves)

pub wrote-vector : (tables : List Table) (first : ℕ) (s : State) (mark : ℕ) (place : Origin) (table short number : ℕ)
    (old new : List Instr) (before after : List (List ℕ)) → s.table ≡ Some table
    → have_waves (slice_get tables table) 0 s.characters ≡ true
    → slice_get after number ≡ Some (row_of_characters s.characters)
    → after ≡ distinct_rows before (row_of_characters s.characters ∷ []) → short ≡ min (first + table) 65535
    → IsPut (record { table = short; row = number; mark = mark }) old new
    → Wrote tables first (made_at s mark place ∷ []) 1 old new before after
wrote-vector tables first s mark place table short number old new before after e waves at rows is p =
    record {
      fine = (kind_at tables s mark place table true e waves, tt);
      entries = record { table = short; row = number; mark = mark } ∷ [];
      are = (
        record {
          table = λ t own. (let same : table ≡ t = cc in is ∙ ap (λ (n : ℕ). min (first + n) 65535) same);
          row = at;
          mark = refl;
        },
        tt,
      );
      rows = rows;
      puts = p.puts;
      stands = λ nest low few stands. p.stands nest stands;
      short = p.size;
      silent = λ none. absurd cc;
    }
