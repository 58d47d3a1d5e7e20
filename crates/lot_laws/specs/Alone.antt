-- What lots have in common, by the files that they read, and what of their texts belongs to one site.
use Rattle.std.specs.Prelude.{◌≡◌, ℕ, ◌<◌, Some, true, false, List, length}
use Rattle.std.specs.List.{AllByRecursion}
use Rattle.tester_types.specs.Outside.{Files, file_of}
use Rattle.tester_types.specs.declared.record.Record.{Record}
use Rattle.tester_types.specs.declared.record.Trial.{Trial}
use Rattle.packed_code.specs.Program.{Program}
use Rattle.page_code.specs.Saved.{Saved}
use Rattle.plan_rows.specs.declared.row.Row.{Row}
use Rattle.plan_rows.specs.Rows.{dies_at}
use Rattle.lot_plan.specs.Bound.{die_at}
use Rattle.site_meaning.specs.Part.{rows_for}
use Rattle.site_meaning.specs.Trials.{uncut, cut_of}
use Rattle.datalog.specs.DatalogText.{site_text}
use Rattle.stil_program.specs.Program.{IsProgramOf}
use Rattle.tool_inputs.specs.Inputs.{is_saved, Inputs, bound_of}

-- the lines of a site in the text of a lot
abbrev pub lines_of : Inputs → ℕ → List Record → List ℕ
lines_of inputs site entries = site_text inputs.code (bound_of inputs) site entries

-- Two files are one program: they have the same bytes, or one is a text and the other a saved program of its code.
pub data IsOneProgram (files others : Files) (program other : List ℕ) : Type 0 where
  same : file_of files program ≡ file_of others other → IsOneProgram files others program other
  saved : (text bytes : List ℕ) → file_of files program ≡ Some text → is_saved text ≡ false
      → file_of others other ≡ Some bytes → is_saved bytes ≡ true → (code : Program) → IsProgramOf text code
      → Saved code bytes → IsOneProgram files others program other

-- the netlists of these rows' dies at a site have the same bytes in both lots
abbrev pub AreOneNets : Files → Files → List Row → ℕ → Type 0
AreOneNets files others rows site =
    (die : ℕ) → die < length (dies_at site rows)
    → file_of files (die_at rows site die).file ≡ file_of others (die_at rows site die).file

-- Two lots say the same of a site: one program, the same rows of the site and of no site, and the same netlists of the
-- site's dies. The rows of other sites, and their netlists, may differ.
pub record SayTheSame (files others : Files) (program other : List ℕ) (inputs inputs' : Inputs) (site : ℕ) : Type 0
  where
    pub one_program : IsOneProgram files others program other
    pub rows : rows_for site inputs.rows ≡ rows_for site inputs'.rows
    pub nets : AreOneNets files others inputs.rows site

-- no live stop and no contact cut a try of these records short
abbrev pub AreUncut : List Record → Type 0
AreUncut entries =
    AllByRecursion (λ (entry : Record). AllByRecursion (λ (t : Trial). cut_of t ≡ uncut) entry.trials) entries
