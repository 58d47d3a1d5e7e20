-- A site under another number: its records, and lots that say the same of two sites.
use Rattle.std.specs.Prelude.{◌≡◌, ℕ, List, map}
use Rattle.tester_types.specs.Outside.{Files}
use Rattle.tester_types.specs.declared.record.Record.{Record}
use Rattle.site_meaning.specs.Part.{rows_for}
use Rattle.plan_parts.specs.Moved.{moved}
use Rattle.tool_inputs.specs.Inputs.{Inputs}
use Rattle.lot_laws.specs.Alone.{IsOneProgram, AreOneNets}

-- a record as one of this site
abbrev pub moved_record : ℕ → Record → Record
moved_record site entry = record entry { site = site }

-- Two lots say the same of a site in one and a site in the other: one program, the same netlists of the dies, and the
-- same rows but for the site's number.
pub record SayTheSameMoved (files others : Files) (program other : List ℕ) (inputs inputs' : Inputs) (site place : ℕ)
    : Type 0 where
  pub one_program : IsOneProgram files others program other
  pub rows : map (moved place) (rows_for site inputs.rows) ≡ rows_for place inputs'.rows
  pub nets : AreOneNets files others inputs.rows site
