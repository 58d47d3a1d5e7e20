-- What `dump` answers, and why.
use Rattle.std.specs.Prelude.{◌≡◌, ℕ, ◌<◌, ◌≤◌, List, [], ◌∷◌, length, codes, decimal, Option, Some, None}
use Rattle.plan_rows.specs.Limits.{last_site}
use Rattle.tester_types.specs.Outside.{HasRisen, Files}
use Rattle.plan_rows.specs.Rows.{dies_at}
use Rattle.lot_plan.specs.Bound.{Bound}
use Rattle.lot_plan.specs.Refusal.{refusal}
use Rattle.vcd_text.specs.Dump.{dump_of}
use Rattle.vcd_dump.specs.Taken.{tape_of, vars_of, drives_in, most_drives}
use Rattle.tool_inputs.specs.declared.status.Status.{Status}
use Rattle.tool_inputs.specs.declared.status.Status.TheVariants.{Done, OutOfMemory, TapeTooLong as Long}
use Rattle.tool_inputs.specs.declared.refusal.Refusal.{Refusal}
use Rattle.tool_inputs.specs.declared.refusal.Refusal.TheVariants.{NoDie, TapeTooLong}
use Rattle.tool_inputs.specs.Endings.{memory_line}
use Rattle.tool_inputs.specs.Refusals.{status_of, line_of, long_tape_line}
use Rattle.tool_inputs.specs.Inputs.{Inputs, AreInputs, AreRefused, bound_of}
use Rattle.tool_inputs.specs.FineInputs.{AreFine}

-- the words `dump PROGRAM PLAN SITE`, of a site from 0 to 63
pub record AreDump (words : List (List ℕ)) (program plan : List ℕ) (site : ℕ) : Type 0 where
  pub is : words ≡ codes "dump" ∷ program ∷ plan ∷ decimal site ∷ []
  pub few : site ≤ last_site

-- why there is no dump: what it reads is refused, the plan has no die at the site, or the tape is too long
pub data IsDumpRefused (told : Option Files) (before now : ℕ) (program plan : List ℕ) (site : ℕ) (r : Refusal)
    : Type 0 where
  of_inputs : AreRefused told before now program plan r → IsDumpRefused told before now program plan site r
  no_die : (inputs : Inputs) → AreInputs told program plan inputs → refusal (bound_of inputs) ≡ None
      → length (dies_at site inputs.rows) ≡ 0 → r ≡ NoDie (Some site)
      → IsDumpRefused told before now program plan site r
  too_long : (inputs : Inputs) → AreInputs told program plan inputs → refusal (bound_of inputs) ≡ None
      → 0 < length (dies_at site inputs.rows) → most_drives < drives_in (tape_of (bound_of inputs) site)
      → r ≡ TapeTooLong site → IsDumpRefused told before now program plan site r

-- what is written of a dump: the signals that are driven, and the drives of the first try of the site's first die
abbrev pub dumped_text : Bound → ℕ → List ℕ
dumped_text bound site = dump_of (vars_of bound site) (tape_of bound site)

-- what must be so for a status of a bound dump, with what is written then
pub data DumpRunWants (bound : Bound) (site : ℕ) (status : Status) (text : List ℕ) : Type 0 where
  is_written : status ≡ Done → drives_in (tape_of bound site) ≤ most_drives → text ≡ dumped_text bound site
      → DumpRunWants bound site status text
  is_long : status ≡ Long → most_drives < drives_in (tape_of bound site) → text ≡ long_tape_line site
      → DumpRunWants bound site status text
  no_memory : status ≡ OutOfMemory → text ≡ memory_line → DumpRunWants bound site status text

-- what must be so for a status of `dump`, with what is written then
pub data DumpWants (told : Option Files) (before now : ℕ) (program plan : List ℕ) (site : ℕ) (status : Status)
    (text : List ℕ) : Type 0 where
  is_dumped : status ≡ Done → (inputs : Inputs) → AreInputs told program plan inputs
      → refusal (bound_of inputs) ≡ None → 0 < length (dies_at site inputs.rows)
      → drives_in (tape_of (bound_of inputs) site) ≤ most_drives → text ≡ dumped_text (bound_of inputs) site
      → DumpWants told before now program plan site status text
  is_refused : (r : Refusal) → IsDumpRefused told before now program plan site r → status ≡ status_of r
      → text ≡ line_of r → DumpWants told before now program plan site status text

-- The words are those of a dump whose files are fine, whose plan has a die at the site, and whose tape isn't too long,
-- and no count rose.
pub record IsFineDump (words : List (List ℕ)) (told : Option Files) (before now faults faults' : ℕ) : Type 0 where
  pub program : List ℕ
  pub plan : List ℕ
  pub site : ℕ
  pub are : AreDump words program plan site
  pub files : AreFine told before now program plan
  pub die : 0 < length (dies_at site files.rows)
  pub few : (inputs : Inputs) → AreInputs told program plan inputs
      → drives_in (tape_of (bound_of inputs) site) ≤ most_drives
  pub puts : HasRisen faults faults' → ⊥
