-- What a datalog of dies with these names may be, by its lines alone.
use Rattle.std.specs.Prelude.{◌≡◌, ℕ, ◌+◌, ◌≤◌, List, [], ◌∷◌, ◌++◌, length, map}
use Rattle.std.specs.List.{flat_map, AllByRecursion}
use Rattle.plan_rows.specs.Limits.{last_bin}
use Rattle.datalog.specs.DatalogText.{die_line, bin_line, site_line, totals_text}
use Rattle.part_lines.specs.Lines.{ended}
use Rattle.log_parts.specs.Tries.{TryLog, try_lines, AreTries}

-- ---- a die

-- what stands between the line of a die and that of its bin, line by line without line feeds, and the bin
pub record DieLog : Type 0 where
  pub body : List (List ℕ)
  pub bin : ℕ

-- its lines are those of its tries, which are numbered from 1 on, one at least; and its bin is 1 to 99
pub record IsDieLog (log : DieLog) : Type 0 where
  pub tries : List TryLog
  pub are : AreTries 1 tries
  pub tried : 1 ≤ length tries
  pub lines : log.body ≡ flat_map try_lines tries
  pub some : 1 ≤ log.bin
  pub last : log.bin ≤ last_bin

-- a die of this name
abbrev pub die_text : List ℕ → DieLog → List ℕ
die_text name log = die_line name ++ flat_map ended log.body ++ bin_line log.bin

-- ---- sites

-- the dies of a site, by their names
abbrev pub dies_text : List (List ℕ) → List DieLog → List ℕ
dies_text [] logs = []
dies_text (name ∷ names) [] = []
dies_text (name ∷ names) (log ∷ logs) = die_text name log ++ dies_text names logs

-- the sites from this number on, by the names of their dies
abbrev pub sites_text : ℕ → List (List (List ℕ)) → List (List DieLog) → List ℕ
sites_text number [] logs = []
sites_text number (names ∷ later) [] = []
sites_text number (names ∷ later) (log ∷ logs) =
    site_line number ++ dies_text names log ++ sites_text (number + 1) later logs

-- the bins of all dies
abbrev pub bins_of : List (List DieLog) → List ℕ
bins_of logs = flat_map (map (λ (log : DieLog). log.bin)) logs

-- the lines of all sites, and the totals of the bins
unfoldable pub log_text : List (List (List ℕ)) → List (List DieLog) → List ℕ
log_text names logs = sites_text 0 names logs ++ totals_text (bins_of logs)

-- as many logs as names, and each is one of a die
abbrev pub AreDieLogs : List (List ℕ) → List DieLog → Type 0
AreDieLogs names logs = (length logs ≡ length names) × AllByRecursion IsDieLog logs

-- the same of each site
abbrev pub AreLogs : List (List (List ℕ)) → List (List DieLog) → Type 0
AreLogs [] [] = Unit {0}
AreLogs [] (log ∷ logs) = ⊥
AreLogs (names ∷ later) [] = ⊥
AreLogs (names ∷ later) (log ∷ logs) = AreDieLogs names log × AreLogs later logs

-- The text is a datalog of dies with these names, site by site, whose lines say this. How many cycles and fails the
-- line of a try tells, and which executive, batch or time a fail or a verdict, are any numbers.
pub record IsLog (names : List (List (List ℕ))) (text : List ℕ) (logs : List (List DieLog)) : Type 0 where
  pub are : AreLogs names logs
  pub is : text ≡ log_text names logs

-- a text is a datalog of dies with these names
abbrev pub IsLogOf : List (List (List ℕ)) → List ℕ → Type 0
IsLogOf names text = (logs : List (List DieLog)) × IsLog names text logs
