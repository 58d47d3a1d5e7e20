-- The text of a lot's records, from the words of a line up to the lot.
use Rattle.std.specs.Prelude.{ℕ, zero, suc, ◌+◌, ◌-◌, ◌==◌, Option, Some, None, List, [], ◌∷◌, ◌++◌, length, map, slice_get, count_by, codes, decimal}
use Rattle.std.specs.List.{find, flat_map, range_with_len}
use Rattle.std.specs.Option.{option_map, option_map_or, option_and_then}
use Rattle.tester_types.specs.Cells.{marked_cell, Cell}
use Rattle.tester_types.specs.Printing.{printed_name}
use Rattle.tester_types.specs.declared.level.Level.{Level}
use Rattle.tester_types.specs.declared.level.Level.TheVariants as level
use Rattle.tester_types.specs.declared.record.By.{By}
use Rattle.tester_types.specs.declared.record.By.TheVariants as by
use Rattle.tester_types.specs.declared.record.Fail.{Fail}
use Rattle.tester_types.specs.Records.{SiteRecords}
use Rattle.tester_types.specs.declared.record.Record.{Record}
use Rattle.tester_types.specs.declared.record.Trial.{Trial}
use Rattle.tester_types.specs.declared.record.Verdict.{Verdict}
use Rattle.tester_types.specs.declared.record.Verdict.TheVariants as verdict
use Rattle.tester_types.specs.Acts.{look_letter}
use Rattle.packed_code.specs.declared.parts.CodeChain.{CodeChain}
use Rattle.packed_code.specs.Program.{Program}
use Rattle.packed_code.specs.Cycles.{exec_of}
use Rattle.lot_plan.specs.Bound.{Bound, die_at}
use Rattle.lot_plan.specs.Readings.{bin_of}

-- the letter of the level that was seen
abbrev pub seen_letter : Level → List ℕ
seen_letter level.Zero = codes "0"
seen_letter level.One = codes "1"
seen_letter level.X = codes "X"
seen_letter level.Z = codes "Z"

-- the name of a signal, by its number
abbrev pub signal_name : Program → ℕ → List ℕ
signal_name code signal = option_map_or (λ s. s.name) (slice_get code.signals signal) []

-- the first chain of an executive whose scan-out signal this is
abbrev pub chain_at : Program → ℕ → ℕ → Option CodeChain
chain_at code exec signal = find (λ chain. chain.out == signal) (exec_of code exec).chains

-- the cell of a chain that a mark means
abbrev pub cell_in : ℕ → CodeChain → Option Cell
cell_in mark chain =
    option_map (λ name. record { chain = chain.name; name = name }) (marked_cell chain.length chain.cells mark)

-- the cell that a fail names, if it names one
abbrev pub cell_of : Program → Fail → Option Cell
cell_of code fail = option_and_then (cell_in fail.mark) (chain_at code fail.exec fail.signal)

-- what stands behind a fail for the cell that it names
abbrev pub cell_words : Option Cell → List ℕ
cell_words None = []
cell_words (Some cell) = codes " " ++ printed_name cell.chain ++ codes " " ++ printed_name cell.name

-- what was found, and where
abbrev pub found_words : Program → Fail → List ℕ
found_words code fail =
    codes "fail " ++ decimal fail.cycle ++ codes " " ++ decimal fail.at ++ codes " "
    ++ printed_name (signal_name code fail.signal) ++ codes " "
    ++ look_letter fail.want ++ codes " " ++ seen_letter fail.seen

-- one fail
abbrev pub fail_line : Program → Fail → List ℕ
fail_line code fail = found_words code fail ++ cell_words (cell_of code fail) ++ codes "\n"

-- a try was stopped before this batch
abbrev pub stopped_line : ℕ → By → List ℕ
stopped_line batch by.Plan = codes "verdict stopped " ++ decimal batch ++ codes " plan\n"
stopped_line batch (by.Desk stops) =
    codes "verdict stopped " ++ decimal batch ++ codes " desk " ++ decimal stops ++ codes "\n"

-- how a try ended
abbrev pub verdict_line : Verdict → List ℕ
verdict_line verdict.Pass = codes "verdict pass\n"
verdict_line (verdict.Fail exec) = codes "verdict fail " ++ decimal exec ++ codes "\n"
verdict_line (verdict.Stopped batch who) = stopped_line batch who
verdict_line (verdict.Contact at) = codes "verdict contact " ++ decimal at ++ codes "\n"

-- a try: its number, how many cycles were finished, and how many fails there were
abbrev pub try_line : Trial → List ℕ
try_line trial =
    codes "try " ++ decimal trial.number ++ codes " cycles " ++ decimal trial.cycles
    ++ codes " fails " ++ decimal trial.fails ++ codes "\n"

-- a try with its kept fails and its verdict
abbrev pub trial_text : Program → Trial → List ℕ
trial_text code trial = try_line trial ++ flat_map (fail_line code) trial.kept ++ verdict_line trial.verdict

-- the verdict of the last try; a pass where there was none
abbrev pub final_verdict : List Trial → Verdict
final_verdict trials = option_map_or (λ trial. trial.verdict) (slice_get trials (length trials - 1)) verdict.Pass

-- the bin of a die
abbrev pub die_bin : Bound → Record → ℕ
die_bin plan entry = bin_of plan.rows (final_verdict entry.trials)

-- the name of a die
abbrev pub die_line : List ℕ → List ℕ
die_line name = codes "die " ++ printed_name name ++ codes "\n"

-- the line of a die's bin
abbrev pub bin_line : ℕ → List ℕ
bin_line bin = codes "bin " ++ decimal bin ++ codes "\n"

-- a die with all its tries and its bin
abbrev pub record_text : Program → Bound → Record → List ℕ
record_text code plan entry =
    die_line (die_at plan.rows entry.site entry.die).name ++ flat_map (trial_text code) entry.trials
    ++ bin_line (die_bin plan entry)

-- the line that begins a site
abbrev pub site_line : ℕ → List ℕ
site_line number = codes "site " ++ decimal number ++ codes "\n"

-- a site with its dies, and nothing for a site whose list of records is empty
abbrev pub site_text : Program → Bound → ℕ → List Record → List ℕ
site_text code plan number [] = []
site_text code plan number (entry ∷ entries) = site_line number ++ flat_map (record_text code plan) (entry ∷ entries)

-- the same of a site as its records were filed
abbrev pub filed_text : Program → Bound → ℕ → SiteRecords → List ℕ
filed_text code plan number site = site_text code plan number site.records

-- the texts of items that are numbered from here on
abbrev pub numbered : {X : Type 0} → (ℕ → X → List ℕ) → ℕ → List X → List ℕ
numbered text number [] = []
numbered text number (x ∷ xs) = text number x ++ numbered text (number + 1) xs

-- the bins of all dies of a lot
abbrev pub bins_of : Bound → List (List Record) → List ℕ
bins_of plan sites = flat_map (map (die_bin plan)) sites

-- how many dies fell into the bin
abbrev pub dies_in : ℕ → List ℕ → ℕ
dies_in bin bins = count_by (λ b. b == bin) bins

-- how many dies a bin has, and nothing for a bin without a die
abbrev pub total_line : ℕ → ℕ → List ℕ
total_line bin zero = []
total_line bin (suc dies) = codes "total " ++ decimal bin ++ codes " " ++ decimal (suc dies) ++ codes "\n"

-- the totals of the bins that a die has, by rising number: bins are 1 to 99
unfoldable pub totals_text : List ℕ → List ℕ
totals_text bins = flat_map (λ bin. total_line bin (dies_in bin bins)) (range_with_len 1 99)

-- the records of each site, by the sites' numbers, and the totals of their bins
abbrev pub lot_text : Program → Bound → List (List Record) → List ℕ
lot_text code plan sites = numbered (site_text code plan) 0 sites ++ totals_text (bins_of plan sites)
