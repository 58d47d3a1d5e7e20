-- What may stand behind the lines that were read. No public clause cites it.
use Rattle.std.specs.Prelude.{◌≡◌, ℕ, ◌+◌, ◌-◌, ◌^◌, ◌≤◌, Bool, true, List, [], ◌∷◌, ◌++◌, length, map, codes, decimal, Result, MatchResult}
use Rattle.std.specs.List.{flat_map, AllByRecursion, range_with_len}
use Rattle.text_bytes.specs.Numbers.{are_digits}
use Rattle.plan_rows.specs.Limits.{last_bin}
use Rattle.datalog.specs.DatalogText.{site_line, bin_line, total_line, dies_in, totals_text}
use Rattle.part_lines.specs.Lines.{ended, is_one_line, lines_in}
use Rattle.part_lines.specs.LineFault.{IsLineFault}
use Rattle.part_lines.specs.Reading.{Reading, HasRead, IsNext}
use Rattle.part_lines.specs.declared.fault.LineFault.{LineFault}
use Rattle.part_lines.specs.declared.fault.LineFault.TheVariants.{NoMemory, Line}
use Rattle.log_parts.specs.declared.fails.Name.{Name}
use Rattle.log_parts.specs.declared.fails.Ends.{Ends}
use Rattle.log_parts.specs.Tries.{is_end, bare_then, quoted_then, named_then, gap_then, is_cell, is_chain, from_seen, from_want, from_signal, from_time, from_cycle}
use Rattle.log_parts.specs.Tries.{TryLog, IsVerdictLine, try_lines, AreFails, AreTries}
use Rattle.log_parts.specs.Log.{DieLog, IsDieLog, dies_text, sites_text, bins_of, AreDieLogs, AreLogs, IsLogOf}
use Rattle.log_parts.specs.Slices.{site_texts}

-- the bins of the dies of a site
abbrev pub die_bins : List DieLog → List ℕ
die_bins dies = map (λ (log : DieLog). log.bin) dies

-- the dies of a site by these names, the sites from this number on, and the totals, where these bins came before
pub record IsRest (names : List (List ℕ)) (number : ℕ) (later : List (List (List ℕ))) (bins rest : List ℕ) : Type 0
  where
    pub dies : List DieLog
    pub sites : List (List DieLog)
    pub are_dies : AreDieLogs names dies
    pub are_sites : AreLogs later sites
    pub is : rest ≡ dies_text names dies
        ++ (sites_text number later sites ++ totals_text (bins ++ (die_bins dies ++ bins_of sites)))

-- the lines of tries, ended
abbrev pub tries_text : List TryLog → List ℕ
tries_text tries = flat_map ended (flat_map try_lines tries)

-- the lines of a die behind the one with its name, and what stands behind them
pub record IsDieRest (names : List (List ℕ)) (number : ℕ) (later : List (List (List ℕ))) (bins rest : List ℕ)
    : Type 0 where
  pub log : DieLog
  pub is_die : IsDieLog log
  pub back : List ℕ
  pub is : rest ≡ flat_map ended log.body ++ (bin_line log.bin ++ back)
  pub goes_on : IsRest names number later (bins ++ log.bin ∷ []) back

-- the lines of tries from this number on, one at least or none, and what stands behind them
pub record IsTriesRest (least try : ℕ) (names : List (List ℕ)) (number : ℕ) (later : List (List (List ℕ)))
    (bins rest : List ℕ) : Type 0 where
  pub tries : List TryLog
  pub are : AreTries try tries
  pub enough : least ≤ length tries
  pub bin : ℕ
  pub some : 1 ≤ bin
  pub last : bin ≤ last_bin
  pub back : List ℕ
  pub is : rest ≡ tries_text tries ++ (bin_line bin ++ back)
  pub goes_on : IsRest names number later (bins ++ bin ∷ []) back

-- the fails and the verdict of the try of this number, and what stands behind them
pub record IsTryRest (try : ℕ) (names : List (List ℕ)) (number : ℕ) (later : List (List (List ℕ)))
    (bins rest : List ℕ) : Type 0 where
  pub fails : List (List ℕ)
  pub verdict : List ℕ
  pub are_fails : AreFails fails
  pub is_verdict : IsVerdictLine verdict
  pub back : List ℕ
  pub is : rest ≡ flat_map ended fails ++ (ended verdict ++ back)
  pub goes_on : IsTriesRest 0 (try + 1) names number later bins back

-- the text is this one
abbrev pub IsText : List ℕ → List ℕ → Type 0
IsText whole text = text ≡ whole

-- the words of the lines of sites, dies and bins
abbrev pub site_words : ℕ → List ℕ
site_words number = codes "site " ++ decimal number

-- the words of the line of a bin
abbrev pub bin_words : ℕ → List ℕ
bin_words bin = codes "bin " ++ decimal bin

-- the line is that of a bin
pub record IsBinLine (line : List ℕ) : Type 0 where
  pub bin : ℕ
  pub some : 1 ≤ bin
  pub last : bin ≤ last_bin
  pub is : line ≡ bin_words bin

-- names without line feeds
abbrev pub AreOneLine : List (List ℕ) → Type 0
AreOneLine names = AllByRecursion (λ name. is_one_line name ≡ true) names

-- the same of the names of all sites
abbrev pub AreOneLineEach : List (List (List ℕ)) → Type 0
AreOneLineEach sites = AllByRecursion AreOneLine sites

-- the words of the line of a total
abbrev pub total_words : ℕ → ℕ → List ℕ
total_words bin dies = codes "total " ++ decimal bin ++ codes " " ++ decimal dies

-- the totals of so many bins, from this one on
abbrev pub totals_from : List ℕ → ℕ → ℕ → List ℕ
totals_from bins from count = flat_map (λ bin. total_line bin (dies_in bin bins)) (range_with_len from count)

-- ---- words of a line

-- a line is this front, a blank, this word, a blank and digits
pub record EndsNumbered (word line front : List ℕ) : Type 0 where
  pub number : List ℕ
  pub are : are_digits number ≡ true
  pub is : line ≡ front ++ 32 ∷ (word ++ 32 ∷ number)

-- a line is that of a stop of the desk, before a batch and at a word
pub record IsByDesk (line : List ℕ) : Type 0 where
  pub front : List ℕ
  pub ends : EndsNumbered (codes "desk") line front
  pub stopped : EndsNumbered (codes "stopped") front (codes "verdict")

-- a line is that of a stop of the plan, before a batch
pub record IsByPlan (line : List ℕ) : Type 0 where
  pub front : List ℕ
  pub is : line ≡ front ++ codes " plan"
  pub stopped : EndsNumbered (codes "stopped") front (codes "verdict")

-- what may stand from a place in the line of a fail on: what follows a name, the name, or the rest of it
pub record IsName (follows : List ℕ → Bool) (rest : List ℕ) (name : Name) : Type 0 where
  pub bare : name.bare ≡ bare_then follows rest
  pub quoted : name.quoted ≡ quoted_then follows rest
  pub named : name.named ≡ named_then follows rest

-- the same of each word of the line
pub record AreEnds (rest : List ℕ) (ends : Ends) : Type 0 where
  pub ended : ends.ended ≡ is_end rest
  pub cell : IsName is_end rest ends.cell
  pub gap_cell : ends.gap_cell ≡ gap_then is_cell rest
  pub chain : IsName (gap_then is_cell) rest ends.chain
  pub gap_chain : ends.gap_chain ≡ gap_then is_chain rest
  pub seen : ends.seen ≡ from_seen rest
  pub gap_seen : ends.gap_seen ≡ gap_then from_seen rest
  pub want : ends.want ≡ from_want rest
  pub gap_want : ends.gap_want ≡ gap_then from_want rest
  pub signal : IsName (gap_then from_want) rest ends.signal
  pub gap_signal : ends.gap_signal ≡ gap_then from_signal rest
  pub time : ends.time ≡ from_time rest
  pub gap_time : ends.gap_time ≡ gap_then from_time rest
  pub cycle : ends.cycle ≡ from_cycle rest

-- ---- what was read

-- the fails and the verdict of a try were read
pub record TryIsRead (before now : Reading) : Type 0 where
  pub fails : List (List ℕ)
  pub verdict : List ℕ
  pub are_fails : AreFails fails
  pub is_verdict : IsVerdictLine verdict
  pub read : HasRead before now (flat_map ended fails ++ ended verdict)
  pub fits : lines_in now.front ≤ 2 ^ 64 - 1

-- the tries before this number were read, from 1 on, one at least
pub record TriesAreRead (next : ℕ) (before now : Reading) : Type 0 where
  pub tries : List TryLog
  pub are : AreTries 1 tries
  pub tried : 1 ≤ length tries
  pub number : next ≡ 1 + length tries
  pub read : HasRead before now (tries_text tries)
  pub lines : next ≤ lines_in now.front

-- the dies of a site were read, and their bins were added
pub record AreRead (names : List (List ℕ)) (before now : Reading) (olds news : List ℕ) : Type 0 where
  pub logs : List DieLog
  pub are : AreDieLogs names logs
  pub read : HasRead before now (dies_text names logs)
  pub bins : news ≡ olds ++ die_bins logs

-- a site was read, and this stands behind its line
pub record SiteIsRead (number : ℕ) (names : List (List ℕ)) (before now : Reading) (olds news text : List ℕ) : Type 0
  where
    pub logs : List DieLog
    pub are : AreDieLogs names logs
    pub read : HasRead before now (site_line number ++ dies_text names logs)
    pub bins : news ≡ olds ++ die_bins logs
    pub is : text ≡ dies_text names logs

-- sites were read, and this stands behind their lines
pub record SitesAreRead (names : List (List (List ℕ))) (before now : Reading) (olds news : List ℕ)
    (texts : List (List ℕ)) : Type 0 where
  pub logs : List (List DieLog)
  pub are : AreLogs names logs
  pub read : HasRead before now (sites_text 0 names logs)
  pub bins : news ≡ olds ++ bins_of logs
  pub texts_are : texts ≡ site_texts names logs

-- ---- what a reader answers

-- the line of these words was read, or else it isn't the next one, which is the fault
abbrev pub ReadsLine : Reading → Reading → List ℕ → Result Unit LineFault → Type 0
ReadsLine before now words result =
    MatchResult result (λ _. HasRead before now (ended words))
    (λ e. (e ≡ Line (lines_in before.front + 1)) × (IsNext before.rest words → ⊥))

-- want of memory, or the fault of the text
abbrev pub IsFaultOf : List (List (List ℕ)) → List ℕ → LineFault → Type 0
IsFaultOf names text NoMemory = Unit {0}
IsFaultOf names text (Line line) = IsLineFault (IsLogOf names) text line
