-- What the reading finds at a place; no public clause cites it.
use Rattle.std.specs.Prelude.{◌≡◌, ℕ, ◌+◌, ◌≤◌, ◌<◌, ◌++◌, ◌&&◌, ◌||◌, Bool, true, false, not, Option, Some, None, MatchOption, List, [], ◌∷◌, length, take, drop, codes, decimal, if◌then◌else◌}
use denote.Ref.{Bor}
use Rattle.std.specs.List.{flat_map, list_any, AllByRecursion}
use Rattle.std.specs.Str.{bytes_eq}
use Rattle.indexmap.specs.IndexSet.{IndexSet, keys}
use Rattle.part_lines.specs.Lines.{ended, is_one_line}
use Rattle.part_lines.specs.Words.{is_named}
use Rattle.grade_parts.specs.Log.{GradeLog, Stuck, Tells, is_good, found_in}
use Rattle.grade_parts.specs.Turns.{has_net, open_net}
use Rattle.grade_parts.specs.Held.{lines_of, AreHeld}

-- the text begins with this line
pub record IsFirst (text line : List ℕ) : Type 0 where
  pub one : is_one_line line ≡ true
  pub fits : length line < length text
  pub whole : text ≡ ended line ++ drop (length line + 1) text

-- the line of no good die stands in front of a text
abbrev pub LacksGood : List ℕ → Type 0
LacksGood text = (line later : List ℕ) → text ≡ ended line ++ later → is_one_line line ≡ true → is_good line ≡ false

-- whether a net is kept
abbrev pub has_in : {S : Type 0} → IndexSet (Bor (List ℕ)) S → List ℕ → Bool
has_in nets net = list_any (λ (kept : Bor (List ℕ)). bytes_eq net kept.now) (keys nets)

-- what is known of the faults so far: the nets that they are of, and the one that waits for its fault at 1
pub record Known : Type 0 where
  pub nets : List (List ℕ)
  pub waiting : Option (List ℕ)

-- whether a net is among them
abbrev pub knows_net : Known → List ℕ → Bool
knows_net known net = list_any (bytes_eq net) known.nets

-- this is known of these faults, whose nets are names as they are printed
pub record Knows (known : Known) (before : List Stuck) : Type 0 where
  pub has : (net : List ℕ) → knows_net known net ≡ has_net net before
  pub waits : known.waiting ≡ open_net before
  pub named : AllByRecursion (λ (stuck : Stuck). (is_named stuck.net && is_one_line stuck.net) ≡ true) before

-- whether a fault comes next, where this is known of those so far
abbrev pub next_by : Option (List ℕ) → Known → Stuck → Bool
next_by None known stuck = not stuck.value && not (knows_net known stuck.net)
next_by (Some net) known stuck = stuck.value && bytes_eq net stuck.net

-- which net is open behind a fault
abbrev pub open_behind : Stuck → Option (List ℕ)
open_behind stuck = if stuck.value then None else Some stuck.net

-- one fault more is known
pub record IsMore (before now : Known) (stuck : Stuck) : Type 0 where
  pub has : (net : List ℕ) → knows_net now net ≡ (knows_net before net || bytes_eq stuck.net net)
  pub waits : now.waiting ≡ open_behind stuck

-- the digit of a level
abbrev pub level_digit : Bool → List ℕ
level_digit false = codes "0"
level_digit true = codes "1"

-- a stuck net by its name and its level
abbrev pub stuck_of : List ℕ → Bool → Stuck
stuck_of net value = record { net = net; value = value }

-- the lines tell of these faults, each of which comes next where it stands, and this is known behind them
abbrev pub AreMore : Known → List (List ℕ) → List Stuck → Known → Type 0
AreMore known [] [] now = now ≡ known
AreMore known [] (stuck ∷ later) now = ⊥
AreMore known (line ∷ lines) [] now = ⊥
AreMore known (line ∷ lines) (stuck ∷ later) now =
    (next : Known) × Tells line stuck × (next_by known.waiting known stuck ≡ true) × IsMore known next stuck
    × AreMore next lines later now

-- no fault that comes next stands in front of a text
abbrev pub LacksNext : Known → List ℕ → Type 0
LacksNext known text =
    (line later : List ℕ) (stuck : Stuck) → text ≡ ended line ++ later → Tells line stuck
    → next_by known.waiting known stuck ≡ true → ⊥

-- a text begins with the line of a fault that comes next, and that is known now
pub record IsNextFault (text line : List ℕ) (before now : Known) : Type 0 where
  pub is_first : IsFirst text line
  pub stuck : Stuck
  pub tells : Tells line stuck
  pub next : next_by before.waiting before stuck ≡ true
  pub more : IsMore before now stuck

-- what is found in front of a text: the fault that comes next, or none
abbrev pub FindsFault : List ℕ → Known → Known → Option (Bor (List ℕ)) → Type 0
FindsFault text before now found =
    MatchOption found ((now ≡ before) × LacksNext before text) (λ line. IsNextFault text line.now before now)

-- So many bytes of a text are the lines of the faults that come next, which are known now; and behind them none does.
pub record AreFront (text : List ℕ) (end all hits : ℕ) (before now : Known) : Type 0 where
  pub held : AreHeld (take end text) all hits
  pub told : List Stuck
  pub more : AreMore before (lines_of (take end text)) told now
  pub within : end ≤ length text
  pub last : LacksNext now (drop end text)
  pub few : all ≤ end

-- this is what stands behind a front of a text, where the text has this front
abbrev pub IsBehind : List ℕ → List ℕ → Option (Bor (List ℕ)) → Type 0
IsBehind text front found =
    MatchOption found ((rest : List ℕ) → text ≡ front ++ rest → ⊥) (λ rest. text ≡ front ++ rest.now)

-- the line of so many faults, so many of them found
abbrev pub counts_text : ℕ → ℕ → List ℕ
counts_text all hits = codes "faults " ++ decimal all ++ codes " found " ++ decimal hits ++ codes "\n"

-- ---- all parts

-- the lines of the faults of a part
abbrev pub fault_lines : GradeLog → List ℕ
fault_lines log = flat_map ended log.faults

-- how many they are
abbrev pub count_of : GradeLog → ℕ
count_of log = length log.faults

-- how many of them are found
abbrev pub found_of : GradeLog → ℕ
found_of log = found_in log.faults
