-- What runs of lots have at a site, and what they print of it by what they have in common.
use Rattle.std.specs.Prelude.{◌≡◌, ℕ, ◌<◌, ◌++◌, Some, List, map, sum_by}
use Rattle.std.specs.List.{flat_map, range_with_len}
use Rattle.tester_types.specs.Outside.{Files, file_of}
use Rattle.tester_types.specs.Records.{records_of}
use Rattle.tester_types.specs.declared.record.Record.{Record}
use Rattle.plan_rows.specs.Rows.{sites_of}
use Rattle.die_sim.specs.Socket.{Told}
use Rattle.site_meaning.specs.Records.{cuts_of}
use Rattle.floor_core.specs.Book.{at_site}
use Rattle.datalog.specs.DatalogText.{die_bin, dies_in, total_line, record_text, site_text, numbered}
use Rattle.tool_inputs.specs.Inputs.{Inputs, bound_of}
use Rattle.lot_laws.specs.Alone.{lines_of, IsOneProgram, AreOneNets, SayTheSame, AreUncut}
use Rattle.lot_laws.specs.Moved.{moved_record, SayTheSameMoved}
use Rattle.stil_tool.specs.Lot.{Floor, IsRun}

-- a run of a lot with these files that ended with its text
pub record LotRun {S : Type 0} (tells : S → Told) : Type 0 where
  pub files : Files
  pub program : List ℕ
  pub plan : List ℕ
  pub old : Floor S
  pub new : Floor S
  pub text : List ℕ
  pub is : IsRun tells (Some files) program plan old new text

-- what its files say
abbrev pub said : {S : Type 0} {tells : S → Told} → LotRun tells → Inputs
said run = run.is.inputs

-- how many sites it has
abbrev pub sites_in : {S : Type 0} {tells : S → Told} → LotRun tells → ℕ
sites_in run = sites_of (said run).rows

-- the records of a site
abbrev pub records_at : {S : Type 0} {tells : S → Told} → LotRun tells → ℕ → List Record
records_at run site = (at_site run.is.lot.book site).records

-- the lines of a site
abbrev pub lines_at : {S : Type 0} {tells : S → Told} → LotRun tells → ℕ → List ℕ
lines_at run site = lines_of (said run) site (records_at run site)

-- the lines of a site's dies, without the line that has the site's number
abbrev pub die_lines_at : {S : Type 0} {tells : S → Told} → LotRun tells → ℕ → List ℕ
die_lines_at run site = flat_map (record_text (said run).code (bound_of (said run))) (records_at run site)

-- a text has these lines, somewhere
pub record HasLines (text lines : List ℕ) : Type 0 where
  pub front : List ℕ
  pub back : List ℕ
  pub is : text ≡ front ++ (lines ++ back)

-- Two runs that say the same of a site, and cut its tries alike, print the same lines for it, whatever else their plans
-- and netlists say.
abbrev pub AloneLines : {S : Type 0} → (S → Told) → Type 0
AloneLines tells =
    (run other : LotRun tells) (site : ℕ) → site < sites_in run → site < sites_in other
    → SayTheSame run.files other.files run.program other.program (said run) (said other) site
    → cuts_of (records_at run site) ≡ cuts_of (records_at other site)
    → (lines_at run site ≡ lines_at other site) × HasLines run.text (lines_at run site)
    × HasLines other.text (lines_at other site)

-- Two runs of the same bytes print the same text, where neither live stops nor contacts cut a try.
abbrev pub OneText : {S : Type 0} → (S → Told) → Type 0
OneText tells =
    (run other : LotRun tells) → IsOneProgram run.files other.files run.program other.program
    → file_of run.files run.plan ≡ file_of other.files other.plan
    → ((site : ℕ) → AreOneNets run.files other.files (said run).rows site)
    → ((site : ℕ) → AreUncut (records_at run site)) → ((site : ℕ) → AreUncut (records_at other site))
    → run.text ≡ other.text

-- Two runs that say the same of a site in one and a site in the other, and cut its tries alike, record the same there
-- but for the site's number, and print the same lines of its dies, which fall into the same bins.
abbrev pub OtherSite : {S : Type 0} → (S → Told) → Type 0
OtherSite tells =
    (run other : LotRun tells) (site place : ℕ) → site < sites_in run → place < sites_in other
    → SayTheSameMoved run.files other.files run.program other.program (said run) (said other) site place
    → cuts_of (records_at run site) ≡ cuts_of (records_at other place)
    → (records_at other place ≡ map (moved_record place) (records_at run site))
    × (die_lines_at other place ≡ die_lines_at run site)
    × (map (die_bin (bound_of (said other))) (records_at other place)
    ≡ map (die_bin (bound_of (said run))) (records_at run site))

-- how many dies of a site a bin has
abbrev pub dies_at_site : {S : Type 0} {tells : S → Told} → LotRun tells → ℕ → List Record → ℕ
dies_at_site run bin entries = dies_in bin (map (die_bin (bound_of (said run))) entries)

-- The text of a run is the lines of its sites by rising number, and then for each bin the sum of the dies that each
-- site has in it.
abbrev pub TextIsSites : {S : Type 0} → (S → Told) → Type 0
TextIsSites tells =
    (run : LotRun tells) → run.text
    ≡ numbered (site_text (said run).code (bound_of (said run))) 0 (records_of run.is.lot.book)
    ++ flat_map (λ bin. total_line bin (sum_by (dies_at_site run bin) (records_of run.is.lot.book)))
    (range_with_len 1 99)
