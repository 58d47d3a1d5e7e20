-- What the code keeps beside the rows so far; no public clause cites it.
use Rattle.std.specs.Prelude.{◌≡◌, ℕ, ◌+◌, ◌*◌, false, ◌<◌, ◌≤◌, ◌⊎◌, List, [], ◌∷◌, ◌++◌, length, map, slice_index_or, slice_set, Result, Ok, Err, true}
use Rattle.text_bytes.specs.Limits.{most_plan_sites}
use Rattle.text_bytes.specs.Texts.{key_texts, added}
use Rattle.plan_rows.specs.Rows.{dies_of, dies_at, lot_of, IsLot}
use Rattle.answers.specs.Reading.{reading}
use Rattle.plan_rows.specs.Limits.{last_site, most_dies, most_kept, last_bin}
use Rattle.plan_rows.specs.Words.{is_name}
use Rattle.plan_rows.specs.Judging.{names_at, says_again, judge}
use Rattle.plan_rows.specs.Subjects.{Subject, the_lot, the_clock, the_signal, the_name, the_net, the_try, the_ending, the_skew, subject_of}
use Rattle.plan_rows.specs.Plan.{HasRecords}
use Rattle.plan_rows.specs.declared.tally.DieTally.{DieTally}
use Rattle.plan_rows.specs.declared.book.Book.{Book}
use Rattle.plan_rows.specs.declared.row.Row.{Row}
use Rattle.plan_rows.specs.declared.row.Ending.{Ending}
use Rattle.plan_rows.specs.declared.row.Ending.TheVariants.{Pass, Fail, Stopped, Contact}
use Rattle.plan_rows.specs.declared.row.Row.TheVariants as row
use Rattle.plan_rows.specs.declared.fault.PlanFault.{PlanFault}
use Rattle.plan_rows.specs.declared.fault.PlanFault.TheVariants.{NoMemory}

-- what a step answers, where it is to answer this: the same, or want of memory
abbrev pub IsAnswer : {A : Type 0} → Result A PlanFault → Result A PlanFault → Type 0
IsAnswer (Ok x) wanted = wanted ≡ Ok x
IsAnswer (Err e) wanted = (e ≡ NoMemory) ⊎ (wanted ≡ Err e)

-- the names that are kept, site by site
abbrev pub kept_names : DieTally → List (List (List ℕ))
kept_names t = map (λ s. key_texts s.keys) t.names.items

-- the lot, the dies and their names are those of these rows
pub record IsTally (t : DieTally) (rows : List Row) : Type 0 where
  pub lot : t.lot ≡ lot_of rows
  pub dies : t.dies ≡ length (dies_of rows)
  pub few : t.dies ≤ most_dies
  pub sites : length t.names.items ≡ most_plan_sites
  pub names : (site : ℕ) → site < most_plan_sites → slice_index_or (kept_names t) site [] ≡ names_at site rows

-- an ending in numbers
abbrev pub ending_key : Ending → List ℕ
ending_key Pass = 0 ∷ []
ending_key (Fail executive) = 1 ∷ executive ∷ []
ending_key Stopped = 2 ∷ []
ending_key Contact = 3 ∷ []

-- what a row is about in numbers, which differ where the subjects do
abbrev pub subject_key : Subject → List ℕ
subject_key the_lot = 0 ∷ []
subject_key the_clock = 1 ∷ []
subject_key (the_signal signal) = 2 ∷ signal
subject_key (the_name site name) = 3 ∷ site ∷ name
subject_key (the_net site die net) = 4 ∷ site ∷ die ∷ net
subject_key (the_try site die number) = 5 ∷ site ∷ die ∷ number ∷ []
subject_key (the_ending ending) = 6 ∷ ending_key ending
subject_key (the_skew site signal) = 7 ∷ site ∷ signal

-- what this row is about, in numbers
abbrev pub key_of : Row → List ℕ
key_of x = subject_key (subject_of x)

-- what is kept is that of the rows so far
pub record IsBook (b : Book) : Type 0 where
  pub tally : IsTally b.tally b.rows.items
  pub subjects : key_texts b.subjects.keys ≡ map key_of b.rows.items

-- what a row finds before it, and what its numbers keep: nothing stands before the lot's own row
abbrev pub Suits : List Row → Row → Type 0
Suits before (row.Lot l) = (length before ≡ 0) × IsLot l
Suits before (row.Clock s) = 0 < length before
Suits before (row.Bind b) = 0 < length before
Suits before (row.Die d) = (0 < length before) × (d.site ≤ last_site) × (length (dies_of before) + 1 ≤ most_dies)
    × ((length (dies_of before) + 1) * ((lot_of before).tries * (lot_of before).keep) ≤ most_kept)
    × (is_name d.file ≡ true)
Suits before (row.Fault f) = (0 < length before) × (f.die < length (dies_at f.site before))
Suits before (row.Stop s) = (0 < length before) × (s.die < length (dies_at s.site before))
Suits before (row.Bin b) = (0 < length before) × (1 ≤ b.bin) × (b.bin ≤ last_bin)
Suits before (row.Skew k) = 0 < length before

-- a row that may follow these
pub record IsNext (before : List Row) (x : Row) : Type 0 where
  pub suits : Suits before x
  pub fresh : says_again before x ≡ false

-- a record was read: it is one more row
pub record Reads (old new : Book) (fields : List (List ℕ)) : Type 0 where
  pub book : IsBook new
  pub row : Row
  pub judged : judge old.rows.items fields ≡ Ok row
  pub more : new.rows.items ≡ old.rows.items ++ row ∷ []

-- all records of a text are these rows
pub record IsWhole (bytes : List ℕ) (rows : List Row) : Type 0 where
  pub records : List (List (List ℕ))
  pub are : HasRecords bytes records
  pub read : reading judge [] records ≡ Ok rows

-- a die has a site, and one more die is one of few
abbrev pub HasPlace : DieTally → Row → Type 0
HasPlace t (row.Lot l) = Unit {0}
HasPlace t (row.Clock s) = Unit {0}
HasPlace t (row.Bind b) = Unit {0}
HasPlace t (row.Die d) = (d.site < length t.names.items) × (t.dies < most_dies)
HasPlace t (row.Fault f) = Unit {0}
HasPlace t (row.Stop s) = Unit {0}
HasPlace t (row.Bin b) = Unit {0}
HasPlace t (row.Skew k) = Unit {0}

-- what a row changes of what is kept
abbrev pub Notes : DieTally → DieTally → Row → Type 0
Notes old new (row.Lot l) = (new.lot ≡ l) × (new.dies ≡ old.dies) × (kept_names new ≡ kept_names old)
Notes old new (row.Die d) = (new.lot ≡ old.lot) × (new.dies ≡ old.dies + 1)
    × (kept_names new
    ≡ slice_set (kept_names old) d.site (added (slice_index_or (kept_names old) d.site []) d.name))
Notes old new (row.Clock s) = new ≡ old
Notes old new (row.Bind b) = new ≡ old
Notes old new (row.Fault f) = new ≡ old
Notes old new (row.Stop s) = new ≡ old
Notes old new (row.Bin b) = new ≡ old
Notes old new (row.Skew k) = new ≡ old
