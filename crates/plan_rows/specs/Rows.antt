-- The rows of a plan as plain data: the lists that they make, and what accepted rows keep.
use Rattle.std.specs.Prelude.{◌≡◌, ◌==◌, ◌+◌, ◌*◌, ◌&&◌, max, ℕ, ◌<◌, ◌≤◌, Option, Some, None, List, [], ◌∷◌, ◌++◌, length, filter, fold, slice_index_or, All, Bool, true}
use Rattle.text_bytes.specs.Texts.{added}
use Rattle.plan_rows.specs.Limits.{last_site, most_dies, most_batch, most_tries, most_keep, most_kept, last_bin}
use Rattle.plan_rows.specs.Words.{is_name}
use Rattle.plan_rows.specs.declared.row.Row.{Row}
use Rattle.plan_rows.specs.declared.row.Row.TheVariants as row
use Rattle.plan_rows.specs.declared.row.LotRow.{LotRow}
use Rattle.plan_rows.specs.declared.row.BindRow.{BindRow}
use Rattle.plan_rows.specs.declared.row.DieRow.{DieRow}
use Rattle.plan_rows.specs.declared.row.FaultRow.{FaultRow}
use Rattle.plan_rows.specs.declared.row.StopRow.{StopRow}
use Rattle.plan_rows.specs.declared.row.BinRow.{BinRow}
use Rattle.plan_rows.specs.declared.row.SkewRow.{SkewRow}

-- one item, where there is one
abbrev pub one : {A : Type 0} → Option A → List A
one None = []
one (Some x) = x ∷ []

-- the items that rows give, in order
abbrev pub each_of : {A : Type 0} → (Row → Option A) → List Row → List A
each_of f [] = []
each_of f (r ∷ rows) = one (f r) ++ each_of f rows

-- the lot's own row, where a row is that
abbrev pub as_lot : Row → Option LotRow
as_lot (row.Lot l) = Some l
as_lot (row.Clock s) = None
as_lot (row.Bind b) = None
as_lot (row.Die d) = None
as_lot (row.Fault f) = None
as_lot (row.Stop s) = None
as_lot (row.Bin b) = None
as_lot (row.Skew k) = None

-- the signal of a row of the clock
abbrev pub as_clock : Row → Option (List ℕ)
as_clock (row.Lot l) = None
as_clock (row.Clock s) = Some s
as_clock (row.Bind b) = None
as_clock (row.Die d) = None
as_clock (row.Fault f) = None
as_clock (row.Stop s) = None
as_clock (row.Bin b) = None
as_clock (row.Skew k) = None

-- the row of a signal and its net
abbrev pub as_bind : Row → Option BindRow
as_bind (row.Lot l) = None
as_bind (row.Clock s) = None
as_bind (row.Bind b) = Some b
as_bind (row.Die d) = None
as_bind (row.Fault f) = None
as_bind (row.Stop s) = None
as_bind (row.Bin b) = None
as_bind (row.Skew k) = None

-- the row of a die, with its site and its netlist's file
abbrev pub as_die : Row → Option DieRow
as_die (row.Lot l) = None
as_die (row.Clock s) = None
as_die (row.Bind b) = None
as_die (row.Die d) = Some d
as_die (row.Fault f) = None
as_die (row.Stop s) = None
as_die (row.Bin b) = None
as_die (row.Skew k) = None

-- the row of a stuck net of a die
abbrev pub as_fault : Row → Option FaultRow
as_fault (row.Lot l) = None
as_fault (row.Clock s) = None
as_fault (row.Bind b) = None
as_fault (row.Die d) = None
as_fault (row.Fault f) = Some f
as_fault (row.Stop s) = None
as_fault (row.Bin b) = None
as_fault (row.Skew k) = None

-- the row that stops a try of a die
abbrev pub as_stop : Row → Option StopRow
as_stop (row.Lot l) = None
as_stop (row.Clock s) = None
as_stop (row.Bind b) = None
as_stop (row.Die d) = None
as_stop (row.Fault f) = None
as_stop (row.Stop s) = Some s
as_stop (row.Bin b) = None
as_stop (row.Skew k) = None

-- the row of an ending's bin
abbrev pub as_bin : Row → Option BinRow
as_bin (row.Lot l) = None
as_bin (row.Clock s) = None
as_bin (row.Bind b) = None
as_bin (row.Die d) = None
as_bin (row.Fault f) = None
as_bin (row.Stop s) = None
as_bin (row.Bin b) = Some b
as_bin (row.Skew k) = None

-- the row of a signal's skew at a site
abbrev pub as_skew : Row → Option SkewRow
as_skew (row.Lot l) = None
as_skew (row.Clock s) = None
as_skew (row.Bind b) = None
as_skew (row.Die d) = None
as_skew (row.Fault f) = None
as_skew (row.Stop s) = None
as_skew (row.Bin b) = None
as_skew (row.Skew k) = Some k

-- the site that a row names, if it names one
abbrev pub site_in : Row → Option ℕ
site_in (row.Lot lot) = None
site_in (row.Clock signal) = None
site_in (row.Bind bind) = None
site_in (row.Die die) = Some die.site
site_in (row.Fault fault) = Some fault.site
site_in (row.Stop stop) = Some stop.site
site_in (row.Bin bin) = None
site_in (row.Skew skew) = Some skew.site

-- whether a site is this one, or there is none
abbrev pub is_here : ℕ → Option ℕ → Bool
is_here site None = true
is_here site (Some s) = s == site

-- whether a row names this site, or none
abbrev pub is_about : ℕ → Row → Bool
is_about site r = is_here site (site_in r)

-- the dies of a plan, in order
abbrev pub dies_of : List Row → List DieRow
dies_of rows = each_of as_die rows

-- the dies of a site, in order
abbrev pub dies_at : ℕ → List Row → List DieRow
dies_at site rows = filter (λ d. d.site == site) (dies_of rows)

-- the stuck nets of a die, in order
abbrev pub faults_at : ℕ → ℕ → List Row → List FaultRow
faults_at site die rows = filter (λ f. (f.site == site) && (f.die == die)) (each_of as_fault rows)

-- the stops of a die, in order
abbrev pub stops_at : ℕ → ℕ → List Row → List StopRow
stops_at site die rows = filter (λ s. (s.site == site) && (s.die == die)) (each_of as_stop rows)

-- the skews of a site, in order
abbrev pub skews_at : ℕ → List Row → List SkewRow
skews_at site rows = filter (λ k. k.site == site) (each_of as_skew rows)

-- how many sites there are: the greatest site plus 1, and none without a die
abbrev pub sites_of : List Row → ℕ
sites_of rows = fold (λ most d. max most (d.site + 1)) 0 (dies_of rows)

-- the files of the dies in the order in which they are first named, each once
abbrev pub files_of : List Row → List (List ℕ)
files_of rows = fold (λ files d. added files d.file) [] (dies_of rows)

-- the lot's own row: the first; zeros where there is none
abbrev pub lot_of : List Row → LotRow
lot_of rows = slice_index_or (each_of as_lot rows) 0 (record { batch = 0; tries = 0; keep = 0 })

-- a lot's numbers are in their ranges
pub record IsLot (l : LotRow) : Type 0 where
  pub batch_some : 1 ≤ l.batch
  pub batch : l.batch ≤ most_batch
  pub tries_some : 1 ≤ l.tries
  pub tries : l.tries ≤ most_tries
  pub keep : l.keep ≤ most_keep

-- a site has a die of this number
abbrev pub HasDie : List Row → ℕ → ℕ → Type 0
HasDie rows site die = die < length (dies_at site rows)

-- no two faults of a list have one net
abbrev pub AreApart : List FaultRow → Type 0
AreApart faults = (k l : ℕ) (f g : FaultRow) → k < length faults → l < length faults
    → (slice_index_or faults k f).net ≡ (slice_index_or faults l g).net → k ≡ l

-- what accepted rows keep: the lot's row is there once, sites and dies are few, the files of dies have names of 1 to
-- 255 bytes that show in print, a fault and a stop are of a die that an earlier row gave, bins are 1 to 99, and no two
-- faults of one die have one net
pub record AreKept (rows : List Row) : Type 0 where
  pub lots : length (each_of as_lot rows) ≡ 1
  pub lot : IsLot (lot_of rows)
  pub clocks : length (each_of as_clock rows) ≤ 1
  pub sites : All (λ d. d.site ≤ last_site) (dies_of rows)
  pub files : All (λ d. is_name d.file ≡ true) (dies_of rows)
  pub dies : length (dies_of rows) ≤ most_dies
  pub few_kept : length (dies_of rows) * ((lot_of rows).tries * (lot_of rows).keep) ≤ most_kept
  pub faults : All (λ f. HasDie rows f.site f.die) (each_of as_fault rows)
  pub stops : All (λ s. HasDie rows s.site s.die) (each_of as_stop rows)
  pub bins : All (λ b. (1 ≤ b.bin) × (b.bin ≤ last_bin)) (each_of as_bin rows)
  pub one_fault : (site die : ℕ) → AreApart (faults_at site die rows)
