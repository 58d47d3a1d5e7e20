-- What a row of a plan is about: one row of a plan may be about it.
use Rattle.std.specs.Prelude.{ℕ, ◌&&◌, ◌==◌, Bool, true, false, List}
use Rattle.std.specs.Str.{bytes_eq}
use Rattle.plan_rows.specs.declared.row.Row.{Row}
use Rattle.plan_rows.specs.declared.row.Row.TheVariants as row
use Rattle.plan_rows.specs.declared.row.Ending.{Ending}
use Rattle.plan_rows.specs.declared.row.Ending.TheVariants.{Pass, Fail, Stopped, Contact}

-- what a row is about: the lot, the clock, a signal, the name of a die at a site, a net of a die of a site, a try of a
-- die of a site, how a last try ends, or the skew of a signal at a site
pub data Subject : Type 0 where
  the_lot : Subject
  the_clock : Subject
  the_signal : List ℕ → Subject
  the_name : ℕ → List ℕ → Subject
  the_net : ℕ → ℕ → List ℕ → Subject
  the_try : ℕ → ℕ → ℕ → Subject
  the_ending : Ending → Subject
  the_skew : ℕ → List ℕ → Subject

-- what this row is about
abbrev pub subject_of : Row → Subject
subject_of (row.Lot l) = the_lot
subject_of (row.Clock s) = the_clock
subject_of (row.Bind b) = the_signal b.signal
subject_of (row.Die d) = the_name d.site d.name
subject_of (row.Fault f) = the_net f.site f.die f.net
subject_of (row.Stop s) = the_try s.site s.die s.number
subject_of (row.Bin b) = the_ending b.ending
subject_of (row.Skew k) = the_skew k.site k.signal

-- whether two endings are one
abbrev pub same_ending : Ending → Ending → Bool
same_ending Pass Pass = true
same_ending (Fail executive) (Fail other) = executive == other
same_ending Stopped Stopped = true
same_ending Contact Contact = true
same_ending _ _ = false

-- whether two rows are about one thing
abbrev pub same_subject : Subject → Subject → Bool
same_subject the_lot the_lot = true
same_subject the_clock the_clock = true
same_subject (the_signal signal) (the_signal other) = bytes_eq signal other
same_subject (the_name site name) (the_name place other) = (site == place) && bytes_eq name other
same_subject (the_net site die net) (the_net place number other) =
    (site == place) && ((die == number) && bytes_eq net other)
same_subject (the_try site die try) (the_try place number other) =
    (site == place) && ((die == number) && (try == other))
same_subject (the_ending ending) (the_ending other) = same_ending ending other
same_subject (the_skew site signal) (the_skew place other) = (site == place) && bytes_eq signal other
same_subject _ _ = false
