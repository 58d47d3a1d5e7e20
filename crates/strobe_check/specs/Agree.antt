-- Entries that agree in all that is sensed.
use Rattle.std.specs.Prelude.{◌≡◌, ℕ, ◌<◌, Bool, true, List, length, take, slice_index_or}
use Rattle.strobe_check.specs.Entry.{Entry, level_of}
use Rattle.strobe_check.specs.Sensed.{is_sensed}
use Rattle.strobe_check.specs.Fails.{fails}
use Rattle.strobe_check.specs.History.{open_windows}

-- two entries of one moment, that agree in everything but levels
pub record AreOfOneMoment (one other : Entry) : Type 0 where
  pub exec : one.exec ≡ other.exec
  pub cycle : one.cycle ≡ other.cycle
  pub mark : one.mark ≡ other.mark
  pub moment : one.moment ≡ other.moment

-- after these entries of a cycle, two entries agree in the level of each signal that is sensed
abbrev pub AgreeBehind : List Bool → List Entry → Entry → Entry → Type 0
AgreeBehind bound entries one other =
    (signal : ℕ) → is_sensed bound entries one.moment signal ≡ true → level_of signal one ≡ level_of signal other

-- two lists of entries of a cycle that agree, place by place, in everything that is sensed
pub record Agree (bound : List Bool) (ones others : List Entry) : Type 0 where
  pub count : length ones ≡ length others
  pub moments : (place : ℕ) (d : Entry) → place < length ones
      → AreOfOneMoment (slice_index_or ones place d) (slice_index_or others place d)
  pub levels : (place : ℕ) (d : Entry) → place < length ones
      → AgreeBehind bound (take place ones) (slice_index_or ones place d) (slice_index_or others place d)

-- they have the same fails, and leave the same windows open
pub record JudgedAlike (bound : List Bool) (ones others : List Entry) : Type 0 where
  pub fails : fails bound ones ≡ fails bound others
  pub windows : open_windows bound ones ≡ open_windows bound others

-- the fails of a cycle depend on the levels of sensed signals alone
abbrev pub SensedLevelsDecide : Type 0
SensedLevelsDecide =
    (bound : List Bool) (ones others : List Entry) → Agree bound ones others → JudgedAlike bound ones others
