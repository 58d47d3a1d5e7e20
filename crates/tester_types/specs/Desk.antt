-- What a desk has said, and what the desk with a list says.
use Rattle.std.specs.Prelude.{◌≡◌, ℕ, ◌<◌, ◌≤◌, ◌==◌, Bool, false, List, take, count_by}
use Rattle.tester_types.specs.declared.desk.Ask.{Ask}
use Rattle.tester_types.specs.declared.desk.Ask.TheVariants.{Nothing, Stop}

-- how many stops were said for each site, and how many are said now: a stop raises its site's number,
-- no number falls, and where nothing is said none changes
abbrev pub Says : Ask → (ℕ → ℕ) → (ℕ → ℕ) → Type 0
Says Nothing before now = (site : ℕ) → now site ≡ before site
Says (Stop stopped) before now = (before stopped < now stopped) × ((site : ℕ) → before site ≤ now site)

-- whether an answer is a stop for this site
abbrev pub is_stop_for : ℕ → Ask → Bool
is_stop_for site Nothing = false
is_stop_for site (Stop stopped) = stopped == site

-- a desk that answers a list: its answers, how many of them were given, and whether it was asked
pub record DeskList : Type 0 where
  pub asks : List Ask
  pub given : ℕ
  pub asked : Bool

-- how many stops it has said for a site
abbrev pub stops_said : DeskList → ℕ → ℕ
stops_said d site = count_by (is_stop_for site) (take d.given d.asks)
