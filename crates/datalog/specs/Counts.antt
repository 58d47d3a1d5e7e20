-- What the code computes to print the totals. No public clause cites it.
use Rattle.std.specs.Prelude.{◌≡◌, ℕ, ◌+◌, ◌<◌, List, length, slice_index}
use Rattle.datalog.specs.DatalogText.{dies_in}

-- the count of each bin, from 0 to 99, is how many dies fell into it; none fell into bin 0
pub record AreCounts (bins counts : List ℕ) : Type 0 where
  pub size : length counts ≡ 100
  pub none : slice_index counts 0 ≡ 0
  pub each : (bin : ℕ) → bin < 100 → slice_index counts bin ≡ dies_in bin bins

-- each bin's count has grown by the dies that fell into it
abbrev pub HaveGrown : List ℕ → List ℕ → List ℕ → Type 0
HaveGrown before bins counts =
    (bin : ℕ) → bin < 100 → slice_index counts bin ≡ slice_index before bin + dies_in bin bins
