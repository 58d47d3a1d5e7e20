-- The places of the gates that read each net, in one list; no public clause cites it.
use Rattle.std.specs.Prelude.{◌≡◌, ℕ, ◌+◌, ◌-◌, ◌<◌, ◌≤◌, List, [], length, take, drop, map, All, slice_index, slice_index_or}
use Rattle.bench_net.specs.Circuit.{Circuit}

-- what stands from the start of a net to that of the next
abbrev pub cut : List ℕ → List ℕ → ℕ → List ℕ
cut starts places n =
    take (slice_index_or starts (n + 1) 0 - slice_index_or starts n 0) (drop (slice_index_or starts n 0) places)

-- the net's start and the next stand in the list
pub record IsCutAt (starts places : List ℕ) (n : ℕ) : Type 0 where
  pub rises : slice_index_or starts n 0 ≤ slice_index_or starts (n + 1) 0
  pub within : slice_index_or starts (n + 1) 0 ≤ length places

-- these are the places of these gates in the order
pub record ArePlacesOf (order places nets : List ℕ) : Type 0 where
  pub within : All (λ p. p < length order) places
  pub are : map (λ p. slice_index order p) places ≡ nets

-- the readers of the first nets have their places
pub record AreReadersTo (c : Circuit) (starts places : List ℕ) (k : ℕ) : Type 0 where
  pub count : length starts ≡ k + 1
  pub last : slice_index_or starts k 0 ≡ length places
  pub cuts : (n : ℕ) → n < k → IsCutAt starts places n
  pub each : (n : ℕ) → n < k → ArePlacesOf c.order (cut starts places n) (slice_index_or c.readers n [])

-- the readers of all nets have their places
abbrev pub AreReaderPlaces : Circuit → List ℕ → List ℕ → Type 0
AreReaderPlaces c starts places = AreReadersTo c starts places (length c.net.names)
