-- What the code knows of readers and of gates in order; no public clause cites it.
use Rattle.std.specs.Prelude.{◌≡◌, ◌==◌, ℕ, ◌<◌, ◌≤◌, ◌+◌, ◌-◌, ◌∷◌, ◌++◌, nat_lt, if◌then◌else◌, slice_set, Bool, true, not, ◌&&◌, cond, List, [], length, take, slice_index, slice_index_or, All, count_by}
use Rattle.bench_net.specs.declared.gate.Driver.{Driver}
use Rattle.bench_net.specs.Wiring.{gate_at, pins_at, is_settled}

-- each net is one of so many
abbrev pub AreWithin : ℕ → List ℕ → Type 0
AreWithin count nets = All (λ n. n < count) nets

-- how often a net stands in a list
abbrev pub times : ℕ → List ℕ → ℕ
times n nets = count_by (λ m. m == n) nets

-- how often a gate stands among the readers of a net
abbrev pub reads : List (List ℕ) → ℕ → ℕ → ℕ
reads readers n g = times g (slice_index_or readers n [])

-- the gate stands once more among the readers of the net
pub record AddsReader (old new : List (List ℕ)) (net gate : ℕ) : Type 0 where
  pub count : length new ≡ length old
  pub more : (n g : ℕ) → n < length old → reads new n g
      ≡ reads old n g + cond {A = ℕ} (net == n && gate == g) 1 0

-- the gate stands once more among the readers of each of these nets
pub record AddsReaders (old new : List (List ℕ)) (pins : List ℕ) (gate : ℕ) : Type 0 where
  pub count : length new ≡ length old
  pub more : (n g : ℕ) → n < length old → reads new n g
      ≡ reads old n g + cond {A = ℕ} (gate == g) (times n pins) 0

-- how many pins of a gate wait for a gate that isn't among these
abbrev pub waiting : List Driver → List ℕ → ℕ → ℕ
waiting drivers front g = count_by (λ p. not (is_settled drivers front p)) (pins_at drivers g)

-- whether a gate waits for none
abbrev pub is_ready : List Driver → List ℕ → ℕ → Bool
is_ready drivers left g = gate_at drivers g && (slice_index left g == 0)

-- the gates that wait for none, once each, each after the gates that it reads; every other waits
-- for one that does
pub record IsSorted (drivers : List Driver) (left order : List ℕ) : Type 0 where
  pub one_each : length left ≡ length drivers
  pub counts : (g : ℕ) → g < length drivers → slice_index left g ≡ waiting drivers order g
  pub ready : (g : ℕ) → count_by (λ o. o == g) order ≡ cond {A = ℕ} (is_ready drivers left g) 1 0
  pub after : (k : ℕ) → k < length order
      → All (λ p. is_settled drivers (take k order) p
      ≡ true) (pins_at drivers (slice_index order k))

-- of the nets below a number, how many of their pins a gate drives
pub record AreCounts (drivers : List Driver) (left : List ℕ) (count : ℕ) : Type 0 where
  pub one_each : length left ≡ count
  pub counts : (g : ℕ) → g < count → slice_index left g
      ≡ count_by (gate_at drivers) (pins_at drivers g)

-- the order with a gate that waits for none behind it
abbrev pub with_ready : List Driver → List ℕ → List ℕ → ℕ → List ℕ
with_ready drivers left order g = if is_ready drivers left g then order ++ g ∷ [] else order

-- of the nets below a number, the gates that wait for none, once each and no other
pub record AreReadyBelow (drivers : List Driver) (left order : List ℕ) (count : ℕ) : Type 0 where
  pub once : (g : ℕ) → times g order ≡ cond {A = ℕ} (nat_lt g count && is_ready drivers left g) 1 0

-- one net fewer for which a gate waits
abbrev pub lowered : List ℕ → ℕ → List ℕ
lowered left g = slice_set left g (slice_index left g - 1)

-- the order with a gate behind it that waits for one net, and for none then
abbrev pub joined : List ℕ → List ℕ → ℕ → List ℕ
joined left order g = if slice_index left g == 1 then order ++ g ∷ [] else order

-- what is left, and the order, after one net fewer for each of these gates
abbrev pub walked : List ℕ → List ℕ → List ℕ → List ℕ × List ℕ
walked left order [] = (left, order)
walked left order (g ∷ gs) = walked (lowered left g) (joined left order g) gs

-- each of these gates waits for as many nets as it stands here
pub record CanSettle (left gates : List ℕ) : Type 0 where
  pub within : AreWithin (length left) gates
  pub enough : (g : ℕ) → times g gates ≤ slice_index left g
