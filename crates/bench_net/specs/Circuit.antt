-- What contracts see of a netlist.
use Rattle.std.specs.Prelude.{◌≡◌, ℕ, ◌<◌, ◌≤◌, Bool, List, [], length, slice_index_or}
use Rattle.std.specs.List.{position_or_len}
use Rattle.std.specs.Str.{bytes_eq}
use Rattle.text_bytes.specs.Limits.{most_nets}
use Rattle.bench_net.specs.declared.gate.Driver.{Driver}
use Rattle.bench_net.specs.Wiring.{driver_at, IsWired, IsOrder, AreReaders}

-- what a text fixes: for each net, by its number, its name, its driver, and whether it is an output
pub record Net : Type 0 where
  pub names : List (List ℕ)
  pub drivers : List Driver
  pub outputs : List Bool

-- a net list, and beside it the gates' nets in an order, and for each net the gates that read it
pub record Circuit : Type 0 where
  pub net : Net
  pub order : List ℕ
  pub readers : List (List ℕ)

-- the number of the net of this name, which is the number of nets where there is none
abbrev pub number : List (List ℕ) → List ℕ → ℕ
number names name = position_or_len (bytes_eq name) names

-- what each netlist keeps
pub record IsWhole (c : Circuit) : Type 0 where
  pub small : length c.net.names ≤ most_nets
  pub drivers : length c.net.drivers ≡ length c.net.names
  pub outputs : length c.net.outputs ≡ length c.net.names
  pub apart : (n : ℕ) → n < length c.net.names
      → number c.net.names (slice_index_or c.net.names n []) ≡ n
  pub wired : (n : ℕ) → n < length c.net.drivers
      → IsWired (length c.net.drivers) (driver_at c.net.drivers n)
  pub order : IsOrder c.net.drivers c.order
  pub readers : AreReaders c.net.drivers c.readers
