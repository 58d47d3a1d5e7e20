-- The floors of parts as one: the socket and the stops of each site.
use Rattle.std.proofs.Common.{◌≡◌, ℕ, zero, suc, ◌/◌, ◌%◌, ◌<◌, Bool, true, false, cond, List, [], ◌∷◌, length, map, get_or, ap, ◌∙◌, arith}
use Rattle.std.specs.Prelude.{Option, Some, None, slice_get}
use Rattle.std.proofs.lemmas.List.FromFn.{length-map-range_with_len, get_or-map-range_with_len}
use Rattle.plan_rows.specs.declared.row.Row.{Row}
use Rattle.plan_rows.specs.Rows.{sites_of}
use Rattle.stil_tool.specs.Lot.{Floor}
use Rattle.plan_parts.specs.Cut.{has_dies, rank_of}
use Rattle.part_laws.specs.Runs.{no_floor, floor_for, socket_for, stops_for, joined}

-- ---- items of a list

-- an item that is there stands, changed, in the list of changed items
pub got_at : {X Y : Type 0} (f : X → Y) (xs : List X) (k : ℕ) (x : X) (d : Y)
    → slice_get xs k ≡ Some x → get_or (map f xs) k d ≡ f x
got_at f [] k x d got = absurd (none got)
  where
    none : {A : Type 0} {x : A} → ◌≡◌ {A = Option A} None (Some x) → ⊥
    none e = cc
got_at f (y ∷ xs) zero x d got = ap f (same y x got)
  where
    same : {A : Type 0} (y x : A) → ◌≡◌ {A = Option A} (Some y) (Some x) → y ≡ x
    same y x e = cc
got_at f (y ∷ xs) (suc k) x d got = got_at f xs k x d got

-- ---- sockets

module _ {S : Type 0} (idle : S) (floors : List (Floor S)) (rows : List Row) where
  -- there is a socket for each site
  pub all_sockets : length (joined idle floors rows).sockets ≡ sites_of rows
  all_sockets = length-map-range_with_len (socket_for idle floors rows) 0 (sites_of rows)

  -- that of a site
  pub socket_at : (site : ℕ) (socket : S) → site < sites_of rows
      → get_or (joined idle floors rows).sockets site socket ≡ socket_for idle floors rows site
  socket_at site socket within =
      get_or-map-range_with_len (socket_for idle floors rows) 0 (sites_of rows) site site socket within (omega arith)

  -- a site without dies has an idle one
  pub idle_at : (site : ℕ) (socket : S) → site < sites_of rows → has_dies rows site ≡ false
      → get_or (joined idle floors rows).sockets site socket ≡ idle
  idle_at site socket within none =
      socket_at site socket within
      ∙ ap (λ (b : Bool). cond b (get_or (floor_for floors rows site).sockets (rank_of rows site / length floors) idle) idle) none

  module _ (site : ℕ) (has : has_dies rows site ≡ true) (floor : Floor S) (parts : ℕ) (long : length floors ≡ parts)
      (is : get_or floors (rank_of rows site % parts) no_floor ≡ floor) where
    -- the floor of its part
    floor_is : floor_for floors rows site ≡ floor
    floor_is = ap (λ (n : ℕ). get_or floors (rank_of rows site % n) no_floor) long ∙ is

    -- a site with dies has that of its number in its part
    pub own_socket : (socket : S) → site < sites_of rows
        → get_or (joined idle floors rows).sockets site socket
        ≡ get_or floor.sockets (rank_of rows site / parts) idle
    own_socket socket within =
        socket_at site socket within
        ∙ ap (λ (b : Bool). cond b (get_or (floor_for floors rows site).sockets (rank_of rows site / length floors) idle) idle) has
        ∙ ap (λ (f : Floor S). get_or f.sockets (rank_of rows site / length floors) idle) floor_is
        ∙ ap (λ (n : ℕ). get_or floor.sockets (rank_of rows site / n) idle) long

    -- and its stops
    pub own_stops : stops_for floors rows site ≡ floor.stops (rank_of rows site / parts)
    own_stops =
        ap (λ (b : Bool). cond b ((floor_for floors rows site).stops (rank_of rows site / length floors)) 0) has
        ∙ ap (λ (f : Floor S). f.stops (rank_of rows site / length floors)) floor_is
        ∙ ap (λ (n : ℕ). floor.stops (rank_of rows site / n)) long
