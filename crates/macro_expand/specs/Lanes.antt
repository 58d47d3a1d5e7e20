-- What is left of the argument of a signal, by its place among the characters of all arguments.
use Rattle.std.specs.Prelude.{ℕ, ◌+◌, ◌-◌, ◌<◌, ◌≤◌, ◌^◌, List, ◌++◌, length, map, replicate, take}
use Rattle.std.specs.Int.{div_ceil}
use Rattle.stil_ast.specs.Meaning.Arguments.{Entry, padding, Argument, every}
use Rattle.macro_expand.specs.declared.lane.Lane.{Lane}

-- what is left to a lane: padding, every width-th character from its place up to its end, and padding
abbrev pub left_of : List Entry → Lane → List Entry
left_of characters lane =
    replicate lane.front padding
    ++ (every lane.width lane.place (take lane.end characters) ++ replicate lane.back padding)

-- the argument for which a lane stands
abbrev pub argument_in : List Entry → Lane → Argument
argument_in characters lane = record { left = left_of characters lane; taken = lane.taken }

-- the arguments of all signals
abbrev pub arguments_in : List Entry → List Lane → List Argument
arguments_in characters lanes = map (argument_in characters) lanes

-- how many characters are left of a lane, without the padding
abbrev pub given_left : Lane → ℕ
given_left lane = div_ceil (lane.end - lane.place) lane.width

-- how much is left of it
abbrev pub lane_len : Lane → ℕ
lane_len lane = lane.front + given_left lane + lane.back

-- a lane that can be counted
pub record IsSound (lane : Lane) : Type 0 where
  pub is_wide : 0 < lane.width
  pub counted : lane_len lane < 2 ^ 64

-- a lane that ends among the characters
pub record Fits (characters : List Entry) (lane : Lane) : Type 0 where
  pub sound : IsSound lane
  pub within : lane.end ≤ length characters

-- the lane of a signal without an argument
abbrev pub no_lane : Lane
no_lane = record { width = 1; place = 0; end = 0; front = 0; back = 0; taken = 0 }
