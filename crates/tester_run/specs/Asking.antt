-- How the desk's stops are passed on to the board.
use Rattle.std.specs.Prelude.{ℕ, ◌+◌, ◌≤◌, ◌^◌, ◌&&◌, nat_lt, if◌then◌else◌, List, slice_index}
use Rattle.tester_types.specs.declared.desk.Ask.{Ask}
use Rattle.tester_types.specs.declared.desk.Ask.TheVariants.{Nothing, Stop}
use Rattle.stop_board.specs.Steps.{asked_once_more}

-- at no site more stops were passed on than the desk said
abbrev pub IsPassedOn : (ℕ → ℕ) → (ℕ → ℕ) → List ℕ → List ℕ → Type 0
IsPassedOn before now asked later =
    (site : ℕ) → slice_index later site + before site ≤ slice_index asked site + now site

-- the numbers of stops behind an answer of the desk: one more at the site of a stop, where there are so many sites and
-- it has fewer than 2^63
abbrev pub after_answer : ℕ → Ask → List ℕ → List ℕ
after_answer sites Nothing asked = asked
after_answer sites (Stop site) asked =
    if nat_lt site sites && nat_lt (slice_index asked site) (2 ^ 63) then asked_once_more asked site else asked
