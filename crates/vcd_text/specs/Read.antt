-- How far a text was read; no public clause cites it.
use Rattle.std.specs.Prelude.{◌≡◌, ℕ, ◌+◌, ◌<◌, ◌≤◌, true, List, ◌∷◌, ◌++◌, length, take, drop, Some, Result, Ok, Err}
use Rattle.std.specs.List.{AllByRecursion}
use Rattle.vcd_text.specs.Dump.{Line, text_of}
use Rattle.vcd_text.specs.Refusal.{IsFaultOf}
use Rattle.vcd_text.specs.Standing.{Standing, begun, behind_all, FitsLine, has_no_feed}
use Rattle.vcd_text.specs.declared.read.DumpFault.{DumpFault}

-- up to this place there is no line feed, and there one stands, unless it is the end
pub record IsLineEnd (text : List ℕ) (end : ℕ) : Type 0 where
  pub within : end ≤ length text
  pub free : has_no_feed (take end text) ≡ true
  pub feed : end < length text → drop end text ≡ 10 ∷ drop (end + 1) text

-- so many lines were read, up to this rest
pub record IsReadTo (bytes rest : List ℕ) (count : ℕ) (standing : Standing) : Type 0 where
  pub lines : List Line
  pub fits : AllByRecursion FitsLine lines
  pub went : behind_all begun lines ≡ Some standing
  pub spelled : bytes ≡ text_of lines ++ rest
  pub counted : length lines ≡ count
  pub few : count ≤ length bytes

-- so many lines were read, and what is left has no line
pub record IsReadUp (bytes rest : List ℕ) (count : ℕ) (standing : Standing) : Type 0 where
  pub read : IsReadTo bytes rest count standing
  pub free : has_no_feed rest ≡ true

-- what reading a text answers: what was read is as is wanted, or else the fault of the text, or want of memory
abbrev pub Reads : {A : Type 0} → List ℕ → (A → Type 0) → Result A DumpFault → Type 0
Reads bytes Wanted (Ok read) = Wanted read
Reads bytes Wanted (Err fault) = IsFaultOf bytes fault
