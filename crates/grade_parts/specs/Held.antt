-- How the lines of a grade's text are held: the line of the good die, the text of all fault lines, and two counts.
use Rattle.std.specs.Prelude.{◌≡◌, ℕ, List, [], ◌∷◌, length, if◌then◌else◌}
use Rattle.std.specs.List.{flat_map}
use Rattle.part_lines.specs.Lines.{is_feed, ended}
use Rattle.grade_parts.specs.Log.{AreFaults, found_in}

-- a byte in front of the first line
abbrev pub onto_first : ℕ → List (List ℕ) → List (List ℕ)
onto_first byte [] = (byte ∷ []) ∷ []
onto_first byte (line ∷ lines) = (byte ∷ line) ∷ lines

-- the lines of a text, without their line feeds
abbrev pub lines_of : List ℕ → List (List ℕ)
lines_of [] = []
lines_of (byte ∷ rest) = if is_feed byte then [] ∷ lines_of rest else onto_first byte (lines_of rest)

-- a text is that of fault lines, of which there are so many, so many of them found
pub record AreHeld (text : List ℕ) (all hits : ℕ) : Type 0 where
  pub whole : text ≡ flat_map ended (lines_of text)
  pub are : AreFaults (lines_of text)
  pub count : all ≡ length (lines_of text)
  pub found : hits ≡ found_in (lines_of text)
