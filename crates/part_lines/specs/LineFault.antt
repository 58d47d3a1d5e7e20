-- Where a text that is none of a kind departs from those of that kind.
use Rattle.std.specs.Prelude.{◌≡◌, ℕ, ◌+◌, true, List, [], ◌∷◌, ◌++◌}
use Rattle.text_bytes.specs.Texts.{AreLines}
use Rattle.part_lines.specs.Lines.{ended, is_one_line, lines_in}

-- a text of this kind begins with these bytes
pub record Begins (Whole : List ℕ → Type 0) (front : List ℕ) : Type 0 where
  pub back : List ℕ
  pub whole : Whole (front ++ back)

-- What stands behind whole lines is no next line: no text of this kind begins with these lines and the one behind them;
-- or bytes stand there that no line feed ends; or nothing stands there, and the lines are no whole text.
pub data NoLine (Whole : List ℕ → Type 0) (front rest : List ℕ) : Type 0 where
  wrong : (line later : List ℕ) → rest ≡ ended line ++ later → is_one_line line ≡ true
      → (Begins Whole (front ++ ended line) → ⊥) → NoLine Whole front rest
  unended : (byte : ℕ) (later : List ℕ) → rest ≡ byte ∷ later → is_one_line rest ≡ true → NoLine Whole front rest
  short : rest ≡ [] → (Whole front → ⊥) → NoLine Whole front rest

-- The first line up to which no text of this kind begins as this text does, counted from 1: one begins with all lines
-- before it.
pub record IsLineFault (Whole : List ℕ → Type 0) (text : List ℕ) (line : ℕ) : Type 0 where
  pub front : List ℕ
  pub rest : List ℕ
  pub whole : text ≡ front ++ rest
  pub lines : AreLines front
  pub number : line ≡ lines_in front + 1
  pub begins : Begins Whole front
  pub next : NoLine Whole front rest
