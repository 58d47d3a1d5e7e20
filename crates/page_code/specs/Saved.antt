-- Which bytes are a saved form of a code.
use Rattle.std.specs.Prelude.{◌≡◌, ℕ, List, ◌⊎◌}
use Rattle.page_code.specs.declared.version.Version.{Version}
use Rattle.page_code.specs.declared.version.Version.TheVariants.{One, Two}
use Rattle.packed_code.specs.Program.{Program}
use Rattle.packed_code.specs.Conditions.{IsProgram}
use Rattle.page_code.specs.Spelling.{program}

-- the bytes spell this code in this version, and it meets all conditions
pub record SavedIn (version : Version) (code : Program) (bytes : List ℕ) : Type 0 where
  pub conditions : IsProgram code
  pub spelled : bytes ≡ program version code

-- the bytes spell this code in one of the versions
abbrev pub Saved : Program → List ℕ → Type 0
Saved code bytes = SavedIn One code bytes ⊎ SavedIn Two code bytes
