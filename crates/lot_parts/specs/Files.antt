-- Files of parts, and why they aren't loaded. They may be longer than other files.
use Rattle.std.specs.Prelude.{◌≡◌, ℕ, ◌<◌, List, [], ◌∷◌, ◌++◌, length, map, Option, Some, Vec}
use Rattle.std.specs.declared.alloc.Global.{Global}
use Rattle.tester_types.specs.Outside.{Files, TellsFile}
use Rattle.tool_inputs.specs.Endings.{LoadFailed}
use Rattle.tool_inputs.specs.Refusals.{status_of}
use Rattle.tool_inputs.specs.declared.status.Status.TheVariants.{OutOfMemory}
use Rattle.tool_inputs.specs.declared.refusal.Refusal.{Refusal}
use Rattle.tool_inputs.specs.declared.refusal.Refusal.TheVariants.{ReadFault, TooLong}
use Rattle.lot_parts.specs.declared.load.TheConstants.{MOST_PART}

-- the most bytes that the text of a part may have
abbrev pub most_part : ℕ
most_part = MOST_PART

-- texts without where they lie in memory
abbrev pub texts_seen : List (Vec ℕ Global) → List (List ℕ)
texts_seen texts = map (λ (text : Vec ℕ Global). text.items) texts

-- the file, where it is told, has these bytes
abbrev pub IsPartFile : Option Files → List ℕ → List ℕ → Type 0
IsPartFile told name bytes = TellsFile told name (λ found. found ≡ Some bytes)

-- these files have these bytes, one by one
abbrev pub ArePartFiles : Option Files → List (List ℕ) → List (List ℕ) → Type 0
ArePartFiles told [] [] = Unit {0}
ArePartFiles told [] (text ∷ texts) = ⊥
ArePartFiles told (file ∷ files) [] = ⊥
ArePartFiles told (file ∷ files) (text ∷ texts) = IsPartFile told file text × ArePartFiles told files texts

-- the file has more bytes than the text of a part may have
pub record IsTooLong (found : Option (List ℕ)) : Type 0 where
  pub bytes : List ℕ
  pub is_there : found ≡ Some bytes
  pub more : most_part < length bytes

-- why the file of a part isn't loaded
pub data IsUnloaded (told : Option Files) (before now : ℕ) (name : List ℕ) (r : Refusal) : Type 0 where
  no_memory : status_of r ≡ OutOfMemory → IsUnloaded told before now name r
  failed : r ≡ ReadFault name → LoadFailed told before now name → IsUnloaded told before now name r
  too_long : r ≡ TooLong name → TellsFile told name IsTooLong → IsUnloaded told before now name r

-- why these files aren't loaded: one of them isn't, and those before it are
pub data AreUnloaded (told : Option Files) (before now : ℕ) (files : List (List ℕ)) (r : Refusal) : Type 0 where
  no_memory : status_of r ≡ OutOfMemory → AreUnloaded told before now files r
  of_file : (front later : List (List ℕ)) (file : List ℕ) → files ≡ front ++ file ∷ later → (texts : List (List ℕ))
      → ArePartFiles told front texts → IsUnloaded told before now file r → AreUnloaded told before now files r

-- one text more, that of a file, behind others
pub record AddsText (told : Option Files) (file : List ℕ) (before now : List (List ℕ)) : Type 0 where
  pub text : List ℕ
  pub is : IsPartFile told file text
  pub more : now ≡ before ++ text ∷ []
