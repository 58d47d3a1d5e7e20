-- What is told of files and of written bytes, and how counts of faults rise.
use Rattle.std.specs.Prelude.{◌≡◌, ℕ, ◌-◌, ◌^◌, ◌<◌, ◌≤◌, List, [], ◌∷◌, ◌++◌, length, take, Option, Some, None, Result, Ok, Err, OnErr, nat_eq, if◌then◌else◌, ◌⊎◌, Vec}
use Rattle.std.specs.Cmp.Lexicographic.{pointwise}
use Rattle.std.specs.declared.alloc.Global.{Global}
use Rattle.tester_types.specs.declared.outside.ShelfFault.{ShelfFault}
use Rattle.tester_types.specs.declared.outside.ShelfFault.TheVariants.{Failed, TooLong, NoMemory}
use Rattle.tester_types.specs.declared.outside.SinkFault.{SinkFault}

-- A count that never falls has risen. A count that is kept in 64 bits says nothing once it is full.
abbrev pub HasRisen : ℕ → ℕ → Type 0
HasRisen before now = before < 2 ^ 64 - 1 → before < now

-- what a sink holds after it took these bytes too, where it tells what it holds
abbrev pub gained : Option (List ℕ) → List ℕ → Option (List ℕ)
gained None text = None
gained (Some held) text = Some (held ++ text)

-- a front of the text was taken
abbrev pub GainsFront : Option (List ℕ) → List ℕ → Option (List ℕ) → Type 0
GainsFront held text now = (n : ℕ) × (now ≡ gained held (take n text))

-- the whole text was taken, or at a fault a front of it
abbrev pub Puts : Option (List ℕ) → List ℕ → Result (Unit {0}) SinkFault → Option (List ℕ) → Type 0
Puts held text (Ok done) now = now ≡ gained held text
Puts held text (Err fault) now = GainsFront held text now

-- what is left of a sink that a text was put to: it took the whole text, or at a fault a front of it, and its count of
-- faults doesn't fall, and rises at a fault
pub record Prints (held : Option (List ℕ)) (before : ℕ) (text : List ℕ) (result : Result (Unit {0}) SinkFault)
    (now : Option (List ℕ)) (after : ℕ) : Type 0 where
  pub puts : Puts held text result now
  pub count : before ≤ after
  pub cause : OnErr result (HasRisen before after)

-- named texts: the name, and the bytes
abbrev pub Files : Type 0
Files = List (List ℕ × List ℕ)

-- the bytes of the first file of this name
abbrev pub file_of : Files → List ℕ → Option (List ℕ)
file_of [] name = None
file_of (file ∷ files) name = if pointwise nat_eq file.0 name then Some file.1 else file_of files name

-- where files are told, the file of this name is as said
abbrev pub TellsFile : Option Files → List ℕ → (Option (List ℕ) → Type 0) → Type 0
TellsFile None name fact = Unit {0}
TellsFile (Some files) name fact = fact (file_of files name)

-- the told files lack the name
abbrev pub LacksFile : Option Files → List ℕ → Type 0
LacksFile None name = ⊥
LacksFile (Some files) name = file_of files name ≡ None

-- what a load of a name with this room may answer: the named bytes where there is room for them, that
-- they are too long where there isn't, and a failure or want of memory
abbrev pub HandsOut : Option Files → List ℕ → ℕ → Result (Vec ℕ Global) ShelfFault → Type 0
HandsOut told name room (Ok bytes) = TellsFile told name (λ file. file ≡ Some bytes.items)
HandsOut told name room (Err Failed) = Unit {0}
HandsOut told name room (Err TooLong) =
    TellsFile told name (λ file. (bytes : List ℕ) × (file ≡ Some bytes) × (room < length bytes))
HandsOut told name room (Err NoMemory) = Unit {0}

-- what is left of a shelf of which files were loaded: it tells the same files, and its count of faults doesn't fall
pub record Loads (told : Option Files) (before : ℕ) (now : Option Files) (after : ℕ) : Type 0 where
  pub kept : now ≡ told
  pub counts : before ≤ after

-- why a load failed: the count of faults rose, or the told files lack the name
abbrev pub FailsBy : Option Files → List ℕ → ℕ → ℕ → Result (Vec ℕ Global) ShelfFault → Type 0
FailsBy told name before now (Err Failed) = HasRisen before now ⊎ LacksFile told name
FailsBy told name before now _ = Unit {0}
