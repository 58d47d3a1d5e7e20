-- What a sink holds where a text was put into it in whole lines, or a fault or want of memory came before its end.
use Rattle.std.specs.Prelude.{◌≡◌, ℕ, List, ◌++◌, Option, Result, Ok, Err}
use Rattle.text_bytes.specs.Texts.{AreLines}
use Rattle.tester_types.specs.Outside.{HasRisen, gained, GainsFront}
use Rattle.code_listing.specs.declared.fault.ListFault.{ListFault}
use Rattle.code_listing.specs.declared.fault.ListFault.TheVariants.{NoMemory, Sink}

-- whole lines are a front of a text
pub record AreFirstLines (text lines : List ℕ) : Type 0 where
  pub rest : List ℕ
  pub is : text ≡ lines ++ rest
  pub whole : AreLines lines

-- a sink gained whole lines, a front of a text
abbrev pub GainsLines : Option (List ℕ) → List ℕ → Option (List ℕ) → Type 0
GainsLines held text now = (lines : List ℕ) × AreFirstLines text lines × (now ≡ gained held lines)

-- the whole text was taken; or at a fault of the sink a front of it, and at want of memory its first lines
abbrev pub Lists : {A : Type 0} → Option (List ℕ) → List ℕ → Result A ListFault → Option (List ℕ) → Type 0
Lists held text (Ok done) now = now ≡ gained held text
Lists held text (Err (Sink fault)) now = GainsFront held text now
Lists held text (Err NoMemory) now = GainsLines held text now

-- a fault of the sink comes only where its count rose
abbrev pub IsFor : {A : Type 0} → ℕ → ℕ → Result A ListFault → Type 0
IsFor before now (Ok done) = Unit {0}
IsFor before now (Err (Sink fault)) = HasRisen before now
IsFor before now (Err NoMemory) = Unit {0}

-- memory isn't wanting
abbrev pub HasRoom : {A : Type 0} → Result A ListFault → Type 0
HasRoom (Ok done) = Unit {0}
HasRoom (Err (Sink fault)) = Unit {0}
HasRoom (Err NoMemory) = ⊥

-- the whole text was taken, or at a fault of the sink a front of it; at want of memory nothing was
abbrev pub ListsWhole : Option (List ℕ) → List ℕ → Result (Unit {0}) ListFault → Option (List ℕ) → Type 0
ListsWhole held text (Ok done) now = now ≡ gained held text
ListsWhole held text (Err (Sink fault)) now = GainsFront held text now
ListsWhole held text (Err NoMemory) now = now ≡ held
