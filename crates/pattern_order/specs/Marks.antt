-- How a walk marks bursts, and how it goes on.
use Rattle.std.specs.Prelude.{◌≡◌, ◌==◌, ℕ, ◌+◌, Bool, true, false, List, [], ◌∷◌, ◌++◌, Option, Some, None, length, slice_get, slice_set, slice_index_or, if◌then◌else◌}
use Rattle.std.specs.List.{AllByRecursion, list_any, count_by}
use Rattle.stil_ast.specs.Meaning.Bursts.{macros_name, procedures_name}
use Rattle.stil_ast.specs.declared.blocks.Blocks.{Blocks}
use Rattle.pattern_order.specs.Numbers.{IsNumbered, meaning_of}
use Rattle.pattern_order.specs.declared.meaning.Meaning.{Meaning}
use Rattle.pattern_order.specs.declared.meaning.Meaning.TheVariants.{Unknown, Block, Pattern as APattern, Burst as ABurst}
use Rattle.pattern_order.specs.declared.walk.Frame.{Frame}
use Rattle.pattern_order.specs.declared.walk.Mark.{Mark}
use Rattle.pattern_order.specs.declared.walk.Mark.TheVariants.{Fresh, Open, Closed}
use Rattle.pattern_order.specs.declared.walk.Step.{Step}

-- the mark of a burst
abbrev pub mark_at : List Mark → ℕ → Mark
mark_at marks number = slice_index_or marks number Fresh

-- whether a burst was never begun
abbrev pub is_fresh : Mark → Bool
is_fresh Fresh = true
is_fresh Open = false
is_fresh Closed = false

-- whether a burst is open
abbrev pub is_open : Mark → Bool
is_open Fresh = false
is_open Open = true
is_open Closed = false

-- whether a burst is closed
abbrev pub is_closed : Mark → Bool
is_closed Fresh = false
is_closed Open = false
is_closed Closed = true

-- whether a name leads back to an open burst
abbrev pub is_back : List Mark → Meaning → Bool
is_back marks Unknown = false
is_back marks Block = false
is_back marks (APattern pattern) = false
is_back marks (ABurst burst) = is_open (mark_at marks burst)

-- the burst to which a name leads where that was never begun
abbrev pub fresh_of : List Mark → Meaning → Option ℕ
fresh_of marks Unknown = None
fresh_of marks Block = None
fresh_of marks (APattern pattern) = None
fresh_of marks (ABurst burst) = if is_fresh (mark_at marks burst) then Some burst else None

-- an open burst behind its next name
abbrev pub moved_on : Frame → Frame
moved_on f = record {
  number = f.number;
  burst = f.burst;
  next = f.next + 1;
  macros = f.macros;
  procedures = f.procedures;
  begun = f.begun;
}

-- a name is the next of an open burst
pub record IsNext (blocks : Blocks) (marks : List Mark) (f : Frame) (s : Step) : Type 0 where
  pub in_burst : s.burst.now ≡ f.burst.now
  pub there : slice_get f.burst.now.items f.next ≡ Some s.item.now
  pub macros : s.macros.now ≡ f.macros.now
  pub procedures : s.procedures.now ≡ f.procedures.now
  pub means : s.meaning ≡ meaning_of blocks s.item.now
  pub back : s.leads_back ≡ is_back marks s.meaning

-- a burst is opened at its first name, with the MacroDefs and Procedures that hold in it
pub record IsOpened (blocks : Blocks) (number begun : ℕ) (macros procedures : List ℕ) (g : Frame) : Type 0 where
  pub numbered : g.number ≡ number
  pub there : slice_get blocks.bursts number ≡ Some g.burst.now
  pub next : g.next ≡ 0
  pub macros_are : g.macros.now ≡ macros_name g.burst.now.items macros
  pub procedures_are : g.procedures.now ≡ procedures_name g.burst.now.items procedures
  pub begun_at : g.begun ≡ begun

-- a burst is opened on open bursts, and marked
pub record Enters (blocks : Blocks) (number begun : ℕ) (macros procedures : List ℕ) (marks : List Mark)
    (frames : List Frame) (marks' : List Mark) (frames' : List Frame) : Type 0 where
  pub frame : Frame
  pub opened : IsOpened blocks number begun macros procedures frame
  pub marked : marks' ≡ slice_set marks number Open
  pub stacked : frames' ≡ frames ++ frame ∷ []

-- one burst alone is opened
pub record Begins (blocks : Blocks) (number : ℕ) (marks' : List Mark) (frames' : List Frame) : Type 0 where
  pub marks : List Mark
  pub count : length marks ≡ length blocks.bursts
  pub fresh : AllByRecursion (λ (m : Mark). m ≡ Fresh) marks
  pub enters : Enters blocks number 0 [] [] marks [] marks' frames'

-- behind its next name an open burst is put back on open bursts, and a burst that was never begun is opened on it
abbrev pub Passes : Blocks → Option ℕ → Frame → Step → ℕ → List Mark → List Frame → List Mark → List Frame → Type 0
Passes blocks None f s begun marks frames marks' frames' = (marks' ≡ marks) × (frames' ≡ frames ++ moved_on f ∷ [])
Passes blocks (Some number) f s begun marks frames marks' frames' =
    Enters blocks number begun s.macros.now s.procedures.now marks (frames ++ moved_on f ∷ []) marks' frames'

-- open bursts stand once each
abbrev pub StandApart : List Frame → Type 0
StandApart [] = Unit {0}
StandApart (f ∷ frames) = (list_any (λ (g : Frame). g.number == f.number) frames ≡ false) × StandApart frames

-- open bursts, the innermost first, with a mark for each burst of a text
pub record Stands (blocks : Blocks) (marks : List Mark) (frames : List Frame) : Type 0 where
  pub marked : length marks ≡ length blocks.bursts
  pub numbered : AllByRecursion (λ (f : Frame). IsNumbered blocks f.number f.burst.now) frames
  pub opened : (number : ℕ) → list_any (λ (f : Frame). f.number == number) frames ≡ is_open (mark_at marks number)
  pub apart : StandApart frames
  pub count : count_by is_open marks ≡ length frames
