-- What is known while a burst is walked through, where each burst is walked through once: for names that are unknown,
-- for names that lead back, and for patterns.
use Rattle.std.specs.Prelude.{◌≡◌, ◌==◌, ◌≤◌, ◌<◌, ◌+◌, ◌*◌, ℕ, Bool, true, false, List, [], ◌∷◌, ◌++◌, Option, Some, None, Result, Ok, Err, length, map, take, slice_get}
use Rattle.std.specs.List.{AllByRecursion, list_any, flat_map}
use Rattle.stil_ast.specs.Meaning.Bursts.{Played}
use Rattle.stil_ast.specs.Faults.Found.{first_in}
use Rattle.stil_ast.specs.Faults.BurstFaults.{Mention, cyclic_fault}
use Rattle.stil_ast.specs.declared.blocks.Blocks.{Blocks}
use Rattle.stil_ast.specs.declared.executive.Burst.{Burst}
use Rattle.stil_ast.specs.declared.executive.BurstItem.{BurstItem}
use Rattle.stil_ast.specs.declared.fault.StilFault.{StilFault}
use Rattle.stil_ast.specs.Data.Refusal.{StilRefusal}
use Rattle.answers.specs.Answers.{Blames}
use Rattle.pattern_order.specs.Walk.{mention_of, played_at, ahead_in}
use Rattle.pattern_order.specs.Numbers.{meaning_of}
use Rattle.pattern_order.specs.Marks.{mark_at, is_fresh, is_closed, Stands}
use Rattle.pattern_order.specs.declared.meaning.Meaning.{Meaning}
use Rattle.pattern_order.specs.declared.meaning.Meaning.TheVariants.{Unknown, Block, Pattern as APattern, Burst as ABurst}
use Rattle.pattern_order.specs.declared.walk.Frame.{Frame}
use Rattle.pattern_order.specs.declared.walk.Mark.{Mark}

-- whether a name is known
abbrev pub is_known : Meaning → Bool
is_known Unknown = false
is_known Block = true
is_known (APattern pattern) = true
is_known (ABurst burst) = true

-- a name is known, and the burst that it names was begun
abbrev pub IsBegun : List Mark → Meaning → Type 0
IsBegun marks Unknown = ⊥
IsBegun marks Block = Unit {0}
IsBegun marks (APattern pattern) = Unit {0}
IsBegun marks (ABurst burst) = is_fresh (mark_at marks burst) ≡ false

-- where unknown names are looked for: each name that was met in a burst is known and begun
pub record Knows (blocks : Blocks) (marks : List Mark) (frames : List Frame) : Type 0 where
  pub stands : Stands blocks marks frames
  pub of_closed : (number : ℕ) (b : Burst) → slice_get blocks.bursts number ≡ Some b
      → is_closed (mark_at marks number) ≡ true
      → AllByRecursion (λ (i : BurstItem). IsBegun marks (meaning_of blocks i)) b.items
  pub of_open : AllByRecursion (λ (f : Frame). AllByRecursion (λ (i : BurstItem). IsBegun marks (meaning_of blocks i))
      (take f.next f.burst.now.items)) frames

-- a burst that is named is one of these
abbrev pub IsAmong : List ℕ → Meaning → Type 0
IsAmong numbers Unknown = Unit {0}
IsAmong numbers Block = Unit {0}
IsAmong numbers (APattern pattern) = Unit {0}
IsAmong numbers (ABurst burst) = list_any (λ n. n == burst) numbers ≡ true

-- bursts as they were closed, the last first: each names those alone that were closed before it
abbrev pub AreInOrder : Blocks → List ℕ → Type 0
AreInOrder blocks [] = Unit {0}
AreInOrder blocks (number ∷ closed) =
    (list_any (λ n. n == number) closed ≡ false)
    × ((b : Burst) → slice_get blocks.bursts number ≡ Some b
    → AllByRecursion (λ (i : BurstItem). IsAmong closed (meaning_of blocks i)) b.items)
    × AreInOrder blocks closed

-- what was met in an open burst names bursts that are closed, or open inside it
abbrev pub NameInner : Blocks → List ℕ → List Frame → Type 0
NameInner blocks inner [] = Unit {0}
NameInner blocks inner (f ∷ frames) =
    AllByRecursion (λ (i : BurstItem). IsAmong inner (meaning_of blocks i)) (take f.next f.burst.now.items)
    × NameInner blocks (f.number ∷ inner) frames

-- where names that lead back are looked for: bursts in the order in which they were closed
pub record Forwards (blocks : Blocks) (marks : List Mark) (frames : List Frame) : Type 0 where
  pub stands : Stands blocks marks frames
  pub closed : List ℕ
  pub are_closed : (number : ℕ) → is_closed (mark_at marks number) ≡ list_any (λ n. n == number) closed
  pub in_order : AreInOrder blocks closed
  pub name_inner : NameInner blocks closed frames

-- a name stands for no pattern, and a burst that is named is one of these
abbrev pub IsSilent : List ℕ → Meaning → Type 0
IsSilent numbers Unknown = Unit {0}
IsSilent numbers Block = Unit {0}
IsSilent numbers (APattern pattern) = ⊥
IsSilent numbers (ABurst burst) = list_any (λ n. n == burst) numbers ≡ true

-- An open burst inside which no pattern ran has named no pattern so far. Each was opened when no more patterns had run
-- than when the one inside it was.
abbrev pub AreQuiet : Blocks → ℕ → ℕ → List ℕ → List Frame → Type 0
AreQuiet blocks count most silent [] = Unit {0}
AreQuiet blocks count most silent (f ∷ frames) =
    (f.begun ≤ most)
    × (f.begun ≡ count
    → AllByRecursion (λ (i : BurstItem). IsSilent silent (meaning_of blocks i)) (take f.next f.burst.now.items))
    × AreQuiet blocks count f.begun (f.number ∷ silent) frames

-- where patterns are listed: the bursts that are closed run none
pub record Plays (blocks : Blocks) (count : ℕ) (marks : List Mark) (frames : List Frame) : Type 0 where
  pub stands : Stands blocks marks frames
  pub silent : List ℕ
  pub are_closed : (number : ℕ) → is_closed (mark_at marks number) ≡ list_any (λ n. n == number) silent
  pub run_none : (number : ℕ) (b : Burst) → slice_get blocks.bursts number ≡ Some b
      → list_any (λ n. n == number) silent ≡ true
      → AllByRecursion (λ (i : BurstItem). IsSilent silent (meaning_of blocks i)) b.items
  pub quiet : AreQuiet blocks count count silent frames
  pub forward : first_in cyclic_fault (map (mention_of blocks) (ahead_in blocks frames)) ≡ None

-- how much of a walk is left
abbrev pub to_go : Blocks → List Frame → ℕ
to_go blocks frames = 2 * length (ahead_in blocks frames) + length frames

-- the first fault of what is still to be met
abbrev pub first_ahead : (Mention → Option StilFault) → Blocks → List Frame → Option StilFault
first_ahead rule blocks frames = first_in rule (map (mention_of blocks) (ahead_in blocks frames))

-- a walk has gone on, with the same first fault in what is left of it
pub record HasGoneOn (rule : Mention → Option StilFault) (Holds : List Mark → List Frame → Type 0) (blocks : Blocks)
    (frames : List Frame) (marks' : List Mark) (frames' : List Frame) : Type 0 where
  pub holds : Holds marks' frames'
  pub same : first_ahead rule blocks frames ≡ first_ahead rule blocks frames'
  pub less : to_go blocks frames' < to_go blocks frames

-- a walk goes on, or has met the first fault
abbrev pub GoesOn : (Mention → Option StilFault) → (List Mark → List Frame → Type 0) → Blocks → List Frame
    → Result (Unit {0}) StilRefusal → List Mark → List Frame → Type 0
GoesOn rule Holds blocks frames (Ok done) marks' frames' = HasGoneOn rule Holds blocks frames marks' frames'
GoesOn rule Holds blocks frames (Err short) marks' frames' = Blames (first_ahead rule blocks frames) short

-- patterns have been put behind others, and the walk has gone on: what has run and what is still to run is the same
pub record HasPlayed (blocks : Blocks) (ran : List Played) (frames : List Frame) (ran' : List Played)
    (marks' : List Mark) (frames' : List Frame) : Type 0 where
  pub plays : Plays blocks (length ran') marks' frames'
  pub same : ran ++ flat_map (played_at blocks) (ahead_in blocks frames)
      ≡ ran' ++ flat_map (played_at blocks) (ahead_in blocks frames')
  pub one_more : length ran' ≤ length ran + 1
  pub less : to_go blocks frames' < to_go blocks frames
