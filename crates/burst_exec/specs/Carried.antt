-- What is carried from one pattern and from one executive to the next.
use Rattle.std.specs.Prelude.{◌≡◌, true, false, Bool, List, Result, Ok, Err}
use Rattle.answers.specs.Answers.{Blames}
use Rattle.stil_ast.specs.Meaning.Bursts.{Played}
use Rattle.stil_ast.specs.Meaning.ExecutiveData.{Tree}
use Rattle.stil_ast.specs.Meaning.Flat.{Flat}
use Rattle.stil_ast.specs.declared.blocks.Blocks.{Blocks}
use Rattle.stil_ast.specs.declared.executive.ExecDecl.{ExecDecl}
use Rattle.stil_ast.specs.Data.Refusal.{StilRefusal}
use Rattle.burst_exec.specs.Booked.{AreBooked}
use Rattle.burst_exec.specs.Held.{trees_in}
use Rattle.burst_exec.specs.Joined.{AreJoined}
use Rattle.burst_exec.specs.Patterns.{IsExpanded, played_fault, ArePlayed, IsPlaying}
use Rattle.burst_exec.specs.declared.progress.Progress.{Progress}
use Rattle.burst_exec.specs.declared.trees.Draft.{Draft}

-- the bodies and the chains are those of these blocks
pub record IsCarried (blocks : Blocks) (p : Progress) : Type 0 where
  pub macros_are : AreJoined blocks.macros p.macros
  pub procedures_are : AreJoined blocks.procedures p.procedures
  pub scans_are : AreBooked blocks p.scans

-- a pattern was expanded
pub record HasExpanded (blocks : Blocks) (e : ExecDecl) (p : Played) (before after : Progress) (flat : Flat)
    : Type 0 where
  pub tree : IsExpanded blocks e p before.walked flat after.walked
  pub waves_are : after.waves ≡ before.waves

-- the trees of a draft
abbrev pub drafted : Draft → List Tree
drafted d = trees_in d.titles.items d.flats.items

-- patterns in front of others were run; `before` is where the first of them began
pub record IsRunning (blocks : Blocks) (e : ExecDecl) (patterns : List Played) (before : Progress)
    (rest : List Played) (now : Progress) (d : Draft) : Type 0 where
  pub playing : IsPlaying blocks e patterns before.walked rest (drafted d) now.walked
  pub waves_are : now.waves ≡ before.waves

-- all patterns were run, up to a Stop
pub record HasRun (blocks : Blocks) (e : ExecDecl) (patterns : List Played) (before now : Progress) (d : Draft)
    : Type 0 where
  pub played : ArePlayed blocks e patterns before.walked (drafted d) now.walked
  pub waves_are : now.waves ≡ before.waves

-- the pattern in front of others was run: it ends the executive, or the others follow; or it is refused
abbrev pub RunsNext : Blocks → ExecDecl → List Played → Progress → List Played → Progress → Draft
    → Result Bool StilRefusal → Type 0
RunsNext blocks e patterns before rest now d (Ok true) = HasRun blocks e patterns before now d
RunsNext blocks e patterns before rest now d (Ok false) = IsRunning blocks e patterns before rest now d
RunsNext blocks e patterns before rest now d (Err r) = Blames (played_fault blocks e patterns before.walked) r
