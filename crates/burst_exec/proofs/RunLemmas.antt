-- Patterns one after another, up to one with a Stop.
use Rattle.std.proofs.Common.{◌≡◌, ℕ, suc, ◌+◌, ◌<◌, ◌≤◌, Bool, true, false, List, [], ◌∷◌, ◌++◌, Some, None, refl, sym, ap, ◌∙◌, subst, arith, map, length, drop, get_or, append_assoc, append-nil}
use Rattle.std.proofs.Math.Seq.{drop-cons}
use Rattle.std.proofs.Math.ListN.{drop_of_length-le}
use Rattle.std.proofs.lemmas.List.{drop-map}
use Rattle.std.specs.Prelude.{Ok}
use Rattle.answers.specs.Answers.{Blames}
use Rattle.stil_ast.specs.Data.Places.{Body, of_pattern}
use Rattle.stil_ast.specs.Data.Written.{Written, no_more, single, looped, shifted}
use Rattle.stil_ast.specs.Faults.AssignmentFaults.{Walked, Checked, fine, refused}
use Rattle.stil_ast.specs.Faults.CheckedLaws.{parts_of}
use Rattle.stil_ast.specs.Faults.ExecutiveFaults.{behind_pattern, check_patterns, checked_fault}
use Rattle.stil_ast.specs.Faults.PatternFaults.{check_pattern}
use Rattle.stil_ast.specs.Meaning.Bursts.{Played}
use Rattle.stil_ast.specs.Meaning.Executive.{scope_of, titles_of, part_of, tree_of, cut_behind}
use Rattle.stil_ast.specs.Meaning.ExecutiveData.{Tree, AreSameTrees}
use Rattle.stil_ast.specs.Meaning.Flat.{Flat}
use Rattle.stil_ast.specs.Meaning.Resolved.{Scope, resolved}
use Rattle.stil_ast.specs.Meaning.Running.{stops}
use Rattle.stil_ast.specs.declared.blocks.Blocks.{Blocks}
use Rattle.stil_ast.specs.declared.body.Step.TheVariants.{Wave, Vector, Condition, Macro, Call, BreakPoint, IddqTestPoint, Stop}
use Rattle.stil_ast.specs.declared.executive.ExecDecl.{ExecDecl}
use Rattle.stil_ast.specs.declared.fault.StilFault.{StilFault}
use Rattle.stil_ast.specs.Data.Refusal.{StilRefusal}
use Rattle.pattern_order.specs.Held.{played_by, played_in}
use Rattle.pattern_order.specs.declared.playing.PlayedPattern.{PlayedPattern}
use Rattle.burst_exec.specs.Carried.{drafted, HasExpanded, IsRunning, HasRun, RunsNext}
use Rattle.burst_exec.specs.Patterns.{has_stop, pattern_fault, IsExpanded, played_fault, ArePlayed, IsPlaying}
use Rattle.burst_exec.specs.declared.progress.Progress.{Progress}
use Rattle.burst_exec.specs.declared.trees.Draft.{Draft}

-- a Stop is one whatever names mean
pub stops-resolved : (scope : Scope) (b : Body) (body : Written) → stops (resolved scope b body) ≡ has_stop body
stops-resolved scope b no_more = refl
stops-resolved scope b (single line (Wave name) rest) = stops-resolved scope b rest
stops-resolved scope b (single line (Vector assigns) rest) = stops-resolved scope b rest
stops-resolved scope b (single line (Condition assigns) rest) = stops-resolved scope b rest
stops-resolved scope b (single line (Macro name assigns) rest) = stops-resolved scope b rest
stops-resolved scope b (single line (Call name assigns) rest) = stops-resolved scope b rest
stops-resolved scope b (single line BreakPoint rest) = stops-resolved scope b rest
stops-resolved scope b (single line IddqTestPoint rest) = stops-resolved scope b rest
stops-resolved scope b (single line Stop rest) = refl
stops-resolved scope b (looped line times body rest) = stops-resolved scope b rest
stops-resolved scope b (shifted line body rest) = stops-resolved scope b rest

only_refused : (c : Checked) (f : StilFault) → checked_fault c ≡ Some f → c ≡ refused f
only_refused (fine w) f e = cc
only_refused (refused g) f e = let h : g ≡ f = cc in ap refused h

module _ (blocks : Blocks) (e : ExecDecl) where
  -- the check of a pattern in front of others
  check_front : (p : Played) (rest : List Played) (now : ℕ) (left : Walked) (b : Bool) → has_stop p.pattern.body ≡ b
      → check_pattern (scope_of blocks e p) p.pattern.body now ≡ fine left
      → check_patterns blocks e (p ∷ rest) now ≡ behind_pattern b (fine left) (check_patterns blocks e rest)
  check_front p rest now left b ends checked =
      ap (λ (s : Bool). behind_pattern s (check_pattern (scope_of blocks e p) p.pattern.body now) (check_patterns blocks e rest))
      (stops-resolved (scope_of blocks e p) of_pattern p.pattern.body ∙ ends)
      ∙ ap (λ (c : Checked). behind_pattern b c (check_patterns blocks e rest)) checked

  -- the trees of a pattern in front of others
  parts_front : (p : Played) (rest : List Played) (b : Bool) → has_stop p.pattern.body ≡ b
      → map tree_of (parts_of blocks e (p ∷ rest)) ≡ map tree_of (cut_behind b (part_of blocks e p) (parts_of blocks e rest))
  parts_front p rest b ends =
      ap (λ (s : Bool). map tree_of (cut_behind s (part_of blocks e p) (parts_of blocks e rest)))
      (stops-resolved (scope_of blocks e p) of_pattern p.pattern.body ∙ ends)

  module _ (patterns : List Played) (before : ℕ) where
    pub starts : IsPlaying blocks e patterns before patterns [] before
    starts = record { checked = refl; same = λ more h. h }

    -- a pattern without a Stop
    pub goes_on : (p : Played) (rest : List Played) (trees : List Tree) (now after : ℕ) (flat : Flat)
        → IsPlaying blocks e patterns before (p ∷ rest) trees now → IsExpanded blocks e p now flat after
        → has_stop p.pattern.body ≡ false
        → IsPlaying blocks e patterns before rest (trees ++ (record { titles = titles_of p; flat = flat } ∷ [])) after
    goes_on p rest trees now after flat playing expanded ends = record {
      checked =
          ap (check_patterns blocks e rest) expanded.counted
          ∙ sym (check_front p rest now expanded.left false ends expanded.checked)
          ∙ playing.checked;
      same = λ more h.
          let tree : Tree = record { titles = titles_of p; flat = flat } in
          let all = map tree_of (parts_of blocks e patterns) in
          subst (λ (ts : List Tree). AreSameTrees ts all) (sym (append_assoc trees (tree ∷ []) more))
          (playing.same (tree ∷ more)
          (subst (λ (ts : List Tree). AreSameTrees (tree ∷ more) ts) (sym (parts_front p rest false ends)) (refl, expanded.same, h)));
    }

    -- a pattern with a Stop
    pub stops_at : (p : Played) (rest : List Played) (trees : List Tree) (now after : ℕ) (flat : Flat)
        → IsPlaying blocks e patterns before (p ∷ rest) trees now → IsExpanded blocks e p now flat after
        → has_stop p.pattern.body ≡ true
        → ArePlayed blocks e patterns before (trees ++ (record { titles = titles_of p; flat = flat } ∷ [])) after
    stops_at p rest trees now after flat playing expanded ends =
        let tree : Tree = record { titles = titles_of p; flat = flat } in
        let all = map tree_of (parts_of blocks e patterns) in record {
          left = expanded.left;
          checked = sym playing.checked ∙ check_front p rest now expanded.left true ends expanded.checked;
          counted = expanded.counted;
          same =
              playing.same (tree ∷ [])
              (subst (λ (ts : List Tree). AreSameTrees (tree ∷ []) ts) (sym (parts_front p rest true ends)) (refl, expanded.same, tt));
        }

    -- behind the last pattern
    pub is_done : (trees : List Tree) (now : ℕ) → IsPlaying blocks e patterns before [] trees now
        → ArePlayed blocks e patterns before trees now
    is_done trees now playing = record {
      left = record { args = []; hashes = []; count = now };
      checked = sym playing.checked;
      counted = refl;
      same =
          subst (λ (ts : List Tree). AreSameTrees ts (map tree_of (parts_of blocks e patterns))) (append-nil trees)
          (playing.same [] tt);
    }

    -- the first fault
    pub is_refused : (p : Played) (rest : List Played) (trees : List Tree) (now : ℕ) (r : StilRefusal)
        → IsPlaying blocks e patterns before (p ∷ rest) trees now → Blames (pattern_fault blocks e p now) r
        → Blames (played_fault blocks e patterns before) r
    unfolding pattern_fault played_fault
    is_refused p rest trees now r playing h = λ f same.
        let check = only_refused (check_pattern (scope_of blocks e p) p.pattern.body now) f (h f same) in
        ap checked_fault (sym playing.checked
        ∙ ap (λ (c : Checked). behind_pattern (stops (resolved (scope_of blocks e p) of_pattern p.pattern.body)) c (check_patterns blocks e rest)) check)

    -- played patterns have none
    pub has_none : (trees : List Tree) (after : ℕ) → ArePlayed blocks e patterns before trees after
        → played_fault blocks e patterns before ≡ None
    unfolding played_fault
    has_none trees after h = ap checked_fault h.checked

-- before the first pattern
pub run_starts : (blocks : Blocks) (e : ExecDecl) (patterns : List Played) (before : Progress) (d : Draft) → drafted d ≡ []
    → IsRunning blocks e patterns before patterns before d
run_starts blocks e patterns before d none = record {
  playing =
      subst (λ (ts : List Tree). IsPlaying blocks e patterns before.walked patterns ts before.walked) (sym none)
      (starts blocks e patterns before.walked);
  waves_are = refl;
}

-- a pattern more, with a Stop or without one
pub runs_next : (blocks : Blocks) (e : ExecDecl) (patterns : List Played) (before : Progress) (p : Played) (rest : List Played)
    (old now : Progress) (d new : Draft) (flat : Flat) (b : Bool) → IsRunning blocks e patterns before (p ∷ rest) old d
    → HasExpanded blocks e p old now flat → drafted new ≡ drafted d ++ (record { titles = titles_of p; flat = flat } ∷ [])
    → b ≡ has_stop p.pattern.body → RunsNext blocks e patterns before rest now new (Ok b)
runs_next blocks e patterns before p rest old now d new flat true running expanded put ends = record {
  played =
      subst (λ (ts : List Tree). ArePlayed blocks e patterns before.walked ts now.walked) (sym put)
      (stops_at blocks e patterns before.walked p rest (drafted d) old.walked now.walked flat running.playing expanded.tree (sym ends));
  waves_are = expanded.waves_are ∙ running.waves_are;
}
runs_next blocks e patterns before p rest old now d new flat false running expanded put ends = record {
  playing =
      subst (λ (ts : List Tree). IsPlaying blocks e patterns before.walked rest ts now.walked) (sym put)
      (goes_on blocks e patterns before.walked p rest (drafted d) old.walked now.walked flat running.playing expanded.tree (sym ends));
  waves_are = expanded.waves_are ∙ running.waves_are;
}

-- what was answered of a pattern, by whether it ends the executive
pub has_ended : (blocks : Blocks) (e : ExecDecl) (patterns : List Played) (before : Progress) (rest : List Played) (now : Progress)
    (d : Draft) (b : Bool) → b ≡ true → RunsNext blocks e patterns before rest now d (Ok b)
    → HasRun blocks e patterns before now d
has_ended blocks e patterns before rest now d true same h = h
has_ended blocks e patterns before rest now d false same h = cc

pub goes_further : (blocks : Blocks) (e : ExecDecl) (patterns : List Played) (before : Progress) (rest : List Played) (now : Progress)
    (d : Draft) (b : Bool) → b ≡ false → RunsNext blocks e patterns before rest now d (Ok b)
    → IsRunning blocks e patterns before rest now d
goes_further blocks e patterns before rest now d true same h = cc
goes_further blocks e patterns before rest now d false same h = h

-- behind the last pattern
pub run_ends : (blocks : Blocks) (e : ExecDecl) (patterns : List Played) (before now : Progress) (d : Draft)
    → IsRunning blocks e patterns before [] now d
    → (played_fault blocks e patterns before.walked ≡ None) × HasRun blocks e patterns before now d
run_ends blocks e patterns before now d running =
    let done = is_done blocks e patterns before.walked (drafted d) now.walked running.playing in
    (has_none blocks e patterns before.walked (drafted d) now.walked done, record { played = done; waves_are = running.waves_are })

-- the patterns from a place on
pub rest_at : (order : List PlayedPattern) (i : ℕ) (p : PlayedPattern) → p ≡ get_or order i p → i < length order
    → drop i (played_in order) ≡ played_by p ∷ drop (i + 1) (played_in order)
rest_at order i p is within =
    let next : suc i ≡ i + 1 = omega arith in
    drop-map played_by i order
    ∙ ap (map played_by) (drop-cons order i p within
    ∙ ap (λ (x : PlayedPattern). x ∷ drop (suc i) order) (sym is)
    ∙ ap (λ (k : ℕ). p ∷ drop k order) next)
    ∙ ap (λ (ps : List Played). played_by p ∷ ps) (sym (drop-map played_by (i + 1) order))

pub rest_none : (order : List PlayedPattern) (i : ℕ) → length order ≤ i → drop i (played_in order) ≡ []
rest_none order i past = drop-map played_by i order ∙ ap (map played_by) (drop_of_length-le order past)
