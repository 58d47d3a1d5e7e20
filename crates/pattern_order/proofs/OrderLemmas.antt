-- What is answered of a burst, and of an executive.
use Rattle.std.proofs.Common.{◌≡◌, ℕ, List, [], get_or, Option, Some, None, Vec, length, refl, sym, ap, subst, ◌∙◌}
use Rattle.std.proofs.lemmas.Option.{get_or_from_slice_get}
use Rattle.std.specs.Prelude.{Result, slice_get}
use Rattle.std.specs.List.{flat_map}
use Rattle.std.specs.declared.alloc.Global.{Global}
use Rattle.stil_ast.specs.Data.Texts.{same}
use Rattle.stil_ast.specs.Meaning.Bursts.{Played, burst_named, played_of, played}
use Rattle.stil_ast.specs.Faults.Found.{fault_at, or_else, first_in}
use Rattle.stil_ast.specs.Faults.BurstFaults.{exec_place, is_category, is_selector, is_timing, is_burst, named_fault, maybe_fault, mentions, unknown_fault, cyclic_fault, exec_names_fault}
use Rattle.stil_ast.specs.declared.blocks.Blocks.{Blocks}
use Rattle.stil_ast.specs.declared.executive.Burst.{Burst}
use Rattle.stil_ast.specs.declared.executive.ExecDecl.{ExecDecl}
use Rattle.stil_ast.specs.declared.fault.StilFault.{StilFault}
use Rattle.stil_ast.specs.declared.fault.StilKind.TheVariants.{TooLarge, UnknownName}
use Rattle.stil_ast.specs.Data.Refusal.{StilRefusal}
use Rattle.answers.specs.Answers.{Blames, Finds}
use Rattle.pattern_order.specs.Numbers.{burst_number}
use Rattle.pattern_order.specs.Walk.{met, played_at}
use Rattle.pattern_order.specs.Held.{played_in}
use Rattle.pattern_order.specs.Answer.{is_few, AllPlayed, own_fault, inner_fault}
use Rattle.pattern_order.specs.declared.playing.PlayedPattern.{PlayedPattern}
use Rattle.pattern_order.proofs.BeginLemmas.{mentions-all}
use Rattle.pattern_order.proofs.MeaningLemmas.{numbered-named}
use Rattle.pattern_order.proofs.MeetLemmas.{played-met}
use Rattle.pattern_order.proofs.PlaceLemmas.{find-no_position}

module _ (blocks : Blocks) (b : Burst) where
  -- the patterns that are played are those that are met
  all-played : first_in cyclic_fault (mentions blocks (Some b)) ≡ None
      → played_of blocks (Some b) ≡ flat_map (played_at blocks) (met blocks b)
  all-played none =
      played-met blocks (length blocks.bursts) [] [] [] b (sym (ap (first_in cyclic_fault) (mentions-all blocks b)) ∙ none)

  module _ (e : ExecDecl) (known : first_in unknown_fault (mentions blocks (Some b)) ≡ None)
      (forward : first_in cyclic_fault (mentions blocks (Some b)) ≡ None) where
    -- patterns that are not too many are the answer
    pub all_there : (patterns : Vec PlayedPattern Global)
        → AllPlayed (Some patterns) (flat_map (played_at blocks) (met blocks b))
        → (inner_fault blocks e (Some b) ≡ None) × (played_in patterns.items ≡ played_of blocks (Some b))
    all_there patterns h =
        (rw known (rw forward (rw (ap is_few (all-played forward) ∙ h.0) refl)), h.1 ∙ sym (all-played forward))

    -- too many patterns are the fault
    pub too_many : AllPlayed None (flat_map (played_at blocks) (met blocks b))
        → inner_fault blocks e (Some b) ≡ Some (fault_at (exec_place e.name e.line) TooLarge)
    too_many h = rw known (rw forward (rw (ap is_few (all-played forward) ∙ h) refl))

-- what is said of the executive at an index is said of the one that is found there
pub orders-of : (blocks : Blocks) (exec : ℕ) (e here : ExecDecl) (r : Result (List Played) StilRefusal)
    → slice_get blocks.executives exec ≡ Some e → here ≡ get_or blocks.executives exec here
    → Finds (exec_names_fault blocks here) (λ order. order ≡ played blocks here) r
    → Finds (exec_names_fault blocks e) (λ order. order ≡ played blocks e) r
orders-of blocks exec e here r at is h =
    subst (λ (x : ExecDecl). Finds (exec_names_fault blocks x) (λ order. order ≡ played blocks x) r)
    (is ∙ get_or_from_slice_get blocks.executives exec e here at) h

module _ (blocks : Blocks) (e : ExecDecl) where
  -- the first fault, of the names but for the burst and of what the burst leads to
  own-split : exec_names_fault blocks e
      ≡ or_else (own_fault blocks e)
      (or_else (named_fault e (is_burst blocks) e.burst) (inner_fault blocks e (burst_named blocks e.burst.name)))
  own-split =
      or_else-assoc (first_in (named_fault e (is_category blocks)) e.categories) (maybe_fault e (is_selector blocks) e.selector)
      (maybe_fault e (is_timing blocks) e.timing)
      (or_else (named_fault e (is_burst blocks) e.burst) (inner_fault blocks e (burst_named blocks e.burst.name)))
    where
      or_else-assoc : (a b c d : Option StilFault) → or_else a (or_else b (or_else c d)) ≡ or_else (or_else a (or_else b c)) d
      or_else-assoc (Some f) b c d = refl
      or_else-assoc None (Some f) c d = refl
      or_else-assoc None None c d = refl

  -- where the names but for the burst have no fault
  own-none : own_fault blocks e ≡ None
      → exec_names_fault blocks e
      ≡ or_else (named_fault e (is_burst blocks) e.burst) (inner_fault blocks e (burst_named blocks e.burst.name))
  own-none none =
      own-split
      ∙ ap (λ o. or_else o (or_else (named_fault e (is_burst blocks) e.burst) (inner_fault blocks e (burst_named blocks e.burst.name)))) none

  -- their fault is the first
  pub own-refused : (r : StilRefusal) → Blames (own_fault blocks e) r → Blames (exec_names_fault blocks e) r
  own-refused r h = λ first same.
      own-split
      ∙ ap (λ o. or_else o (or_else (named_fault e (is_burst blocks) e.burst) (inner_fault blocks e (burst_named blocks e.burst.name))))
      (h first same)

  -- an answer on the burst is an answer on the executive
  pub order-known : (k : ℕ) (r : Result (List Played) StilRefusal) → own_fault blocks e ≡ None
      → burst_number blocks e.burst.name ≡ Some k
      → ((b : Burst) → slice_get blocks.bursts k ≡ Some b → Finds (inner_fault blocks e (Some b)) (λ order. order ≡ played_of blocks (Some b)) r)
      → Finds (exec_names_fault blocks e) (λ order. order ≡ played blocks e) r
  order-known k r none is h =
      let named = numbered-named blocks e.burst.name k is in
      subst (λ (o : Option StilFault). Finds o (λ order. order ≡ played blocks e) r) (sym (own-none none))
      (rw named.2 (h named.0 named.1))

  -- a burst of no name is the fault
  pub order-unknown : (r : StilRefusal) → own_fault blocks e ≡ None → burst_number blocks e.burst.name ≡ None
      → Blames (Some (fault_at (exec_place e.name e.burst.line) UnknownName)) r → Blames (exec_names_fault blocks e) r
  order-unknown r none is h = λ first at.
      own-none none ∙ rw (find-no_position (λ (b : Burst). same b.name e.burst.name) blocks.bursts is) (h first at)
