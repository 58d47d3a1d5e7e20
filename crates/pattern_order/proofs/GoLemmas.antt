-- How a walk goes on behind a name, whatever is looked for.
use Rattle.std.proofs.Common.{◌≡◌, ℕ, suc, ◌≤◌, ◌-◌, List, [], ◌∷◌, ◌++◌, length, map, Option, Some, None, sym, ap, ◌∙◌, subst, inl, inr, arith, reverse}
use Rattle.std.specs.Prelude.{Err, slice_set}
use Rattle.std.specs.List.{AllByRecursion}
use Rattle.std.proofs.lemmas.List.{reverse-append}
use Rattle.stil_ast.specs.Faults.Found.{first_in}
use Rattle.stil_ast.specs.Faults.BurstFaults.{Mention}
use Rattle.stil_ast.specs.declared.blocks.Blocks.{Blocks}
use Rattle.stil_ast.specs.declared.fault.StilFault.{StilFault}
use Rattle.stil_ast.specs.Data.Refusal.{StilRefusal}
use Rattle.answers.specs.Answers.{Blames}
use Rattle.pattern_order.specs.Walk.{Met, met_within, mention_of, names_of, ahead_in, met_by}
use Rattle.pattern_order.specs.Numbers.{IsNumbered}
use Rattle.pattern_order.specs.Marks.{fresh_of, moved_on, IsNext, IsOpened, Passes, Stands}
use Rattle.pattern_order.specs.Walks.{HasGoneOn, GoesOn, first_ahead}
use Rattle.pattern_order.specs.declared.walk.Frame.{Frame}
use Rattle.pattern_order.specs.declared.walk.Mark.{Mark}
use Rattle.pattern_order.specs.declared.walk.Mark.TheVariants.{Open}
use Rattle.pattern_order.specs.declared.walk.Step.{Step}
use Rattle.pattern_order.proofs.AheadLemmas.{inside, ahead-close, ahead-next, GoesInto, PassesBy, LeadsBack, NamesNone, Ways, ways, PassesIn, passes-in, less-close, less-next, first-next, into-ahead}
use Rattle.pattern_order.proofs.SkipLemmas.{opened-numbered}

-- the burst that was opened last is the innermost
pub innermost-first : (before frames : List Frame) (f : Frame) → before ≡ frames ++ f ∷ [] → reverse before ≡ f ∷ reverse frames
innermost-first before frames f is = ap reverse is ∙ reverse-append frames (f ∷ [])

module _ (blocks : Blocks) (rule : Mention → Option StilFault) (Holds : List Mark → List Frame → Type 0) where
  abbrev pub Quiet : Met → Type 0
  Quiet m = rule (mention_of blocks m) ≡ None

  -- what a walk keeps as it goes on behind a name
  pub record Keeps (marks : List Mark) (f : Frame) (fs : List Frame) (s : Step) : Type 0 where
    pub passing : PassesBy blocks marks f fs s → Holds marks (moved_on f ∷ fs)
    pub quiet : (w : PassesBy blocks marks f fs s)
        → AllByRecursion (λ (m : Met). rule (mention_of blocks m) ≡ None)
        (met_within blocks (length blocks.bursts - suc (length fs)) (names_of (f ∷ fs)) f.macros.now f.procedures.now w.burst)
    pub back : LeadsBack blocks marks f fs s → Holds marks (moved_on f ∷ fs)
    pub nowhere : NamesNone blocks f fs s → Holds marks (moved_on f ∷ fs)
    pub entering : (k : ℕ) → GoesInto blocks marks f fs s k → (g : Frame) → g.number ≡ k → g.next ≡ 0
        → IsNumbered blocks g.number g.burst.now → Holds (slice_set marks k Open) (g ∷ moved_on f ∷ fs)

  -- the walk goes on behind the last name of a burst
  pub closes : (f : Frame) (frames : List Frame) (marks' : List Mark) (frames' : List Frame) → length f.burst.now.items ≤ f.next
      → frames' ≡ frames → Holds marks' (reverse frames)
      → HasGoneOn rule Holds blocks (f ∷ reverse frames) marks' (reverse frames')
  closes f frames marks' frames' le same holds = rw same (record {
    holds = holds;
    same = ap (λ ms. first_in rule (map (mention_of blocks) ms)) (ahead-close blocks f (reverse frames) le);
    less = less-close blocks f (reverse frames) le;
  })

  -- the walk goes on behind a name that has no fault
  pub goes : (marks : List Mark) (f : Frame) (frames : List Frame) (s : Step) (marks' : List Mark) (frames' : List Frame)
      → Stands blocks marks (f ∷ reverse frames) → IsNext blocks marks f s → rule (mention_of blocks (met_by s)) ≡ None
      → Keeps marks f (reverse frames) s → Passes blocks (fresh_of marks s.meaning) f s 0 marks frames marks' frames'
      → HasGoneOn rule Holds blocks (f ∷ reverse frames) marks' (reverse frames')
  goes marks f frames s marks' frames' h n none keeps p =
      by_way (fresh_of marks s.meaning) (ways blocks marks f (reverse frames) s n)
      (passes-in blocks (fresh_of marks s.meaning) f s 0 marks frames marks' frames' p)
    where
      passed : (ms : List Met) → inside blocks f (reverse frames) s ≡ ms
          → AllByRecursion (λ (m : Met). rule (mention_of blocks m) ≡ None) ms → Holds marks (moved_on f ∷ reverse frames)
          → HasGoneOn rule Holds blocks (f ∷ reverse frames) marks (moved_on f ∷ reverse frames)
      passed ms is quiet holds =
          let ahead = ahead-next blocks marks f (reverse frames) s h n
          ∙ ap (λ xs. met_by s ∷ (xs ++ ahead_in blocks (moved_on f ∷ reverse frames))) is in
          record {
            holds = holds;
            same = first-next blocks rule f (reverse frames) (moved_on f ∷ reverse frames) (met_by s) ms ahead none quiet;
            less = less-next blocks f (reverse frames) (moved_on f ∷ reverse frames) (met_by s) ms ahead (omega arith);
          }

      into : (k : ℕ) → GoesInto blocks marks f (reverse frames) s k → (g : Frame)
          → IsOpened blocks k 0 s.macros.now s.procedures.now g
          → HasGoneOn rule Holds blocks (f ∷ reverse frames) (slice_set marks k Open) (g ∷ moved_on f ∷ reverse frames)
      into k w g is =
          let numbered = opened-numbered blocks k 0 s.macros.now s.procedures.now g w.burst is w.numbered in
          let ahead = into-ahead blocks marks f (reverse frames) s k g 0 h n w is in
          record {
            holds = keeps.entering k w g is.numbered is.next numbered.0;
            same = first-next blocks rule f (reverse frames) (g ∷ moved_on f ∷ reverse frames) (met_by s) [] ahead none tt;
            less = less-next blocks f (reverse frames) (g ∷ moved_on f ∷ reverse frames) (met_by s) [] ahead (omega arith);
          }

      by_way : (target : Option ℕ) → Ways blocks marks f (reverse frames) s target
          → PassesIn blocks target f s 0 marks (reverse frames) marks' (reverse frames')
          → HasGoneOn rule Holds blocks (f ∷ reverse frames) marks' (reverse frames')
      by_way None (inl w) p = rw p.0 (rw p.1 (passed
          (met_within blocks (length blocks.bursts - suc (length (reverse frames))) (names_of (f ∷ reverse frames)) f.macros.now f.procedures.now w.burst)
          w.all_inside (keeps.quiet w) (keeps.passing w)))
      by_way None (inr (inl w)) p = rw p.0 (rw p.1 (passed [] w.none_inside tt (keeps.back w)))
      by_way None (inr (inr w)) p = rw p.0 (rw p.1 (passed [] w.none_inside tt (keeps.nowhere w)))
      by_way (Some k) w p = rw p.2 (rw p.3 (into k w p.0 p.1))

-- the same, with the innermost burst taken off, and of the blocks by another name
pub gone-on : (rule : Mention → Option StilFault) (Holds : Blocks → List Mark → List Frame → Type 0) (bs blocks : Blocks)
    (frames before : List Frame) (f : Frame) (marks' : List Mark) (fs' : List Frame) → bs ≡ blocks → before ≡ frames ++ f ∷ []
    → HasGoneOn rule (Holds bs) bs (f ∷ reverse frames) marks' fs'
    → HasGoneOn rule (Holds blocks) blocks (reverse before) marks' fs'
gone-on rule Holds bs blocks frames before f marks' fs' is popped h =
    subst (λ (x : Blocks). HasGoneOn rule (Holds x) x (reverse before) marks' fs') is
    (subst (λ (fs : List Frame). HasGoneOn rule (Holds bs) bs fs marks' fs') (sym (innermost-first before frames f popped)) h)

-- a walk that has met the first fault tells it
pub told-first : (rule : Mention → Option StilFault) (Holds : Blocks → List Mark → List Frame → Type 0) (bs blocks : Blocks)
    (frames before : List Frame) (f : Frame) (marks' : List Mark) (fs' : List Frame) (r : StilRefusal) (wanted : Option StilFault)
    → bs ≡ blocks → before ≡ frames ++ f ∷ [] → GoesOn rule (Holds bs) bs (f ∷ reverse frames) (Err r) marks' fs'
    → first_ahead rule blocks (reverse before) ≡ wanted → Blames wanted r
told-first rule Holds bs blocks frames before f marks' fs' r wanted is popped h first = λ fault same.
    sym first ∙ ap (first_ahead rule blocks) (innermost-first before frames f popped)
    ∙ ap (λ (x : Blocks). first_ahead rule x (f ∷ reverse frames)) (sym is) ∙ h fault same
