-- How walks begin.
use Rattle.std.proofs.Common.{◌≡◌, ℕ, zero, suc, true≢false, ◌<◌, ◌+◌, ◌-◌, false, cond, List, [], ◌∷◌, ◌++◌, length, map, Option, Some, None, sym, ap, ◌∙◌, subst, refl, arith, reverse}
use Rattle.std.specs.Prelude.{slice_get, slice_set}
use Rattle.std.specs.List.{AllByRecursion, count_by}
use Rattle.std.proofs.lemmas.List.{append-nil}
use Rattle.std.proofs.lemmas.List.Sums.{sum_by-cons}
use Rattle.std.proofs.lemmas.Option.{same_Some}
use Rattle.text_bytes.proofs.ListLemmas.{slice_get-there}
use Rattle.stil_ast.specs.Faults.Found.{first_in}
use Rattle.stil_ast.specs.Faults.BurstFaults.{Mention, mentions, cyclic_fault}
use Rattle.stil_ast.specs.declared.blocks.Blocks.{Blocks}
use Rattle.stil_ast.specs.declared.executive.Burst.{Burst}
use Rattle.stil_ast.specs.declared.executive.BurstItem.{BurstItem}
use Rattle.stil_ast.specs.declared.fault.StilFault.{StilFault}
use Rattle.pattern_order.specs.Walk.{met, met_within, mention_of, ahead_in}
use Rattle.pattern_order.specs.Numbers.{IsNumbered, IsFirst, meaning_of}
use Rattle.pattern_order.specs.Marks.{mark_at, is_open, is_closed, IsOpened, Begins, Stands}
use Rattle.pattern_order.specs.Walks.{IsBegun, Knows, IsAmong, Forwards, IsSilent, Plays, first_ahead}
use Rattle.pattern_order.specs.declared.walk.Frame.{Frame}
use Rattle.pattern_order.specs.declared.walk.Mark.{Mark}
use Rattle.pattern_order.specs.declared.walk.Mark.TheVariants.{Fresh, Open}
use Rattle.pattern_order.proofs.MeetLemmas.{mentions-met}
use Rattle.pattern_order.proofs.StandLemmas.{mark-test, stands-open}
use Rattle.pattern_order.proofs.AheadLemmas.{ahead-open}
use Rattle.pattern_order.proofs.SkipLemmas.{all_none}

-- where no burst was begun, each mark says so
fresh-at : (marks : List Mark) (k : ℕ) → AllByRecursion (λ (m : Mark). m ≡ Fresh) marks → mark_at marks k ≡ Fresh
fresh-at [] k h = refl
fresh-at (m ∷ marks) zero h = h.0
fresh-at (m ∷ marks) (suc k) h = fresh-at marks k h.1

none-open : (marks : List Mark) → AllByRecursion (λ (m : Mark). m ≡ Fresh) marks → count_by is_open marks ≡ 0
none-open [] h = refl
none-open (m ∷ marks) h =
    sum_by-cons (λ (x : Mark). cond {A = ℕ} (is_open x) 1 0) m marks
    ∙ ap (λ n. cond {A = ℕ} (is_open m) 1 0 + n) (none-open marks h.1)
    ∙ ap (λ (x : Mark). cond {A = ℕ} (is_open x) 1 0 + 0) h.0

module _ (blocks : Blocks) where
  -- what is mentioned is met
  pub mentions-all : (b : Burst) → mentions blocks (Some b) ≡ map (mention_of blocks) (met blocks b)
  mentions-all b = mentions-met blocks (length blocks.bursts) [] [] [] b

  -- one burst alone is open, at its first name
  pub record Starts (number : ℕ) (marks : List Mark) (fs : List Frame) : Type 0 where
    pub frame : Frame
    pub alone : fs ≡ frame ∷ []
    pub next : frame.next ≡ 0
    pub begun : frame.begun ≡ 0
    pub stands : Stands blocks marks (frame ∷ [])
    pub none_closed : (k : ℕ) → is_closed (mark_at marks k) ≡ false
    pub whole : (b : Burst) → slice_get blocks.bursts number ≡ Some b → ahead_in blocks (frame ∷ []) ≡ met blocks b

  pub starts : (number : ℕ) (marks' : List Mark) (frames' : List Frame) → IsFirst blocks number
      → Begins blocks number marks' frames' → Starts number marks' (reverse frames')
  starts number marks' frames' is begins = rw begins.enters.marked (rw begins.enters.stacked (record {
    frame = g;
    alone = refl;
    next = opened.next;
    begun = opened.begun_at;
    stands = subst (λ (n : ℕ). Stands blocks (slice_set marks n Open) (g ∷ [])) opened.numbered
        (stands-open blocks marks g [] empty numbered (ap is_open (fresh-at marks g.number begins.fresh)));
    none_closed = λ k. mark-test marks number k Open is_closed false
        (subst (λ (n : ℕ). number < n) (sym begins.count) is.within) (λ t. refl)
        (λ e. ap is_closed (fresh-at marks k begins.fresh));
    whole = λ b there. sym (ahead-open blocks [] number 0 [] [] g opened (omega (arith, is.within))) ∙ met-as b there;
  }))
    where
      marks : List Mark
      marks = begins.marks

      g : Frame
      g = begins.enters.frame

      opened : IsOpened blocks number 0 [] [] begins.enters.frame
      opened = begins.enters.opened

      numbered : IsNumbered blocks g.number g.burst.now
      numbered = subst (λ (n : ℕ). IsNumbered blocks n g.burst.now) (sym opened.numbered)
          (record { first = is.first g.burst.now opened.there; there = opened.there })

      empty : Stands blocks begins.marks []
      empty = record {
        marked = begins.count;
        numbered = tt;
        opened = λ k. sym (ap is_open (fresh-at begins.marks k begins.fresh));
        apart = tt;
        count = none-open begins.marks begins.fresh;
      }

      met-as : (b : Burst) → slice_get blocks.bursts number ≡ Some b
          → met_within blocks (length blocks.bursts - 0) [] [] [] begins.enters.frame.burst.now ++ [] ≡ met blocks b
      met-as b there =
          let all : length blocks.bursts - 0 ≡ length blocks.bursts = omega arith in
          append-nil (met_within blocks (length blocks.bursts - 0) [] [] [] begins.enters.frame.burst.now)
          ∙ ap (λ n. met_within blocks n [] [] [] begins.enters.frame.burst.now) all
          ∙ ap (met blocks) (same_Some begins.enters.frame.burst.now b (sym begins.enters.opened.there ∙ there))

  -- the first fault of what is met is that of all that is mentioned
  pub begins-first : (rule : Mention → Option StilFault) (number : ℕ) (marks : List Mark) (fs : List Frame) → Starts number marks fs
      → (b : Burst) → slice_get blocks.bursts number ≡ Some b
      → first_ahead rule blocks fs ≡ first_in rule (mentions blocks (Some b))
  begins-first rule number marks fs s b there =
      ap (first_ahead rule blocks) s.alone ∙ ap (λ ms. first_in rule (map (mention_of blocks) ms)) (s.whole b there)
      ∙ ap (first_in rule) (sym (mentions-all b))

  pub know-begins : (number : ℕ) (marks : List Mark) (fs : List Frame) → Starts number marks fs → Knows blocks marks fs
  know-begins number marks fs s = rw s.alone (record {
    stands = s.stands;
    of_closed = λ k b there shut. absurd (true≢false (sym shut ∙ s.none_closed k));
    of_open = (all_none (λ (i : BurstItem). IsBegun marks (meaning_of blocks i)) s.frame.burst.now.items s.frame.next s.next, tt);
  })

  pub forward-begins : (number : ℕ) (marks : List Mark) (fs : List Frame) → Starts number marks fs → Forwards blocks marks fs
  forward-begins number marks fs s = rw s.alone (record {
    stands = s.stands;
    closed = [];
    are_closed = s.none_closed;
    in_order = tt;
    name_inner = (all_none (λ (i : BurstItem). IsAmong [] (meaning_of blocks i)) s.frame.burst.now.items s.frame.next s.next, tt);
  })

  pub play-begins : (number : ℕ) (marks : List Mark) (fs : List Frame) → Starts number marks fs → IsFirst blocks number
      → ((b : Burst) → slice_get blocks.bursts number ≡ Some b → first_in cyclic_fault (mentions blocks (Some b)) ≡ None)
      → Plays blocks 0 marks fs
  play-begins number marks fs s is none =
      let b = slice_get-there blocks.bursts number is.within in
      let forward = begins-first cyclic_fault number marks fs s b.0 b.1 ∙ none b.0 b.1 in
      rw s.alone (record {
        stands = s.stands;
        silent = [];
        are_closed = s.none_closed;
        run_none = λ k c there e. absurd (true≢false (sym e));
        quiet = (
          omega (arith, s.begun),
          λ e. all_none (λ (i : BurstItem). IsSilent [] (meaning_of blocks i)) s.frame.burst.now.items s.frame.next s.next,
          tt,
        );
        forward = ap (first_ahead cyclic_fault blocks) (sym s.alone) ∙ forward;
      })

  -- what is met at first is all that is met
  pub begins-whole : (number : ℕ) (marks : List Mark) (fs : List Frame) → Starts number marks fs → (b : Burst)
      → slice_get blocks.bursts number ≡ Some b → ahead_in blocks fs ≡ met blocks b
  begins-whole number marks fs s b there = ap (ahead_in blocks) s.alone ∙ s.whole b there
