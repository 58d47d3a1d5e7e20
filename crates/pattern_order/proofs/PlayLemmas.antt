-- The walk on which patterns are listed.
use Rattle.std.proofs.Common.{◌≡◌, ℕ, suc, ◌<◌, ◌≤◌, ◌+◌, ◌-◌, ◌==◌, Bool, true, false, cond, List, [], ◌∷◌, ◌++◌, length, map, Option, Some, None, take, sym, ap, ◌∙◌, subst, inl, inr, refl, arith, true≢false, reverse, append_assoc, length-append}
use Rattle.std.specs.Prelude.{◌||◌, slice_get, slice_set}
use Rattle.std.specs.List.{AllByRecursion, list_any, flat_map}
use Rattle.std.proofs.lemmas.Bool.{cases_lt, lt-leb, le-leb, eqb-true, eqb-false, eq-eqb, or_right}
use Rattle.std.proofs.lemmas.List.{length-set, append-nil, length-map}
use Rattle.std.proofs.lemmas.List.Concat.{flat_map-append}
use Rattle.std.proofs.lemmas.Option.{same_Some}
use Rattle.text_bytes.proofs.ListLemmas.{slice_get-there}
use Rattle.stil_ast.specs.Meaning.Bursts.{Played}
use Rattle.stil_ast.specs.Faults.Found.{fault_at, first_in}
use Rattle.stil_ast.specs.Faults.BurstFaults.{burst_place, burst_for, is_round, cyclic_fault}
use Rattle.stil_ast.specs.declared.blocks.Blocks.{Blocks}
use Rattle.stil_ast.specs.declared.blocks.Pattern.{Pattern}
use Rattle.stil_ast.specs.declared.fault.StilKind.TheVariants.{Cyclic}
use Rattle.stil_ast.specs.declared.executive.Burst.{Burst}
use Rattle.stil_ast.specs.declared.executive.BurstItem.{BurstItem}
use Rattle.stil_ast.proofs.FoundLemmas.{or_else-none, not_refused}
use Rattle.pattern_order.specs.Walk.{Met, met_within, mention_of, pattern_played, played_at, names_of, ahead_in, met_by}
use Rattle.pattern_order.specs.Numbers.{IsNumbered, meaning_of, played_as}
use Rattle.pattern_order.specs.Marks.{mark_at, is_fresh, is_closed, fresh_of, moved_on, IsNext, IsOpened, Passes, Stands}
use Rattle.pattern_order.specs.Walks.{IsSilent, AreQuiet, Plays, HasPlayed}
use Rattle.pattern_order.specs.declared.meaning.Meaning.{Meaning}
use Rattle.pattern_order.specs.declared.meaning.Meaning.TheVariants.{Unknown, Block, Pattern as APattern, Burst as ABurst}
use Rattle.pattern_order.specs.Held.{played_by, played_in}
use Rattle.pattern_order.specs.Answer.{is_few}
use Rattle.pattern_order.specs.declared.playing.PlayedPattern.{PlayedPattern}
use Rattle.pattern_order.specs.declared.walk.Frame.{Frame}
use Rattle.pattern_order.specs.declared.walk.Mark.{Mark}
use Rattle.pattern_order.specs.declared.walk.Mark.TheVariants.{Fresh, Open, Closed}
use Rattle.pattern_order.specs.declared.walk.Step.{Step}
use Rattle.pattern_order.proofs.MeaningLemmas.{Means, means, played-as}
use Rattle.pattern_order.proofs.MeetLemmas.{NoneBack, none-parts}
use Rattle.pattern_order.proofs.StandLemmas.{within, innermost, stands-close, stands-move, stands-open}
use Rattle.pattern_order.proofs.AheadLemmas.{inside, ahead-close, ahead-next, into-ahead, fresh-shut, GoesInto, NamesNone, Ways, ways, PassesIn, passes-in, less-close, less-next}
use Rattle.pattern_order.proofs.ForwardLemmas.{closed-more, closed-same, open-shut, fresh-unclosed}
use Rattle.pattern_order.proofs.GoLemmas.{innermost-first}
use Rattle.pattern_order.proofs.SkipLemmas.{StaysIn, all-met, all_mono, all_next, all_whole, all_none, leads-to, opened-numbered}

-- a number is one of these
abbrev among : ℕ → List ℕ → Bool
among number numbers = list_any (λ n. n == number) numbers

-- of more numbers
silent-more : (old new : List ℕ) → ((n : ℕ) → among n old ≡ true → among n new ≡ true) → (m : Meaning) → IsSilent old m
    → IsSilent new m
silent-more old new more Unknown h = tt
silent-more old new more Block h = tt
silent-more old new more (APattern p) h = h
silent-more old new more (ABurst b) h = more b h

module _ (blocks : Blocks) where
  -- open bursts inside which more is silent or open
  quiet-more : (count most : ℕ) (old new : List ℕ) → ((n : ℕ) → among n old ≡ true → among n new ≡ true) → (fs : List Frame)
      → AreQuiet blocks count most old fs → AreQuiet blocks count most new fs
  quiet-more count most old new more [] h = tt
  quiet-more count most old new more (f ∷ fs) h = (
    h.0,
    λ is. all_mono (λ (i : BurstItem). silent-more old new more (meaning_of blocks i)) (take f.next f.burst.now.items) (h.1 is),
    quiet-more count f.begun (f.number ∷ old) (f.number ∷ new)
        (λ n e. one_more (f.number == n) (among n old) (among n new) (more n) e) fs h.2,
  )
    where
      one_more : (a b c : Bool) → (b ≡ true → c ≡ true) → (a || b) ≡ true → (a || c) ≡ true
      one_more true b c h e = refl
      one_more false b c h e = h e

  -- where each was opened before the last pattern ran, nothing is asked
  loud : (count count' most most' : ℕ) (old new : List ℕ) → most < count' → most ≤ most' → (fs : List Frame)
      → AreQuiet blocks count most old fs → AreQuiet blocks count' most' new fs
  loud count count' most most' old new lt le [] h = tt
  loud count count' most most' old new lt le (f ∷ fs) h = (
    omega (arith, h.0, le),
    λ is. absurd (omega (arith, h.0, lt, is)),
    loud count count' f.begun f.begun (f.number ∷ old) (f.number ∷ new) (omega (arith, h.0, lt)) (omega arith) fs h.2,
  )

  -- a burst that runs no pattern
  record RunsNone (silent : List ℕ) (round : List (List ℕ)) (b : Burst) : Type 0 where
    number : ℕ
    numbered : IsNumbered blocks number b
    there : among number silent ≡ true

  stays : (silent : List ℕ) (round : List (List ℕ)) (b : Burst) (i : BurstItem) → IsSilent silent (meaning_of blocks i)
      → StaysIn blocks (λ (m : Met). played_at blocks m ≡ []) (RunsNone silent) round b i
  stays silent round b i h = record {
    holds = λ macros procedures.
        let m : Met = record {
          burst = b;
          item = i;
          macros = macros;
          procedures = procedures;
          leads_back = is_round (b.name ∷ round) (burst_for blocks i);
        } in
        played-as blocks m ∙ none macros procedures (meaning_of blocks i) h;
    leads = λ c named e.
        let to = leads-to blocks i c named in
        record { number = to.number; numbered = to.numbered; there = subst (IsSilent silent) to.means_it h };
  }
    where
      none : (macros procedures : List ℕ) (m : Meaning) → IsSilent silent m → played_as blocks macros procedures m ≡ []
      none macros procedures Unknown h = refl
      none macros procedures Block h = refl
      none macros procedures (APattern p) h = absurd h
      none macros procedures (ABurst b) h = refl

  -- nothing runs in a closed burst
  runs-none : (count : ℕ) (marks : List Mark) (fs : List Frame) → Plays blocks count marks fs → (depth : ℕ)
      (round : List (List ℕ)) (macros procedures : List ℕ) (number : ℕ) (b : Burst) → IsNumbered blocks number b
      → is_closed (mark_at marks number) ≡ true
      → AllByRecursion (λ (m : Met). played_at blocks m ≡ []) (met_within blocks depth round macros procedures b)
  runs-none count marks fs h depth round macros procedures number b numbered shut =
      all-met blocks (λ (m : Met). played_at blocks m ≡ []) (RunsNone h.silent)
      (λ r c is. all_mono (stays h.silent r c) c.items (h.run_none is.number c is.numbered.there is.there))
      depth round macros procedures b (record { number = number; numbered = numbered; there = sym (h.are_closed number) ∙ shut })

  none-played : (ms : List Met) → AllByRecursion (λ (m : Met). played_at blocks m ≡ []) ms → flat_map (played_at blocks) ms ≡ []
  none-played [] h = refl
  none-played (m ∷ ms) h = rw h.0 (none-played ms h.1)

  -- behind the last name of a burst in which no pattern ran it is closed
  play-close : (count : ℕ) (marks : List Mark) (f : Frame) (fs : List Frame) → Plays blocks count marks (f ∷ fs)
      → length f.burst.now.items ≤ f.next → f.begun ≡ count → Plays blocks count (slice_set marks f.number Closed) fs
  play-close count marks f fs h le none = record {
    stands = stands-close blocks marks f fs Closed h.stands refl;
    silent = f.number ∷ h.silent;
    are_closed = closed-more marks h.silent f.number (within blocks marks f fs h.stands) h.are_closed;
    run_none = λ k b there is.
        all_mono (λ (i : BurstItem). silent-more h.silent (f.number ∷ h.silent)
        (λ n e. or_right (f.number == n) (among n h.silent) e) (meaning_of blocks i)) b.items (names k b there (f.number == k) refl is);
    quiet = subst (λ (n : ℕ). AreQuiet blocks count n (f.number ∷ h.silent) fs) none h.quiet.2;
    forward = sym (ap (λ ms. first_in cyclic_fault (map (mention_of blocks) ms)) (ahead-close blocks f fs le)) ∙ h.forward;
  }
    where
      names : (k : ℕ) (b : Burst) → slice_get blocks.bursts k ≡ Some b → (x : Bool) → (f.number == k) ≡ x
          → (f.number == k || among k h.silent) ≡ true → AllByRecursion (λ (i : BurstItem). IsSilent h.silent (meaning_of blocks i)) b.items
      names k b there true t is =
          subst (λ (c : Burst). AllByRecursion (λ (i : BurstItem). IsSilent h.silent (meaning_of blocks i)) c.items)
          (same_Some f.burst.now b (sym h.stands.numbered.0.there ∙ ap (slice_get blocks.bursts) (eqb-true f.number k t) ∙ there))
          (all_whole (λ (i : BurstItem). IsSilent h.silent (meaning_of blocks i)) f.burst.now.items f.next le (h.quiet.1 none))
      names k b there false e is = h.run_none k b there (sym (ap (λ z. z || among k h.silent) e) ∙ is)

  -- behind the last name of a burst in which patterns ran it may be walked through again
  play-reopen : (count : ℕ) (marks : List Mark) (f : Frame) (fs : List Frame) → Plays blocks count marks (f ∷ fs)
      → length f.burst.now.items ≤ f.next → (f.begun ≡ count → ⊥) → Plays blocks count (slice_set marks f.number Fresh) fs
  play-reopen count marks f fs h le some = record {
    stands = stands-close blocks marks f fs Fresh h.stands refl;
    silent = h.silent;
    are_closed = closed-same marks h.silent f.number Fresh (within blocks marks f fs h.stands) refl
        (open-shut (mark_at marks f.number) (innermost blocks marks f fs h.stands)) h.are_closed;
    run_none = h.run_none;
    quiet = loud count count f.begun count (f.number ∷ h.silent) h.silent less (omega (arith, h.quiet.0)) fs h.quiet.2;
    forward = sym (ap (λ ms. first_in cyclic_fault (map (mention_of blocks) ms)) (ahead-close blocks f fs le)) ∙ h.forward;
  }
    where
      less : f.begun < count
      less = elim (cases_lt f.begun count) [
        | inl l ↦ l
        | inr l ↦ absurd (some (omega (arith, l, h.quiet.0)))
      ]

  -- the walk goes on behind the last name of a burst
  pub play-closes : (ran : List Played) (marks : List Mark) (f : Frame) (frames : List Frame) (marks' : List Mark) (frames' : List Frame)
      (count : ℕ) → count ≡ length ran → Plays blocks count marks (f ∷ reverse frames) → length f.burst.now.items ≤ f.next
      → marks' ≡ slice_set marks f.number (cond (f.begun == count) Closed Fresh) → frames' ≡ frames
      → HasPlayed blocks ran (f ∷ reverse frames) ran marks' (reverse frames')
  play-closes ran marks f frames marks' frames' count counted h le is same = rw same (record {
    plays = subst (λ (n : ℕ). Plays blocks n marks' (reverse frames)) counted (rw is (by_count (f.begun == count) refl));
    same = ap (λ ms. ran ++ flat_map (played_at blocks) ms) (ahead-close blocks f (reverse frames) le);
    one_more = omega arith;
    less = less-close blocks f (reverse frames) le;
  })
    where
      by_count : (b : Bool) → (f.begun == count) ≡ b → Plays blocks count (slice_set marks f.number (cond b Closed Fresh)) (reverse frames)
      by_count true t = play-close count marks f (reverse frames) h le (eqb-true f.begun count t)
      by_count false e = play-reopen count marks f (reverse frames) h le (eqb-false f.begun count e)

  -- an open burst behind a name that runs nothing, or whose burst is silent
  quiet-silent : (count : ℕ) (silent : List ℕ) (f : Frame) (fs : List Frame) (i : BurstItem) → AreQuiet blocks count count silent (f ∷ fs)
      → slice_get f.burst.now.items f.next ≡ Some i → IsSilent silent (meaning_of blocks i)
      → AreQuiet blocks count count silent (moved_on f ∷ fs)
  quiet-silent count silent f fs i h at is = (
    h.0,
    λ e. all_next (λ (j : BurstItem). IsSilent silent (meaning_of blocks j)) f.burst.now.items f.next i at (h.1 e) is,
    h.2,
  )

  -- an open burst behind a pattern
  quiet-played : (count : ℕ) (silent : List ℕ) (f : Frame) (fs : List Frame) → AreQuiet blocks count count silent (f ∷ fs)
      → AreQuiet blocks (count + 1) (count + 1) silent (moved_on f ∷ fs)
  quiet-played count silent f fs h =
      let later = loud count (count + 1) count (count + 1) silent silent (omega arith) (omega arith) (f ∷ fs) h in
      (later.0, λ e. absurd (omega (arith, h.0, e)), later.2)

  -- a name is passed
  play-pass : (count count' : ℕ) (marks : List Mark) (f : Frame) (fs : List Frame) (h : Plays blocks count marks (f ∷ fs))
      → AreQuiet blocks count' count' h.silent (moved_on f ∷ fs) → NoneBack blocks (ahead_in blocks (moved_on f ∷ fs))
      → Plays blocks count' marks (moved_on f ∷ fs)
  play-pass count count' marks f fs h quiet forward = record {
    stands = stands-move blocks marks f fs h.stands;
    silent = h.silent;
    are_closed = h.are_closed;
    run_none = h.run_none;
    quiet = quiet;
    forward = forward;
  }

  -- a burst that is not open is opened
  play-open : (count : ℕ) (marks : List Mark) (f g : Frame) (fs : List Frame) (i : BurstItem) → Plays blocks count marks (f ∷ fs)
      → slice_get f.burst.now.items f.next ≡ Some i → meaning_of blocks i ≡ ABurst g.number
      → IsNumbered blocks g.number g.burst.now → g.next ≡ 0 → g.begun ≡ count → is_fresh (mark_at marks g.number) ≡ true
      → NoneBack blocks (ahead_in blocks (g ∷ moved_on f ∷ fs))
      → Plays blocks count (slice_set marks g.number Open) (g ∷ moved_on f ∷ fs)
  play-open count marks f g fs i h at is numbered next begun fresh forward = record {
    stands = opens;
    silent = h.silent;
    are_closed = closed-same marks h.silent g.number Open lt refl (fresh-unclosed (mark_at marks g.number) fresh) h.are_closed;
    run_none = h.run_none;
    quiet = (
      omega (arith, begun),
      λ e. all_none (λ (j : BurstItem). IsSilent h.silent (meaning_of blocks j)) g.burst.now.items g.next next,
      (
        omega (arith, begun, h.quiet.0),
        λ e. all_next (λ (j : BurstItem). IsSilent (g.number ∷ h.silent) (meaning_of blocks j)) f.burst.now.items f.next i at
            (all_mono (λ (j : BurstItem). silent-more h.silent (g.number ∷ h.silent)
            (λ n e. or_right (g.number == n) (among n h.silent) e) (meaning_of blocks j)) (take f.next f.burst.now.items) (h.quiet.1 e))
            (subst (IsSilent (g.number ∷ h.silent)) (sym is)
            (ap (λ b. b || among g.number h.silent) (eq-eqb g.number g.number refl))),
        quiet-more count f.begun (f.number ∷ h.silent) (f.number ∷ g.number ∷ h.silent)
            (λ n e. two_more (f.number == n) (g.number == n) (among n h.silent) e) fs h.quiet.2,
      ),
    );
    forward = forward;
  }
    where
      opens : Stands blocks (slice_set marks g.number Open) (g ∷ moved_on f ∷ fs)
      opens = stands-open blocks marks g (moved_on f ∷ fs) (stands-move blocks marks f fs h.stands) numbered
          (fresh-shut (mark_at marks g.number) fresh)

      lt : g.number < length marks
      lt = subst (λ (n : ℕ). g.number < n) (length-set marks g.number Open)
          (within blocks (slice_set marks g.number Open) g (moved_on f ∷ fs) opens)

      two_more : (a b c : Bool) → (a || c) ≡ true → (a || (b || c)) ≡ true
      two_more true b c h = refl
      two_more false true c h = refl
      two_more false false c h = h

  -- a name runs one pattern at most
  one_played : (macros procedures : List ℕ) (m : Meaning) → length (played_as blocks macros procedures m) ≤ 1
  one_played macros procedures Unknown = omega arith
  one_played macros procedures Block = omega arith
  one_played macros procedures (APattern k) = of_pattern (slice_get blocks.patterns k)
    where
      of_pattern : (o : Option Pattern) → length (pattern_played macros procedures o) ≤ 1
      of_pattern None = omega arith
      of_pattern (Some p) = omega arith
  one_played macros procedures (ABurst k) = omega arith

  -- the name of a pattern runs it
  runs_one : (macros procedures : List ℕ) (i : BurstItem) (k : ℕ) → meaning_of blocks i ≡ APattern k
      → length (played_as blocks macros procedures (APattern k)) ≡ 1
  runs_one macros procedures i k is =
      let what : Means blocks i (APattern k) = subst (Means blocks i) is (means blocks i) in
      let p = slice_get-there blocks.patterns k what.2 in
      ap (λ o. length (pattern_played macros procedures o)) p.1

  -- the walk goes on behind a name
  module _ (ran : List Played) (marks : List Mark) (f : Frame) (fs : List Frame) (s : Step) (ran' : List Played)
      (h : Plays blocks (length ran) marks (f ∷ fs)) (n : IsNext blocks marks f s)
      (more : ran' ≡ ran ++ played_as blocks s.macros.now s.procedures.now s.meaning) where
    abbrev run_now : List Played
    run_now = played_as blocks s.macros.now s.procedures.now s.meaning

    has_played : (ms : List Met) (marks' : List Mark) (fs' : List Frame)
        → ahead_in blocks (f ∷ fs) ≡ met_by s ∷ (ms ++ ahead_in blocks fs')
        → AllByRecursion (λ (m : Met). played_at blocks m ≡ []) ms → length fs' ≤ suc (suc (length fs))
        → (NoneBack blocks (ahead_in blocks fs') → Plays blocks (length ran') marks' fs')
        → HasPlayed blocks ran (f ∷ fs) ran' marks' fs'
    has_played ms marks' fs' is quiet most plays = record {
      plays = plays (none-parts blocks ms (ahead_in blocks fs')
          (or_else-none (cyclic_fault (mention_of blocks (met_by s)))
          (first_in cyclic_fault (map (mention_of blocks) (ms ++ ahead_in blocks fs')))
          (sym (ap (λ xs. first_in cyclic_fault (map (mention_of blocks) xs)) is) ∙ h.forward)).1).1;
      same = ap (λ xs. ran ++ flat_map (played_at blocks) xs) is
          ∙ ap (λ xs. ran ++ (xs ++ flat_map (played_at blocks) (ms ++ ahead_in blocks fs'))) of_name
          ∙ ap (λ xs. ran ++ (run_now ++ xs)) (flat_map-append (played_at blocks) ms (ahead_in blocks fs')
          ∙ ap (λ xs. xs ++ flat_map (played_at blocks) (ahead_in blocks fs')) (none-played ms quiet))
          ∙ sym (append_assoc ran run_now (flat_map (played_at blocks) (ahead_in blocks fs')))
          ∙ ap (λ xs. xs ++ flat_map (played_at blocks) (ahead_in blocks fs')) (sym more);
      one_more =
          let all : length ran' ≡ length ran + length run_now = ap length more ∙ length-append ran run_now in
          let one = one_played s.macros.now s.procedures.now s.meaning in omega (arith, all, one);
      less = less-next blocks f fs fs' (met_by s) ms is most;
    }
      where
        of_name : played_at blocks (met_by s) ≡ played_as blocks s.macros.now s.procedures.now s.meaning
        of_name = played-as blocks (met_by s) ∙ ap (played_as blocks s.macros.now s.procedures.now) (sym n.means)

    -- where the name runs nothing, as many have run as before
    as_many : played_as blocks s.macros.now s.procedures.now s.meaning ≡ [] → length ran ≡ length ran'
    as_many none =
        let all : length ran' ≡ length ran + length run_now = ap length more ∙ length-append ran run_now in
        let no_more : length run_now ≡ 0 = ap length none in omega (arith, all, no_more)

    passed : (ms : List Met) → inside blocks f fs s ≡ ms → AllByRecursion (λ (m : Met). played_at blocks m ≡ []) ms
        → AreQuiet blocks (length ran') (length ran') h.silent (moved_on f ∷ fs)
        → HasPlayed blocks ran (f ∷ fs) ran' marks (moved_on f ∷ fs)
    passed ms is none quiet =
        has_played ms marks (moved_on f ∷ fs)
        (ahead-next blocks marks f fs s h.stands n ∙ ap (λ xs. met_by s ∷ (xs ++ ahead_in blocks (moved_on f ∷ fs))) is) none (omega arith)
        (λ forward. play-pass (length ran) (length ran') marks f fs h quiet forward)

    passed-silent : (ms : List Met) → inside blocks f fs s ≡ ms → AllByRecursion (λ (m : Met). played_at blocks m ≡ []) ms
        → IsSilent h.silent (meaning_of blocks s.item.now) → played_as blocks s.macros.now s.procedures.now s.meaning ≡ []
        → HasPlayed blocks ran (f ∷ fs) ran' marks (moved_on f ∷ fs)
    passed-silent ms is none silent nothing =
        passed ms is none
        (subst (λ (c : ℕ). AreQuiet blocks c c h.silent (moved_on f ∷ fs)) (as_many nothing)
        (quiet-silent (length ran) h.silent f fs s.item.now h.quiet n.there silent))

    nowhere : (m : Meaning) → s.meaning ≡ m → NamesNone blocks f fs s → HasPlayed blocks ran (f ∷ fs) ran' marks (moved_on f ∷ fs)
    nowhere Unknown is w =
        passed-silent [] w.none_inside tt (subst (IsSilent h.silent) (sym is ∙ n.means) tt) (ap (played_as blocks s.macros.now s.procedures.now) is)
    nowhere Block is w =
        passed-silent [] w.none_inside tt (subst (IsSilent h.silent) (sym is ∙ n.means) tt) (ap (played_as blocks s.macros.now s.procedures.now) is)
    nowhere (APattern k) is w =
        let all : length ran' ≡ length ran + length run_now = ap length more ∙ length-append ran run_now in
        let one : length run_now ≡ 1 =
        ap (λ m. length (played_as blocks s.macros.now s.procedures.now m)) is
        ∙ runs_one s.macros.now s.procedures.now s.item.now k (sym n.means ∙ is) in
        let count : length ran + 1 ≡ length ran' = omega (arith, all, one) in
        passed [] w.none_inside tt
        (subst (λ (c : ℕ). AreQuiet blocks c c h.silent (moved_on f ∷ fs)) count (quiet-played (length ran) h.silent f fs h.quiet))
    nowhere (ABurst k) is w = absurd (w.no_burst k (sym n.means ∙ is))

    of_burst : (k : ℕ) → meaning_of blocks s.item.now ≡ ABurst k → played_as blocks s.macros.now s.procedures.now s.meaning ≡ []
    of_burst k is = ap (played_as blocks s.macros.now s.procedures.now) (n.means ∙ is)

    forward-here : s.leads_back ≡ false
    forward-here =
        not_refused s.leads_back (fault_at (burst_place s.burst.now s.item.now.line) Cyclic)
        (or_else-none (cyclic_fault (mention_of blocks (met_by s)))
        (first_in cyclic_fault (map (mention_of blocks) (inside blocks f fs s ++ ahead_in blocks (moved_on f ∷ fs))))
        (sym (ap (λ xs. first_in cyclic_fault (map (mention_of blocks) xs)) (ahead-next blocks marks f fs s h.stands n)) ∙ h.forward)).0

    into : (k : ℕ) → GoesInto blocks marks f fs s k → (g : Frame) → IsOpened blocks k (length ran') s.macros.now s.procedures.now g
        → HasPlayed blocks ran (f ∷ fs) ran' (slice_set marks k Open) (g ∷ moved_on f ∷ fs)
    into k w g is =
        let numbered = opened-numbered blocks k (length ran') s.macros.now s.procedures.now g w.burst is w.numbered in
        let count = as_many (of_burst k w.means_it) in
        has_played [] (slice_set marks k Open) (g ∷ moved_on f ∷ fs)
        (into-ahead blocks marks f fs s k g (length ran') h.stands n w is) tt (omega arith)
        (λ forward. subst (λ (m : ℕ). Plays blocks m (slice_set marks k Open) (g ∷ moved_on f ∷ fs)) count
        (subst (λ (m : ℕ). Plays blocks (length ran) (slice_set marks m Open) (g ∷ moved_on f ∷ fs)) is.numbered
        (play-open (length ran) marks f g fs s.item.now h n.there (w.means_it ∙ ap ABurst (sym is.numbered)) numbered.0 is.next
        (is.begun_at ∙ sym count) (ap (λ m. is_fresh (mark_at marks m)) is.numbered ∙ w.is_fresh_one) forward)))

    by_way : (target : Option ℕ) (marks' : List Mark) (fs' : List Frame) → Ways blocks marks f fs s target
        → PassesIn blocks target f s (length ran') marks fs marks' fs' → HasPlayed blocks ran (f ∷ fs) ran' marks' fs'
    by_way None marks' fs' (inl w) p = rw p.0 (rw p.1 (passed-silent
        (met_within blocks (length blocks.bursts - suc (length fs)) (names_of (f ∷ fs)) f.macros.now f.procedures.now w.burst) w.all_inside
        (runs-none (length ran) marks (f ∷ fs) h (length blocks.bursts - suc (length fs)) (names_of (f ∷ fs)) f.macros.now f.procedures.now
        w.number w.burst w.numbered w.is_closed_one)
        (subst (IsSilent h.silent) (sym w.means_it) (sym (h.are_closed w.number) ∙ w.is_closed_one)) (of_burst w.number w.means_it)))
    by_way None marks' fs' (inr (inl w)) p = absurd (true≢false (sym w.back ∙ forward-here))
    by_way None marks' fs' (inr (inr w)) p = rw p.0 (rw p.1 (nowhere s.meaning refl w))
    by_way (Some k) marks' fs' w p = rw p.2 (rw p.3 (into k w p.0 p.1))

  -- the walk goes on behind a name, the pattern of which has run
  pub play-goes : (ran : List Played) (marks : List Mark) (f : Frame) (frames : List Frame) (s : Step) (ran' : List Played)
      (marks' : List Mark) (frames' : List Frame) (count count' : ℕ) → count ≡ length ran → count' ≡ length ran'
      → Plays blocks count marks (f ∷ reverse frames) → IsNext blocks marks f s
      → ran' ≡ ran ++ played_as blocks s.macros.now s.procedures.now s.meaning
      → Passes blocks (fresh_of marks s.meaning) f s count' marks frames marks' frames'
      → HasPlayed blocks ran (f ∷ reverse frames) ran' marks' (reverse frames')
  play-goes ran marks f frames s ran' marks' frames' count count' counted counted' h n more p =
      by_way ran marks f (reverse frames) s ran' (subst (λ (c : ℕ). Plays blocks c marks (f ∷ reverse frames)) counted h) n more
      (fresh_of marks s.meaning) marks' (reverse frames') (ways blocks marks f (reverse frames) s n)
      (subst (λ (c : ℕ). PassesIn blocks (fresh_of marks s.meaning) f s c marks (reverse frames) marks' (reverse frames')) counted'
      (passes-in blocks (fresh_of marks s.meaning) f s count' marks frames marks' frames' p))

-- the same, with the innermost burst taken off, and of the blocks by another name
pub played-on : (bs blocks : Blocks) (ran ran' : List Played) (frames before : List Frame) (f : Frame) (marks' : List Mark)
    (fs' : List Frame) → bs ≡ blocks → before ≡ frames ++ f ∷ [] → HasPlayed bs ran (f ∷ reverse frames) ran' marks' fs'
    → HasPlayed blocks ran (reverse before) ran' marks' fs'
played-on bs blocks ran ran' frames before f marks' fs' is popped h =
    subst (λ (x : Blocks). HasPlayed x ran (reverse before) ran' marks' fs') is
    (subst (λ (fs : List Frame). HasPlayed bs ran fs ran' marks' fs') (sym (innermost-first before frames f popped)) h)

-- where more have run than may run, there are too many
pub beyond : (ran rest all : List Played) → ran ++ rest ≡ all → 4096 < length ran → is_few all ≡ false
beyond ran rest all is many =
    let both : length all ≡ length ran + length rest = sym (ap length is) ∙ length-append ran rest in
    lt-leb (length all) 4096 (omega (arith, both, many))

-- where nothing is open, all have run
pub all_ran : (blocks : Blocks) (patterns : List PlayedPattern) (frames : List Frame) (all : List Played) → length frames ≡ 0
    → length patterns ≤ 4096 → played_in patterns ++ flat_map (played_at blocks) (ahead_in blocks (reverse frames)) ≡ all
    → (is_few all ≡ true) × (played_in patterns ≡ all)
all_ran blocks patterns [] all none few is =
    let same : played_in patterns ≡ all = sym (append-nil (played_in patterns)) ∙ is in
    let count : length all ≡ length patterns = sym (ap length same) ∙ length-map patterns played_by in
    (le-leb (length all) 4096 (omega (arith, count, few)), same)
all_ran blocks patterns (f ∷ frames) all none few is = absurd (omega (arith, none))
