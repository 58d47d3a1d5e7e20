-- The walk on which unknown names are looked for.
use Rattle.std.proofs.Common.{◌≡◌, ℕ, suc, ◌<◌, ◌≤◌, ◌==◌, Bool, true, false, List, ◌∷◌, length, ◌-◌, ◌⊎◌, Some, None, take, sym, ap, ◌∙◌, subst, inl, inr, refl, true≢false, reverse}
use Rattle.std.specs.Prelude.{Err, slice_get, slice_set}
use Rattle.std.specs.List.{AllByRecursion}
use Rattle.std.proofs.lemmas.Bool.{cases_Bool, eqb-true, or_right}
use Rattle.std.proofs.lemmas.List.{length-set}
use Rattle.std.proofs.lemmas.Option.{none-some, same_Some}
use Rattle.stil_ast.specs.Data.Texts.{same, has_name}
use Rattle.stil_ast.specs.Faults.Found.{fault_at, unless}
use Rattle.stil_ast.specs.Faults.BurstFaults.{burst_place, burst_for, is_round, unknown_fault}
use Rattle.stil_ast.specs.declared.blocks.Blocks.{Blocks}
use Rattle.stil_ast.specs.declared.executive.Burst.{Burst}
use Rattle.stil_ast.specs.declared.executive.BurstItem.{BurstItem}
use Rattle.stil_ast.specs.declared.fault.StilFault.{StilFault}
use Rattle.stil_ast.specs.declared.fault.StilKind.TheVariants.{UnknownName}
use Rattle.stil_ast.specs.Data.Refusal.{StilRefusal}
use Rattle.answers.specs.Answers.{Blames}
use Rattle.pattern_order.specs.Walk.{Met, met_within, mention_of, names_of, met_by}
use Rattle.pattern_order.specs.Numbers.{IsNumbered, meaning_of}
use Rattle.pattern_order.specs.Marks.{mark_at, is_fresh, is_open, is_closed, fresh_of, moved_on, IsNext, Passes, Stands}
use Rattle.pattern_order.specs.Walks.{is_known, IsBegun, Knows, HasGoneOn, GoesOn}
use Rattle.pattern_order.specs.declared.meaning.Meaning.{Meaning}
use Rattle.pattern_order.specs.declared.meaning.Meaning.TheVariants.{Unknown, Block, Pattern as APattern, Burst as ABurst}
use Rattle.pattern_order.specs.declared.walk.Frame.{Frame}
use Rattle.pattern_order.specs.declared.walk.Mark.{Mark}
use Rattle.pattern_order.specs.declared.walk.Mark.TheVariants.{Fresh, Open, Closed}
use Rattle.pattern_order.specs.declared.walk.Step.{Step}
use Rattle.pattern_order.proofs.MeaningLemmas.{unknown-as}
use Rattle.pattern_order.proofs.StandLemmas.{mark-same, mark-other, mark-test, within, round-open, stands-close, stands-move, stands-open}
use Rattle.pattern_order.proofs.AheadLemmas.{fresh-shut, goes-refused}
use Rattle.pattern_order.proofs.GoLemmas.{Keeps, closes, goes}
use Rattle.pattern_order.proofs.SkipLemmas.{StaysIn, all-met, all_mono, all_next, all_whole, all_none, leads-to}

-- a closed mark is not that of a burst that was never begun, nor is an open one
closed-begun : (m : Mark) → is_closed m ≡ true → is_fresh m ≡ false
closed-begun Fresh h = absurd (true≢false (sym h))
closed-begun Open h = refl
closed-begun Closed h = refl

open-begun : (m : Mark) → is_open m ≡ true → is_fresh m ≡ false
open-begun Fresh h = absurd (true≢false (sym h))
open-begun Open h = refl
open-begun Closed h = refl

begun-closed : (m : Mark) → is_fresh m ≡ false → is_open m ≡ false → is_closed m ≡ true
begun-closed Fresh h g = absurd (true≢false h)
begun-closed Open h g = absurd (true≢false g)
begun-closed Closed h g = refl

-- what was begun stays so
begun-later : (marks marks' : List Mark)
    → ((k : ℕ) → is_fresh (mark_at marks k) ≡ false → is_fresh (mark_at marks' k) ≡ false)
    → (m : Meaning) → IsBegun marks m → IsBegun marks' m
begun-later marks marks' later Unknown h = h
begun-later marks marks' later Block h = h
begun-later marks marks' later (APattern p) h = h
begun-later marks marks' later (ABurst k) h = later k h

begun-known : (marks : List Mark) (m : Meaning) → IsBegun marks m → is_known m ≡ true
begun-known marks Unknown h = absurd h
begun-known marks Block h = refl
begun-known marks (APattern p) h = refl
begun-known marks (ABurst k) h = refl

module _ (blocks : Blocks) where
  module _ (marks : List Mark) where
    -- a closed burst, with all open bursts round it
    pub record IsPassed (round : List (List ℕ)) (b : Burst) : Type 0 where
      pub number : ℕ
      pub numbered : IsNumbered blocks number b
      pub is_shut : is_closed (mark_at marks number) ≡ true
      pub round_open : (k : ℕ) (c : Burst) → IsNumbered blocks k c → is_open (mark_at marks k) ≡ true → has_name round c.name ≡ true

    abbrev pub Quiet : Met → Type 0
    Quiet m = unknown_fault (mention_of blocks m) ≡ None

    stays : (round : List (List ℕ)) (b : Burst) → IsPassed round b → (i : BurstItem) → IsBegun marks (meaning_of blocks i)
        → StaysIn blocks Quiet IsPassed round b i
    stays round b is i begun = record {
      holds = λ macros procedures.
          unknown-as blocks (record {
            burst = b;
            item = i;
            macros = macros;
            procedures = procedures;
            leads_back = is_round (b.name ∷ round) (burst_for blocks i);
          })
          ∙ ap (λ k. unless k (fault_at (burst_place b i.line) UnknownName) None) (begun-known marks (meaning_of blocks i) begun);
      leads = λ c named forward.
          let to = leads-to blocks i c named in
          let began : is_fresh (mark_at marks to.number) ≡ false = subst (IsBegun marks) to.means_it begun in
          record {
            number = to.number;
            numbered = to.numbered;
            is_shut = begun-closed (mark_at marks to.number) began (shut (is_open (mark_at marks to.number)) refl
                (λ e. or_right (same c.name b.name) (has_name round c.name) (is.round_open to.number c to.numbered e))
                (sym (ap (is_round (b.name ∷ round)) named) ∙ forward));
            round_open = λ k d numbered e. or_right (same d.name b.name) (has_name round d.name) (is.round_open k d numbered e);
          };
    }
      where
        shut : (x : Bool) {y z : Bool} → y ≡ x → (y ≡ true → z ≡ true) → z ≡ false → y ≡ false
        shut true is h e = absurd (true≢false (sym (h is) ∙ e))
        shut false is h e = is

    -- nothing is unknown in a closed burst
    passed-quiet : (fs : List Frame) → Knows blocks marks fs → (depth : ℕ) (macros procedures : List ℕ) (number : ℕ) (b : Burst)
        → IsNumbered blocks number b → is_closed (mark_at marks number) ≡ true
        → AllByRecursion Quiet (met_within blocks depth (names_of fs) macros procedures b)
    passed-quiet fs h depth macros procedures number b numbered shut =
        all-met blocks Quiet IsPassed
        (λ round c is. all_mono (stays round c is) c.items (h.of_closed is.number c is.numbered.there is.is_shut))
        depth (names_of fs) macros procedures b (record {
          number = number;
          numbered = numbered;
          is_shut = shut;
          round_open = λ k c of e. round-open blocks marks fs k c h.stands of ∙ e;
        })

  -- the names of open bursts stay begun
  frames-later : (marks marks' : List Mark)
      → ((k : ℕ) → is_fresh (mark_at marks k) ≡ false → is_fresh (mark_at marks' k) ≡ false) → (fs : List Frame)
      → AllByRecursion (λ (f : Frame). AllByRecursion (λ (i : BurstItem). IsBegun marks (meaning_of blocks i)) (take f.next f.burst.now.items)) fs
      → AllByRecursion (λ (f : Frame). AllByRecursion (λ (i : BurstItem). IsBegun marks' (meaning_of blocks i)) (take f.next f.burst.now.items)) fs
  frames-later marks marks' later fs h =
      all_mono (λ (f : Frame) g. all_mono (λ (i : BurstItem). begun-later marks marks' later (meaning_of blocks i)) (take f.next f.burst.now.items) g) fs h

  -- behind the last name of a burst it is closed
  know-close : (marks : List Mark) (f : Frame) (fs : List Frame) → Knows blocks marks (f ∷ fs)
      → length f.burst.now.items ≤ f.next → Knows blocks (slice_set marks f.number Closed) fs
  know-close marks f fs h le = record {
    stands = stands-close blocks marks f fs Closed h.stands refl;
    of_closed = λ k b there shut.
        all_mono (λ (i : BurstItem). begun-later marks (slice_set marks f.number Closed) later (meaning_of blocks i)) b.items
        (of_one k b there (cases_Bool (f.number == k)) shut);
    of_open = frames-later marks (slice_set marks f.number Closed) later fs h.of_open.1;
  }
    where
      later : (k : ℕ) → is_fresh (mark_at marks k) ≡ false → is_fresh (mark_at (slice_set marks f.number Closed) k) ≡ false
      later k e = mark-test marks f.number k Closed is_fresh false (within blocks marks f fs h.stands) (λ t. refl) (λ n. e)

      of_one : (k : ℕ) (b : Burst) → slice_get blocks.bursts k ≡ Some b
          → ((f.number == k) ≡ true) ⊎ ((f.number == k) ≡ false)
          → is_closed (mark_at (slice_set marks f.number Closed) k) ≡ true
          → AllByRecursion (λ (i : BurstItem). IsBegun marks (meaning_of blocks i)) b.items
      of_one k b there (inl t) shut =
          let same : f.burst.now ≡ b =
          same_Some f.burst.now b (sym h.stands.numbered.0.there ∙ ap (slice_get blocks.bursts) (eqb-true f.number k t) ∙ there) in
          subst (λ (c : Burst). AllByRecursion (λ (i : BurstItem). IsBegun marks (meaning_of blocks i)) c.items) same
          (all_whole (λ (i : BurstItem). IsBegun marks (meaning_of blocks i)) f.burst.now.items f.next le h.of_open.0)
      of_one k b there (inr e) shut =
          h.of_closed k b there (sym (ap is_closed (mark-other marks f.number k Closed e)) ∙ shut)

  -- a name is passed
  know-pass : (marks : List Mark) (f : Frame) (fs : List Frame) (i : BurstItem) → Knows blocks marks (f ∷ fs)
      → slice_get f.burst.now.items f.next ≡ Some i → IsBegun marks (meaning_of blocks i)
      → Knows blocks marks (moved_on f ∷ fs)
  know-pass marks f fs i h at begun = record {
    stands = stands-move blocks marks f fs h.stands;
    of_closed = h.of_closed;
    of_open = (
      all_next (λ (j : BurstItem). IsBegun marks (meaning_of blocks j)) f.burst.now.items f.next i at h.of_open.0 begun,
      h.of_open.1,
    );
  }

  -- a burst that was never begun is opened
  know-open : (marks : List Mark) (f g : Frame) (fs : List Frame) (i : BurstItem) → Knows blocks marks (f ∷ fs)
      → slice_get f.burst.now.items f.next ≡ Some i → meaning_of blocks i ≡ ABurst g.number
      → IsNumbered blocks g.number g.burst.now → g.next ≡ 0 → is_fresh (mark_at marks g.number) ≡ true
      → Knows blocks (slice_set marks g.number Open) (g ∷ moved_on f ∷ fs)
  know-open marks f g fs i h at is numbered next fresh = record {
    stands = opens;
    of_closed = λ k b there shut.
        all_mono (λ (j : BurstItem). begun-later marks marks' later (meaning_of blocks j)) b.items
        (h.of_closed k b there (before k (cases_Bool (g.number == k)) shut));
    of_open = (
      all_none (λ (j : BurstItem). IsBegun marks' (meaning_of blocks j)) g.burst.now.items g.next next,
      (
        all_next (λ (j : BurstItem). IsBegun marks' (meaning_of blocks j)) f.burst.now.items f.next i at
            (all_mono (λ (j : BurstItem). begun-later marks marks' later (meaning_of blocks j)) (take f.next f.burst.now.items) h.of_open.0)
            (subst (IsBegun marks') (sym is) (ap is_fresh (mark-same marks g.number Open lt))),
        frames-later marks marks' later fs h.of_open.1,
      ),
    );
  }
    where
      marks' : List Mark
      marks' = slice_set marks g.number Open

      opens : Stands blocks (slice_set marks g.number Open) (g ∷ moved_on f ∷ fs)
      opens = stands-open blocks marks g (moved_on f ∷ fs) (stands-move blocks marks f fs h.stands) numbered (fresh-shut (mark_at marks g.number) fresh)

      lt : g.number < length marks
      lt = subst (λ (n : ℕ). g.number < n) (length-set marks g.number Open) (within blocks (slice_set marks g.number Open) g (moved_on f ∷ fs) opens)

      later : (k : ℕ) → is_fresh (mark_at marks k) ≡ false → is_fresh (mark_at (slice_set marks g.number Open) k) ≡ false
      later k e = mark-test marks g.number k Open is_fresh false lt (λ t. refl) (λ n. e)

      before : (k : ℕ) → ((g.number == k) ≡ true) ⊎ ((g.number == k) ≡ false)
          → is_closed (mark_at (slice_set marks g.number Open) k) ≡ true → is_closed (mark_at marks k) ≡ true
      before k (inl t) shut =
          absurd (true≢false (sym shut ∙ mark-test marks g.number k Open is_closed false lt (λ t. refl)
          (λ n. absurd (true≢false (sym t ∙ n)))))
      before k (inr n) shut = sym (ap is_closed (mark-other marks g.number k Open n)) ∙ shut

  -- the walk goes on behind the last name of a burst
  pub know-closes : (marks : List Mark) (f : Frame) (frames : List Frame) (marks' : List Mark) (frames' : List Frame)
      → Knows blocks marks (f ∷ reverse frames) → length f.burst.now.items ≤ f.next
      → marks' ≡ slice_set marks f.number Closed → frames' ≡ frames
      → HasGoneOn unknown_fault (Knows blocks) blocks (f ∷ reverse frames) marks' (reverse frames')
  know-closes marks f frames marks' frames' h le is same =
      closes blocks unknown_fault (Knows blocks) f frames marks' frames' le same (rw is (know-close marks f (reverse frames) h le))

  -- the walk goes on behind a name that is known
  pub know-goes : (marks : List Mark) (f : Frame) (frames : List Frame) (s : Step) (marks' : List Mark) (frames' : List Frame)
      → Knows blocks marks (f ∷ reverse frames) → IsNext blocks marks f s → is_known s.meaning ≡ true
      → Passes blocks (fresh_of marks s.meaning) f s 0 marks frames marks' frames'
      → HasGoneOn unknown_fault (Knows blocks) blocks (f ∷ reverse frames) marks' (reverse frames')
  know-goes marks f frames s marks' frames' h n known p =
      goes blocks unknown_fault (Knows blocks) marks f frames s marks' frames' h.stands n none keeps p
    where
      none : unknown_fault (mention_of blocks (met_by s)) ≡ None
      none = unknown-as blocks (met_by s)
          ∙ ap (λ k. unless k (fault_at (burst_place s.burst.now s.item.now.line) UnknownName) None)
          (ap is_known (sym n.means) ∙ known)

      none_named : (m : Meaning) → meaning_of blocks s.item.now ≡ m → ((k : ℕ) → meaning_of blocks s.item.now ≡ ABurst k → ⊥)
          → is_known m ≡ true → IsBegun marks m
      none_named Unknown is not k = absurd (true≢false (sym k))
      none_named Block is not k = tt
      none_named (APattern p) is not k = tt
      none_named (ABurst b) is not k = absurd (not b is)

      keeps : Keeps blocks unknown_fault (Knows blocks) marks f (reverse frames) s
      keeps = record {
        passing = λ w. know-pass marks f (reverse frames) s.item.now h n.there
            (subst (IsBegun marks) (sym w.means_it) (closed-begun (mark_at marks w.number) w.is_closed_one));
        quiet = λ w. passed-quiet marks (f ∷ reverse frames) h (length blocks.bursts - suc (length (reverse frames))) f.macros.now
            f.procedures.now w.number w.burst w.numbered w.is_closed_one;
        back = λ w. know-pass marks f (reverse frames) s.item.now h n.there
            (subst (IsBegun marks) (sym w.means_it) (open-begun (mark_at marks w.number) w.is_open_one));
        nowhere = λ w. know-pass marks f (reverse frames) s.item.now h n.there
            (none_named (meaning_of blocks s.item.now) refl w.no_burst (ap is_known (sym n.means) ∙ known));
        entering = λ k w g is next numbered.
            subst (λ (m : ℕ). Knows blocks (slice_set marks m Open) (g ∷ moved_on f ∷ reverse frames)) is
            (know-open marks f g (reverse frames) s.item.now h n.there (w.means_it ∙ ap ABurst (sym is)) numbered next
            (ap (λ m. is_fresh (mark_at marks m)) is ∙ w.is_fresh_one));
      }

  -- a name that is unknown has the first fault
  pub know-refused : (marks : List Mark) (f : Frame) (fs : List Frame) (s : Step) (marks' : List Mark) (fs' : List Frame) (r : StilRefusal)
      → Knows blocks marks (f ∷ fs) → IsNext blocks marks f s
      → Blames (unless (is_known s.meaning) (fault_at (burst_place s.burst.now s.item.now.line) UnknownName) None) r
      → GoesOn unknown_fault (Knows blocks) blocks (f ∷ fs) (Err r) marks' fs'
  know-refused marks f fs s marks' fs' r h n t =
      goes-refused blocks unknown_fault (Knows blocks) marks f fs s marks' fs'
      (unless (is_known s.meaning) (fault_at (burst_place s.burst.now s.item.now.line) UnknownName) None) r h.stands n
      (unknown-as blocks (met_by s)
      ∙ ap (λ m. unless (is_known m) (fault_at (burst_place s.burst.now s.item.now.line) UnknownName) None) (sym n.means)) t

  -- what is not refused is known
  pub known-from : (m : Meaning) (fault : StilFault) → unless (is_known m) fault None ≡ None → is_known m ≡ true
  known-from m fault h = by_test (is_known m) h
    where
      by_test : (b : Bool) → unless b fault None ≡ None → b ≡ true
      by_test true h = refl
      by_test false h = absurd (none-some fault (sym h))
