-- The walk on which names that lead back are looked for.
use Rattle.std.proofs.Common.{◌≡◌, ℕ, suc, ◌<◌, ◌≤◌, ◌-◌, ◌==◌, Bool, true, false, List, [], ◌∷◌, length, Option, Some, None, take, sym, ap, ◌∙◌, subst, refl, true≢false, reverse}
use Rattle.std.specs.Prelude.{Err, ◌||◌, slice_get, slice_set}
use Rattle.std.specs.List.{AllByRecursion, list_any}
use Rattle.std.proofs.lemmas.Bool.{eqb-true, eq-eqb, ne_eqb, or_right}
use Rattle.std.proofs.lemmas.List.{length-set}
use Rattle.std.proofs.lemmas.Option.{same_Some}
use Rattle.stil_ast.specs.Data.Texts.{same, has_name}
use Rattle.stil_ast.specs.Faults.Found.{fault_at, refuse_if}
use Rattle.stil_ast.specs.Faults.BurstFaults.{burst_place, burst_for, is_round, cyclic_fault}
use Rattle.stil_ast.specs.declared.blocks.Blocks.{Blocks}
use Rattle.stil_ast.specs.declared.executive.Burst.{Burst}
use Rattle.stil_ast.specs.declared.executive.BurstItem.{BurstItem}
use Rattle.stil_ast.specs.declared.fault.StilKind.TheVariants.{Cyclic}
use Rattle.stil_ast.specs.Data.Refusal.{StilRefusal}
use Rattle.answers.specs.Answers.{Blames}
use Rattle.pattern_order.specs.Walk.{Met, met_within, mention_of, names_of}
use Rattle.pattern_order.specs.Numbers.{IsNumbered, meaning_of}
use Rattle.pattern_order.specs.Marks.{mark_at, is_fresh, is_open, is_closed, fresh_of, moved_on, IsNext, Passes, Stands}
use Rattle.pattern_order.specs.Walks.{IsAmong, AreInOrder, NameInner, Forwards, HasGoneOn, GoesOn}
use Rattle.pattern_order.specs.declared.meaning.Meaning.{Meaning}
use Rattle.pattern_order.specs.declared.meaning.Meaning.TheVariants.{Unknown, Block, Pattern as APattern, Burst as ABurst}
use Rattle.pattern_order.specs.declared.walk.Frame.{Frame}
use Rattle.pattern_order.specs.declared.walk.Mark.{Mark}
use Rattle.pattern_order.specs.declared.walk.Mark.TheVariants.{Fresh, Open, Closed}
use Rattle.pattern_order.specs.declared.walk.Step.{Step}
use Rattle.pattern_order.proofs.MeaningLemmas.{same-numbers}
use Rattle.pattern_order.proofs.StandLemmas.{mark-test, within, innermost, round-open, stands-close, stands-move, stands-open}
use Rattle.pattern_order.proofs.AheadLemmas.{goes-refused, fresh-shut}
use Rattle.pattern_order.proofs.GoLemmas.{Keeps, closes, goes}
use Rattle.pattern_order.proofs.SkipLemmas.{StaysIn, all-met, all_mono, all_next, all_whole, all_none, leads-to}

-- a number is one of these
abbrev among : ℕ → List ℕ → Bool
among number numbers = list_any (λ n. n == number) numbers

-- of more numbers
among-more : (old new : List ℕ) → ((n : ℕ) → among n old ≡ true → among n new ≡ true) → (m : Meaning) → IsAmong old m
    → IsAmong new m
among-more old new more Unknown h = tt
among-more old new more Block h = tt
among-more old new more (APattern p) h = tt
among-more old new more (ABurst b) h = more b h

pub open-shut : (m : Mark) → is_open m ≡ true → is_closed m ≡ false
open-shut Fresh h = refl
open-shut Open h = refl
open-shut Closed h = absurd (true≢false (sym h))

pub fresh-unclosed : (m : Mark) → is_fresh m ≡ true → is_closed m ≡ false
fresh-unclosed Fresh h = refl
fresh-unclosed Open h = absurd (true≢false (sym h))
fresh-unclosed Closed h = absurd (true≢false (sym h))

pub closed-unopen : (m : Mark) → is_closed m ≡ true → is_open m ≡ false
closed-unopen Fresh h = refl
closed-unopen Open h = absurd (true≢false (sym h))
closed-unopen Closed h = refl

-- closed marks, where one was closed
pub closed-more : (marks : List Mark) (closed : List ℕ) (k : ℕ) → k < length marks
    → ((j : ℕ) → is_closed (mark_at marks j) ≡ list_any (λ n. n == j) closed)
    → (j : ℕ) → is_closed (mark_at (slice_set marks k Closed) j) ≡ list_any (λ n. n == j) (k ∷ closed)
closed-more marks closed k lt h j =
    mark-test marks k j Closed is_closed (k == j || list_any (λ n. n == j) closed) lt
    (λ t. sym (ap (λ b. b || list_any (λ n. n == j) closed) t))
    (λ e. h j ∙ sym (ap (λ b. b || list_any (λ n. n == j) closed) e))

-- closed marks, where one was set to another kind that was not closed
pub closed-same : (marks : List Mark) (closed : List ℕ) (k : ℕ) (m : Mark) → k < length marks → is_closed m ≡ false
    → is_closed (mark_at marks k) ≡ false → ((j : ℕ) → is_closed (mark_at marks j) ≡ list_any (λ n. n == j) closed)
    → (j : ℕ) → is_closed (mark_at (slice_set marks k m) j) ≡ list_any (λ n. n == j) closed
closed-same marks closed k m lt is was h j =
    mark-test marks k j m is_closed (list_any (λ n. n == j) closed) lt
    (λ t. is ∙ sym was ∙ ap (λ n. is_closed (mark_at marks n)) (eqb-true k j t) ∙ h j) (λ e. h j)

module _ (blocks : Blocks) where
  -- open bursts inside which more is closed or open
  inner-more : (old new : List ℕ) → ((n : ℕ) → among n old ≡ true → among n new ≡ true) → (fs : List Frame)
      → NameInner blocks old fs → NameInner blocks new fs
  inner-more old new more [] h = tt
  inner-more old new more (f ∷ fs) h = (
    all_mono (λ (i : BurstItem). among-more old new more (meaning_of blocks i)) (take f.next f.burst.now.items) h.0,
    inner-more (f.number ∷ old) (f.number ∷ new) (λ n e. one_more (f.number == n) (among n old) (among n new) (more n) e) fs h.1,
  )
    where
      one_more : (a b c : Bool) → (b ≡ true → c ≡ true) → (a || b) ≡ true → (a || c) ≡ true
      one_more true b c h e = refl
      one_more false b c h e = h e

  -- a burst that was closed, with those that were closed before it
  record IsClosedAt (order : List ℕ) (number : ℕ) : Type 0 where
    before : List ℕ
    alone : among number before ≡ false
    names : (b : Burst) → slice_get blocks.bursts number ≡ Some b
        → AllByRecursion (λ (i : BurstItem). IsAmong before (meaning_of blocks i)) b.items
    in_order : AreInOrder blocks before
    part : (n : ℕ) → among n before ≡ true → among n order ≡ true

  closed-at : (order : List ℕ) (number : ℕ) → AreInOrder blocks order → among number order ≡ true → IsClosedAt order number
  closed-at [] number h there = absurd (true≢false (sym there))
  closed-at (n ∷ order) number h there =
      by_first (n == number) refl (λ f. closed-at order number h.2 (sym (ap (λ b. b || among number order) f) ∙ there))
    where
      by_first : (b : Bool) → (n == number) ≡ b → ((n == number) ≡ false → IsClosedAt order number) → IsClosedAt (n ∷ order) number
      by_first true t deep = subst (IsClosedAt (n ∷ order)) (eqb-true n number t) (record {
        before = order;
        alone = h.0;
        names = h.1;
        in_order = h.2;
        part = λ k e. or_right (n == k) (among k order) e;
      })
      by_first false f deep = record {
        before = (deep f).before;
        alone = (deep f).alone;
        names = (deep f).names;
        in_order = (deep f).in_order;
        part = λ k e. or_right (n == k) (among k order) ((deep f).part k e);
      }

  -- a closed burst, with no closed burst round it
  record IsFinished (round : List (List ℕ)) (b : Burst) : Type 0 where
    number : ℕ
    numbered : IsNumbered blocks number b
    order : List ℕ
    in_order : AreInOrder blocks order
    there : among number order ≡ true
    outside : (k : ℕ) (c : Burst) → IsNumbered blocks k c → among k order ≡ true → has_name round c.name ≡ false

  abbrev NotBack : Met → Type 0
  NotBack m = cyclic_fault (mention_of blocks m) ≡ None

  module _ (round : List (List ℕ)) (b : Burst) (is : IsFinished round b) where
    at : IsClosedAt is.order is.number
    at = closed-at is.order is.number is.in_order is.there

    -- a burst that was closed before is not round a name in it
    earlier : (k : ℕ) (c : Burst) → IsNumbered blocks k c → among k (at).before ≡ true
        → has_name (b.name ∷ round) c.name ≡ false
    earlier k c numbered e =
        neither_round (same c.name b.name) (has_name round c.name)
        (same-numbers blocks is.number k b c is.numbered numbered
        ∙ ne_eqb is.number k (λ one. true≢false (sym e ∙ ap (λ n. among n (at).before) (sym one) ∙ (at).alone)))
        (is.outside k c numbered ((at).part k e))
      where
        neither_round : (x y : Bool) → x ≡ false → y ≡ false → (x || y) ≡ false
        neither_round x y h g = ap (λ z. z || y) h ∙ g

    stays : (i : BurstItem) → IsAmong (at).before (meaning_of blocks i) → StaysIn blocks NotBack IsFinished round b i
    stays i h = record {
      holds = λ macros procedures. ap (λ x. refuse_if x (fault_at (burst_place b i.line) Cyclic) None) (forward (burst_for blocks i) refl);
      leads = λ c named e.
          let to = leads-to blocks i c named in
          record {
            number = to.number;
            numbered = to.numbered;
            order = (at).before;
            in_order = (at).in_order;
            there = subst (IsAmong (at).before) to.means_it h;
            outside = λ k d numbered e. earlier k d numbered e;
          };
    }
      where
        forward : (o : Option Burst) → burst_for blocks i ≡ o → is_round (b.name ∷ round) (burst_for blocks i) ≡ false
        forward None e = ap (is_round (b.name ∷ round)) e
        forward (Some c) e =
            let to = leads-to blocks i c e in
            ap (is_round (b.name ∷ round)) e
            ∙ earlier to.number c to.numbered (subst (IsAmong (at).before) to.means_it h)

    all-stay : AllByRecursion (StaysIn blocks NotBack IsFinished round b) b.items
    all-stay = all_mono stays b.items ((at).names b is.numbered.there)

  -- nothing leads back in a closed burst
  finished-quiet : (marks : List Mark) (fs : List Frame) → Forwards blocks marks fs → (depth : ℕ) (macros procedures : List ℕ)
      (number : ℕ) (b : Burst) → IsNumbered blocks number b → is_closed (mark_at marks number) ≡ true
      → AllByRecursion (λ (m : Met). cyclic_fault (mention_of blocks m) ≡ None) (met_within blocks depth (names_of fs) macros procedures b)
  finished-quiet marks fs h depth macros procedures number b numbered shut =
      all-met blocks NotBack IsFinished all-stay depth (names_of fs) macros procedures b (record {
        number = number;
        numbered = numbered;
        order = h.closed;
        in_order = h.in_order;
        there = sym (h.are_closed number) ∙ shut;
        outside = λ k c of e. round-open blocks marks fs k c h.stands of
            ∙ closed-unopen (mark_at marks k) (h.are_closed k ∙ e);
      })

  -- behind the last name of a burst it is closed
  forward-close : (marks : List Mark) (f : Frame) (fs : List Frame) → Forwards blocks marks (f ∷ fs)
      → length f.burst.now.items ≤ f.next → Forwards blocks (slice_set marks f.number Closed) fs
  forward-close marks f fs h le = record {
    stands = stands-close blocks marks f fs Closed h.stands refl;
    closed = f.number ∷ h.closed;
    are_closed = closed-more marks h.closed f.number (within blocks marks f fs h.stands) h.are_closed;
    in_order = (
      sym (h.are_closed f.number) ∙ open-shut (mark_at marks f.number) (innermost blocks marks f fs h.stands),
      names,
      h.in_order,
    );
    name_inner = h.name_inner.1;
  }
    where
      names : (b : Burst) → slice_get blocks.bursts f.number ≡ Some b
          → AllByRecursion (λ (i : BurstItem). IsAmong h.closed (meaning_of blocks i)) b.items
      names b there =
          subst (λ (c : Burst). AllByRecursion (λ (i : BurstItem). IsAmong h.closed (meaning_of blocks i)) c.items)
          (same_Some f.burst.now b (sym h.stands.numbered.0.there ∙ there))
          (all_whole (λ (i : BurstItem). IsAmong h.closed (meaning_of blocks i)) f.burst.now.items f.next le h.name_inner.0)

  -- a name is passed
  forward-pass : (marks : List Mark) (f : Frame) (fs : List Frame) (i : BurstItem) (h : Forwards blocks marks (f ∷ fs))
      → slice_get f.burst.now.items f.next ≡ Some i → IsAmong h.closed (meaning_of blocks i)
      → Forwards blocks marks (moved_on f ∷ fs)
  forward-pass marks f fs i h at is = record {
    stands = stands-move blocks marks f fs h.stands;
    closed = h.closed;
    are_closed = h.are_closed;
    in_order = h.in_order;
    name_inner = (
      all_next (λ (j : BurstItem). IsAmong h.closed (meaning_of blocks j)) f.burst.now.items f.next i at h.name_inner.0 is,
      h.name_inner.1,
    );
  }

  -- a burst that was never begun is opened
  forward-open : (marks : List Mark) (f g : Frame) (fs : List Frame) (i : BurstItem) → Forwards blocks marks (f ∷ fs)
      → slice_get f.burst.now.items f.next ≡ Some i → meaning_of blocks i ≡ ABurst g.number
      → IsNumbered blocks g.number g.burst.now → g.next ≡ 0 → is_fresh (mark_at marks g.number) ≡ true
      → Forwards blocks (slice_set marks g.number Open) (g ∷ moved_on f ∷ fs)
  forward-open marks f g fs i h at is numbered next fresh = record {
    stands = opens;
    closed = h.closed;
    are_closed = closed-same marks h.closed g.number Open lt refl (fresh-unclosed (mark_at marks g.number) fresh) h.are_closed;
    in_order = h.in_order;
    name_inner = (
      all_none (λ (j : BurstItem). IsAmong h.closed (meaning_of blocks j)) g.burst.now.items g.next next,
      (
        all_next (λ (j : BurstItem). IsAmong (g.number ∷ h.closed) (meaning_of blocks j)) f.burst.now.items f.next i at
            (all_mono (λ (j : BurstItem). among-more h.closed (g.number ∷ h.closed) (λ n e. or_right (g.number == n) (among n h.closed) e)
            (meaning_of blocks j)) (take f.next f.burst.now.items) h.name_inner.0)
            (subst (IsAmong (g.number ∷ h.closed)) (sym is)
            (ap (λ b. b || among g.number h.closed) (eq-eqb g.number g.number refl))),
        inner-more (f.number ∷ h.closed) (f.number ∷ g.number ∷ h.closed)
            (λ n e. two_more (f.number == n) (g.number == n) (among n h.closed) e) fs h.name_inner.1,
      ),
    );
  }
    where
      opens : Stands blocks (slice_set marks g.number Open) (g ∷ moved_on f ∷ fs)
      opens = stands-open blocks marks g (moved_on f ∷ fs) (stands-move blocks marks f fs h.stands) numbered
          (fresh-shut (mark_at marks g.number) fresh)

      lt : g.number < length marks
      lt = subst (λ (n : ℕ). g.number < n) (length-set marks g.number Open)
          (within blocks (slice_set marks g.number Open) g (moved_on f ∷ fs) opens)

      two_more : (a b c : Bool) → (a || c) ≡ true → (a || (b || c)) ≡ true
      two_more true b c h = refl
      two_more false true c h = refl
      two_more false false c h = h

  -- the walk goes on behind the last name of a burst
  pub forward-closes : (marks : List Mark) (f : Frame) (frames : List Frame) (marks' : List Mark) (frames' : List Frame)
      → Forwards blocks marks (f ∷ reverse frames) → length f.burst.now.items ≤ f.next
      → marks' ≡ slice_set marks f.number Closed → frames' ≡ frames
      → HasGoneOn cyclic_fault (Forwards blocks) blocks (f ∷ reverse frames) marks' (reverse frames')
  forward-closes marks f frames marks' frames' h le is same =
      closes blocks cyclic_fault (Forwards blocks) f frames marks' frames' le same (rw is (forward-close marks f (reverse frames) h le))

  -- the walk goes on behind a name that doesn't lead back
  pub forward-goes : (marks : List Mark) (f : Frame) (frames : List Frame) (s : Step) (marks' : List Mark) (frames' : List Frame)
      → Forwards blocks marks (f ∷ reverse frames) → IsNext blocks marks f s → s.leads_back ≡ false
      → Passes blocks (fresh_of marks s.meaning) f s 0 marks frames marks' frames'
      → HasGoneOn cyclic_fault (Forwards blocks) blocks (f ∷ reverse frames) marks' (reverse frames')
  forward-goes marks f frames s marks' frames' h n forward p =
      goes blocks cyclic_fault (Forwards blocks) marks f frames s marks' frames' h.stands n
      (ap (λ x. refuse_if x (fault_at (burst_place s.burst.now s.item.now.line) Cyclic) None) forward) keeps p
    where
      none_named : (m : Meaning) → meaning_of blocks s.item.now ≡ m → ((k : ℕ) → meaning_of blocks s.item.now ≡ ABurst k → ⊥)
          → IsAmong h.closed m
      none_named Unknown is not = tt
      none_named Block is not = tt
      none_named (APattern p) is not = tt
      none_named (ABurst b) is not = absurd (not b is)

      keeps : Keeps blocks cyclic_fault (Forwards blocks) marks f (reverse frames) s
      keeps = record {
        passing = λ w. forward-pass marks f (reverse frames) s.item.now h n.there
            (subst (IsAmong h.closed) (sym w.means_it) (sym (h.are_closed w.number) ∙ w.is_closed_one));
        quiet = λ w. finished-quiet marks (f ∷ reverse frames) h (length blocks.bursts - suc (length (reverse frames))) f.macros.now
            f.procedures.now w.number w.burst w.numbered w.is_closed_one;
        back = λ w. absurd (true≢false (sym w.back ∙ forward));
        nowhere = λ w. forward-pass marks f (reverse frames) s.item.now h n.there
            (none_named (meaning_of blocks s.item.now) refl w.no_burst);
        entering = λ k w g is next numbered.
            subst (λ (m : ℕ). Forwards blocks (slice_set marks m Open) (g ∷ moved_on f ∷ reverse frames)) is
            (forward-open marks f g (reverse frames) s.item.now h n.there (w.means_it ∙ ap ABurst (sym is)) numbered next
            (ap (λ m. is_fresh (mark_at marks m)) is ∙ w.is_fresh_one));
      }

  -- a name that leads back has the first fault
  pub forward-refused : (marks : List Mark) (f : Frame) (fs : List Frame) (s : Step) (marks' : List Mark) (fs' : List Frame) (r : StilRefusal)
      → Forwards blocks marks (f ∷ fs) → IsNext blocks marks f s
      → Blames (refuse_if s.leads_back (fault_at (burst_place s.burst.now s.item.now.line) Cyclic) None) r
      → GoesOn cyclic_fault (Forwards blocks) blocks (f ∷ fs) (Err r) marks' fs'
  forward-refused marks f fs s marks' fs' r h n t =
      goes-refused blocks cyclic_fault (Forwards blocks) marks f fs s marks' fs'
      (refuse_if s.leads_back (fault_at (burst_place s.burst.now s.item.now.line) Cyclic) None) r h.stands n refl t
