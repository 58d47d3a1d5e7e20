-- What is still to be met, as a walk goes on.
use Rattle.std.proofs.Common.{◌≡◌, ℕ, suc, ◌<◌, ◌≤◌, ◌+◌, ◌-◌, true, false, List, [], ◌∷◌, ◌++◌, length, Option, Some, None, map, drop, sym, ap, ◌∙◌, subst, inl, inr, ◌⊎◌, refl, arith, true≢false, append_assoc, length-append, reverse}
use Rattle.std.specs.Prelude.{Err, slice_set}
use Rattle.std.specs.List.{AllByRecursion, flat_map}
use Rattle.std.proofs.lemmas.List.{drop_all, map-append, reverse-append}
use Rattle.std.proofs.lemmas.Option.{slice_get_within, get_or_from_slice_get, same_Some}
use Rattle.text_bytes.proofs.ListLemmas.{drop-item}
use Rattle.stil_ast.specs.Faults.Found.{or_else, first_in}
use Rattle.stil_ast.specs.Faults.BurstFaults.{Mention, burst_for, is_round}
use Rattle.stil_ast.specs.declared.blocks.Blocks.{Blocks}
use Rattle.stil_ast.specs.declared.executive.Burst.{Burst}
use Rattle.stil_ast.specs.declared.executive.BurstItem.{BurstItem}
use Rattle.stil_ast.specs.declared.fault.StilFault.{StilFault}
use Rattle.stil_ast.specs.Data.Refusal.{StilRefusal}
use Rattle.answers.specs.Answers.{Blames}
use Rattle.pattern_order.specs.Walk.{Met, met_inside, met_at, met_within, mention_of, names_of, ahead_in, met_by}
use Rattle.pattern_order.specs.Numbers.{IsNumbered, meaning_of}
use Rattle.pattern_order.specs.Marks.{mark_at, is_fresh, is_open, is_closed, is_back, fresh_of, moved_on, IsNext, IsOpened, Passes, Stands}
use Rattle.pattern_order.specs.Walks.{to_go, first_ahead, GoesOn}
use Rattle.pattern_order.specs.declared.meaning.Meaning.{Meaning}
use Rattle.pattern_order.specs.declared.meaning.Meaning.TheVariants.{Unknown, Block, Pattern as APattern, Burst as ABurst}
use Rattle.pattern_order.specs.declared.walk.Frame.{Frame}
use Rattle.pattern_order.specs.declared.walk.Mark.{Mark}
use Rattle.pattern_order.specs.declared.walk.Mark.TheVariants.{Fresh, Open, Closed}
use Rattle.pattern_order.specs.declared.walk.Step.{Step}
use Rattle.pattern_order.proofs.MeaningLemmas.{Means, means}
use Rattle.stil_ast.proofs.FoundLemmas.{first_in-append}
use Rattle.pattern_order.proofs.StandLemmas.{round-open, room, stands-move}

-- a burst that was never begun is not open
pub fresh-shut : (m : Mark) → is_fresh m ≡ true → is_open m ≡ false
fresh-shut Fresh h = refl
fresh-shut Open h = absurd (true≢false (sym h))
fresh-shut Closed h = refl

module _ (blocks : Blocks) where
  -- whether a name leads back, by marks and by names
  back-agrees : (marks : List Mark) (fs : List Frame) (i : BurstItem) → Stands blocks marks fs
      → is_back marks (meaning_of blocks i) ≡ is_round (names_of fs) (burst_for blocks i)
  back-agrees marks fs i h = by_meaning (meaning_of blocks i) (means blocks i)
    where
      by_meaning : (m : Meaning) → Means blocks i m → is_back marks m ≡ is_round (names_of fs) (burst_for blocks i)
      by_meaning Unknown is = rw is.0 refl
      by_meaning Block is = rw is.0 refl
      by_meaning (APattern k) is = rw is.0 refl
      by_meaning (ABurst k) is = rw is.0.named (sym (round-open blocks marks fs k is.0.burst h is.0.numbered))

  -- what is met in the burst that the next name of an open burst names
  abbrev pub inside : Frame → List Frame → Step → List Met
  inside f fs s =
      met_inside (met_within blocks (length blocks.bursts - suc (length fs)) (names_of (f ∷ fs)) f.macros.now f.procedures.now)
      s.leads_back (burst_for blocks s.item.now)

  -- behind the last name of a burst nothing is left of it
  pub ahead-close : (f : Frame) (fs : List Frame) → length f.burst.now.items ≤ f.next
      → ahead_in blocks (f ∷ fs) ≡ ahead_in blocks fs
  ahead-close f fs le = rw (drop_all f.next f.burst.now.items le) refl

  -- what is met at the next name is the name, then what is in the burst that it names
  met-next : (marks : List Mark) (f : Frame) (fs : List Frame) (s : Step) → Stands blocks marks (f ∷ fs)
      → IsNext blocks marks f s
      → met_at blocks (met_within blocks (length blocks.bursts - suc (length fs)) (names_of (f ∷ fs)) f.macros.now f.procedures.now)
      (names_of (f ∷ fs)) f.macros.now f.procedures.now f.burst.now s.item.now
      ≡ met_by s ∷ inside f fs s
  met-next marks f fs s h n =
      let back : is_round (names_of (f ∷ fs)) (burst_for blocks s.item.now) ≡ s.leads_back =
      sym (n.back ∙ ap (is_back marks) n.means ∙ back-agrees marks (f ∷ fs) s.item.now h) in
      rw back (rw n.in_burst (rw n.macros (rw n.procedures refl)))

  -- the next name, what is in the burst that it names, and what is behind it
  pub ahead-next : (marks : List Mark) (f : Frame) (fs : List Frame) (s : Step) → Stands blocks marks (f ∷ fs)
      → IsNext blocks marks f s
      → ahead_in blocks (f ∷ fs) ≡ met_by s ∷ (inside f fs s ++ ahead_in blocks (moved_on f ∷ fs))
  ahead-next marks f fs s h n =
      let step = met_at blocks (met_within blocks (length blocks.bursts - suc (length fs)) (names_of (f ∷ fs)) f.macros.now f.procedures.now)
      (names_of (f ∷ fs)) f.macros.now f.procedures.now f.burst.now in
      let cut : drop f.next f.burst.now.items ≡ s.item.now ∷ drop (f.next + 1) f.burst.now.items =
      drop-item f.burst.now.items f.next s.item.now (slice_get_within f.burst.now.items f.next s.item.now n.there)
      (sym (get_or_from_slice_get f.burst.now.items f.next s.item.now s.item.now n.there)) in
      ap (λ is. flat_map step is ++ ahead_in blocks fs) cut
      ∙ ap (λ ms. (ms ++ flat_map step (drop (f.next + 1) f.burst.now.items)) ++ ahead_in blocks fs) (met-next marks f fs s h n)
      ∙ ap (λ ms. met_by s ∷ ms)
      (append_assoc (inside f fs s) (flat_map step (drop (f.next + 1) f.burst.now.items)) (ahead_in blocks fs))

  -- a burst that is opened at its first item is all that is met in it
  pub ahead-open : (fs : List Frame) (number begun : ℕ) (macros procedures : List ℕ) (g : Frame)
      → IsOpened blocks number begun macros procedures g → length fs < length blocks.bursts
      → met_within blocks (length blocks.bursts - length fs) (names_of fs) macros procedures g.burst.now ++ ahead_in blocks fs
      ≡ ahead_in blocks (g ∷ fs)
  ahead-open fs number begun macros procedures g is lt =
      let deep : length blocks.bursts - length fs ≡ suc (length blocks.bursts - suc (length fs)) = omega (arith, lt) in
      rw deep (rw is.macros_are (rw is.procedures_are (rw is.next refl)))

  -- how a walk goes on behind a name: into a burst that was never begun
  pub record GoesInto (marks : List Mark) (f : Frame) (fs : List Frame) (s : Step) (number : ℕ) : Type 0 where
    pub burst : Burst
    pub numbered : IsNumbered blocks number burst
    pub among : number < length blocks.bursts
    pub means_it : meaning_of blocks s.item.now ≡ ABurst number
    pub is_fresh_one : is_fresh (mark_at marks number) ≡ true
    pub all_inside : inside f fs s
        ≡ met_within blocks (length blocks.bursts - suc (length fs)) (names_of (f ∷ fs)) f.macros.now f.procedures.now burst

  -- or past one that is closed
  pub record PassesBy (marks : List Mark) (f : Frame) (fs : List Frame) (s : Step) : Type 0 where
    pub number : ℕ
    pub burst : Burst
    pub numbered : IsNumbered blocks number burst
    pub means_it : meaning_of blocks s.item.now ≡ ABurst number
    pub is_closed_one : is_closed (mark_at marks number) ≡ true
    pub all_inside : inside f fs s
        ≡ met_within blocks (length blocks.bursts - suc (length fs)) (names_of (f ∷ fs)) f.macros.now f.procedures.now burst

  -- or back to an open one
  pub record LeadsBack (marks : List Mark) (f : Frame) (fs : List Frame) (s : Step) : Type 0 where
    pub number : ℕ
    pub means_it : meaning_of blocks s.item.now ≡ ABurst number
    pub is_open_one : is_open (mark_at marks number) ≡ true
    pub back : s.leads_back ≡ true
    pub none_inside : inside f fs s ≡ []

  -- or to no burst
  pub record NamesNone (f : Frame) (fs : List Frame) (s : Step) : Type 0 where
    pub no_burst : (number : ℕ) → meaning_of blocks s.item.now ≡ ABurst number → ⊥
    pub none_inside : inside f fs s ≡ []

  -- the ways on, by the burst into which the walk goes
  abbrev pub Ways : List Mark → Frame → List Frame → Step → Option ℕ → Type 0
  Ways marks f fs s (Some number) = GoesInto marks f fs s number
  Ways marks f fs s None = PassesBy marks f fs s ⊎ (LeadsBack marks f fs s ⊎ NamesNone f fs s)

  pub ways : (marks : List Mark) (f : Frame) (fs : List Frame) (s : Step) → IsNext blocks marks f s
      → Ways marks f fs s (fresh_of marks s.meaning)
  ways marks f fs s n =
      subst (λ (m : Meaning). Ways marks f fs s (fresh_of marks m)) (sym n.means)
      (by_meaning (meaning_of blocks s.item.now) refl (means blocks s.item.now))
    where
      not_burst : (m : Meaning) → meaning_of blocks s.item.now ≡ m → ((k : ℕ) → m ≡ ABurst k → ⊥)
          → burst_for blocks s.item.now ≡ None → NamesNone f fs s
      not_burst m is none no_one = record {
        no_burst = λ k e. none k (sym is ∙ e);
        none_inside = rw no_one refl;
      }

      by_mark : (k : ℕ) → meaning_of blocks s.item.now ≡ ABurst k → Means blocks s.item.now (ABurst k)
          → (m : Mark) → mark_at marks k ≡ m → Ways marks f fs s (fresh_of marks (ABurst k))
      by_mark k is what Fresh at = rw at (record {
        burst = what.0.burst;
        numbered = what.0.numbered;
        among = what.0.within;
        means_it = is;
        is_fresh_one = rw at refl;
        all_inside = rw what.0.named (rw (n.back ∙ ap (is_back marks) (n.means ∙ is) ∙ ap is_open at) refl);
      })
      by_mark k is what Open at = rw at (inr (inl (record {
        number = k;
        means_it = is;
        is_open_one = rw at refl;
        back = n.back ∙ ap (is_back marks) (n.means ∙ is) ∙ ap is_open at;
        none_inside = rw what.0.named (rw (n.back ∙ ap (is_back marks) (n.means ∙ is) ∙ ap is_open at) refl);
      })))
      by_mark k is what Closed at = rw at (inl (record {
        number = k;
        burst = what.0.burst;
        numbered = what.0.numbered;
        means_it = is;
        is_closed_one = rw at refl;
        all_inside = rw what.0.named (rw (n.back ∙ ap (is_back marks) (n.means ∙ is) ∙ ap is_open at) refl);
      }))

      by_meaning : (m : Meaning) → meaning_of blocks s.item.now ≡ m → Means blocks s.item.now m
          → Ways marks f fs s (fresh_of marks m)
      by_meaning Unknown is what = inr (inr (not_burst Unknown is (λ k e. cc) what.0))
      by_meaning Block is what = inr (inr (not_burst Block is (λ k e. cc) what.0))
      by_meaning (APattern p) is what = inr (inr (not_burst (APattern p) is (λ k e. cc) what.0))
      by_meaning (ABurst k) is what = by_mark k is what (mark_at marks k) refl

  -- how open bursts are left behind a name, the innermost first
  abbrev pub PassesIn : Option ℕ → Frame → Step → ℕ → List Mark → List Frame → List Mark → List Frame → Type 0
  PassesIn None f s begun marks fs marks' fs' = (marks' ≡ marks) × (fs' ≡ moved_on f ∷ fs)
  PassesIn (Some number) f s begun marks fs marks' fs' =
      (g : Frame) × IsOpened blocks number begun s.macros.now s.procedures.now g
      × (marks' ≡ slice_set marks number Open) × (fs' ≡ g ∷ moved_on f ∷ fs)

  pub passes-in : (target : Option ℕ) (f : Frame) (s : Step) (begun : ℕ) (marks : List Mark) (frames : List Frame)
      (marks' : List Mark) (frames' : List Frame) → Passes blocks target f s begun marks frames marks' frames'
      → PassesIn target f s begun marks (reverse frames) marks' (reverse frames')
  passes-in None f s begun marks frames marks' frames' h =
      (h.0, ap reverse h.1 ∙ reverse-append frames (moved_on f ∷ []))
  passes-in (Some number) f s begun marks frames marks' frames' h = (
    h.frame,
    h.opened,
    h.marked,
    ap reverse h.stacked ∙ reverse-append (frames ++ moved_on f ∷ []) (h.frame ∷ [])
        ∙ ap (λ fs. h.frame ∷ fs) (reverse-append frames (moved_on f ∷ [])),
  )

  -- less is left
  pub less-close : (f : Frame) (fs : List Frame) → length f.burst.now.items ≤ f.next → to_go blocks fs < to_go blocks (f ∷ fs)
  less-close f fs le =
      let same : length (ahead_in blocks (f ∷ fs)) ≡ length (ahead_in blocks fs) = ap length (ahead-close f fs le) in
      omega (arith, same)

  pub less-next : (f : Frame) (fs fs' : List Frame) (m : Met) (ms : List Met) → ahead_in blocks (f ∷ fs) ≡ m ∷ (ms ++ ahead_in blocks fs')
      → length fs' ≤ suc (suc (length fs)) → to_go blocks fs' < to_go blocks (f ∷ fs)
  less-next f fs fs' m ms is most =
      let all : length (ahead_in blocks (f ∷ fs)) ≡ suc (length (ms ++ ahead_in blocks fs')) = ap length is in
      let two : length (ms ++ ahead_in blocks fs') ≡ length ms + length (ahead_in blocks fs') = length-append ms (ahead_in blocks fs') in
      omega (arith, all, two, most)

  -- where nothing that is left out has a fault, the first fault stays
  none-first : (rule : Mention → Option StilFault) (ms : List Met) → AllByRecursion (λ (m : Met). rule (mention_of blocks m) ≡ None) ms
      → first_in rule (map (mention_of blocks) ms) ≡ None
  none-first rule [] h = refl
  none-first rule (m ∷ ms) h = rw h.0 (none-first rule ms h.1)

  pub first-next : (rule : Mention → Option StilFault) (f : Frame) (fs fs' : List Frame) (m : Met) (ms : List Met)
      → ahead_in blocks (f ∷ fs) ≡ m ∷ (ms ++ ahead_in blocks fs') → rule (mention_of blocks m) ≡ None
      → AllByRecursion (λ (m : Met). rule (mention_of blocks m) ≡ None) ms
      → first_ahead rule blocks (f ∷ fs) ≡ first_ahead rule blocks fs'
  first-next rule f fs fs' m ms is none nothing =
      ap (λ xs. first_in rule (map (mention_of blocks) xs)) is
      ∙ ap (λ o. or_else o (first_in rule (map (mention_of blocks) (ms ++ ahead_in blocks fs')))) none
      ∙ ap (first_in rule) (map-append (mention_of blocks) ms (ahead_in blocks fs'))
      ∙ first_in-append rule (map (mention_of blocks) ms) (map (mention_of blocks) (ahead_in blocks fs'))
      ∙ ap (λ o. or_else o (first_ahead rule blocks fs')) (none-first rule ms nothing)

  -- the fault of the next name is the first
  pub first-fault : (rule : Mention → Option StilFault) (marks : List Mark) (f : Frame) (fs : List Frame) (s : Step) (fault : StilFault)
      → Stands blocks marks (f ∷ fs) → IsNext blocks marks f s → rule (mention_of blocks (met_by s)) ≡ Some fault
      → first_ahead rule blocks (f ∷ fs) ≡ Some fault
  first-fault rule marks f fs s fault h n is =
      ap (λ xs. first_in rule (map (mention_of blocks) xs)) (ahead-next marks f fs s h n)
      ∙ ap (λ o. or_else o (first_in rule (map (mention_of blocks) (inside f fs s ++ ahead_in blocks (moved_on f ∷ fs))))) is

  -- what is met in a burst that is opened is what was to be met in it
  pub into-ahead : (marks : List Mark) (f : Frame) (fs : List Frame) (s : Step) (number : ℕ) (g : Frame) (begun : ℕ)
      → Stands blocks marks (f ∷ fs) → IsNext blocks marks f s → GoesInto marks f fs s number
      → IsOpened blocks number begun s.macros.now s.procedures.now g
      → ahead_in blocks (f ∷ fs) ≡ met_by s ∷ ([] ++ ahead_in blocks (g ∷ moved_on f ∷ fs))
  into-ahead marks f fs s number g begun h n w is =
      let same : w.burst ≡ g.burst.now = same_Some w.burst g.burst.now (sym w.numbered.there ∙ is.there) in
      let lt = room blocks marks (moved_on f ∷ fs) number (stands-move blocks marks f fs h) w.among
      (fresh-shut (mark_at marks number) w.is_fresh_one) in
      ahead-next marks f fs s h n
      ∙ ap (λ ms. met_by s ∷ (ms ++ ahead_in blocks (moved_on f ∷ fs))) (w.all_inside ∙ within-as fs f s w.burst g same n)
      ∙ ap (λ ms. met_by s ∷ ms) (ahead-open (moved_on f ∷ fs) number begun s.macros.now s.procedures.now g is lt)
    where
      within-as : (fs : List Frame) (f : Frame) (s : Step) (b : Burst) (g : Frame) → b ≡ g.burst.now → IsNext blocks marks f s
          → met_within blocks (length blocks.bursts - suc (length fs)) (names_of (f ∷ fs)) f.macros.now f.procedures.now b
          ≡ met_within blocks (length blocks.bursts - suc (length fs)) (names_of (f ∷ fs)) s.macros.now s.procedures.now g.burst.now
      within-as fs f s b g same n = rw same (rw n.macros (rw n.procedures refl))

  -- a name that is refused has the first fault
  pub goes-refused : (rule : Mention → Option StilFault) (Holds : List Mark → List Frame → Type 0) (marks : List Mark)
      (f : Frame) (fs : List Frame) (s : Step) (marks' : List Mark) (fs' : List Frame) (wanted : Option StilFault) (r : StilRefusal)
      → Stands blocks marks (f ∷ fs) → IsNext blocks marks f s → rule (mention_of blocks (met_by s)) ≡ wanted
      → Blames wanted r → GoesOn rule Holds blocks (f ∷ fs) (Err r) marks' fs'
  goes-refused rule Holds marks f fs s marks' fs' wanted r h n is t =
      λ fault same. first-fault rule marks f fs s fault h n (is ∙ t fault same)
