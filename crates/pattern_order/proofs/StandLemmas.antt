-- Open bursts and their marks, as one is closed, passed on or opened.
use Rattle.std.proofs.Common.{◌≡◌, ℕ, ◌<◌, ◌+◌, ◌==◌, Bool, true, false, List, [], ◌∷◌, length, sym, ap, ◌∙◌, subst, inl, inr, refl, arith, cond}
use Rattle.std.specs.Prelude.{◌||◌, slice_set}
use Rattle.std.specs.List.{AllByRecursion, list_any, count_by}
use Rattle.std.proofs.lemmas.Bool.{cases_Bool, eq-eqb, eqb-true, eqb-false}
use Rattle.std.proofs.lemmas.List.{length-set, get_or-set_same, get_or-set_other}
use Rattle.std.proofs.lemmas.List.Sums.{sum_by-set, count_by-le-length}
use Rattle.std.proofs.lemmas.Option.{slice_get_within}
use Rattle.stil_ast.specs.Data.Texts.{same, has_name}
use Rattle.stil_ast.specs.declared.blocks.Blocks.{Blocks}
use Rattle.stil_ast.specs.declared.executive.Burst.{Burst}
use Rattle.pattern_order.specs.Walk.{names_of}
use Rattle.pattern_order.specs.Numbers.{IsNumbered}
use Rattle.pattern_order.specs.Marks.{mark_at, is_open, moved_on, Stands}
use Rattle.pattern_order.specs.declared.walk.Frame.{Frame}
use Rattle.pattern_order.specs.declared.walk.Mark.{Mark}
use Rattle.pattern_order.specs.declared.walk.Mark.TheVariants.{Fresh, Open}
use Rattle.pattern_order.proofs.MeaningLemmas.{same-numbers}

-- the mark that was set
pub mark-same : (marks : List Mark) (k : ℕ) (m : Mark) → k < length marks → mark_at (slice_set marks k m) k ≡ m
mark-same marks k m lt = get_or-set_same marks k m Fresh lt

-- another mark
pub mark-other : (marks : List Mark) (k j : ℕ) (m : Mark) → (k == j) ≡ false → mark_at (slice_set marks k m) j ≡ mark_at marks j
mark-other marks k j m h = get_or-set_other marks k j m Fresh (λ e. eqb-false k j h (sym e))

-- a test of a mark, where one was set
pub mark-test : (marks : List Mark) (k j : ℕ) (m : Mark) (p : Mark → Bool) (b : Bool) → k < length marks
    → ((k == j) ≡ true → p m ≡ b) → ((k == j) ≡ false → p (mark_at marks j) ≡ b) → p (mark_at (slice_set marks k m) j) ≡ b
mark-test marks k j m p b lt is other = elim (cases_Bool (k == j)) [
  | inl t ↦
      subst (λ (n : ℕ). p (mark_at (slice_set marks k m) n) ≡ b) (eqb-true k j t) (ap p (mark-same marks k m lt) ∙ is t)
  | inr f ↦ ap p (mark-other marks k j m f) ∙ other f
]

-- one of those that are marked
counted : (marks : List Mark) (k : ℕ) (m : Mark) → k < length marks
    → count_by is_open (slice_set marks k m) + cond {A = ℕ} (is_open (mark_at marks k)) 1 0
    ≡ count_by is_open marks + cond {A = ℕ} (is_open m) 1 0
counted marks k m lt = sum_by-set (λ (x : Mark). cond {A = ℕ} (is_open x) 1 0) marks k m Fresh lt

-- the first of two tests
or_first : (a b : Bool) → a ≡ false → (a || b) ≡ b
or_first a b h = rw h refl

module _ (blocks : Blocks) where
  -- an open burst is marked
  pub within : (marks : List Mark) (f : Frame) (fs : List Frame) → Stands blocks marks (f ∷ fs) → f.number < length marks
  within marks f fs h =
      subst (λ (n : ℕ). f.number < n) (sym h.marked) (slice_get_within blocks.bursts f.number f.burst.now h.numbered.0.there)

  -- the innermost burst is open
  pub innermost : (marks : List Mark) (f : Frame) (fs : List Frame) → Stands blocks marks (f ∷ fs)
      → is_open (mark_at marks f.number) ≡ true
  innermost marks f fs h =
      sym (h.opened f.number) ∙ ap (λ b. b || list_any (λ (g : Frame). g.number == f.number) fs) (eq-eqb f.number f.number refl)

  -- without the innermost burst
  pub stands-close : (marks : List Mark) (f : Frame) (fs : List Frame) (m : Mark) → Stands blocks marks (f ∷ fs)
      → is_open m ≡ false → Stands blocks (slice_set marks f.number m) fs
  stands-close marks f fs m h shut = record {
    marked = length-set marks f.number m ∙ h.marked;
    numbered = h.numbered.1;
    opened = λ k. sym (mark-test marks f.number k m is_open (list_any (λ (g : Frame). g.number == k) fs) lt
        (λ t. shut ∙ sym (subst (λ (n : ℕ). list_any (λ (g : Frame). g.number == n) fs ≡ false) (eqb-true f.number k t) h.apart.0))
        (λ e. sym (h.opened k) ∙ or_first (f.number == k) (list_any (λ (g : Frame). g.number == k) fs) e));
    apart = h.apart.1;
    count = omega (arith, less, h.count);
  }
    where
      lt : f.number < length marks
      lt = within marks f fs h

      less : count_by is_open (slice_set marks f.number m) + 1 ≡ count_by is_open marks + 0
      less =
          let e = counted marks f.number m lt in
          subst (λ (b : Bool). count_by is_open (slice_set marks f.number m) + 1 ≡ count_by is_open marks + cond {A = ℕ} b 1 0) shut
          (subst (λ (b : Bool). count_by is_open (slice_set marks f.number m) + cond {A = ℕ} b 1 0
          ≡ count_by is_open marks + cond {A = ℕ} (is_open m) 1 0) (innermost marks f fs h) e)

  -- with the innermost burst behind its next name
  pub stands-move : (marks : List Mark) (f : Frame) (fs : List Frame) → Stands blocks marks (f ∷ fs)
      → Stands blocks marks (moved_on f ∷ fs)
  stands-move marks f fs h = record {
    marked = h.marked;
    numbered = h.numbered;
    opened = h.opened;
    apart = h.apart;
    count = h.count;
  }

  more : (marks : List Mark) (fs : List Frame) (k : ℕ) → Stands blocks marks fs → k < length marks
      → is_open (mark_at marks k) ≡ false → count_by is_open (slice_set marks k Open) + 0 ≡ length fs + 1
  more marks fs k h lt shut =
      subst (λ (n : ℕ). count_by is_open (slice_set marks k Open) + 0 ≡ n + 1) h.count
      (subst (λ (b : Bool). count_by is_open (slice_set marks k Open) + cond {A = ℕ} b 1 0 ≡ count_by is_open marks + 1) shut
      (counted marks k Open lt))

  -- with one more burst
  pub stands-open : (marks : List Mark) (g : Frame) (fs : List Frame) → Stands blocks marks fs
      → IsNumbered blocks g.number g.burst.now → is_open (mark_at marks g.number) ≡ false
      → Stands blocks (slice_set marks g.number Open) (g ∷ fs)
  stands-open marks g fs h numbered shut = record {
    marked = length-set marks g.number Open ∙ h.marked;
    numbered = (numbered, h.numbered);
    opened = λ k. sym (mark-test marks g.number k Open is_open (g.number == k || list_any (λ (f : Frame). f.number == k) fs) lt
        (λ t. sym (ap (λ b. b || list_any (λ (f : Frame). f.number == k) fs) t))
        (λ e. sym (h.opened k) ∙ sym (or_first (g.number == k) (list_any (λ (f : Frame). f.number == k) fs) e)));
    apart = (h.opened g.number ∙ shut, h.apart);
    count = omega (arith, count);
  }
    where
      lt : g.number < length marks
      lt = subst (λ (n : ℕ). g.number < n) (sym h.marked) (slice_get_within blocks.bursts g.number g.burst.now numbered.there)

      count : count_by is_open (slice_set marks g.number Open) + 0 ≡ length fs + 1
      count = more marks fs g.number h lt shut

  -- where a burst is not open, fewer are open than there are
  pub room : (marks : List Mark) (fs : List Frame) (k : ℕ) → Stands blocks marks fs → k < length blocks.bursts
      → is_open (mark_at marks k) ≡ false → length fs < length blocks.bursts
  room marks fs k h inside shut =
      let lt : k < length marks = subst (λ (n : ℕ). k < n) (sym h.marked) inside in
      let count = more marks fs k h lt shut in
      let most = count_by-le-length is_open (slice_set marks k Open) in
      let all : length (slice_set marks k Open) ≡ length blocks.bursts = length-set marks k Open ∙ h.marked in
      omega (arith, count, most, all)

  -- whether a burst of a name is open
  names-any : (name : List ℕ) (fs : List Frame)
      → has_name (names_of fs) name ≡ list_any (λ (f : Frame). same name f.burst.now.name) fs
  names-any name [] = refl
  names-any name (f ∷ fs) = ap (λ b. same name f.burst.now.name || b) (names-any name fs)

  by_numbers : (k : ℕ) (b : Burst) (fs : List Frame) → IsNumbered blocks k b
      → AllByRecursion (λ (f : Frame). IsNumbered blocks f.number f.burst.now) fs
      → list_any (λ (f : Frame). same b.name f.burst.now.name) fs ≡ list_any (λ (f : Frame). f.number == k) fs
  by_numbers k b [] is h = refl
  by_numbers k b (f ∷ fs) is h =
      ap (λ x. x || list_any (λ (g : Frame). same b.name g.burst.now.name) fs) (same-numbers blocks f.number k f.burst.now b h.0 is)
      ∙ ap (λ x. f.number == k || x) (by_numbers k b fs is h.1)

  -- a burst is round a name where it is marked as open
  pub round-open : (marks : List Mark) (fs : List Frame) (k : ℕ) (b : Burst) → Stands blocks marks fs → IsNumbered blocks k b
      → has_name (names_of fs) b.name ≡ is_open (mark_at marks k)
  round-open marks fs k b h is =
      names-any b.name fs ∙ by_numbers k b fs is h.numbered ∙ h.opened k
