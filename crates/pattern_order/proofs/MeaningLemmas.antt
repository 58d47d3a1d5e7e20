-- What the number that a name means says of the name.
use Rattle.std.proofs.Common.{◌≡◌, ℕ, ◌<◌, ◌==◌, Bool, true, false, List, length, map, get_or, Option, Some, None, is_some, sym, ap, ◌∙◌, subst, inl, inr, refl, true≢false}
use Rattle.std.specs.Prelude.{◌||◌, slice_get, slice_index_or, if◌then◌else◌}
use Rattle.std.proofs.lemmas.Bool.{cases_Bool, eq-eqb, eqb-true}
use Rattle.std.proofs.lemmas.Option.{same_Some, slice_get-map, get_or_from_slice_get}
use Rattle.std.specs.Option.{option_map}
use Rattle.std.proofs.lemmas.Slice.Eq.{bytes_eq-Decides}
use Rattle.text_bytes.proofs.ListLemmas.{slice_get-there}
use Rattle.stil_ast.specs.Data.Texts.{same}
use Rattle.stil_ast.specs.Meaning.Bursts.{pattern_named, burst_named, is_entry}
use Rattle.stil_ast.specs.Faults.BurstFaults.{burst_place, has_block, burst_for, unknown_fault}
use Rattle.stil_ast.specs.Faults.Found.{fault_at, unless}
use Rattle.stil_ast.specs.declared.blocks.Blocks.{Blocks}
use Rattle.stil_ast.specs.declared.blocks.Pattern.{Pattern}
use Rattle.stil_ast.specs.declared.executive.Burst.{Burst}
use Rattle.stil_ast.specs.declared.executive.BurstItem.{BurstItem}
use Rattle.stil_ast.specs.declared.executive.BurstWord.{BurstWord}
use Rattle.stil_ast.specs.declared.executive.BurstWord.TheVariants.{SignalGroups, MacroDefs, Procedures, ScanStructures, Entry}
use Rattle.stil_ast.specs.declared.fault.StilKind.TheVariants.{UnknownName}
use Rattle.pattern_order.specs.Walk.{Met, mention_of, pattern_played, played_at}
use Rattle.pattern_order.specs.Numbers.{pattern_number, burst_number, entry_meaning, block_meaning, meaning_of, meanings_of, played_as, IsNumbered, IsFirst}
use Rattle.pattern_order.specs.Walks.{is_known}
use Rattle.pattern_order.specs.declared.meaning.Meaning.{Meaning}
use Rattle.pattern_order.specs.declared.meaning.Meaning.TheVariants.{Unknown, Block, Pattern as APattern, Burst as ABurst}
use Rattle.pattern_order.proofs.PlaceLemmas.{find-position, find-no_position, position-passes}

module _ (blocks : Blocks) where
  -- the pattern for which a name in a burst stands
  abbrev pub pattern_for : BurstItem → Option Pattern
  pattern_for i = if is_entry i.word then pattern_named blocks i.name else None

  -- a burst that a name means
  pub record MeansBurst (i : BurstItem) (number : ℕ) : Type 0 where
    pub burst : Burst
    pub named : burst_for blocks i ≡ Some burst
    pub numbered : IsNumbered blocks number burst
    pub within : number < length blocks.bursts

  -- what a meaning says of a name
  abbrev pub Means : BurstItem → Meaning → Type 0
  Means i Unknown = (burst_for blocks i ≡ None) × (pattern_for i ≡ None)
  Means i Block = (burst_for blocks i ≡ None) × (pattern_for i ≡ None)
  Means i (APattern number) =
      (burst_for blocks i ≡ None) × (pattern_for i ≡ slice_get blocks.patterns number) × (number < length blocks.patterns)
  Means i (ABurst number) = MeansBurst i number × (pattern_for i ≡ None)

  -- a name as it is judged
  abbrev known_as : BurstItem → Bool
  known_as i = has_block blocks i.word i.name || is_some (burst_for blocks i)

  abbrev pub both : (i : BurstItem) → Meaning → Type 0
  both i m = Means i m × (known_as i ≡ is_known m)

  named_block : (i : BurstItem) (b : Bool) → is_entry i.word ≡ false → has_block blocks i.word i.name ≡ b
      → both i (block_meaning b)
  named_block i true e h = ((rw e refl, rw e refl), rw h refl)
  named_block i false e h = ((rw e refl, rw e refl), rw h (rw e refl))

  -- an entry that names a pattern
  named_pattern : (name : List ℕ) (line k : ℕ) → pattern_number blocks name ≡ Some k
      → both (record { word = Entry; name = name; line = line }) (APattern k)
  named_pattern name line k h =
      let found = find-position (λ (p : Pattern). same p.name name) blocks.patterns k h in
      let p = slice_get-there blocks.patterns k found.1 in
      let is : pattern_named blocks name ≡ Some p.0 = found.0 ∙ p.1 in
      ((rw is refl, found.0, found.1), rw is refl)

  -- an entry that names a burst
  named_burst : (name : List ℕ) (line k : ℕ) → pattern_number blocks name ≡ None → burst_number blocks name ≡ Some k
      → both (record { word = Entry; name = name; line = line }) (ABurst k)
  named_burst name line k none h =
      let nothing : pattern_named blocks name ≡ None = find-no_position (λ (p : Pattern). same p.name name) blocks.patterns none in
      let found = find-position (λ (b : Burst). same b.name name) blocks.bursts k h in
      let b = slice_get-there blocks.bursts k found.1 in
      let is : burst_named blocks name ≡ Some b.0 = found.0 ∙ b.1 in
      let called : b.0.name ≡ name =
      (bytes_eq-Decides b.0.name name).0 (position-passes (λ (c : Burst). same c.name name) blocks.bursts k b.0 h b.1) in (
        (
          record {
            burst = b.0;
            named = rw nothing is;
            numbered = record { first = ap (burst_number blocks) called ∙ h; there = b.1 };
            within = found.1;
          },
          nothing,
        ),
        rw nothing (rw is refl),
      )

  -- an entry that names nothing
  named_nothing : (name : List ℕ) (line : ℕ) → pattern_number blocks name ≡ None → burst_number blocks name ≡ None
      → both (record { word = Entry; name = name; line = line }) Unknown
  named_nothing name line none neither =
      let nothing : pattern_named blocks name ≡ None = find-no_position (λ (p : Pattern). same p.name name) blocks.patterns none in
      let no_burst : burst_named blocks name ≡ None = find-no_position (λ (b : Burst). same b.name name) blocks.bursts neither in
      ((rw nothing no_burst, nothing), rw nothing (rw no_burst refl))

  entry : (name : List ℕ) (line : ℕ) (p b : Option ℕ) → pattern_number blocks name ≡ p → burst_number blocks name ≡ b
      → both (record { word = Entry; name = name; line = line }) (entry_meaning p b)
  entry name line (Some k) b h g = named_pattern name line k h
  entry name line None (Some k) h g = named_burst name line k h g
  entry name line None None h g = named_nothing name line h g

  word : (w : BurstWord) (name : List ℕ) (line : ℕ)
      → both (record { word = w; name = name; line = line }) (meaning_of blocks (record { word = w; name = name; line = line }))
  word SignalGroups name line =
      named_block (record { word = SignalGroups; name = name; line = line }) (has_block blocks SignalGroups name) refl refl
  word MacroDefs name line =
      named_block (record { word = MacroDefs; name = name; line = line }) (has_block blocks MacroDefs name) refl refl
  word Procedures name line =
      named_block (record { word = Procedures; name = name; line = line }) (has_block blocks Procedures name) refl refl
  word ScanStructures name line =
      named_block (record { word = ScanStructures; name = name; line = line }) (has_block blocks ScanStructures name) refl refl
  word Entry name line = entry name line (pattern_number blocks name) (burst_number blocks name) refl refl

  -- what a name means is so
  pub means : (i : BurstItem) → Means i (meaning_of blocks i)
  means i = (word i.word i.name i.line).0

  -- the fault of a name that is unknown
  pub unknown-as : (m : Met) → unknown_fault (mention_of blocks m)
      ≡ unless (is_known (meaning_of blocks m.item)) (fault_at (burst_place m.burst m.item.line) UnknownName) None
  unknown-as m =
      ap (λ b. unless b (fault_at (burst_place m.burst m.item.line) UnknownName) None)
      (word m.item.word m.item.name m.item.line).1

  -- the pattern that a name stands for is that of its meaning
  pub played-as : (m : Met) → played_at blocks m ≡ played_as blocks m.macros m.procedures (meaning_of blocks m.item)
  played-as m = for_pattern m ∙ by_meaning m.macros m.procedures m.item (meaning_of blocks m.item) (means m.item)
    where
      for_pattern : (m : Met) → played_at blocks m ≡ pattern_played m.macros m.procedures (pattern_for m.item)
      for_pattern m = elim (cases_Bool (is_entry m.item.word)) [
        | inl t ↦ rw t refl
        | inr f ↦ rw f refl
      ]

      by_meaning : (macros procedures : List ℕ) (i : BurstItem) (m : Meaning) → Means i m
          → pattern_played macros procedures (pattern_for i) ≡ played_as blocks macros procedures m
      by_meaning macros procedures i Unknown h = ap (pattern_played macros procedures) h.1
      by_meaning macros procedures i Block h = ap (pattern_played macros procedures) h.1
      by_meaning macros procedures i (APattern k) h = ap (pattern_played macros procedures) h.1
      by_meaning macros procedures i (ABurst k) h = ap (pattern_played macros procedures) h.1

  -- a number is that of one burst
  pub one_burst : (k : ℕ) (a b : Burst) → IsNumbered blocks k a → IsNumbered blocks k b → a ≡ b
  one_burst k a b h g = same_Some a b (sym h.there ∙ g.there)

  -- names of bursts are the same where their numbers are
  pub same-numbers : (j k : ℕ) (a b : Burst) → IsNumbered blocks j a → IsNumbered blocks k b
      → same b.name a.name ≡ (j == k)
  same-numbers j k a b h g = elim (cases_Bool (j == k)) [
    | inl t ↦
        let is : a ≡ b = one_burst k a b (subst (λ (n : ℕ). IsNumbered blocks n a) (eqb-true j k t) h) g in
        (bytes_eq-Decides b.name a.name).1 (ap (λ (c : Burst). c.name) (sym is)) ∙ sym t
    | inr f ↦ elim (cases_Bool (same b.name a.name)) [
      | inl t ↦
          let one : j ≡ k =
          same_Some j k (sym h.first ∙ ap (burst_number blocks) (sym ((bytes_eq-Decides b.name a.name).0 t)) ∙ g.first) in
          absurd (true≢false (sym (eq-eqb j k one) ∙ f))
      | inr g ↦ g ∙ sym f
    ]
  ]

  -- the meaning that is kept of a name
  pub meaning-kept : (lists : List (List Meaning)) (list : List Meaning) (number place : ℕ) (b : Burst) (i : BurstItem)
      → lists ≡ map (meanings_of blocks) blocks.bursts → list ≡ get_or lists number list
      → slice_get blocks.bursts number ≡ Some b → slice_get b.items place ≡ Some i
      → slice_index_or list place Unknown ≡ meaning_of blocks i
  meaning-kept lists list number place b i all at there here =
      ap (λ ms. slice_index_or ms place Unknown)
      (at ∙ get_or_from_slice_get lists number (meanings_of blocks b) list
      (ap (λ xs. slice_get xs number) all ∙ slice_get-map (meanings_of blocks) blocks.bursts number ∙ ap (option_map (meanings_of blocks)) there))
      ∙ get_or_from_slice_get (meanings_of blocks b) place (meaning_of blocks i) Unknown
      (slice_get-map (meaning_of blocks) b.items place ∙ ap (option_map (meaning_of blocks)) here)

  -- the burst of a name and its number
  pub numbered-named : (name : List ℕ) (k : ℕ) → burst_number blocks name ≡ Some k
      → (b : Burst) × (slice_get blocks.bursts k ≡ Some b) × (burst_named blocks name ≡ Some b)
  numbered-named name k h =
      let found = find-position (λ (b : Burst). same b.name name) blocks.bursts k h in
      let b = slice_get-there blocks.bursts k found.1 in (b.0, b.1, found.0 ∙ b.1)

  -- a number of a name is that of the burst's own name
  pub number-first : (name : List ℕ) (k : ℕ) → burst_number blocks name ≡ Some k → IsFirst blocks k
  number-first name k h = record {
    within = (find-position (λ (b : Burst). same b.name name) blocks.bursts k h).1;
    first = λ b there.
        ap (burst_number blocks)
        ((bytes_eq-Decides b.name name).0 (position-passes (λ (c : Burst). same c.name name) blocks.bursts k b h there)) ∙ h;
  }
