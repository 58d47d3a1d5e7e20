-- The blocks that an executive of a flat text names: its Timing, its burst and the pattern that it plays.
use Rattle.std.proofs.Common.{◌≡◌, ℕ, zero, suc, ◌^◌, ◌<◌, ◌≤◌, Bool, true, false, not, List, [], ◌∷◌, ◌++◌, length, Option, Some, None, refl, ap, subst, ◌∙◌, arith, cond}
use Rattle.std.specs.Prelude.{slice_get, is_some, flat_map, codes, nat_le}
use Rattle.std.specs.List.{AllZip, range_with_len}
use Rattle.text_bytes.specs.Limits.{most_patterns}
use Rattle.packed_code.specs.Program.{Program}
use Rattle.packed_code.specs.Conditions.{IsProgram}
use Rattle.stil_ast.specs.Data.Texts.{same, name_or_none}
use Rattle.stil_ast.specs.Meaning.Bursts.{Played, pattern_named, burst_named, entry_played, macros_name, procedures_name, item_played, played_within, played_of, played}
use Rattle.stil_ast.specs.Meaning.Executive.{exec_tables}
use Rattle.stil_ast.specs.Meaning.Tables.{tables_named}
use Rattle.stil_ast.specs.Faults.Found.{fault_at, unless, first_in}
use Rattle.stil_ast.specs.Faults.BurstFaults.{Mention, exec_place, burst_place, is_timing, is_burst, is_round, walked_through, named_fault, maybe_fault, is_category, is_selector, mentions_at, mentions_within, mentions, unknown_fault, cyclic_fault, exec_names_fault}
use Rattle.stil_ast.specs.declared.name.Named.{Named}
use Rattle.stil_ast.specs.declared.timing.TimingBlock.{TimingBlock}
use Rattle.stil_ast.specs.declared.blocks.Pattern.{Pattern}
use Rattle.stil_ast.specs.declared.blocks.Blocks.{Blocks}
use Rattle.stil_ast.specs.declared.executive.BurstWord.TheVariants as word
use Rattle.stil_ast.specs.declared.executive.BurstItem.{BurstItem}
use Rattle.stil_ast.specs.declared.executive.Burst.{Burst}
use Rattle.stil_ast.specs.declared.executive.ExecDecl.{ExecDecl}
use Rattle.stil_ast.specs.declared.fault.StilKind.TheVariants.{TooLarge, UnknownName}
use Rattle.stil_ast.proofs.TextLemmas.{same-refl}
use Rattle.stil_ast.proofs.FoundLemmas.{none_both}
use Rattle.flat_parts.specs.FlatText.{executives}
use Rattle.flat_parts.specs.FlatBlocks.{numbered, IsTiming, IsPattern, IsBurst, IsExecDecl, AreFlatBlocks}
use Rattle.flat_fine.proofs.ListLemmas.{IsOnly, only_first, first_found, only_has, beside, besides, within, range_at, at_range, some_passes}
use Rattle.flat_fine.proofs.NumberLemmas.{numbered_differ}

-- what is numbered is the only one of its name
pub numbered_only : {A : Type 0} (R : ℕ → A → Type 0) (of : A → List ℕ) (front : List ℕ) (count : ℕ) (items : List A) (n : ℕ)
    → ((m : ℕ) (x : A) → R m x → of x ≡ numbered front m) → AllZip R (range_with_len 0 count) items → count ≤ 2 ^ 64 → n < count
    → (x : A) × IsOnly (λ y. same (of y) (numbered front n)) items n x × R n x
numbered_only R of front count items n named all few less =
    let there = besides R (range_with_len 0 count) items n n all (range_at count n less) in (
      there.0,
      record {
        is_there = there.1;
        passes = ap (λ (name : List ℕ). same name (numbered front n)) (named n there.0 there.2) ∙ same-refl (numbered front n);
        others = λ other x differs at.
            let b = beside R (range_with_len 0 count) items other x all at in
            let r = at_range count other b.0 b.1 in
            ap (λ (name : List ℕ). same name (numbered front n)) (named b.0 x b.2)
            ∙ numbered_differ front b.0 n (omega (arith, r.0, r.1, few)) (omega (arith, less, few)) (λ e. differs (omega (arith, e, r.0)));
      },
      there.2,
    )

-- all that an executive names
pub record IsFlatExec (code : Program) (blocks : Blocks) (exec : ℕ) (e : ExecDecl) : Type 0 where
  pub declared : IsExecDecl code exec e
  pub timing : TimingBlock
  pub timing_is : IsTiming code exec timing
  pub timing_only : IsOnly (λ (t : TimingBlock). same t.name (numbered (codes "t") exec)) blocks.timings exec timing
  pub pattern : Pattern
  pub pattern_is : IsPattern code exec pattern
  pub pattern_found : pattern_named blocks (numbered (codes "p") exec) ≡ Some pattern
  pub burst : Burst
  pub burst_is : IsBurst exec burst
  pub burst_found : burst_named blocks (numbered (codes "b") exec) ≡ Some burst
  pub fewer : ℕ
  pub bursts : length blocks.bursts ≡ suc fewer

-- what is above a number is one more than another
pub above : (n m : ℕ) → n < m → (k : ℕ) × (m ≡ suc k)
above n zero less = absurd (omega (arith, less))
above n (suc m) less = (m, refl)

-- an executive names its own blocks
pub flat_exec : (code : Program) (blocks : Blocks) (exec : ℕ) (e : ExecDecl) → IsProgram code → AreFlatBlocks code blocks
    → slice_get blocks.executives exec ≡ Some e → IsFlatExec code blocks exec e
flat_exec code blocks exec e program flat at =
    let count = length code.execs in
    let b = beside (IsExecDecl code) (executives code) blocks.executives exec e flat.executives at in
    let r = at_range count exec b.0 b.1 in
    let few : count ≤ 2 ^ 64 = omega (arith, program.few_execs) in
    let t = numbered_only (IsTiming code) (λ (t : TimingBlock). t.name) (codes "t") count blocks.timings exec
    (λ m x is. is.name) flat.timings few r.1 in
    let p = numbered_only (IsPattern code) (λ (p : Pattern). p.name) (codes "p") count blocks.patterns exec
    (λ m x is. is.name) flat.patterns few r.1 in
    let s = numbered_only IsBurst (λ (s : Burst). s.name) (codes "b") count blocks.bursts exec (λ m x is. is.name) flat.bursts few r.1 in
    let more = above exec (length blocks.bursts) (within blocks.bursts exec s.0 s.1.is_there) in
    record {
      declared = subst (λ (m : ℕ). IsExecDecl code m e) r.0 b.2;
      timing = t.0;
      timing_is = t.2;
      timing_only = t.1;
      pattern = p.0;
      pattern_is = p.2;
      pattern_found = first_found (λ (x : Pattern). same x.name (numbered (codes "p") exec)) blocks.patterns exec p.0
          (only_first (λ (x : Pattern). same x.name (numbered (codes "p") exec)) blocks.patterns exec p.0 p.1);
      burst = s.0;
      burst_is = s.2;
      burst_found = first_found (λ (x : Burst). same x.name (numbered (codes "b") exec)) blocks.bursts exec s.0
          (only_first (λ (x : Burst). same x.name (numbered (codes "b") exec)) blocks.bursts exec s.0 s.1);
      fewer = more.0;
      bursts = more.1;
    }

module _ (code : Program) (blocks : Blocks) (exec : ℕ) (e : ExecDecl) (flat : IsFlatExec code blocks exec e) where
  -- its tables
  pub tables_are : exec_tables blocks e ≡ flat.timing.tables
  tables_are =
      ap (λ (n : Option Named). tables_named blocks.timings (name_or_none n)) flat.declared.timing
      ∙ only_has (λ (t : TimingBlock). same t.name (numbered (codes "t") exec)) (λ (t : TimingBlock). t.tables) blocks.timings exec
      flat.timing flat.timing_only.is_there flat.timing_only.passes flat.timing_only.others

  -- its burst
  pub burst_named_is : burst_named blocks e.burst.name ≡ Some flat.burst
  burst_named_is = ap (λ (n : Named). burst_named blocks n.name) flat.declared.burst ∙ flat.burst_found

  -- the burst's only item
  abbrev pub entry : BurstItem
  entry = record { word = word.Entry; name = numbered (codes "p") exec; line = flat.burst_is.line }

  -- the pattern, as it is played
  abbrev pub as_played : Played
  as_played = record { pattern = flat.pattern; macros = []; procedures = [] }

  -- one item plays the pattern
  item_plays : (inner : Burst → List Played) → item_played blocks [] [] inner entry ≡ as_played ∷ []
  item_plays inner =
      ap (λ (o : Option Pattern). entry_played [] [] inner o (burst_named blocks (numbered (codes "p") exec))) flat.pattern_found

  -- what is played within a burst of this item
  burst_plays : (b : Burst) (fewer : ℕ) → b.items ≡ entry ∷ [] → played_within blocks (suc fewer) [] [] b ≡ as_played ∷ []
  burst_plays b fewer are =
      ap (λ (items : List BurstItem). flat_map (item_played blocks (macros_name items [])
      (procedures_name items [])
      (played_within blocks fewer (macros_name items [])
      (procedures_name items []))) items) are
      ∙ ap (λ (front : List Played). front ++ []) (item_plays (played_within blocks fewer [] []))

  -- an executive plays its pattern alone
  pub played_is : played blocks e ≡ as_played ∷ []
  played_is =
      ap (played_of blocks) burst_named_is
      ∙ ap (λ (n : ℕ). played_within blocks n [] [] flat.burst) flat.bursts
      ∙ burst_plays flat.burst flat.fewer flat.burst_is.items

  -- what is met in its burst
  abbrev met : Mention
  met = record { place = burst_place flat.burst flat.burst_is.line; is_block = true; burst = None; leads_back = false }

  item_met : (inner : Burst → List Mention) (round : List (List ℕ)) → mentions_at blocks inner round flat.burst entry ≡ met ∷ []
  item_met inner round =
      ap (λ (o : Option Pattern). record {
        place = burst_place flat.burst flat.burst_is.line;
        is_block = is_some o;
        burst = cond (not (is_some o)) (burst_named blocks (numbered (codes "p") exec)) None;
        leads_back = is_round round (cond (not (is_some o)) (burst_named blocks (numbered (codes "p") exec)) None);
      } ∷ walked_through inner (is_round round (cond (not (is_some o)) (burst_named blocks (numbered (codes "p") exec)) None))
      (cond (not (is_some o)) (burst_named blocks (numbered (codes "p") exec)) None)) flat.pattern_found

  mentions_are : mentions blocks (burst_named blocks e.burst.name) ≡ met ∷ []
  mentions_are =
      ap (mentions blocks) burst_named_is
      ∙ ap (λ (n : ℕ). mentions_within blocks n [] flat.burst) flat.bursts
      ∙ ap (λ (items : List BurstItem). flat_map (mentions_at blocks
      (mentions_within blocks flat.fewer (flat.burst.name ∷ [])) (flat.burst.name ∷ []) flat.burst) items) flat.burst_is.items
      ∙ ap (λ (front : List Mention). front ++ [])
      (item_met (mentions_within blocks flat.fewer (flat.burst.name ∷ [])) (flat.burst.name ∷ []))

  -- its Timing is known
  timing_known : is_timing blocks (numbered (codes "t") exec) ≡ true
  timing_known =
      some_passes (λ (t : TimingBlock). same t.name (numbered (codes "t") exec)) blocks.timings exec flat.timing
      flat.timing_only.is_there flat.timing_only.passes

  categories_fine : first_in (named_fault e (is_category blocks)) e.categories ≡ None
  categories_fine = ap (first_in (named_fault e (is_category blocks))) flat.declared.categories

  selector_fine : maybe_fault e (is_selector blocks) e.selector ≡ None
  selector_fine = ap (maybe_fault e (is_selector blocks)) flat.declared.selector

  timing_fine : maybe_fault e (is_timing blocks) e.timing ≡ None
  timing_fine =
      ap (maybe_fault e (is_timing blocks)) flat.declared.timing
      ∙ ap (λ (b : Bool). unless b (fault_at (exec_place e.name flat.declared.timing_line) UnknownName) None) timing_known

  burst_fine : named_fault e (is_burst blocks) e.burst ≡ None
  burst_fine =
      ap (λ (o : Option Burst). unless (is_some o) (fault_at (exec_place e.name e.burst.line) UnknownName) None) burst_named_is

  -- all its names are
  pub names_known : exec_names_fault blocks e ≡ None
  names_known =
      none_both (first_in (named_fault e (is_category blocks)) e.categories) _ categories_fine
      (none_both (maybe_fault e (is_selector blocks) e.selector) _ selector_fine
      (none_both (maybe_fault e (is_timing blocks) e.timing) _ timing_fine
      (none_both (named_fault e (is_burst blocks) e.burst) _ burst_fine
      (none_both (first_in unknown_fault (mentions blocks (burst_named blocks e.burst.name))) _
      (ap (first_in unknown_fault) mentions_are)
      (none_both (first_in cyclic_fault (mentions blocks (burst_named blocks e.burst.name))) _
      (ap (first_in cyclic_fault) mentions_are)
      (ap (λ (ps : List Played). unless (nat_le (length ps) most_patterns) (fault_at (exec_place e.name e.line) TooLarge) None)
      played_is))))))
