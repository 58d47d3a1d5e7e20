-- The signals of a text without a fault meet the conditions on a code's signals.
use Rattle.std.proofs.Common.{◌≡◌, ℕ, ◌&&◌, ◌||◌, Bool, true, false, List, [], ◌∷◌, ◌++◌, length, map, Option, Some, None, refl, sym, ap, subst, ◌∙◌}
use Rattle.std.specs.Prelude.{nat_le, nat_lt}
use Rattle.std.specs.List.{list_all, list_any, flat_map, AllByRecursion}
use Rattle.std.proofs.lemmas.Bool.{and_parts, leb-true}
use Rattle.std.proofs.lemmas.List.{map-append}
use Rattle.std.proofs.lemmas.Option.{none-some}
use Rattle.text_bytes.specs.Limits.{longest_name, most_signals}
use Rattle.stil_ast.specs.Data.BlockForms.{is_signal_decl}
use Rattle.stil_ast.specs.Data.Forms.{is_absent_or, is_range, is_line}
use Rattle.stil_ast.specs.Data.Texts.{same, is_name, indexed, indices}
use Rattle.stil_ast.specs.Faults.Found.{refuse_if}
use Rattle.stil_ast.specs.Faults.SignalFaults.{signals_fault}
use Rattle.stil_ast.specs.Meaning.Signals.{Signal, declared, declared_as, signals_place}
use Rattle.stil_ast.specs.declared.name.IndexRange.{IndexRange}
use Rattle.stil_ast.specs.declared.signal.SignalDecl.{SignalDecl}
use Rattle.stil_ast.specs.declared.fault.StilFault.{StilFault}
use Rattle.signal_groups.proofs.LookupLemmas.{same-sym}
use Rattle.packed_code.specs.declared.parts.CodeSignal.{CodeSignal}
use Rattle.packed_code.specs.Conditions.{EachBehind, IsSignal, is_named}
use Rattle.packed_code.proofs.Lists.{all_passing}
use Rattle.cycle_comp.specs.Compiled.{signal_of}
use Rattle.cycle_comp.proofs.EachLemmas.{all_flat_map}
use Rattle.burst_exec.proofs.WaveLemmas.{passed}
use Rattle.cycle_comp.proofs.NameLemmas.{IsShown, shown_is, names_shown, short_name}

-- a test that must fail fails
pub refused_not : (b : Bool) (f : StilFault) (rest : Option StilFault) → refuse_if b f rest ≡ None
    → (b ≡ false) × (rest ≡ None)
refused_not true f rest h = absurd (none-some f (sym h))
refused_not false f rest h = (refl, h)

-- no signal of a code has the name that no signal has
fresh : (text : List ℕ) (before : List Signal) → list_any (λ (b : Signal). same b.text text) before ≡ false
    → list_any (is_named text) (map signal_of before) ≡ false
fresh text [] h = refl
fresh text (b ∷ before) h = rest (same b.text text) refl h (fresh text before)
  where
    rest : (t : Bool) → same b.text text ≡ t → (t || list_any (λ (b : Signal). same b.text text) before) ≡ false
        → (list_any (λ (b : Signal). same b.text text) before ≡ false
        → list_any (is_named text) (map signal_of before) ≡ false)
        → (is_named text (signal_of b) || list_any (is_named text) (map signal_of before)) ≡ false
    rest true is h go = absurd cc
    rest false is h go =
        ap (λ (t : Bool). t || list_any (is_named text) (map signal_of before)) (same-sym text b.text ∙ is) ∙ go h

-- signals that are printable and without a fault
signals_each : (before signals : List Signal) → signals_fault before signals ≡ None
    → AllByRecursion (λ (s : Signal). IsShown s.text) signals
    → EachBehind IsSignal (map signal_of before) (map signal_of signals)
signals_each before [] fine shown = tt
signals_each before (s ∷ signals) fine shown =
    let new = refused_not (list_any (λ (b : Signal). same b.text s.text) before) _ _ fine in
    let short = passed (nat_le (length s.text) longest_name) _ _ new.1 in
    let room = passed (nat_lt (length before) most_signals) _ _ short.1 in (
      record {
        name = short_name s.text shown.0 (leb-true (length s.text) longest_name short.0);
        fresh = fresh s.text before new.0;
      },
      subst (λ (b : List CodeSignal). EachBehind IsSignal b (map signal_of signals)) (map-append signal_of before (s ∷ []))
          (signals_each (before ++ s ∷ []) signals room.1 shown.1),
    )

-- what each is declared as
decl_shown : (d : SignalDecl) → is_signal_decl d ≡ true → AllByRecursion (λ (s : Signal). IsShown s.text) (declared d)
decl_shown d form = by_range d.range parts.1
  where
    parts : (is_name d.name ≡ true) × (is_absent_or is_range d.range ≡ true)
    parts =
        and_parts (is_name d.name) (is_absent_or is_range d.range)
        (and_parts (is_name d.name && is_absent_or is_range d.range) (is_line d.line) form).0

    by_range : (o : Option IndexRange) → is_absent_or is_range o ≡ true
        → AllByRecursion (λ (s : Signal). IsShown s.text) (declared_as d o)
    by_range None h = (shown_is d.name parts.0, tt)
    by_range (Some r) h =
        mapped (indices r) (unmapped (indices r) (names_shown d.name (Some r) (shown_is d.name parts.0) h))
      where
        unmapped : (is : List ℕ) → AllByRecursion IsShown (map (indexed d.name) is)
            → AllByRecursion (λ (i : ℕ). IsShown (indexed d.name i)) is
        unmapped [] all = tt
        unmapped (i ∷ is) all = (all.0, unmapped is all.1)

        mapped : (is : List ℕ) → AllByRecursion (λ (i : ℕ). IsShown (indexed d.name i)) is
            → AllByRecursion (λ (s : Signal). IsShown s.text) (map (λ (i : ℕ). record {
              text = indexed d.name i;
              base = Some d.name;
              direction = d.direction;
              place = signals_place d.line;
            }) is)
        mapped [] all = tt
        mapped (i ∷ is) all = (all.0, mapped is all.1)

-- the signals of declarations in their form
pub signals_are : (decls : List SignalDecl) → list_all is_signal_decl decls ≡ true
    → signals_fault [] (flat_map declared decls) ≡ None
    → EachBehind IsSignal [] (map signal_of (flat_map declared decls))
signals_are decls forms fine =
    signals_each [] (flat_map declared decls) fine
    (all_flat_map declared (λ (d : SignalDecl). is_signal_decl d ≡ true) (λ (s : Signal). IsShown s.text)
    (λ d form. decl_shown d form) decls (all_passing is_signal_decl decls forms))
