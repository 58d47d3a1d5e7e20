-- The signals of the blocks that a flat text says are those of the code, in order, and each is named by its name alone.
use Rattle.std.proofs.Common.{◌≡◌, ℕ, ◌<◌, false, ◌||◌, List, [], ◌∷◌, ◌++◌, length, take, map, Option, Some, None, refl, sym, ap, subst, ◌∙◌, cond}
use Rattle.std.specs.Prelude.{slice_get, is_some, flat_map}
use Rattle.std.specs.List.{AllZip, list_any}
use Rattle.std.specs.Option.{option_map_or}
use Rattle.std.proofs.lemmas.Bool.{false_from_ne_true, false≢true}
use Rattle.std.proofs.lemmas.Slice.Eq.{bytes_eq-Decides}
use Rattle.text_bytes.proofs.ListLemmas.{slice_get-there}
use Rattle.packed_code.specs.declared.parts.CodeSignal.{CodeSignal}
use Rattle.packed_code.specs.Program.{Program}
use Rattle.packed_code.specs.Conditions.{IsSignal, IsProgram}
use Rattle.stil_ast.specs.Data.Texts.{same}
use Rattle.stil_ast.specs.Meaning.Signals.{Signal, Names, signals_place, declared, grouped, names_of}
use Rattle.stil_ast.specs.Meaning.Members.{signal_of, group_of, is_based_on, based_on, text_members, plain_members, none_where, reference_kind, members}
use Rattle.stil_ast.specs.declared.signal.SignalDecl.{SignalDecl}
use Rattle.stil_ast.specs.declared.signal.GroupBlock.{GroupBlock}
use Rattle.stil_ast.specs.declared.blocks.Blocks.{Blocks}
use Rattle.stil_ast.specs.declared.fault.StilKind.{StilKind}
use Rattle.stil_ast.specs.declared.fault.StilKind.TheVariants.{UnknownName}
use Rattle.stil_ast.proofs.TextLemmas.{same-refl}
use Rattle.flat_parts.specs.FlatText.{name_of}
use Rattle.flat_parts.specs.FlatBlocks.{signal_called, IsSignalDecl, AreFlatBlocks}
use Rattle.flat_fine.proofs.ListLemmas.{IsFirst, first_position, beside, besides, as_many, fits_behind, taken, none_passes}

-- two texts that aren't one name
pub differ-sym : (a b : List ℕ) → same a b ≡ false → same b a ≡ false
differ-sym a b differ = false_from_ne_true (same b a) (λ t.
    false≢true (sym differ ∙ (bytes_eq-Decides a b).1 (sym ((bytes_eq-Decides b a).0 t))))

-- a signal of the code as a declaration on this line gives it
abbrev pub signal_on : CodeSignal → ℕ → Signal
signal_on s line = record { text = s.name; base = None; direction = s.direction; place = signals_place line }

-- a signal of a text beside one of the code
abbrev pub IsSameSignal : CodeSignal → Signal → Type 0
IsSameSignal s n = n ≡ signal_on s n.place.line

-- the names of a text that are those of a code
pub record AreNames (code : Program) (names : Names) : Type 0 where
  pub signals : AllZip IsSameSignal code.signals names.signals
  pub groups : names.groups ≡ []

-- what is declared of signals
declared_are : (signals : List CodeSignal) (declarations : List SignalDecl) → AllZip IsSignalDecl signals declarations
    → AllZip IsSameSignal signals (flat_map declared declarations)
declared_are [] [] all = tt
declared_are [] (d ∷ declarations) all = absurd all
declared_are (s ∷ signals) [] all = absurd all
declared_are (s ∷ signals) (d ∷ declarations) all =
    subst (λ (front : List Signal). AllZip IsSameSignal (s ∷ signals) (front ++ flat_map declared declarations))
    (sym (ap declared all.0)) (refl, declared_are signals declarations all.1)

-- the names of the blocks of a flat text
pub names_are : (code : Program) (blocks : Blocks) → AreFlatBlocks code blocks → AreNames code (names_of blocks)
names_are code blocks flat = record {
  signals = declared_are code.signals blocks.signals flat.signals;
  groups = ap (flat_map (λ (b : GroupBlock). map (grouped b.name) b.groups)) flat.groups;
}

-- as many signals
pub signal_count : (code : Program) (names : Names) → AreNames code names → length names.signals ≡ length code.signals
signal_count code names are = as_many IsSameSignal code.signals names.signals are.signals

-- no two signals have one name
pub names_differ : (code : Program) (number other : ℕ) (s t : CodeSignal) → IsProgram code → other < number
    → slice_get code.signals number ≡ Some s → slice_get code.signals other ≡ Some t → same t.name s.name ≡ false
names_differ code number other s t program less at before =
    let fits : IsSignal (take number code.signals) s = fits_behind IsSignal [] code.signals number s program.signals at in
    differ-sym s.name t.name
    (none_passes (λ (b : CodeSignal). same s.name b.name) (take number code.signals) other t fits.fresh
    (taken code.signals number other t less before))

module _ (code : Program) (names : Names) (number : ℕ) (program : IsProgram code) (are : AreNames code names)
    (less : number < length code.signals) where
  -- a signal is the first of its name
  signal_first : (s : CodeSignal) → slice_get code.signals number ≡ Some s
      → (n : Signal) × IsFirst (λ (x : Signal). same x.text s.name) names.signals number n
  signal_first s at =
      let there = besides IsSameSignal code.signals names.signals number s are.signals at in
      let n : Signal = there.0 in (
        n,
        record {
          is_there = there.1;
          passes = ap (λ (x : Signal). same x.text s.name) there.2 ∙ same-refl s.name;
          none_before = λ other x before from.
              let t = beside IsSameSignal code.signals names.signals other x are.signals from in
              ap (λ (y : Signal). same y.text s.name) t.2 ∙ names_differ code number other s t.0 program before at t.1;
        },
      )

  -- it is found by its name
  pub signal_is : signal_of names (name_of code number) ≡ Some number
  signal_is =
      let s = slice_get-there code.signals number less in
      let first = signal_first s.0 s.1 in
      ap (λ (o : Option CodeSignal). signal_of names (option_map_or (λ (x : CodeSignal). x.name) o [])) s.1
      ∙ first_position (λ (x : Signal). same x.text s.0.name) names.signals number first.0 first.1

  -- its name is known
  pub reference_known : reference_kind names (signal_called (name_of code number)) ≡ None
  reference_known =
      ap (λ (o : Option ℕ). cond (is_some o || is_some (group_of names (name_of code number))
      || list_any (λ (s : Signal). is_based_on (name_of code number) s.base) names.signals) None (Some UnknownName)) signal_is

  -- and stands for it alone
  pub reference_members : members names (signal_called (name_of code number)) ≡ number ∷ []
  reference_members =
      ap (λ (k : Option StilKind). none_where k (plain_members (signal_of names (name_of code number))
      (group_of names (name_of code number)) (text_members names (length names.groups)) (based_on names (name_of code number))))
      reference_known
      ∙ ap (λ (o : Option ℕ). plain_members o (group_of names (name_of code number))
      (text_members names (length names.groups)) (based_on names (name_of code number))) signal_is
