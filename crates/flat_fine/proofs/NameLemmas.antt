-- The signals that a flat text declares have no fault.
use Rattle.std.proofs.Common.{◌≡◌, ℕ, ◌+◌, ◌≤◌, Bool, true, false, List, [], ◌∷◌, ◌++◌, length, length-append, Option, None, refl, sym, ap, subst, ◌∙◌, arith}
use Rattle.std.specs.Prelude.{nat_le, nat_lt}
use Rattle.std.specs.List.{AllZip, list_any}
use Rattle.std.proofs.lemmas.Bool.{le-leb, lt-ltb, or_parts, or_from}
use Rattle.std.proofs.lemmas.Slice.Zip.{all_zipped_more}
use Rattle.text_bytes.specs.Limits.{longest_name, most_signals}
use Rattle.packed_code.specs.declared.parts.CodeSignal.{CodeSignal}
use Rattle.packed_code.specs.Program.{Program}
use Rattle.packed_code.specs.Conditions.{EachBehind, IsSignal, is_named, IsProgram}
use Rattle.stil_ast.specs.Data.Texts.{same}
use Rattle.stil_ast.specs.Meaning.Signals.{Signal, Group, names_of}
use Rattle.stil_ast.specs.Faults.Found.{fault_at, refuse_if, unless, first_in, or_else}
use Rattle.stil_ast.specs.Faults.SignalFaults.{signals_fault, groups_fault, group_fault, fourth_fault}
use Rattle.stil_ast.specs.declared.blocks.Blocks.{Blocks}
use Rattle.stil_ast.specs.declared.fault.StilFault.{StilFault}
use Rattle.stil_ast.specs.declared.fault.StilKind.TheVariants.{Twice, OutOfRange}
use Rattle.stil_ast.proofs.FoundLemmas.{none_both}
use Rattle.flat_parts.specs.FlatBlocks.{AreFlatBlocks}
use Rattle.flat_fine.proofs.ListLemmas.{as_many}
use Rattle.flat_fine.proofs.SignalLemmas.{differ-sym, IsSameSignal, names_are}

-- a name that none has before
still_fresh : (name : List ℕ) (before : List CodeSignal) (signals : List Signal) → AllZip IsSameSignal before signals
    → list_any (is_named name) before ≡ false → list_any (λ (b : Signal). same b.text name) signals ≡ false
still_fresh name [] [] all fresh = refl
still_fresh name [] (n ∷ signals) all fresh = absurd all
still_fresh name (s ∷ before) [] all fresh = absurd all
still_fresh name (s ∷ before) (n ∷ signals) all fresh =
    let parts = or_parts (is_named name s) (list_any (is_named name) before) fresh in
    or_from (same n.text name) (list_any (λ (b : Signal). same b.text name) signals)
    (ap (λ (b : Signal). same b.text name) all.0 ∙ differ-sym name s.name parts.0)
    (still_fresh name before signals all.1 parts.1)

-- what is behind three tests that pass
three_pass : (twice short few : Bool) (a b c : StilFault) (rest : Option StilFault) → twice ≡ false → short ≡ true → few ≡ true
    → rest ≡ None → refuse_if twice a (unless short b (unless few c rest)) ≡ None
three_pass twice short few a b c rest h1 h2 h3 h4 = rw (h1, h2, h3) h4

-- one signal behind others
signals_fine : (before signals : List CodeSignal) (befores names : List Signal) → AllZip IsSameSignal before befores
    → AllZip IsSameSignal signals names → EachBehind IsSignal before signals
    → length before + length signals ≤ most_signals → signals_fault befores names ≡ None
signals_fine before [] befores [] all rest each few = refl
signals_fine before [] befores (n ∷ names) all rest each few = absurd rest
signals_fine before (s ∷ signals) befores [] all rest each few = absurd rest
signals_fine before (s ∷ signals) befores (n ∷ names) all rest each few =
    let many : length befores ≡ length before = as_many IsSameSignal before befores all in
    let short : length n.text ≤ longest_name =
    subst (λ (x : Signal). length x.text ≤ longest_name) (sym rest.0) each.0.name.text.short in
    three_pass (list_any (λ (b : Signal). same b.text n.text) befores) (nat_le (length n.text) longest_name)
    (nat_lt (length befores) most_signals) (fault_at n.place Twice) (fault_at n.place OutOfRange) (fault_at n.place OutOfRange)
    (signals_fault (befores ++ n ∷ []) names)
    (still_fresh n.text before befores all (ap (λ (x : Signal). list_any (is_named x.text) before) rest.0 ∙ each.0.fresh))
    (le-leb (length n.text) longest_name short)
    (lt-ltb (length befores) most_signals (omega (arith, many, few)))
    (signals_fine (before ++ s ∷ []) signals (befores ++ n ∷ []) names
    (all_zipped_more IsSameSignal before befores s n all rest.0) rest.1 each.1
    (omega (arith, length-append before (s ∷ []), few)))

-- signals and groups
pub names_fine : (code : Program) (blocks : Blocks) → IsProgram code → AreFlatBlocks code blocks → fourth_fault blocks ≡ None
names_fine code blocks program flat =
    let are = names_are code blocks flat in
    let names = names_of blocks in
    none_both (signals_fault [] names.signals) (or_else (groups_fault [] names.groups) (first_in (group_fault names) names.groups))
    (signals_fine [] code.signals [] names.signals tt are.signals program.signals (omega (arith, program.few_signals)))
    (ap (λ (groups : List Group). or_else (groups_fault [] groups) (first_in (group_fault names) groups)) are.groups)
