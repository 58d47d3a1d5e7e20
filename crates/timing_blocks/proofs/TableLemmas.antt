-- A waveform table is what the machine makes of its statements; and it has the name that stands behind its keyword.
use Rattle.std.proofs.Common.{◌≡◌, ℕ, suc, Bool, true, false, cond, List, [], ◌∷◌, ◌++◌, slice_get, Option, Some, None, is_some, Result, Ok, Err, refl, ap, sym, ◌∙◌, append-nil}
use Rattle.std.specs.List.{filter_map, flat_map, cons_option}
use Rattle.std.proofs.lemmas.List.Elements.{filter_map-append}
use Rattle.std.proofs.lemmas.Grind.{flat_map-append}
use Rattle.answers.specs.Reading.{and_then, reading, stepping}
use Rattle.stil_tree.specs.Trees.{Entry}
use Rattle.stil_form.specs.declared.fault.FormFault.{FormFault}
use Rattle.stil_form.specs.declared.fault.FormKind.TheVariants.{Twice}
use Rattle.stil_form.specs.Setting.{Setting, lexemes_at, at_statement, inner_of, unskipped}
use Rattle.stil_ast.specs.declared.name.Named.{Named}
use Rattle.stil_ast.specs.declared.name.Quoted.{Quoted}
use Rattle.stil_ast.specs.declared.timing.SignalWaves.{SignalWaves}
use Rattle.stil_ast.specs.declared.timing.TableDecl.{TableDecl}
use Rattle.timing_blocks.specs.declared.timings.TableWord.{TableWord}
use Rattle.timing_blocks.specs.declared.timings.TableWord.TheVariants as word
use Rattle.pat_read.proofs.AcceptedLemmas.{both_ok}
use Rattle.block_forms.specs.Heads.{bare_block}
use Rattle.block_forms.specs.Named.{named_on}
use Rattle.block_forms.specs.Quotes.{quoted_at}
use Rattle.block_forms.specs.Keywords.{first_meaning}
use Rattle.block_forms.proofs.QuoteForms.{same_ok}
use Rattle.timing_blocks.specs.Waveforms.{signals_of}
use Rattle.timing_blocks.specs.Timings.{TableLine, period, inherit, waves, period_in, inherit_in, waves_in, period_of, new_period, plain_text, plain_name, table_words, line_by, judge_line, table_in, table_of}
use Rattle.timing_blocks.specs.Working.{with_period, with_inherit, with_waveforms, table_by, table_step, empty_table}
use Rattle.timing_blocks.proofs.MadeLemmas.{stepping-made}

-- tables are alike where what they say is
abbrev table_with : List ℕ → ℕ → Option Quoted → List Named → List SignalWaves → TableDecl
table_with called line p inherited said =
    record { name = called; period = p; inherits = inherited; waveforms = said; line = line }

alike : (called : List ℕ) (line : ℕ) (p q : Option Quoted) (inherited others : List Named) (said more : List SignalWaves)
    → p ≡ q → inherited ≡ others → said ≡ more → table_with called line p inherited said ≡ table_with called line q others more
alike called line p q inherited others said more a b c = cc

-- a table of which nothing was read
pub empty_is : (name called : List ℕ) (line : ℕ) (inherited : List Named) (said : List SignalWaves) → name ≡ called → inherited ≡ []
    → said ≡ [] → table_with name line None inherited said ≡ empty_table called line
empty_is name called line inherited said a b c = cc

-- one more statement says no period, inherits nothing, or says no waveforms
same_period : (before : List TableLine) (one : TableLine) → period_in one ≡ None → period_of (before ++ one ∷ []) ≡ period_of before
same_period before one none =
    ap (λ (found : List Quoted). slice_get found 0)
    (filter_map-append period_in before (one ∷ [])
    ∙ ap (λ (o : Option Quoted). filter_map period_in before ++ cons_option o []) none
    ∙ append-nil (filter_map period_in before))

same_inherits : (before : List TableLine) (one : TableLine) → inherit_in one ≡ None
    → filter_map inherit_in (before ++ one ∷ []) ≡ filter_map inherit_in before
same_inherits before one none =
    filter_map-append inherit_in before (one ∷ [])
    ∙ ap (λ (o : Option Named). filter_map inherit_in before ++ cons_option o []) none
    ∙ append-nil (filter_map inherit_in before)

more_waves : (before : List TableLine) (one : TableLine)
    → flat_map waves_in (before ++ one ∷ []) ≡ flat_map waves_in before ++ waves_in one
more_waves before one =
    flat_map-append waves_in before (one ∷ [])
    ∙ ap (λ (more : List SignalWaves). flat_map waves_in before ++ more) (append-nil (waves_in one))

same_waves : (before : List TableLine) (one : TableLine) → waves_in one ≡ []
    → flat_map waves_in (before ++ one ∷ []) ≡ flat_map waves_in before
same_waves before one none =
    more_waves before one ∙ ap (λ (more : List SignalWaves). flat_map waves_in before ++ more) none
    ∙ append-nil (flat_map waves_in before)

-- a period where there was none
first_of_one : (found : List Quoted) (q : Quoted) → is_some (slice_get found 0) ≡ false → slice_get (found ++ q ∷ []) 0 ≡ Some q
first_of_one [] q none = refl
first_of_one (one ∷ found) q none = cc

first_period : (before : List TableLine) (q : Quoted) → is_some (period_of before) ≡ false
    → period_of (before ++ period q ∷ []) ≡ Some q
first_period before q none =
    ap (λ (found : List Quoted). slice_get found 0) (filter_map-append period_in before (period q ∷ []))
    ∙ first_of_one (filter_map period_in before) q none

-- the machine's table with one more of its statements
module _ (called : List ℕ) (line : ℕ) (before : List TableLine) where
  period_more : (first : ℕ) (q : Quoted) (b : Bool) → is_some (period_of before) ≡ b
      → at_statement first (cond b (Err Twice)
      (Ok (table_with called line (Some q) (filter_map inherit_in before) (flat_map waves_in before))))
      ≡ and_then (at_statement first (cond b (Err Twice) (Ok (period q)))) (λ one. Ok (table_in called line (before ++ one ∷ [])))
  period_more first q true is = refl
  period_more first q false is =
      ap Ok (alike called line _ _ _ _ _ _ (sym (first_period before q is)) (sym (same_inherits before (period q) refl))
      (sym (same_waves before (period q) refl)))

  period_by : (s : Setting) (e : Entry) (r : Result (List ℕ) FormFault)
      → and_then r (λ text. at_statement e.first (with_period (table_in called line before) (quoted_at s (suc e.first) text)))
      ≡ and_then (and_then r (λ text. at_statement e.first (new_period before (quoted_at s (suc e.first) text))))
      (λ one. Ok (table_in called line (before ++ one ∷ [])))
  period_by s e (Ok text) = period_more e.first (quoted_at s (suc e.first) text) (is_some (period_of before)) refl
  period_by s e (Err fault) = refl

  inherit_by : (s : Setting) (e : Entry) (r : Result (List ℕ) FormFault)
      → and_then r (λ name. Ok (with_inherit (table_in called line before) (named_on s e name)))
      ≡ and_then (and_then r (λ name. Ok (inherit (named_on s e name)))) (λ one. Ok (table_in called line (before ++ one ∷ [])))
  inherit_by s e (Ok name) =
      let one = inherit (named_on s e name) in
      ap Ok (alike called line _ _ _ _ _ _ (sym (same_period before one refl)) (sym (filter_map-append inherit_in before (one ∷ [])))
      (sym (same_waves before one refl)))
  inherit_by s e (Err fault) = refl

  waves_by : (r : Result (List SignalWaves) FormFault)
      → and_then r (λ said. Ok (with_waveforms (table_in called line before) said))
      ≡ and_then (and_then r (λ said. Ok (waves said))) (λ one. Ok (table_in called line (before ++ one ∷ [])))
  waves_by (Ok said) =
      ap Ok (alike called line _ _ _ _ _ _ (sym (same_period before (waves said) refl)) (sym (same_inherits before (waves said) refl))
      (sym (more_waves before (waves said))))
  waves_by (Err fault) = refl

  block_by : {X : Type 0} (r : Result X FormFault) (inside : Result (List SignalWaves) FormFault)
      → and_then r (λ nothing. and_then inside (λ said. Ok (with_waveforms (table_in called line before) said)))
      ≡ and_then (and_then r (λ nothing. and_then inside (λ said. Ok (waves said)))) (λ one. Ok (table_in called line (before ++ one ∷ [])))
  block_by (Ok nothing) inside = waves_by inside
  block_by (Err fault) inside = refl

  line_more : (s : Setting) (e : Entry) (first : Option TableWord)
      → table_by s (table_in called line before) e first
      ≡ and_then (line_by s before e first) (λ one. Ok (table_in called line (before ++ one ∷ [])))
  line_more s e None = refl
  line_more s e (Some word.Period) = period_by s e (plain_text s e)
  line_more s e (Some word.Inherit) = inherit_by s e (plain_name s e)
  line_more s e (Some word.Waveforms) = block_by (bare_block s e) (signals_of s (inner_of e.body))

-- the machine comes to what is made of all that is read
pub table_computed : (s : Setting) (called : List ℕ) (line : ℕ) (es : List Entry)
    → stepping (table_step s) (empty_table called line) es
    ≡ and_then (reading (judge_line s) [] es) (λ said. Ok (table_in called line said))
table_computed s called line es =
    stepping-made (table_step s) (judge_line s) (table_in called line)
    (λ before e. line_more called line before s e (first_meaning table_words (lexemes_at s e))) [] es

-- the table has its name
pub name-table_of : (s : Setting) (called : List ℕ) (line : ℕ) (es : List Entry) (table : TableDecl)
    → table_of s called line es ≡ Ok table → table.name ≡ called
name-table_of s called line es table is =
    let both = both_ok (reading (judge_line s) [] (unskipped s es)) (λ said. Ok (table_in called line said)) table is in
    sym (ap (λ (t : TableDecl). t.name) (same_ok (table_in called line both.given) table both.made))
