-- The blocks that are read of a text's tokens and statements are of one text.
use Rattle.std.proofs.Common.{◌≡◌, ℕ, ◌≤◌, arith, Bool, true, false, cond, nat_lt, List, [], ◌∷◌, ◌++◌, length, map, Option, Some, None, Result, Ok, Err, refl, sym, ap, subst, ◌∙◌, append-nil, length-append}
use Rattle.std.specs.List.{AllByRecursion, list_all, flat_map}
use Rattle.std.proofs.lemmas.Bool.{and_from, ltb-true}
use Rattle.std.proofs.lemmas.List.{append_assoc, length-map}
use Rattle.std.proofs.lemmas.List.Folds.{list_all-append}
use Rattle.text_bytes.specs.Limits.{most_bytes, most_executives}
use Rattle.answers.specs.Reading.{and_then, stepping}
use Rattle.stil_lex.specs.declared.token.Token.{Token}
use Rattle.stil_lex.specs.Tokens.{Reads}
use Rattle.stil_tree.specs.Trees.{Trees, Entry, end, plain, block, entries}
use Rattle.stil_tree.specs.Grammar.{Parses}
use Rattle.stil_form.specs.declared.fault.FormFault.{FormFault}
use Rattle.stil_form.specs.declared.fault.FormFault.TheVariants.{Refused}
use Rattle.stil_form.specs.declared.fault.FormKind.TheVariants.{Twice, OutOfRange}
use Rattle.stil_form.specs.Reading.{is_skipped}
use Rattle.stil_form.specs.Setting.{Setting, setting, lexemes_at, inner_of}
use Rattle.stil_ast.specs.Data.Texts.{same}
use Rattle.stil_ast.specs.Data.Forms.{all_differ}
use Rattle.stil_ast.specs.Data.BlockForms.{is_signal_decl, is_group_block, is_spec_block, is_selector, is_timing_block, is_scan_block, is_def_block, is_pattern, is_burst, is_exec_decl}
use Rattle.stil_ast.specs.Data.OneText.{AreOfOneText}
use Rattle.stil_ast.specs.Data.Written.{Written}
use Rattle.stil_ast.specs.Meaning.Tables.{tables_named}
use Rattle.stil_ast.specs.Meaning.Chains.{chains_named}
use Rattle.stil_ast.specs.declared.variable.Selector.{Selector}
use Rattle.stil_ast.specs.declared.timing.TableDecl.{TableDecl}
use Rattle.stil_ast.specs.declared.timing.TimingBlock.{TimingBlock}
use Rattle.stil_ast.specs.declared.scan.ChainDecl.{ChainDecl}
use Rattle.stil_ast.specs.declared.scan.ScanBlock.{ScanBlock}
use Rattle.stil_ast.specs.declared.blocks.BodyDef.{BodyDef}
use Rattle.stil_ast.specs.declared.blocks.DefBlock.{DefBlock}
use Rattle.stil_ast.specs.declared.blocks.Pattern.{Pattern}
use Rattle.stil_ast.specs.declared.blocks.Blocks.{Blocks}
use Rattle.stil_ast.specs.declared.signal.SignalDecl.{SignalDecl}
use Rattle.stil_ast.specs.declared.signal.GroupBlock.{GroupBlock}
use Rattle.stil_ast.specs.declared.variable.SpecBlock.{SpecBlock}
use Rattle.stil_ast.specs.declared.executive.Burst.{Burst}
use Rattle.stil_ast.specs.declared.executive.ExecDecl.{ExecDecl}
use Rattle.pat_read.specs.declared.reader.BodyPlace.{BodyPlace}
use Rattle.pat_read.specs.declared.reader.BodyPlace.TheVariants as place
use Rattle.pat_read.specs.Accepted.{AreLexed}
use Rattle.pat_read.proofs.AcceptedLemmas.{both_ok, list_all-one}
use Rattle.pat_read.proofs.AcceptedBodies.{bodies_have_form}
use Rattle.stil_read.specs.declared.keyword.Keyword.{Keyword}
use Rattle.stil_read.specs.declared.keyword.Keyword.TheVariants as keyword
use Rattle.block_forms.specs.Heads.{trees_in, named_block, titled_block, bare_block, is_declared, under}
use Rattle.signal_blocks.specs.Signals.{signals_block}
use Rattle.signal_blocks.specs.Groups.{groups_block}
use Rattle.timing_blocks.specs.Variables.{spec_block}
use Rattle.timing_blocks.specs.Selectors.{selector_block, selector_of, selections_of}
use Rattle.timing_blocks.specs.Timings.{timing_block}
use Rattle.scan_blocks.specs.Chains.{scan_block}
use Rattle.pattern_blocks.specs.Defs.{body_in, pattern_called, defs_block, pattern_block}
use Rattle.pattern_blocks.specs.Bursts.{burst_block, burst_called, items_in}
use Rattle.pattern_blocks.specs.Executives.{exec_block}
use Rattle.stil_read.specs.Top.{Top, tables_in, chains_in, bodies_in, untitled, once, few, pattern_names, burst_names, selector_names, more_signals, more_groups, more_specs, more_selectors, more_timings, more_scans, more_defs, more_bursts, more_executives, more_patterns, block_step, words_said, with_words, with_blocks, keyword_at, keyword_step, by_keyword, top_step, is_stil_1_0, with_executive, finished, start, behind_header, blocks_of}
use Rattle.block_forms.proofs.AcceptedLemmas.{HaveLines, IsLined, kept}
use Rattle.pattern_blocks.proofs.BurstLemmas.{burst_block-is}
use Rattle.scan_blocks.proofs.ChainLemmas.{AreFew, scan_block-is, scan_block-few}
use Rattle.block_forms.proofs.FormLemmas.{said_where, said_unless}
use Rattle.block_forms.proofs.DeclaredForms.{Differ, Differ-push, names_under-under, names_under-blocks, length-names_under}
use Rattle.pattern_blocks.proofs.DefLemmas.{BodiesFit, pattern_block-is, defs_block-is, defs_block-differ}
use Rattle.pattern_blocks.proofs.ExecutiveLemmas.{exec_block-is}
use Rattle.stil_read.proofs.LexedLemmas.{are_lexed, statements_have_lines}
use Rattle.stil_read.proofs.NameLemmas.{named-by, untitled-more}
use Rattle.signal_blocks.proofs.SignalForms.{signals_block-is, groups_block-is}
use Rattle.timing_blocks.proofs.TableNames.{AreTableNames, names-timing_block, no_table_names}
use Rattle.timing_blocks.proofs.TimingForms.{is_timing_block-timing_block}
use Rattle.timing_blocks.proofs.VariableForms.{spec_block-is, selector_block-is}

-- blocks that have their form, of which no name stands twice
record FitOnce {X : Type 0} (test : X → Bool) (name : X → List ℕ) (xs : List X) : Type 0 where
  pub each : list_all test xs ≡ true
  pub differ : Differ (untitled (map name xs))

-- blocks whose items have names under titles
record FitTimings (timings : List TimingBlock) : Type 0 where
  pub each : list_all is_timing_block timings ≡ true
  pub names : AreTableNames (tables_in timings)

record FitScans (scans : List ScanBlock) : Type 0 where
  pub each : list_all is_scan_block scans ≡ true
  pub few_chains : AreFew (chains_in scans)

record FitDefs (blocks : List DefBlock) : Type 0 where
  pub each : list_all is_def_block blocks ≡ true
  pub differ : Differ (bodies_in blocks)

-- executives, not too many
record FitExecutives (executives : List ExecDecl) : Type 0 where
  pub each : list_all is_exec_decl executives ≡ true
  pub within : length executives ≤ most_executives

-- what is asked of the blocks of a keyword
abbrev FitAt : Keyword → Blocks → Type 0
FitAt keyword.Signals b = list_all is_signal_decl b.signals ≡ true
FitAt keyword.SignalGroups b = list_all is_group_block b.groups ≡ true
FitAt keyword.Spec b = list_all is_spec_block b.specs ≡ true
FitAt keyword.Selector b = FitOnce is_selector (λ (x : Selector). x.name) b.selectors
FitAt keyword.Timing b = FitTimings b.timings
FitAt keyword.ScanStructures b = FitScans b.scans
FitAt keyword.MacroDefs b = FitDefs b.macros
FitAt keyword.Procedures b = FitDefs b.procedures
FitAt keyword.Pattern b = FitOnce is_pattern (λ (x : Pattern). x.name) b.patterns
FitAt keyword.PatternBurst b = FitOnce is_burst (λ (x : Burst). x.name) b.bursts
FitAt keyword.PatternExec b = FitExecutives b.executives
FitAt _ b = Unit {0}

-- all blocks
abbrev AllFit : Blocks → Type 0
AllFit b = (k : Keyword) → FitAt k b

-- other blocks of one keyword change nothing of those of the others
with_signals : (b : Blocks) (all : List SignalDecl) → AllFit b → list_all is_signal_decl all ≡ true → AllFit (record b { signals = all })
with_signals b all h new keyword.Signals = new
with_signals b all h new k = h k

with_groups : (b : Blocks) (all : List GroupBlock) → AllFit b → list_all is_group_block all ≡ true → AllFit (record b { groups = all })
with_groups b all h new keyword.SignalGroups = new
with_groups b all h new k = h k

with_specs : (b : Blocks) (all : List SpecBlock) → AllFit b → list_all is_spec_block all ≡ true → AllFit (record b { specs = all })
with_specs b all h new keyword.Spec = new
with_specs b all h new k = h k

with_selectors : (b : Blocks) (all : List Selector) → AllFit b → FitOnce is_selector (λ (x : Selector). x.name) all → AllFit (record b { selectors = all })
with_selectors b all h new keyword.Selector = new
with_selectors b all h new k = h k

with_timings : (b : Blocks) (all : List TimingBlock) → AllFit b → FitTimings all → AllFit (record b { timings = all })
with_timings b all h new keyword.Timing = new
with_timings b all h new k = h k

with_scans : (b : Blocks) (all : List ScanBlock) → AllFit b → FitScans all → AllFit (record b { scans = all })
with_scans b all h new keyword.ScanStructures = new
with_scans b all h new k = h k

with_macros : (b : Blocks) (all : List DefBlock) → AllFit b → FitDefs all → AllFit (record b { macros = all })
with_macros b all h new keyword.MacroDefs = new
with_macros b all h new k = h k

with_procedures : (b : Blocks) (all : List DefBlock) → AllFit b → FitDefs all → AllFit (record b { procedures = all })
with_procedures b all h new keyword.Procedures = new
with_procedures b all h new k = h k

with_patterns : (b : Blocks) (all : List Pattern) → AllFit b → FitOnce is_pattern (λ (x : Pattern). x.name) all → AllFit (record b { patterns = all })
with_patterns b all h new keyword.Pattern = new
with_patterns b all h new k = h k

with_bursts : (b : Blocks) (all : List Burst) → AllFit b → FitOnce is_burst (λ (x : Burst). x.name) all → AllFit (record b { bursts = all })
with_bursts b all h new keyword.PatternBurst = new
with_bursts b all h new k = h k

with_executives : (b : Blocks) (all : List ExecDecl) → AllFit b → FitExecutives all → AllFit (record b { executives = all })
with_executives b all h new keyword.PatternExec = new
with_executives b all h new k = h k

-- what is made of one block more
more_made : {X : Type 0} (before : List X) (r : Result X FormFault) (next : List X)
    → and_then r (λ one. Ok (before ++ one ∷ [])) ≡ Ok next
    → (one : X) × (r ≡ Ok one) × (before ++ one ∷ [] ≡ next)
more_made before r next is =
    let both = both_ok r (λ one. Ok (before ++ one ∷ [])) next is in (both.given, both.met, cc)

-- a block whose name was not declared
record IsOnce {X : Type 0} (declared : List (List ℕ × List ℕ)) (s : Setting) (e : Entry) (read : Result X FormFault) (x : X) : Type 0 where
  pub called : List ℕ
  pub met : named_block s e ≡ Ok called
  pub new : is_declared declared [] called ≡ false
  pub made : read ≡ Ok x

once_made : {X : Type 0} (declared : List (List ℕ × List ℕ)) (s : Setting) (e : Entry) (read : Result X FormFault) (x : X)
    → once declared s e read ≡ Ok x → IsOnce declared s e read x
once_made declared s e read x is =
    let both = both_ok (named_block s e) (λ called. cond (is_declared declared [] called) (Err (Refused Twice e.first)) read) x is in
    let parts = said_unless (is_declared declared [] both.given) (Refused Twice e.first) read x both.made in
    record { called = both.given; met = both.met; new = parts.0; made = parts.1 }

-- one more of those whose names stand once
one_more : {X : Type 0} (test : X → Bool) (name : X → List ℕ) (before : List X) (one : X) (called : List ℕ)
    → FitOnce test name before → test one ≡ true → name one ≡ called
    → is_declared (untitled (map name before)) [] called ≡ false → FitOnce test name (before ++ one ∷ [])
one_more test name before one called held fits is new = record {
  each = list_all-one test before one held.each fits;
  differ = subst Differ (sym (untitled-more name before one called is)) (Differ-push (untitled (map name before)) [] called held.differ new);
}

-- one list more
flat_one : {X Y : Type 0} (f : X → List Y) (xs : List X) (x : X) → flat_map f (xs ++ x ∷ []) ≡ flat_map f xs ++ f x
flat_one f [] x = append-nil (f x)
flat_one f (y ∷ ys) x = ap (λ zs. f y ++ zs) (flat_one f ys x) ∙ sym (append_assoc (f y) (flat_map f ys) (f x))

-- each kind of block
signals_fit : (s : Setting) → AreLexed s → (before next : List SignalDecl) (e : Entry) → list_all is_signal_decl before ≡ true
    → more_signals s before e ≡ Ok next → list_all is_signal_decl next ≡ true
unfolding more_signals
signals_fit s lexed before next e held is =
    let both = both_ok (signals_block s e) (λ more. Ok (before ++ more)) next is in
    let same_list : before ++ both.given ≡ next = cc in
    subst (λ (xs : List SignalDecl). list_all is_signal_decl xs ≡ true) same_list
    (list_all-append is_signal_decl before both.given
    ∙ and_from (list_all is_signal_decl before) (list_all is_signal_decl both.given) held
    (signals_block-is s lexed.lines e both.given both.met))

groups_fit : (s : Setting) → AreLexed s → (before next : List GroupBlock) (e : Entry) → list_all is_group_block before ≡ true
    → more_groups s before e ≡ Ok next → list_all is_group_block next ≡ true
unfolding more_groups
groups_fit s lexed before next e held is =
    let one = more_made before (groups_block s e) next is in
    subst (λ (xs : List GroupBlock). list_all is_group_block xs ≡ true) one.2
    (list_all-one is_group_block before one.0 held (groups_block-is s lexed.lines e one.0 one.1))

specs_fit : (s : Setting) → AreLexed s → (before next : List SpecBlock) (e : Entry) → list_all is_spec_block before ≡ true
    → more_specs s before e ≡ Ok next → list_all is_spec_block next ≡ true
unfolding more_specs
specs_fit s lexed before next e held is =
    let one = more_made before (spec_block s e) next is in
    subst (λ (xs : List SpecBlock). list_all is_spec_block xs ≡ true) one.2
    (list_all-one is_spec_block before one.0 held (spec_block-is s lexed.lines e one.0 one.1))

selectors_fit : (s : Setting) (before next : List Selector) (e : Entry) → FitOnce is_selector (λ (x : Selector). x.name) before
    → more_selectors s before e ≡ Ok next → FitOnce is_selector (λ (x : Selector). x.name) next
unfolding more_selectors
selectors_fit s before next e held is =
    let one = more_made before (once (selector_names before) s e (selector_block s e)) next is in
    let new = once_made (selector_names before) s e (selector_block s e) one.0 one.1 in
    let called = named-by (λ (x : Selector). x.name) selector_of (λ c y. refl) (named_block s e)
    (λ (c : List ℕ). selections_of s (inner_of e.body)) new.called one.0 new.met new.made in
    subst (FitOnce is_selector (λ (x : Selector). x.name)) one.2
    (one_more is_selector (λ (x : Selector). x.name) before one.0 new.called held (selector_block-is s e one.0 new.made) called new.new)

bursts_fit : (s : Setting) (before next : List Burst) (e : Entry) → IsLined s e → FitOnce is_burst (λ (x : Burst). x.name) before
    → more_bursts s before e ≡ Ok next → FitOnce is_burst (λ (x : Burst). x.name) next
unfolding more_bursts
bursts_fit s before next e lined held is =
    let one = more_made before (once (burst_names before) s e (burst_block s e)) next is in
    let new = once_made (burst_names before) s e (burst_block s e) one.0 one.1 in
    let called = named-by (λ (x : Burst). x.name) burst_called (λ c y. refl) (named_block s e)
    (λ (c : List ℕ). items_in s (inner_of e.body)) new.called one.0 new.met new.made in
    subst (FitOnce is_burst (λ (x : Burst). x.name)) one.2
    (one_more is_burst (λ (x : Burst). x.name) before one.0 new.called held (burst_block-is s e one.0 lined new.made) called new.new)

patterns_fit : (s : Setting) → AreLexed s → (before next : List Pattern) (e : Entry) → FitOnce is_pattern (λ (x : Pattern). x.name) before
    → more_patterns s before e ≡ Ok next → FitOnce is_pattern (λ (x : Pattern). x.name) next
unfolding more_patterns
patterns_fit s lexed before next e held is =
    let one = more_made before (once (pattern_names before) s e (pattern_block s e)) next is in
    let new = once_made (pattern_names before) s e (pattern_block s e) one.0 one.1 in
    let called = named-by (λ (x : Pattern). x.name) pattern_called (λ c y. refl) (named_block s e)
    (λ (c : List ℕ). body_in s place.Pattern e) new.called one.0 new.met new.made in
    let bodies = λ (w : Written) (read : body_in s place.Pattern e ≡ Ok w). bodies_have_form s place.Pattern (trees_in e.body) w lexed read in
    subst (FitOnce is_pattern (λ (x : Pattern). x.name)) one.2
    (one_more is_pattern (λ (x : Pattern). x.name) before one.0 new.called held
    (pattern_block-is s e one.0 bodies new.made) called new.new)

timings_fit : (s : Setting) → AreLexed s → (before next : List TimingBlock) (e : Entry) → FitTimings before
    → more_timings s before e ≡ Ok next → FitTimings next
unfolding more_timings
timings_fit s lexed before next e held is =
    let one = more_made before (timing_block s (tables_in before) e) next is in
    subst FitTimings one.2 (record {
      each = list_all-one is_timing_block before one.0 held.each
          (is_timing_block-timing_block s lexed.lines (tables_in before) e one.0 one.1);
      names = subst AreTableNames (sym (flat_one (λ (t : TimingBlock). under t.name (map (λ (d : TableDecl). d.name) t.tables)) before one.0))
          (names-timing_block s (tables_in before) e one.0 one.1 held.names);
    })

scans_fit : (s : Setting) (before next : List ScanBlock) (e : Entry) → IsLined s e → FitScans before
    → more_scans s before e ≡ Ok next → FitScans next
unfolding more_scans
scans_fit s before next e lined held is =
    let one = more_made before (scan_block s (chains_in before) e) next is in
    subst FitScans one.2 (record {
      each = list_all-one is_scan_block before one.0 held.each (scan_block-is s (chains_in before) e one.0 lined one.1);
      few_chains = subst AreFew (sym (flat_one (λ (t : ScanBlock). under t.name (map (λ (d : ChainDecl). d.name) t.chains)) before one.0))
          (scan_block-few s (chains_in before) e one.0 lined held.few_chains one.1);
    })

defs_fit : (s : Setting) (here : BodyPlace) (before next : List DefBlock) (e : Entry) → BodiesFit s here → IsLined s e → FitDefs before
    → more_defs s here before e ≡ Ok next → FitDefs next
unfolding more_defs
defs_fit s here before next e bodies lined held is =
    let one = more_made before (defs_block s here (bodies_in before) e) next is in
    subst FitDefs one.2 (record {
      each = list_all-one is_def_block before one.0 held.each (defs_block-is s here (bodies_in before) e one.0 bodies lined one.1);
      differ = subst Differ (sym (flat_one (λ (t : DefBlock). under t.name (map (λ (d : BodyDef). d.name) t.bodies)) before one.0))
          (defs_block-differ s here (bodies_in before) e one.0 bodies lined held.differ one.1);
    })

macros_bodies : (s : Setting) → AreLexed s → BodiesFit s place.Macro
macros_bodies s lexed e w lined read = bodies_have_form s place.Macro (trees_in e.body) w lexed read

procedures_bodies : (s : Setting) → AreLexed s → BodiesFit s place.Procedure
procedures_bodies s lexed e w lined read = bodies_have_form s place.Procedure (trees_in e.body) w lexed read

executives_fit : (s : Setting) (before next : List ExecDecl) (e : Entry) → IsLined s e → FitExecutives before
    → more_executives s before e ≡ Ok next → FitExecutives next
unfolding more_executives
executives_fit s before next e lined held is =
    let one = more_made before (few (length before) s e (exec_block s e)) next is in
    let both = both_ok (titled_block s e)
    (λ title. cond (nat_lt (length before) most_executives) (exec_block s e) (Err (Refused OutOfRange e.first))) one.0 one.1 in
    let room = said_where (nat_lt (length before) most_executives) (exec_block s e) (Refused OutOfRange e.first) one.0 both.made in
    subst FitExecutives one.2 (record {
      each = list_all-one is_exec_decl before one.0 held.each (exec_block-is s e one.0 lined room.1);
      within = omega (arith, ltb-true (length before) most_executives room.0, length-append before (one.0 ∷ []));
    })

-- one keyword's blocks more; `changed` says what stands of the others
block_fits : (s : Setting) → AreLexed s → (b next : Blocks) (e : Entry) (k : Keyword) → IsLined s e → AllFit b
    → block_step s b e k ≡ Ok next → AllFit next
block_fits s lexed b next e keyword.Signals lined h is =
    let both = both_ok (more_signals s b.signals e) (λ all. Ok (record b { signals = all })) next is in
    let same_blocks : record b { signals = both.given } ≡ next = cc in
    subst AllFit same_blocks (with_signals b both.given h
    (signals_fit s lexed b.signals both.given e (h keyword.Signals) both.met))
block_fits s lexed b next e keyword.SignalGroups lined h is =
    let both = both_ok (more_groups s b.groups e) (λ all. Ok (record b { groups = all })) next is in
    let same_blocks : record b { groups = both.given } ≡ next = cc in
    subst AllFit same_blocks (with_groups b both.given h
    (groups_fit s lexed b.groups both.given e (h keyword.SignalGroups) both.met))
block_fits s lexed b next e keyword.Spec lined h is =
    let both = both_ok (more_specs s b.specs e) (λ all. Ok (record b { specs = all })) next is in
    let same_blocks : record b { specs = both.given } ≡ next = cc in
    subst AllFit same_blocks (with_specs b both.given h
    (specs_fit s lexed b.specs both.given e (h keyword.Spec) both.met))
block_fits s lexed b next e keyword.Selector lined h is =
    let both = both_ok (more_selectors s b.selectors e) (λ all. Ok (record b { selectors = all })) next is in
    let same_blocks : record b { selectors = both.given } ≡ next = cc in
    subst AllFit same_blocks (with_selectors b both.given h
    (selectors_fit s b.selectors both.given e (h keyword.Selector) both.met))
block_fits s lexed b next e keyword.Timing lined h is =
    let both = both_ok (more_timings s b.timings e) (λ all. Ok (record b { timings = all })) next is in
    let same_blocks : record b { timings = both.given } ≡ next = cc in
    subst AllFit same_blocks (with_timings b both.given h
    (timings_fit s lexed b.timings both.given e (h keyword.Timing) both.met))
block_fits s lexed b next e keyword.ScanStructures lined h is =
    let both = both_ok (more_scans s b.scans e) (λ all. Ok (record b { scans = all })) next is in
    let same_blocks : record b { scans = both.given } ≡ next = cc in
    subst AllFit same_blocks (with_scans b both.given h
    (scans_fit s b.scans both.given e lined (h keyword.ScanStructures) both.met))
block_fits s lexed b next e keyword.MacroDefs lined h is =
    let both = both_ok (more_defs s place.Macro b.macros e) (λ all. Ok (record b { macros = all })) next is in
    let same_blocks : record b { macros = both.given } ≡ next = cc in
    subst AllFit same_blocks (with_macros b both.given h
    (defs_fit s place.Macro b.macros both.given e (macros_bodies s lexed) lined (h keyword.MacroDefs) both.met))
block_fits s lexed b next e keyword.Procedures lined h is =
    let both = both_ok (more_defs s place.Procedure b.procedures e) (λ all. Ok (record b { procedures = all })) next is in
    let same_blocks : record b { procedures = both.given } ≡ next = cc in
    subst AllFit same_blocks (with_procedures b both.given h
    (defs_fit s place.Procedure b.procedures both.given e (procedures_bodies s lexed) lined (h keyword.Procedures) both.met))
block_fits s lexed b next e keyword.PatternBurst lined h is =
    let both = both_ok (more_bursts s b.bursts e) (λ all. Ok (record b { bursts = all })) next is in
    let same_blocks : record b { bursts = both.given } ≡ next = cc in
    subst AllFit same_blocks (with_bursts b both.given h
    (bursts_fit s b.bursts both.given e lined (h keyword.PatternBurst) both.met))
block_fits s lexed b next e keyword.PatternExec lined h is =
    let both = both_ok (more_executives s b.executives e) (λ all. Ok (record b { executives = all })) next is in
    let same_blocks : record b { executives = both.given } ≡ next = cc in
    subst AllFit same_blocks (with_executives b both.given h
    (executives_fit s b.executives both.given e lined (h keyword.PatternExec) both.met))
block_fits s lexed b next e keyword.Pattern lined h is =
    let both = both_ok (more_patterns s b.patterns e) (λ all. Ok (record b { patterns = all })) next is in
    let same_blocks : record b { patterns = both.given } ≡ next = cc in
    subst AllFit same_blocks (with_patterns b both.given h
    (patterns_fit s lexed b.patterns both.given e (h keyword.Pattern) both.met))
block_fits s lexed b next e _ lined h is = cc

-- what stands so far
abbrev TopFits : Top → Type 0
TopFits t = AllFit t.blocks

same_top : (t next : Top) → TopFits t → ◌≡◌ {A = Result Top FormFault} (Ok t) (Ok next) → TopFits next
same_top t next h is = let same_one : t ≡ next = cc in subst TopFits same_one h

behind_block : (s : Setting) → AreLexed s → (t next : Top) (e : Entry) (k : Keyword) → IsLined s e → TopFits t
    → and_then (block_step s t.blocks e k) (λ blocks. Ok (with_blocks t blocks)) ≡ Ok next → TopFits next
behind_block s lexed t next e k lined h is =
    let both = both_ok (block_step s t.blocks e k) (λ blocks. Ok (with_blocks t blocks)) next is in
    same_top (with_blocks t both.given) next (block_fits s lexed t.blocks both.given e k lined h both.met) both.made

keyword_fits : (s : Setting) → AreLexed s → (t next : Top) (e : Entry) (k : Keyword) → IsLined s e → TopFits t
    → keyword_step s t e k ≡ Ok next → TopFits next
keyword_fits s lexed t next e keyword.Header lined h is =
    let both = both_ok (bare_block s e) (λ _. Ok t) next is in same_top t next h both.made
keyword_fits s lexed t next e keyword.UserKeywords lined h is =
    let both = both_ok (words_said s e) (λ words. Ok (with_words t words)) next is in
    same_top (with_words t both.given) next h both.made
keyword_fits s lexed t next e keyword.UserFunctions lined h is = same_top t next h is
keyword_fits s lexed t next e keyword.Stil lined h is = cc
keyword_fits s lexed t next e k lined h is = behind_block s lexed t next e k lined h is

by_keyword_fits : (s : Setting) → AreLexed s → (t next : Top) (e : Entry) (o : Option Keyword) → IsLined s e → TopFits t
    → by_keyword s t e o ≡ Ok next → TopFits next
by_keyword_fits s lexed t next e None lined h is = cc
by_keyword_fits s lexed t next e (Some k) lined h is = keyword_fits s lexed t next e k lined h is

or_skipped : (s : Setting) → AreLexed s → (t next : Top) (e : Entry) (b : Bool) → IsLined s e → TopFits t
    → cond b (Ok t) (by_keyword s t e (keyword_at s e)) ≡ Ok next → TopFits next
or_skipped s lexed t next e true lined h is = same_top t next h is
or_skipped s lexed t next e false lined h is = by_keyword_fits s lexed t next e (keyword_at s e) lined h is

-- a statement of a text whose statements all have lines
abbrev LinedIn : List ℕ → List Token → Entry → Type 0
LinedIn bytes tokens e = (words : List (List ℕ)) → IsLined (setting bytes tokens words) e

step_fits : (bytes : List ℕ) (tokens : List Token) → ((words : List (List ℕ)) → AreLexed (setting bytes tokens words))
    → (t next : Top) (e : Entry) → LinedIn bytes tokens e → TopFits t → top_step bytes tokens t e ≡ Ok next → TopFits next
step_fits bytes tokens lexed t next e lined h is =
    or_skipped (setting bytes tokens t.words) (lexed t.words) t next e
    (is_skipped t.words (lexemes_at (setting bytes tokens t.words) e)) (lined t.words) h is

all_lined : (bytes : List ℕ) (tokens : List Token) (t : Trees)
    → ((words : List (List ℕ)) → HaveLines (setting bytes tokens words) t) → AllByRecursion (LinedIn bytes tokens) (entries t)
all_lined bytes tokens end lined = tt
all_lined bytes tokens (plain first count more) lined =
    ((λ words. ((lined words).0, tt)), all_lined bytes tokens more (λ words. (lined words).1))
all_lined bytes tokens (block first count inside more) lined =
    ((λ words. ((lined words).0, (lined words).1)), all_lined bytes tokens more (λ words. (lined words).2))

-- nothing stands so far
start_fits : TopFits start
start_fits keyword.Signals = refl
start_fits keyword.SignalGroups = refl
start_fits keyword.Spec = refl
start_fits keyword.Selector = record { each = refl; differ = λ title. refl }
start_fits keyword.Timing = record { each = refl; names = no_table_names }
start_fits keyword.ScanStructures = record { each = refl; few_chains = λ title. omega arith }
start_fits keyword.MacroDefs = record { each = refl; differ = λ title. refl }
start_fits keyword.Procedures = record { each = refl; differ = λ title. refl }
start_fits keyword.Pattern = record { each = refl; differ = λ title. refl }
start_fits keyword.PatternBurst = record { each = refl; differ = λ title. refl }
start_fits keyword.PatternExec = record { each = refl; within = omega arith }
start_fits _ = tt

-- names without titles
lone_names : (names : List (List ℕ)) → Differ (untitled names) → all_differ same names ≡ true
lone_names names differ = ap (all_differ same) (sym (names_under-under [] names [])) ∙ differ []

-- blocks of one text
one_text : (b : Blocks) → AllFit b → 1 ≤ length b.executives → AreOfOneText b
one_text b h some =
    let tables = λ (name : List ℕ). names_under-blocks (λ (t : TimingBlock). t.name) (λ t. t.tables) (λ (d : TableDecl). d.name) b.timings name in
    let chains = λ (name : List ℕ). names_under-blocks (λ (t : ScanBlock). t.name) (λ t. t.chains) (λ (d : ChainDecl). d.name) b.scans name in
    let macros = λ (name : List ℕ). names_under-blocks (λ (t : DefBlock). t.name) (λ t. t.bodies) (λ (d : BodyDef). d.name) b.macros name in
    let procedures = λ (name : List ℕ). names_under-blocks (λ (t : DefBlock). t.name) (λ t. t.bodies) (λ (d : BodyDef). d.name) b.procedures name in
    record {
      each_signal = h keyword.Signals;
      each_group_block = h keyword.SignalGroups;
      each_spec = h keyword.Spec;
      each_selector = (h keyword.Selector).each;
      each_timing = (h keyword.Timing).each;
      each_scan_block = (h keyword.ScanStructures).each;
      each_macro_block = (h keyword.MacroDefs).each;
      each_procedure_block = (h keyword.Procedures).each;
      each_pattern = (h keyword.Pattern).each;
      each_burst = (h keyword.PatternBurst).each;
      each_executive = (h keyword.PatternExec).each;
      selectors_differ = lone_names (map (λ (x : Selector). x.name) b.selectors) (h keyword.Selector).differ;
      patterns_differ = lone_names (map (λ (x : Pattern). x.name) b.patterns) (h keyword.Pattern).differ;
      bursts_differ = lone_names (map (λ (x : Burst). x.name) b.bursts) (h keyword.PatternBurst).differ;
      tables_differ = λ name. ap (all_differ same) (sym (tables name)) ∙ (h keyword.Timing).names.differ name;
      macros_differ = λ name. ap (all_differ same) (sym (macros name)) ∙ (h keyword.MacroDefs).differ name;
      procedures_differ = λ name. ap (all_differ same) (sym (procedures name)) ∙ (h keyword.Procedures).differ name;
      table_count = λ name.
          omega (arith, (h keyword.Timing).names.within name, ap length (tables name), length-map (tables_named b.timings name) (λ (d : TableDecl). d.name));
      chain_count = λ name.
          omega (
            arith,
            (h keyword.ScanStructures).few_chains name,
            ap length (chains name),
            length-names_under (chains_in b.scans) name,
            length-map (chains_named b.scans name) (λ (d : ChainDecl). d.name),
          );
      some_executive = some;
      executive_count = (h keyword.PatternExec).within;
    }

-- blocks with an executive
with_one : (b read : Blocks) (es : List ExecDecl) → b.executives ≡ es → AllFit b → with_executive b es ≡ Ok read
    → AreOfOneText read
with_one b read [] which h is = cc
with_one b read (e ∷ es) which h is =
    let same_one : b ≡ read = cc in
    subst AreOfOneText same_one (one_text b h (omega (arith, ap length which)))

ended_well : (r : Result Top FormFault) (read : Blocks) → ((t : Top) → r ≡ Ok t → TopFits t) → finished r ≡ Ok read
    → AreOfOneText read
ended_well (Ok t) read fit is = with_one t.blocks read t.blocks.executives refl (fit t refl) is
ended_well (Err fault) read fit is = cc

-- behind a header
headed : (bytes : List ℕ) (tokens : List Token) (b : Bool) (e : Entry) (es : List Entry) (read : Blocks)
    → ((words : List (List ℕ)) → AreLexed (setting bytes tokens words)) → AllByRecursion (LinedIn bytes tokens) es
    → behind_header bytes tokens b e es ≡ Ok read → AreOfOneText read
headed bytes tokens true e es read lexed lined is =
    ended_well (stepping (top_step bytes tokens) start es) read
    (λ t reached. kept (top_step bytes tokens) TopFits (LinedIn bytes tokens)
    (λ before next one lines h stepped. step_fits bytes tokens lexed before next one lines h stepped)
    start t es lined start_fits reached) is
headed bytes tokens false e es read lexed lined is = cc

from_statements : (bytes : List ℕ) (tokens : List Token) (es : List Entry) (read : Blocks)
    → ((words : List (List ℕ)) → AreLexed (setting bytes tokens words)) → AllByRecursion (LinedIn bytes tokens) es
    → blocks_of bytes tokens es ≡ Ok read → AreOfOneText read
from_statements bytes tokens [] read lexed lined is = cc
from_statements bytes tokens (e ∷ es) read lexed lined is =
    headed bytes tokens (is_stil_1_0 (lexemes_at (setting bytes tokens []) e)) e es read lexed lined.1 is

pub blocks_are_of_one_text : (bytes : List ℕ) (tokens : List Token) (forest : Trees) (blocks : Blocks)
    → length bytes ≤ most_bytes → Reads bytes tokens → Parses tokens forest → blocks_of bytes tokens (entries forest) ≡ Ok blocks
    → AreOfOneText blocks
blocks_are_of_one_text bytes tokens forest blocks short reads parses is =
    let lexed = λ (words : List (List ℕ)). are_lexed bytes tokens words short reads in
    from_statements bytes tokens (entries forest) blocks lexed
    (all_lined bytes tokens forest
    (λ words. statements_have_lines (setting bytes tokens words) (lexed words).lines forest parses)) is
