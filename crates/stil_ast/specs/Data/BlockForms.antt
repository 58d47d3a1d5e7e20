-- The form of the statements of each kind of block in a text that was read (IEEE 1450-1999, clauses 14 to 24).
use Rattle.std.specs.Prelude.{ℕ, suc, ◌-◌, ◌==◌, ◌&&◌, ◌||◌, Bool, true, false, List, Option, Some, None, nat_le, nat_eq, length, map, sum_by, count_by, if◌then◌else◌}
use Rattle.std.specs.List.{list_all}
use Rattle.text_bytes.specs.Numbers.{is_within}
use Rattle.text_bytes.specs.Limits.{most_cells, most_events, most_passes}
use Rattle.text_bytes.specs.Bytes.{is_character}
use Rattle.stil_ast.specs.Data.Texts.{same, is_name}
use Rattle.stil_ast.specs.Data.Forms.{all_differ, is_absent_or, is_line, is_optional_name, is_range, is_name_ref, is_quoted, is_sig_ref, is_named, is_optionally_named, is_item}
use Rattle.stil_ast.specs.Data.Written.{Written, no_more, single, looped, shifted}
use Rattle.stil_ast.specs.declared.name.IndexRange.{IndexRange}
use Rattle.stil_ast.specs.declared.name.NameRef.{NameRef}
use Rattle.stil_ast.specs.declared.signal.SignalDecl.{SignalDecl}
use Rattle.stil_ast.specs.declared.signal.GroupDecl.{GroupDecl}
use Rattle.stil_ast.specs.declared.signal.GroupBlock.{GroupBlock}
use Rattle.stil_ast.specs.declared.variable.Choices.{Choices}
use Rattle.stil_ast.specs.declared.variable.VariableValue.{VariableValue}
use Rattle.stil_ast.specs.declared.variable.VariableValue.TheVariants.{Same, Chosen}
use Rattle.stil_ast.specs.declared.variable.VariableDecl.{VariableDecl}
use Rattle.stil_ast.specs.declared.variable.Category.{Category}
use Rattle.stil_ast.specs.declared.variable.SpecBlock.{SpecBlock}
use Rattle.stil_ast.specs.declared.variable.Selection.{Selection}
use Rattle.stil_ast.specs.declared.variable.Selector.{Selector}
use Rattle.stil_ast.specs.declared.timing.EventDecl.{EventDecl}
use Rattle.stil_ast.specs.declared.timing.WaveDecl.{WaveDecl}
use Rattle.stil_ast.specs.declared.timing.SignalWaves.{SignalWaves}
use Rattle.stil_ast.specs.declared.timing.TableDecl.{TableDecl}
use Rattle.stil_ast.specs.declared.timing.TimingBlock.{TimingBlock}
use Rattle.stil_ast.specs.declared.scan.CellsDecl.{CellsDecl}
use Rattle.stil_ast.specs.declared.scan.ChainStmt.{ChainStmt}
use Rattle.stil_ast.specs.declared.scan.ChainStmt.TheVariants.{Length, In, Out, Cells}
use Rattle.stil_ast.specs.declared.scan.ChainDecl.{ChainDecl}
use Rattle.stil_ast.specs.declared.scan.ScanBlock.{ScanBlock}
use Rattle.stil_ast.specs.declared.executive.BurstWord.{BurstWord}
use Rattle.stil_ast.specs.declared.executive.BurstWord.TheVariants.{MacroDefs, Procedures, ScanStructures, Entry}
use Rattle.stil_ast.specs.declared.executive.BurstItem.{BurstItem}
use Rattle.stil_ast.specs.declared.executive.Burst.{Burst}
use Rattle.stil_ast.specs.declared.executive.ExecDecl.{ExecDecl}
use Rattle.stil_ast.specs.declared.body.Assignment.{Assignment}
use Rattle.stil_ast.specs.declared.body.Step.{Step}
use Rattle.stil_ast.specs.declared.body.Step.TheVariants.{Wave, Vector, Condition, Macro, Call, BreakPoint, IddqTestPoint, Stop}
use Rattle.stil_ast.specs.declared.blocks.BodyDef.{BodyDef}
use Rattle.stil_ast.specs.declared.blocks.DefBlock.{DefBlock}
use Rattle.stil_ast.specs.declared.blocks.Pattern.{Pattern}

-- a signal
abbrev pub is_signal_decl : SignalDecl → Bool
is_signal_decl d = is_name d.name && is_absent_or is_range d.range && is_line d.line

-- a group
abbrev pub is_group_decl : GroupDecl → Bool
is_group_decl g = is_name g.name && is_quoted g.text && is_line g.line

-- a SignalGroups block
abbrev pub is_group_block : GroupBlock → Bool
is_group_block b = is_optional_name b.name && list_all is_group_decl b.groups

-- the values that a variable's block gives, each at most once
abbrev pub are_choices : Choices → Bool
are_choices c =
    is_absent_or is_quoted c.min && is_absent_or is_quoted c.typ && is_absent_or is_quoted c.max
    && is_absent_or is_quoted c.meas

-- what a variable stands for
abbrev pub is_variable_value : VariableValue → Bool
is_variable_value (Same q) = is_quoted q
is_variable_value (Chosen c) = are_choices c

-- a variable
abbrev pub is_variable_decl : VariableDecl → Bool
is_variable_decl d = is_name d.name && is_variable_value d.value && is_line d.line

-- a category
abbrev pub is_category : Category → Bool
is_category c = is_name c.name && list_all is_variable_decl c.variables

-- a Spec block
abbrev pub is_spec_block : SpecBlock → Bool
is_spec_block s = is_optional_name s.name && list_all is_category s.categories

-- a Selector, in which no name stands twice
abbrev pub is_selector : Selector → Bool
is_selector s =
    is_name s.name && list_all (λ (c : Selection). is_name c.name) s.selections
    && all_differ same (map (λ (c : Selection). c.name) s.selections)

-- an event of a waveform of so many characters: one act for all of them, or one for each
abbrev pub is_event : ℕ → EventDecl → Bool
is_event characters e = is_quoted e.time && (length e.acts == 1 || length e.acts == characters)

-- a waveform: letters and digits, none twice, and not too many events
abbrev pub is_wave_decl : WaveDecl → Bool
is_wave_decl w =
    nat_le 1 (length w.characters) && list_all is_character w.characters && all_differ nat_eq w.characters
    && nat_le (length w.events) most_events && list_all (is_event (length w.characters)) w.events

-- what one reference in Waveforms stands before
abbrev pub is_signal_waves : SignalWaves → Bool
is_signal_waves s = is_sig_ref s.reference && list_all is_wave_decl s.waves && is_line s.line

-- a waveform table
abbrev pub is_table_decl : TableDecl → Bool
is_table_decl t =
    is_name t.name && is_absent_or is_quoted t.period && list_all is_named t.inherits
    && list_all is_signal_waves t.waveforms && is_line t.line

-- a Timing block
abbrev pub is_timing_block : TimingBlock → Bool
is_timing_block t = is_optional_name t.name && list_all is_table_decl t.tables

-- how many indices a range has
abbrev pub range_size : IndexRange → ℕ
range_size r = if nat_le r.first r.last then suc (r.last - r.first) else suc (r.first - r.last)

-- how many cells a name stands for
abbrev pub cell_size : Option IndexRange → ℕ
cell_size None = 1
cell_size (Some range) = range_size range

-- how many cells they are
abbrev pub cell_count : List NameRef → ℕ
cell_count cells = sum_by (λ (c : NameRef). cell_size c.range) cells

-- the cells of a chain, not too many
abbrev pub is_cells_decl : CellsDecl → Bool
is_cells_decl c = list_all is_name_ref c.cells && nat_le (cell_count c.cells) most_cells && is_line c.line

-- a statement of a chain; its length is not too great
abbrev pub is_chain_stmt : ChainStmt → Bool
is_chain_stmt (Length n) = nat_le n most_cells
is_chain_stmt (In n) = is_named n
is_chain_stmt (Out n) = is_named n
is_chain_stmt (Cells c) = is_cells_decl c

-- the four kinds of such statements
abbrev pub chain_kind : ChainStmt → ℕ
chain_kind (Length n) = 0
chain_kind (In n) = 1
chain_kind (Out n) = 2
chain_kind (Cells c) = 3

-- a chain, with each kind of statement at most once
abbrev pub is_chain_decl : ChainDecl → Bool
is_chain_decl d =
    is_name d.name && list_all is_chain_stmt d.stmts && all_differ nat_eq (map chain_kind d.stmts) && is_line d.line

-- a ScanStructures block
abbrev pub is_scan_block : ScanBlock → Bool
is_scan_block s = is_optional_name s.name && list_all is_chain_decl s.chains

-- `ref = data;`
abbrev pub is_assignment : Assignment → Bool
is_assignment a = is_sig_ref a.reference && list_all is_item a.items && is_line a.line

-- a statement without statements in it; Stop may stand where `stops` says so
abbrev pub is_step : Bool → Step → Bool
is_step stops (Wave name) = is_name name
is_step stops (Vector assigns) = list_all is_assignment assigns
is_step stops (Condition assigns) = list_all is_assignment assigns
is_step stops (Macro name assigns) = is_name name && list_all is_assignment assigns
is_step stops (Call name assigns) = is_name name && list_all is_assignment assigns
is_step stops BreakPoint = true
is_step stops IddqTestPoint = true
is_step stops Stop = stops

-- statements; a Loop runs once at least and not too often, and Stop stands in no body of theirs
abbrev pub is_body : Bool → Written → Bool
is_body stops no_more = true
is_body stops (single line plain rest) = is_line line && is_step stops plain && is_body stops rest
is_body stops (looped line times body rest) =
    is_line line && is_within 1 most_passes times && is_body false body && is_body stops rest
is_body stops (shifted line body rest) = is_line line && is_body false body && is_body stops rest

-- a macro or a procedure
abbrev pub is_body_def : BodyDef → Bool
is_body_def d = is_name d.name && is_body false d.body

-- a MacroDefs or Procedures block
abbrev pub is_def_block : DefBlock → Bool
is_def_block b = is_optional_name b.name && list_all is_body_def b.bodies

-- a pattern, at whose top level Stop may stand
abbrev pub is_pattern : Pattern → Bool
is_pattern p = is_name p.name && is_body true p.body

-- a name in a PatternBurst; those of a PatList are names, the others may be of the unnamed block
abbrev pub is_burst_name : BurstWord → List ℕ → Bool
is_burst_name Entry name = is_name name
is_burst_name _ name = is_optional_name name

-- the same on its line
abbrev pub is_burst_item : BurstItem → Bool
is_burst_item i = is_burst_name i.word i.name && is_line i.line

-- how often a burst names MacroDefs, Procedures or ScanStructures
abbrev pub is_macros_word : BurstWord → Bool
is_macros_word MacroDefs = true
is_macros_word _ = false

-- the same of Procedures
abbrev pub is_procedures_word : BurstWord → Bool
is_procedures_word Procedures = true
is_procedures_word _ = false

-- the same of ScanStructures
abbrev pub is_scans_word : BurstWord → Bool
is_scans_word ScanStructures = true
is_scans_word _ = false

-- a burst has such a word at most once
abbrev pub names_once : (BurstWord → Bool) → List BurstItem → Bool
names_once test items = nat_le (count_by (λ (i : BurstItem). test i.word) items) 1

-- a PatternBurst block
abbrev pub is_burst : Burst → Bool
is_burst b =
    is_name b.name && list_all is_burst_item b.items && names_once is_macros_word b.items
    && names_once is_procedures_word b.items && names_once is_scans_word b.items

-- a PatternExec block
abbrev pub is_exec_decl : ExecDecl → Bool
is_exec_decl e =
    is_optional_name e.name && list_all is_named e.categories && is_absent_or is_named e.selector
    && is_absent_or is_optionally_named e.timing && is_named e.burst && is_line e.line
