-- The waveforms of a text are for waveform characters.
use Rattle.std.proofs.Common.{◌≡◌, ◌&&◌, Bool, true, false, List, [], ◌∷◌, cond, refl, ap, ◌∙◌, ℕ}
use Rattle.std.specs.List.{list_all}
use Rattle.std.proofs.lemmas.Bool.{and_parts}
use Rattle.std.proofs.lemmas.List.Folds.{list_all-append}
use Rattle.text_bytes.proofs.ListLemmas.{passes_from}
use Rattle.stil_ast.specs.Data.Texts.{same}
use Rattle.stil_ast.specs.Data.BlockForms.{is_wave_decl, is_signal_waves, is_table_decl, is_timing_block}
use Rattle.stil_ast.specs.Meaning.Tables.{tables_named}
use Rattle.stil_ast.specs.declared.timing.WaveDecl.{WaveDecl}
use Rattle.stil_ast.specs.declared.timing.SignalWaves.{SignalWaves}
use Rattle.stil_ast.specs.declared.timing.TableDecl.{TableDecl}
use Rattle.stil_ast.specs.declared.timing.TimingBlock.{TimingBlock}
use Rattle.wave_tables.specs.Characters.{has_characters, waves_with_characters, signals_with_characters, are_with_characters}

wave_with_characters : (w : WaveDecl) → is_wave_decl w ≡ true → has_characters w.characters ≡ true
wave_with_characters w h =
    let a = and_parts _ _ h in
    let b = and_parts _ _ a.0 in
    let c = and_parts _ _ b.0 in
    (and_parts _ _ c.0).1

signal_with_characters : (s : SignalWaves) → is_signal_waves s ≡ true → waves_with_characters s.waves ≡ true
signal_with_characters s h =
    let a = and_parts _ _ h in
    passes_from is_wave_decl (λ (w : WaveDecl). has_characters w.characters) wave_with_characters s.waves (and_parts _ _ a.0).1

table_with_characters : (t : TableDecl) → is_table_decl t ≡ true → signals_with_characters t.waveforms ≡ true
table_with_characters t h =
    let a = and_parts _ _ h in
    passes_from is_signal_waves (λ (s : SignalWaves). waves_with_characters s.waves) signal_with_characters t.waveforms
    (and_parts _ _ a.0).1

block_with_characters : (t : TimingBlock) → is_timing_block t ≡ true → are_with_characters t.tables ≡ true
block_with_characters t h =
    passes_from is_table_decl (λ (t : TableDecl). signals_with_characters t.waveforms) table_with_characters t.tables
    (and_parts _ _ h).1

-- the tables of Timing blocks of a name
pub named_with_characters : (timings : List TimingBlock) (name : List ℕ) → list_all is_timing_block timings ≡ true
    → are_with_characters (tables_named timings name) ≡ true
named_with_characters [] name h = refl
named_with_characters (t ∷ timings) name h =
    let parts = and_parts (is_timing_block t) (list_all is_timing_block timings) h in
    list_all-append (λ (t : TableDecl). signals_with_characters t.waveforms) (cond (same t.name name) t.tables [])
    (tables_named timings name)
    ∙ ap (λ (b : Bool). b && are_with_characters (tables_named timings name))
    (either (same t.name name) t.tables (block_with_characters t parts.0))
    ∙ named_with_characters timings name parts.1
  where
    either : (b : Bool) (tables : List TableDecl) → are_with_characters tables ≡ true → are_with_characters (cond b tables []) ≡ true
    either true tables h = h
    either false tables h = refl
