-- What is read of a Timing block has its form.
use Rattle.std.proofs.Common.{◌≡◌, ℕ, suc, ◌<◌, List, [], ◌∷◌, ◌++◌, length, not, Result, Ok, Err, Option, Some, None, Bool, true, false, ◌&&◌, ◌||◌, cond, nat_lt, nat_le, nat_eq, is_some, refl, ap, sym, subst, ◌∙◌, arith}
use Rattle.std.specs.Prelude.{◌==◌}
use Rattle.std.specs.List.{list_all}
use Rattle.std.proofs.lemmas.Bool.{and_parts, and_from, ltb-true, le-leb}
use Rattle.std.proofs.lemmas.List.Folds.{list_all-append}
use Rattle.text_bytes.specs.Bytes.{is_character}
use Rattle.text_bytes.specs.Limits.{most_events, most_tables}
use Rattle.answers.specs.Reading.{and_then, reading}
use Rattle.stil_tree.specs.Trees.{Entry}
use Rattle.stil_form.specs.declared.fault.FormKind.{FormKind}
use Rattle.stil_form.specs.declared.fault.FormKind.TheVariants.{Shape, LeftOut, OutOfRange, Twice}
use Rattle.stil_form.specs.declared.fault.FormFault.TheVariants.{Refused}
use Rattle.stil_form.specs.Lexeme.{Lexeme, word}
use Rattle.stil_form.specs.Fronts.{Ref, reference_front}
use Rattle.stil_form.specs.Setting.{Setting, lexemes_at, line_at, at_statement, inner_of, unskipped}
use Rattle.stil_ast.specs.Data.Texts.{is_name}
use Rattle.stil_ast.specs.Data.Forms.{all_differ, is_line, is_quoted, is_named, is_sig_ref, is_absent_or, is_optional_name}
use Rattle.stil_ast.specs.Data.BlockForms.{is_event, is_wave_decl, is_signal_waves, is_table_decl, is_timing_block}
use Rattle.stil_ast.specs.declared.name.SigRef.{SigRef}
use Rattle.stil_ast.specs.declared.name.Named.{Named}
use Rattle.stil_ast.specs.declared.name.Quoted.{Quoted}
use Rattle.stil_ast.specs.declared.timing.EventDecl.{EventDecl}
use Rattle.stil_ast.specs.declared.timing.WaveDecl.{WaveDecl}
use Rattle.stil_ast.specs.declared.timing.SignalWaves.{SignalWaves}
use Rattle.stil_ast.specs.declared.timing.TableDecl.{TableDecl}
use Rattle.stil_ast.specs.declared.timing.TimingBlock.{TimingBlock}
use Rattle.pat_read.specs.References.{ref_of}
use Rattle.timing_blocks.specs.declared.timings.TableWord.{TableWord}
use Rattle.timing_blocks.specs.declared.timings.TableWord.TheVariants as word_of
use Rattle.pat_read.specs.Statements.{only_name}
use Rattle.block_forms.specs.Heads.{where_so, only_text, rest_at, bare_block, named_block, titled_block, is_declared, count_under, under}
use Rattle.timing_blocks.specs.Waveforms.{time_of, acts_of, event_at, new_event, judge_event, are_wave_characters, characters_of, in_block, characters_at, judge_wave, lone, lone_ref, ref_at, judge_signal, signals_of}
use Rattle.block_forms.specs.Named.{named_on}
use Rattle.block_forms.specs.Quotes.{quoted_at}
use Rattle.block_forms.specs.Keywords.{first_meaning}
use Rattle.timing_blocks.specs.Timings.{plain_text, plain_name, table_words, table_of, is_table, new_name, table_name, table_names, table_said, judge_table, timing_block}
use Rattle.timing_blocks.specs.Working.{with_period, with_inherit, with_waveforms, table_by, table_step, empty_table}
use Rattle.timing_blocks.proofs.TableLemmas.{table_computed}
use Rattle.pat_read.specs.Accepted.{HasLines}
use Rattle.pat_read.proofs.AcceptedLemmas.{both_ok, said_at, reading-each, list_all-one, first_line, second_line, FitsRef, fits_front, is_sig_ref-ref_of}
use Rattle.pat_read.proofs.AcceptedBodies.{is_name-only_name}
use Rattle.block_forms.proofs.FormLemmas.{said_where, said_so, made_unless, stepping-keeps, reading-within, is_name-named_block, is_optional_name-titled_block, behind_keyword}

-- an event begins with a lexeme
time_head : (head : List Lexeme) (said : List ℕ × List Lexeme) → time_of head ≡ Ok said → 0 < length head
time_head [] said is = cc
time_head (one ∷ rest) said is = omega arith

-- what is said of a new event
abbrev event_fits : ℕ → List EventDecl → EventDecl → Type 0
event_fits characters before event =
    ((length event.acts == 1 || length event.acts == characters) ≡ true) × (nat_lt (length before) most_events ≡ true)

new_event-fits : (characters : ℕ) (before : List EventDecl) (has_block : Bool) (event x : EventDecl)
    → new_event characters before has_block event ≡ Ok x → event_fits characters before event × (event ≡ x)
new_event-fits characters before has_block event x is =
    let count : Bool = length event.acts == 1 || length event.acts == characters in
    let outer = said_where (not has_block && count) (cond (nat_lt (length before) most_events) (Ok event) (Err OutOfRange)) Shape x is in
    let inner = said_where (nat_lt (length before) most_events) (Ok event) OutOfRange x outer.1 in
    (((and_parts (not has_block) count outer.0).1, inner.0), cc)

-- an event that was read: one act or one for each character, on a line, and there was room
event_parts : (s : Setting) → HasLines s → (characters : ℕ) (before : List EventDecl) (e : Entry) (x : EventDecl)
    → judge_event s characters before e ≡ Ok x → (is_event characters x ≡ true) × (nat_lt (length before) most_events ≡ true)
event_parts s lines characters before e x is =
    let outer = both_ok (at_statement e.first (time_of (lexemes_at s e))) _ x is in
    let said = outer.given in
    let inner = both_ok (at_statement e.first (acts_of said.1)) _ x outer.made in
    let event : EventDecl = event_at said.0 (line_at s.tokens e.first) inner.given in
    let new = said_at e.first (new_event characters before (is_some e.body) event) x inner.made in
    let fits = new_event-fits characters before (is_some e.body) event x new in
    let line = first_line s lines e (time_head (lexemes_at s e) said (said_at e.first (time_of (lexemes_at s e)) said outer.met)) in (
      subst (λ (y : EventDecl). is_event characters y ≡ true) fits.1
          (and_from (is_line (line_at s.tokens e.first)) (length event.acts == 1 || length event.acts == characters) line fits.0.0),
      fits.0.1,
    )

-- what is said in a block is said
said_in : {X : Type 0} (b : Bool) (r : Result X FormKind) (x : X) → in_block b r ≡ Ok x → r ≡ Ok x
said_in true r x is = is
said_in false r x is = cc

-- waveform characters that were read
characters_fit : (head : List Lexeme) (characters : List ℕ) → characters_of head ≡ Ok characters → are_wave_characters characters ≡ true
characters_fit (word bytes ∷ []) characters is =
    let said = said_where (are_wave_characters bytes) (Ok bytes) Shape characters is in
    let same : bytes ≡ characters = cc in
    subst (λ (b : List ℕ). are_wave_characters b ≡ true) same said.0
characters_fit _ characters is = cc

-- waveforms
pub is_wave_decl-judge_wave : (s : Setting) → HasLines s → (before : List WaveDecl) (e : Entry) (x : WaveDecl)
    → judge_wave s before e ≡ Ok x → is_wave_decl x ≡ true
is_wave_decl-judge_wave s lines before e x is =
    let outer = both_ok (characters_at s e) _ x is in
    let characters : List ℕ = outer.given in
    let es : List Entry = unskipped s (inner_of e.body) in
    let inner = both_ok (reading (judge_event s (length characters)) [] es) _ x outer.made in
    let events : List EventDecl = inner.given in
    let same : record { characters = characters; events = events } ≡ x = cc in
    let fit = characters_fit (lexemes_at s e) characters
    (said_in (is_some e.body) (characters_of (lexemes_at s e)) characters
    (said_at e.first (in_block (is_some e.body) (characters_of (lexemes_at s e))) characters outer.met)) in
    let both = and_parts (nat_lt 0 (length characters) && list_all is_character characters) (all_differ nat_eq characters) fit in
    let some = and_parts (nat_lt 0 (length characters)) (list_all is_character characters) both.0 in
    let one : nat_le 1 (length characters) ≡ true = le-leb 1 (length characters) (omega (arith, ltb-true 0 (length characters) some.0)) in
    let judge = judge_event s (length characters) in
    subst (λ (w : WaveDecl). is_wave_decl w ≡ true) same
    (and_from _ (list_all (is_event (length characters)) events)
    (and_from _ (nat_le (length events) 16)
    (and_from _ (all_differ nat_eq characters)
    (and_from (nat_le 1 (length characters)) (list_all is_character characters) one some.1)
    both.1)
    (reading-within judge most_events (λ front one event judged. (event_parts s lines (length characters) front one event judged).1)
    es events inner.met))
    (reading-each judge (is_event (length characters))
    (λ front one event judged. (event_parts s lines (length characters) front one event judged).0) es events inner.met))

-- a reference that stands alone fits
lone_fits : (o : Option (Ref × List Lexeme)) (found : Ref) → ((pair : Ref × List Lexeme) → o ≡ Some pair → FitsRef pair.0)
    → lone_ref o ≡ Ok found → FitsRef found
lone_fits None found fits is = cc
lone_fits (Some pair) found fits is = one pair.0 pair.1 found (fits pair refl) is
  where
    one : (r : Ref) (rest : List Lexeme) (found : Ref) → FitsRef r → lone r rest ≡ Ok found → FitsRef found
    one r [] found fits is = let same : r ≡ found = cc in subst FitsRef same fits
    one r (l ∷ rest) found fits is = cc

-- a reference begins with a lexeme
ref_head : (head : List Lexeme) (found : Ref) → lone_ref (reference_front head) ≡ Ok found → 0 < length head
ref_head [] found is = cc
ref_head (one ∷ rest) found is = omega arith

-- what a reference in Waveforms stands before
pub is_signal_waves-judge_signal : (s : Setting) → HasLines s → (before : List SignalWaves) (e : Entry) (x : SignalWaves)
    → judge_signal s before e ≡ Ok x → is_signal_waves x ≡ true
is_signal_waves-judge_signal s lines before e x is =
    let outer = both_ok (ref_at s e) _ x is in
    let head : List Lexeme = lexemes_at s e in
    let line : ℕ = line_at s.tokens e.first in
    let said = said_in (is_some e.body) (lone_ref (reference_front head)) outer.given
    (said_at e.first (in_block (is_some e.body) (lone_ref (reference_front head))) outer.given outer.met) in
    let on_line = first_line s lines e (ref_head head outer.given said) in
    let middle = both_ok (at_statement e.first (ref_of line outer.given)) _ x outer.made in
    let reference : SigRef = middle.given in
    let fits = lone_fits (reference_front head) outer.given (fits_front head) said in
    let is_ref = is_sig_ref-ref_of line outer.given reference on_line fits
    (said_at e.first (ref_of line outer.given) reference middle.met) in
    let es : List Entry = unskipped s (inner_of e.body) in
    let inner = both_ok (reading (judge_wave s) [] es) _ x middle.made in
    let same : record { reference = reference; waves = inner.given; line = line } ≡ x = cc in
    subst (λ (w : SignalWaves). is_signal_waves w ≡ true) same
    (and_from _ (is_line line)
    (and_from (is_sig_ref reference) (list_all is_wave_decl inner.given) is_ref
    (reading-each (judge_wave s) is_wave_decl (is_wave_decl-judge_wave s lines) es inner.given inner.met))
    on_line)

-- all of them
pub are_signal_waves-signals_of : (s : Setting) → HasLines s → (es : List Entry) (waves : List SignalWaves)
    → signals_of s es ≡ Ok waves → list_all is_signal_waves waves ≡ true
are_signal_waves-signals_of s lines es waves is =
    reading-each (judge_signal s) is_signal_waves (is_signal_waves-judge_signal s lines) (unskipped s es) waves is

-- each part of a table has its form
record TableFits (t : TableDecl) : Type 0 where
  named : is_name t.name ≡ true
  period : is_absent_or is_quoted t.period ≡ true
  inherits : list_all is_named t.inherits ≡ true
  waveforms : list_all is_signal_waves t.waveforms ≡ true
  line : is_line t.line ≡ true

-- then the table has its form
whole : (t : TableDecl) → TableFits t → is_table_decl t ≡ true
whole t fits =
    and_from _ (is_line t.line)
    (and_from _ (list_all is_signal_waves t.waveforms)
    (and_from _ (list_all is_named t.inherits)
    (and_from (is_name t.name) (is_absent_or is_quoted t.period) fits.named fits.period) fits.inherits) fits.waveforms)
    fits.line

-- a text or a name behind a keyword
said_plain : {X : Type 0} (first : ℕ) (b : Bool) (r : Result X FormKind) (x : X) → at_statement first (where_so b r) ≡ Ok x
    → r ≡ Ok x
said_plain first b r x is = said_so b r x (said_at first (where_so b r) x is)

-- a table keeps its form with one more of its statements
step_fits : (s : Setting) → HasLines s → (table : TableDecl) (e : Entry) (next : TableDecl) (first : Option TableWord)
    → table_by s table e first ≡ Ok next → TableFits table → TableFits next
step_fits s lines table e next None is fits = cc
step_fits s lines table e next (Some word_of.Period) is fits =
    let both = both_ok (plain_text s e) _ next is in
    let period : Quoted = quoted_at s (suc e.first) both.given in
    let made : TableDecl = record { name = table.name; period = Some period; inherits = table.inherits; waveforms = table.waveforms; line = table.line } in
    let same = (made_unless (is_some table.period) Twice made next (said_at e.first (with_period table period) next both.made)).1 in
    let said = said_plain e.first (not (is_some e.body)) (only_text (rest_at s e)) both.given both.met in
    let line = second_line s lines e (behind_keyword only_text (lexemes_at s e) both.given (λ other bad. cc) said) in
    subst TableFits same
    (record { named = fits.named; period = line; inherits = fits.inherits; waveforms = fits.waveforms; line = fits.line })
step_fits s lines table e next (Some word_of.Inherit) is fits =
    let both = both_ok (plain_name s e) _ next is in
    let inherited : Named = named_on s e both.given in
    let same : with_inherit table inherited ≡ next = cc in
    let said = said_plain e.first (not (is_some e.body)) (only_name (rest_at s e)) both.given both.met in
    let two = behind_keyword only_name (lexemes_at s e) both.given (λ other bad. cc) said in
    let line = first_line s lines e (omega (arith, two)) in
    subst TableFits same
    (record {
      named = fits.named;
      period = fits.period;
      inherits = list_all-one is_named table.inherits inherited fits.inherits
          (and_from (is_name both.given) (is_line (line_at s.tokens e.first)) (is_name-only_name (rest_at s e) both.given said) line);
      waveforms = fits.waveforms;
      line = fits.line;
    })
step_fits s lines table e next (Some word_of.Waveforms) is fits =
    let outer = both_ok (bare_block s e) _ next is in
    let both = both_ok (signals_of s (inner_of e.body)) _ next outer.made in
    let same : with_waveforms table both.given ≡ next = cc in
    subst TableFits same
    (record {
      named = fits.named;
      period = fits.period;
      inherits = fits.inherits;
      waveforms = list_all-append is_signal_waves table.waveforms both.given
          ∙ and_from (list_all is_signal_waves table.waveforms) (list_all is_signal_waves both.given) fits.waveforms
          (are_signal_waves-signals_of s lines (inner_of e.body) both.given both.met);
      line = fits.line;
    })

-- the table that statements say
table_fits : (s : Setting) → HasLines s → (called : List ℕ) (line : ℕ) (es : List Entry) (table : TableDecl)
    → is_name called ≡ true → is_line line ≡ true → table_of s called line es ≡ Ok table → TableFits table
table_fits s lines called line es table named on_line is =
    stepping-keeps (table_step s) TableFits
    (λ state e next stepped fits. step_fits s lines state e next (first_meaning table_words (lexemes_at s e)) stepped fits)
    (empty_table called line) (unskipped s es) table (table_computed s called line (unskipped s es) ∙ is)
    (record { named = named; period = refl; inherits = refl; waveforms = refl; line = on_line })

-- what is judged of a new name: there is room, it was not declared, and it is the name
pub record IsNewName (declared : List (List ℕ × List ℕ)) (title called : List ℕ) : Type 0 where
  pub room : nat_lt (count_under declared title) most_tables ≡ true
  pub new : is_declared declared title called ≡ false

-- the name of one more table
pub record IsTableName (s : Setting) (declared : List (List ℕ × List ℕ)) (title : List ℕ) (e : Entry) (called : List ℕ) : Type 0 where
  pub behind : is_table (lexemes_at s e) ≡ true
  pub named : named_block s e ≡ Ok called
  pub new : IsNewName declared title called

pub table_name-parts : (s : Setting) (declared : List (List ℕ × List ℕ)) (title : List ℕ) (e : Entry) (called : List ℕ)
    → table_name s declared title e ≡ Ok called → IsTableName s declared title e called
table_name-parts s declared title e called is =
    let outer = said_where (is_table (lexemes_at s e)) (and_then (named_block s e) (λ c. at_statement e.first (new_name declared title c))) (Refused LeftOut e.first) called is in
    let both = both_ok (named_block s e) (λ c. at_statement e.first (new_name declared title c)) called outer.1 in
    let said = said_at e.first (new_name declared title both.given) called both.made in
    let room = said_where (nat_lt (count_under declared title) most_tables) (cond {A = Result (List ℕ) FormKind} (is_declared declared title both.given) (Err Twice) (Ok both.given)) OutOfRange called said in
    let new = made_unless (is_declared declared title both.given) Twice both.given called room.1 in
    record {
      behind = outer.0;
      named = both.met ∙ ap Ok new.1;
      new = record { room = room.0; new = sym (ap (is_declared declared title) new.1) ∙ new.0 };
    }

-- a table begins with its keyword
table_head : (head : List Lexeme) → is_table head ≡ true → 0 < length head
table_head [] is = cc
table_head (one ∷ rest) is = omega arith

-- a table
pub is_table_decl-table_said : (s : Setting) → HasLines s → (declared : List (List ℕ × List ℕ)) (title : List ℕ) (e : Entry)
    (table : TableDecl) → table_said s declared title e ≡ Ok table → is_table_decl table ≡ true
is_table_decl-table_said s lines declared title e table is =
    let both = both_ok (table_name s declared title e) _ table is in
    let parts = table_name-parts s declared title e both.given both.met in
    whole table
    (table_fits s lines both.given (line_at s.tokens e.first) (inner_of e.body) table
    (is_name-named_block s e both.given parts.named)
    (first_line s lines e (table_head (lexemes_at s e) parts.behind)) both.made)

-- a Timing block
pub is_timing_block-timing_block : (s : Setting) → HasLines s → (declared : List (List ℕ × List ℕ)) (e : Entry)
    (timing : TimingBlock) → timing_block s declared e ≡ Ok timing → is_timing_block timing ≡ true
is_timing_block-timing_block s lines declared e timing is =
    let outer = both_ok (titled_block s e) _ timing is in
    let title : List ℕ = outer.given in
    let es : List Entry = unskipped s (inner_of e.body) in
    let both = both_ok (reading (judge_table s declared title) [] es) _ timing outer.made in
    let same : record { name = title; tables = both.given } ≡ timing = cc in
    subst (λ (t : TimingBlock). is_timing_block t ≡ true) same
    (and_from (is_optional_name title) (list_all is_table_decl both.given)
    (is_optional_name-titled_block s e title outer.met)
    (reading-each (judge_table s declared title) is_table_decl
    (λ before one table judged. is_table_decl-table_said s lines (declared ++ under title (table_names before)) title one table judged)
    es both.given both.met))
