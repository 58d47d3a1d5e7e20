-- The tables of a Timing are read as they are, or are more than a Timing may have.
use Rattle.std.proofs.Common.{◌≡◌, ℕ, suc, ◌+◌, ◌^◌, ◌≤◌, ◌<◌, Bool, true, false, List, [], ◌∷◌, ◌++◌, length, map, Option, Some, None, Result, Ok, Err, refl, sym, ap, subst, ◌∙◌, append_assoc, append-nil, arith, inl, inr, cond, length-append}
use Rattle.std.specs.Prelude.{codes, decimal, nat_lt}
use Rattle.std.specs.List.{AllByRecursion, AllZip}
use Rattle.std.proofs.lemmas.Bool.{cases_Bool, ltb-false}
use Rattle.std.proofs.lemmas.Grind.{flat_map-append}
use Rattle.text_bytes.specs.Bytes.{is_printable}
use Rattle.text_bytes.specs.Limits.{most_tables}
use Rattle.stil_lex.specs.declared.token.Token.{Token}
use Rattle.stil_tree.specs.Trees.{Entry, entries}
use Rattle.answers.specs.Reading.{and_then, reading}
use Rattle.stil_form.specs.declared.fault.FormFault.{FormFault}
use Rattle.stil_form.specs.declared.fault.FormFault.TheVariants.{Refused}
use Rattle.stil_form.specs.declared.fault.FormKind.{FormKind}
use Rattle.stil_form.specs.declared.fault.FormKind.TheVariants.{OutOfRange, LeftOut, Twice}
use Rattle.stil_form.specs.Lexeme.{Lexeme}
use Rattle.stil_form.specs.Setting.{setting, line_at, at_statement, inner_of}
use Rattle.stil_ast.specs.Data.Texts.{same}
use Rattle.stil_ast.specs.declared.name.Quoted.{Quoted}
use Rattle.stil_ast.specs.declared.timing.SignalWaves.{SignalWaves}
use Rattle.stil_ast.specs.declared.timing.TableDecl.{TableDecl}
use Rattle.stil_ast.specs.declared.timing.TimingBlock.{TimingBlock}
use Rattle.pat_read.specs.Statements.{is_there, only_name}
use Rattle.block_forms.specs.Heads.{is_declared, count_under, under, where_so, only_text, nothing, title_of, behind_first, named_block, titled_block}
use Rattle.block_forms.specs.Keywords.{first_meaning}
use Rattle.block_forms.specs.Quotes.{quoted_at}
use Rattle.timing_blocks.specs.Waveforms.{signals_of}
use Rattle.timing_blocks.specs.Timings.{TableLine, period, waves, table_words, new_period, line_by, judge_line, table_in, table_of, is_table, new_name, table_name, table_names, judge_table, tables_of, timing_block}
use Rattle.stil_read.specs.Top.{tables_in, more_timings}
use Rattle.packed_code.specs.Program.{Program}
use Rattle.line_texts.specs.Said.{Said, no_more, statement, braced, blank, pieces_of, count_of, trees_at, each_said, next_line}
use Rattle.line_texts.specs.Said as spoken
use Rattle.line_texts.proofs.SettingLemmas.{unskipped_all}
use Rattle.line_texts.proofs.StandingLemmas.{Stands, unspaced, statement_head, behind_statement, braced_head, inside_braced, behind_braced}
use Rattle.flat_parts.specs.FlatBlocks.{numbered, time_text, table_numbered, own_numbers, IsNumberedTable, IsTiming}
use Rattle.flat_said.specs.FlatSaid.{wave_said, inside_table, table_said, timing_said}
use Rattle.flat_read.proofs.HeadLemmas.{named_head, texted_head}
use Rattle.flat_read.proofs.NameLemmas.{named_is, numbered_fits, numbered_differ, NoneFrom, none_behind, IsUntitled, untitled_new, untitled_count, count_push, under_other, untitled_append, under_push, AreRising}
use Rattle.flat_read.proofs.ReadingLemmas.{each_from, IsForm, Gives, giving_each, and_then-gives, gives_behind, gives_for, zip_all}
use Rattle.flat_read.proofs.WaveLemmas.{WaveFits, wave_decl, wave_next, waves_read, waves_are}

-- ---- tables

-- the waves of a table of the text
abbrev pub table_waves : Program → List Token → ℕ → ℕ → List SignalWaves
table_waves code tokens f number = each_from (wave_decl code tokens) wave_next (f + 2 + 1 + 1 + 1) (table_numbered code number).waves

-- the period of a table of the text, which stands with this token
abbrev pub table_period : Program → List Token → ℕ → ℕ → Quoted
table_period code tokens f number =
    record { text = time_text (table_numbered code number).period; line = line_at tokens (suc f) }

-- a table, whose statements begin with this token
abbrev pub table_with : Program → List Token → ℕ → ℕ → ℕ → TableDecl
table_with code tokens line f number = record {
  name = numbered (codes "w") number;
  period = Some (table_period code tokens f number);
  inherits = [];
  waveforms = table_waves code tokens f number;
  line = line;
}

-- a table
abbrev pub table_decl : Program → List Token → ℕ → ℕ → TableDecl
table_decl code tokens at number = table_with code tokens (line_at tokens at) (at + 2 + 1) number

abbrev pub table_entry : Program → ℕ → ℕ → Entry
table_entry code at number =
    record { first = at; count = 2; body = Some (trees_at (at + 2 + 1) (inside_table code (table_numbered code number))) }

abbrev pub table_next : Program → ℕ → ℕ → ℕ
table_next code at number = at + 2 + 1 + count_of (pieces_of (inside_table code (table_numbered code number))) + 1

-- the period is read
period_read : (code : Program) (bytes : List ℕ) (tokens : List Token) (f number : ℕ) (more : Said)
    → Stands bytes tokens f
    (statement (spoken.word (codes "Period") ∷ blank ∷ spoken.a_text (time_text (table_numbered code number).period) ∷ []) more)
    → judge_line (setting bytes tokens []) [] (record { first = f; count = 2; body = None })
    ≡ Ok (period (table_period code tokens f number))
period_read code bytes tokens f number more stands =
    let s = setting bytes tokens [] in
    let e : Entry = record { first = f; count = 2; body = None } in
    let time = time_text (table_numbered code number).period in
    let head = statement_head stands ∙ texted_head (codes "Period") time in
    ap (λ (ls : List Lexeme). line_by s [] e (first_meaning table_words ls)) head
    ∙ ap (λ (ls : List Lexeme). and_then (at_statement f (where_so true (only_text (behind_first ls)))) (λ text.
    at_statement f (new_period [] (quoted_at s (suc f) text)))) head

-- the waves are read
waveforms_read : (code : Program) (bytes : List ℕ) (tokens : List Token) (before : List TableLine) (f number : ℕ) (more : Said)
    → AllByRecursion (WaveFits code) (table_numbered code number).waves
    → Stands bytes tokens f (braced (spoken.word (codes "Waveforms") ∷ blank ∷ [])
    (next_line (each_said (wave_said code) (table_numbered code number).waves no_more)) more)
    → judge_line (setting bytes tokens []) before (record {
      first = f;
      count = 1;
      body = Some (trees_at (f + 1 + 1) (each_said (wave_said code) (table_numbered code number).waves no_more));
    })
    ≡ Ok (waves (each_from (wave_decl code tokens) wave_next (f + 1 + 1) (table_numbered code number).waves))
waveforms_read code bytes tokens before f number more fits stands =
    let s = setting bytes tokens [] in
    let all = (table_numbered code number).waves in
    let inside = trees_at (f + 1 + 1) (each_said (wave_said code) all no_more) in
    let e : Entry = record { first = f; count = 1; body = Some inside } in
    ap (λ (ls : List Lexeme). line_by s before e (first_meaning table_words ls)) (braced_head stands)
    ∙ ap (λ (ls : List Lexeme). and_then (at_statement f (where_so true (nothing (behind_first ls)))) (λ n.
    and_then (signals_of s (entries inside)) (λ ws. Ok (waves ws)))) (braced_head stands)
    ∙ ap (λ (r : Result (List SignalWaves) FormFault). and_then r (λ ws. Ok (waves ws)))
    (waves_read code bytes tokens all (f + 1 + 1) fits (unspaced (inside_braced stands)))

-- both
inside_read : (code : Program) (bytes : List ℕ) (tokens : List Token) (line f number : ℕ)
    → AllByRecursion (WaveFits code) (table_numbered code number).waves
    → Stands bytes tokens f (inside_table code (table_numbered code number))
    → table_of (setting bytes tokens []) (numbered (codes "w") number) line
    (entries (trees_at f (inside_table code (table_numbered code number))))
    ≡ Ok (table_with code tokens line f number)
inside_read code bytes tokens line f number fits stands =
    let s = setting bytes tokens [] in
    let called = numbered (codes "w") number in
    let all = (table_numbered code number).waves in
    let time = table_period code tokens f number in
    let made : List TableLine → Result TableDecl FormFault = λ said. Ok (table_in called line said) in
    let first : Entry = record { first = f; count = 2; body = None } in
    let second : Entry =
    record { first = f + 2 + 1; count = 1; body = Some (trees_at (f + 2 + 1 + 1 + 1) (each_said (wave_said code) all no_more)) } in
    let one = unspaced stands in
    ap (λ (es : List Entry). and_then (reading (judge_line s) [] es) made) (unskipped_all bytes tokens (first ∷ second ∷ []))
    ∙ ap (λ (r : Result TableLine FormFault). and_then (and_then r (λ x. reading (judge_line s) (x ∷ []) (second ∷ []))) made)
    (period_read code bytes tokens f number _ one)
    ∙ ap (λ (r : Result TableLine FormFault). and_then (and_then r (λ x. Ok (period time ∷ x ∷ []))) made)
    (waveforms_read code bytes tokens (period time ∷ []) (f + 2 + 1) number _ fits (unspaced (behind_statement one)))
    ∙ ap (λ (ws : List SignalWaves). Ok (record { name = called; period = Some time; inherits = []; waveforms = ws; line = line }))
    (append-nil (table_waves code tokens f number))

-- whether one more table may be declared
new_table : (declared : List (List ℕ × List ℕ)) (title called : List ℕ) (at : ℕ) → is_declared declared title called ≡ false
    → Gives (most_tables ≤ count_under declared title) (at_statement at (new_name declared title called)) called
new_table declared title called at new =
    let fresh : Result (List ℕ) FormKind = cond (is_declared declared title called) (Err Twice) (Ok called) in
    let judged : Bool → Result (List ℕ) FormFault = λ b. at_statement at (cond b fresh (Err OutOfRange)) in
    elim (cases_Bool (nat_lt (count_under declared title) most_tables)) [
      | inl room ↦ inl (ap judged room ∙ ap (λ (b : Bool). at_statement at (cond b (Err Twice) (Ok called))) new)
      | inr full ↦ inr (at, ap judged full, ltb-false (count_under declared title) most_tables full)
    ]

-- a table is read behind others, or is one too many
table_read : (code : Program) (bytes : List ℕ) (tokens : List Token) (declared : List (List ℕ × List ℕ)) (title : List ℕ)
    (before : List TableDecl) (at number : ℕ) (more : Said) → AllByRecursion (WaveFits code) (table_numbered code number).waves
    → number < 2 ^ 64 → is_declared (declared ++ under title (table_names before)) title (numbered (codes "w") number) ≡ false
    → Stands bytes tokens at (table_said code number more)
    → Gives (most_tables ≤ count_under (declared ++ under title (table_names before)) title)
    (judge_table (setting bytes tokens []) declared title before (table_entry code at number)) (table_decl code tokens at number)
unfolding is_printable
table_read code bytes tokens declared title before at number more fits small new stands =
    let s = setting bytes tokens [] in
    let e = table_entry code at number in
    let called = numbered (codes "w") number in
    let all = declared ++ under title (table_names before) in
    let line = line_at tokens at in
    let head = braced_head stands ∙ named_head (codes "WaveformTable") called in
    let named : named_block s e ≡ Ok called =
    ap (λ (ls : List Lexeme). at_statement at (where_so true (only_name (behind_first ls)))) head
    ∙ ap (λ (o : Option (List ℕ)). at_statement at (is_there o)) (named_is called (numbered_fits 119 number refl small)) in
    let name_is : table_name s all title e ≡ at_statement at (new_name all title called) =
    ap (λ (ls : List Lexeme). cond (is_table ls) (and_then (named_block s e) (λ c. at_statement at (new_name all title c)))
    (Err (Refused LeftOut at))) head
    ∙ ap (λ (r : Result (List ℕ) FormFault). and_then r (λ c. at_statement at (new_name all title c))) named in
    and_then-gives (table_name s all title e) (λ c. table_of s c line (inner_of e.body)) called (table_decl code tokens at number)
    (gives_behind (table_name s all title e) (at_statement at (new_name all title called)) called name_is
    (new_table all title called at new))
    (inl (inside_read code bytes tokens line (at + 2 + 1) number fits (inside_braced stands)))

table_form : (code : Program) (bytes : List ℕ) (tokens : List Token)
    → IsForm bytes tokens (table_said code) (table_entry code) (table_next code)
table_form code bytes tokens = record { front = λ number at more. refl; behind = λ number at more h. unspaced (behind_braced h) }

-- the waves of all tables fit
abbrev pub TablesFit : Program → Type 0
TablesFit code = (number : ℕ) → AllByRecursion (WaveFits code) (table_numbered code number).waves

-- what was read, and what is still to be read, of so many
abbrev pub TablesLeft : List (List ℕ × List ℕ) → List ℕ → ℕ → List TableDecl → List ℕ → Type 0
TablesLeft declared title many before left =
    (m : ℕ) × NoneFrom (declared ++ under title (table_names before)) title 119 m
    × (count_under (declared ++ under title (table_names before)) title ≡ length before)
    × (length before + length left ≡ many) × AreRising m left

-- one more name is declared
one_declared : (declared : List (List ℕ × List ℕ)) (title : List ℕ) (before : List TableDecl) (d : TableDecl)
    → declared ++ under title (table_names (before ++ d ∷ [])) ≡ (declared ++ under title (table_names before)) ++ (title, d.name) ∷ []
one_declared declared title before d =
    ap (λ (names : List (List ℕ × List ℕ)). declared ++ names) (under_push title (λ (t : TableDecl). t.name) before d)
    ∙ sym (append_assoc declared (under title (table_names before)) ((title, d.name) ∷ []))

-- the same behind one more
tables_left : (declared : List (List ℕ × List ℕ)) (title : List ℕ) (many : ℕ) (before : List TableDecl) (d : TableDecl) (number : ℕ)
    (left : List ℕ) → d.name ≡ numbered (codes "w") number → TablesLeft declared title many before (number ∷ left)
    → TablesLeft declared title many (before ++ d ∷ []) left
tables_left declared title many before d number left is h =
    let all = declared ++ under title (table_names before) in
    let more : declared ++ under title (table_names (before ++ d ∷ [])) ≡ all ++ (title, numbered (codes "w") number) ∷ [] =
    one_declared declared title before d ∙ ap (λ (n : List ℕ). all ++ (title, n) ∷ []) is in
    let long = length-append before (d ∷ []) in (
      number + 1,
      subst (λ (ds : List (List ℕ × List ℕ)). NoneFrom ds title 119 (number + 1)) (sym more)
          (none_behind all title 119 h.0 number h.1 h.4.0 h.4.1),
      ap (λ (ds : List (List ℕ × List ℕ)). count_under ds title) more ∙ count_push all title (numbered (codes "w") number)
          ∙ omega (arith, h.2, long),
      omega (arith, h.3, long),
      h.4.2,
    )

-- the tables of a Timing
pub tables_read : (code : Program) (bytes : List ℕ) (tokens : List Token) (declared : List (List ℕ × List ℕ)) (title : List ℕ)
    (numbers : List ℕ) (at : ℕ) → TablesFit code → IsUntitled declared title → AreRising 0 numbers
    → Stands bytes tokens at (each_said (table_said code) numbers no_more)
    → Gives (most_tables < length numbers)
    (tables_of (setting bytes tokens []) declared title (entries (trees_at at (each_said (table_said code) numbers no_more))))
    (each_from (table_decl code tokens) (table_next code) at numbers)
tables_read code bytes tokens declared title numbers at fits none rise stands =
    let s = setting bytes tokens [] in
    let es = entries (trees_at at (each_said (table_said code) numbers no_more)) in
    let nothing_more = sym (append-nil declared) in
    gives_behind (tables_of s declared title es) (reading (judge_table s declared title) [] es)
    (each_from (table_decl code tokens) (table_next code) at numbers)
    (ap (λ (all : List Entry). reading (judge_table s declared title) [] all) (unskipped_all bytes tokens es))
    (giving_each bytes tokens (table_said code) (table_entry code) (table_next code) (table_form code bytes tokens)
    (judge_table s declared title) (table_decl code tokens) (TablesLeft declared title (length numbers))
    (λ before f number left more fit here. (
      gives_for (judge_table s declared title before (table_entry code f number)) (table_decl code tokens f number)
          (λ full. omega (arith, full, fit.2, fit.3))
          (table_read code bytes tokens declared title before f number more (fits number) fit.4.1 (fit.1 number fit.4.0 fit.4.1) here),
      tables_left declared title (length numbers) before (table_decl code tokens f number) number left refl fit,
    ))
    numbers [] at (
      0,
      subst (λ (d : List (List ℕ × List ℕ)). NoneFrom d title 119 0) nothing_more
          (λ k low small. untitled_new declared title (119 ∷ decimal k) none),
      ap (λ (d : List (List ℕ × List ℕ)). count_under d title) (append-nil declared) ∙ untitled_count declared title none,
      omega arith,
      rise,
    ) stands)

-- ---- Timings

-- a Timing
abbrev pub timing_decl : Program → List Token → ℕ → ℕ → TimingBlock
timing_decl code tokens at exec = record {
  name = numbered (codes "t") exec;
  tables = each_from (table_decl code tokens) (table_next code) (at + 2 + 1) (own_numbers code exec);
}

-- the tables in it
abbrev pub timing_inside : Program → ℕ → Said
timing_inside code exec = next_line (each_said (table_said code) (own_numbers code exec) no_more)

abbrev pub timing_entry : Program → ℕ → ℕ → Entry
timing_entry code at exec = record { first = at; count = 2; body = Some (trees_at (at + 2 + 1) (timing_inside code exec)) }

abbrev pub timing_next : Program → ℕ → ℕ → ℕ
timing_next code at exec = at + 2 + 1 + count_of (pieces_of (timing_inside code exec)) + 1

-- a Timing is read behind others, or has too many tables
pub timing_read : (code : Program) (bytes : List ℕ) (tokens : List Token) (declared : List (List ℕ × List ℕ)) (at exec : ℕ) (more : Said)
    → TablesFit code → exec < 2 ^ 64 → IsUntitled declared (numbered (codes "t") exec) → AreRising 0 (own_numbers code exec)
    → Stands bytes tokens at (timing_said code exec more)
    → Gives (most_tables < length (own_numbers code exec)) (timing_block (setting bytes tokens []) declared (timing_entry code at exec))
    (timing_decl code tokens at exec)
unfolding is_printable
timing_read code bytes tokens declared at exec more fits small none rise stands =
    let s = setting bytes tokens [] in
    let e = timing_entry code at exec in
    let title = numbered (codes "t") exec in
    let inner = entries (trees_at (at + 2 + 1) (timing_inside code exec)) in
    let tables = each_from (table_decl code tokens) (table_next code) (at + 2 + 1) (own_numbers code exec) in
    let titled : titled_block s e ≡ Ok title =
    ap (λ (ls : List Lexeme). at_statement at (where_so true (title_of (behind_first ls))))
    (braced_head stands ∙ named_head (codes "Timing") title)
    ∙ ap (λ (o : Option (List ℕ)). at_statement at (is_there o)) (named_is title (numbered_fits 116 exec refl small)) in
    and_then-gives (titled_block s e) (λ t. and_then (tables_of s declared t inner) (λ all. Ok (record { name = t; tables = all }))) title
    (timing_decl code tokens at exec) (inl titled)
    (and_then-gives (tables_of s declared title inner) (λ all. Ok (record { name = title; tables = all })) tables
    (timing_decl code tokens at exec)
    (tables_read code bytes tokens declared title (own_numbers code exec) (at + 2 + 1) fits none rise (unspaced (inside_braced stands)))
    (inl refl))

pub timing_form : (code : Program) (bytes : List ℕ) (tokens : List Token)
    → IsForm bytes tokens (timing_said code) (timing_entry code) (timing_next code)
timing_form code bytes tokens = record { front = λ exec at more. refl; behind = λ exec at more h. unspaced (behind_braced h) }

-- each is the Timing of its executive
pub timings_are : (code : Program) (tokens : List Token) (execs : List ℕ) (at : ℕ)
    → AllZip (IsTiming code) execs (each_from (timing_decl code tokens) (timing_next code) at execs)
timings_are code tokens execs at =
    zip_all (IsTiming code) (timing_decl code tokens) (timing_next code)
    (λ f exec. record {
      name = refl;
      tables = zip_all (IsNumberedTable code) (table_decl code tokens) (table_next code)
          (λ k number. record {
            name = refl;
            period_line = line_at tokens (suc (k + 2 + 1));
            period = refl;
            inherits = refl;
            waves = waves_are code tokens (table_numbered code number).waves (k + 2 + 1 + 2 + 1 + 1 + 1);
          }) (own_numbers code exec) (f + 2 + 1);
    }) execs at

-- ---- which names are declared

-- no table of a Timing of an executive from this one on
abbrev pub UntitledFrom : List TimingBlock → ℕ → Type 0
UntitledFrom before m = (k : ℕ) → m ≤ k → k < 2 ^ 64 → IsUntitled (tables_in before) (116 ∷ decimal k)

-- behind one more
pub untitled_behind : (before : List TimingBlock) (t : TimingBlock) (m exec : ℕ) → UntitledFrom before m → m ≤ exec → exec < 2 ^ 64
    → t.name ≡ 116 ∷ decimal exec → UntitledFrom (before ++ t ∷ []) (exec + 1)
untitled_behind before t m exec none low small is k above few =
    let title = 116 ∷ decimal k in
    let names = table_names t.tables in
    let differ : same t.name title ≡ false =
    ap (λ (n : List ℕ). same n title) is ∙ numbered_differ 116 exec k small few (λ e. omega (arith, e, above)) in
    subst (λ (ds : List (List ℕ × List ℕ)). IsUntitled ds title)
    (sym (flat_map-append (λ (b : TimingBlock). under b.name (map (λ (d : TableDecl). d.name) b.tables)) before (t ∷ [])))
    (untitled_append (tables_in before) (under t.name names ++ []) title (none k (omega (arith, low, above)) few)
    (untitled_append (under t.name names) [] title (under_other t.name title names differ) tt))

-- one more Timing, or too many tables
pub timing_more : (code : Program) (bytes : List ℕ) (tokens : List Token) (before : List TimingBlock) (at exec m : ℕ) (more : Said)
    → TablesFit code → exec < 2 ^ 64 → UntitledFrom before m → m ≤ exec → AreRising 0 (own_numbers code exec)
    → Stands bytes tokens at (timing_said code exec more)
    → Gives (most_tables < length (own_numbers code exec)) (more_timings (setting bytes tokens []) before (timing_entry code at exec))
    (before ++ timing_decl code tokens at exec ∷ [])
unfolding more_timings
timing_more code bytes tokens before at exec m more fits small none low rise stands =
    and_then-gives (timing_block (setting bytes tokens []) (tables_in before) (timing_entry code at exec)) (λ one. Ok (before ++ one ∷ []))
    (timing_decl code tokens at exec) (before ++ timing_decl code tokens at exec ∷ [])
    (timing_read code bytes tokens (tables_in before) at exec more fits small (none exec low small) rise stands)
    (inl refl)
