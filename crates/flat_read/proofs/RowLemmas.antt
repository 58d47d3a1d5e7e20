-- The rows of a code are read as procedures of one vector.
use Rattle.std.proofs.Common.{◌≡◌, ℕ, zero, suc, ◌+◌, ◌^◌, ◌≤◌, ◌<◌, Bool, true, false, ◌||◌, List, [], ◌∷◌, length, take, drop, Option, Some, None, Result, Ok, Err, refl, sym, ap, subst, ◌∙◌, arith, inl, inr, cond}
use Rattle.std.specs.Prelude.{codes, ◌==◌, slice_get}
use Rattle.std.specs.List.{AllByRecursion, AllZip, list_all}
use Rattle.std.specs.Option.{option_and_then, option_map_or}
use Rattle.std.proofs.lemmas.Bool.{and_parts, or_from, cases_Bool, eqb-true, false≢true}
use Rattle.text_bytes.specs.Bytes.{is_character, is_printable}
use Rattle.stil_lex.specs.declared.token.Token.{Token}
use Rattle.stil_tree.specs.Trees.{Entry, entries}
use Rattle.answers.specs.Reading.{and_then, reading}
use Rattle.stil_form.specs.declared.fault.FormFault.{FormFault}
use Rattle.stil_form.specs.declared.fault.FormKind.{FormKind}
use Rattle.stil_form.specs.declared.fault.FormKind.TheVariants.{Twice}
use Rattle.stil_form.specs.Lexeme.{Lexeme, name, lexemes_of}
use Rattle.stil_form.specs.Fronts.{behind_name}
use Rattle.stil_form.specs.Words.{fits_name}
use Rattle.stil_form.specs.Setting.{setting, line_at, at_statement}
use Rattle.stil_ast.specs.Data.Bodies.{written_of}
use Rattle.stil_ast.specs.Data.Written.{Written, single, no_more}
use Rattle.stil_ast.specs.Meaning.Statements.{a_character}
use Rattle.stil_ast.specs.declared.body.Assignment.{Assignment}
use Rattle.stil_ast.specs.declared.body.Step.TheVariants as step
use Rattle.stil_ast.specs.declared.body.PatAction.TheVariants as action
use Rattle.stil_ast.specs.declared.body.PatStmt.{PatStmt}
use Rattle.stil_ast.specs.declared.blocks.BodyDef.{BodyDef}
use Rattle.pat_read.specs.declared.reader.BodyPlace.TheVariants as place
use Rattle.pat_read.specs.Data.{has_underscore}
use Rattle.pat_read.specs.Statements.{is_there, only_name}
use Rattle.pat_read.specs.Body.{assignment_at, judge_assignment, assignments_of, on_line, body_from, body_of}
use Rattle.block_forms.specs.Heads.{is_declared, under}
use Rattle.pattern_blocks.specs.Defs.{names_of, def_called, def_name, new_name, new_def, judge_def, defs_in}
use Rattle.packed_code.specs.declared.parts.CodeSignal.{CodeSignal}
use Rattle.packed_code.specs.Program.{Program}
use Rattle.packed_code.specs.RowBytes.{is_place}
use Rattle.line_texts.specs.Said.{Said, braced, word as a_word, blank, spaced, pieces_of, count_of, trees_at, each_said}
use Rattle.line_texts.specs.Said as spoken
use Rattle.line_texts.proofs.AssignmentLemmas.{equals_one, assignment_said}
use Rattle.line_texts.proofs.SettingLemmas.{unskipped_all}
use Rattle.line_texts.proofs.StandingLemmas.{Stands, unspaced, statement_head, behind_statement, braced_head, inside_braced, behind_braced}
use Rattle.flat_parts.specs.FlatBlocks.{signal_called, numbered, Given, given_from, row_numbered, IsGift, IsRowBody}
use Rattle.flat_said.specs.FlatSaid.{gift_said, row_said}
use Rattle.flat_read.proofs.HeadLemmas.{lone_name, gift_head}
use Rattle.flat_read.proofs.NameLemmas.{named_is, numbered_fits, NoneFrom, none_behind, under_push, AreRising}
use Rattle.flat_read.proofs.ReadingLemmas.{each_from, IsForm, reading_each, zip_all}
use Rattle.flat_read.proofs.BodyLemmas.{one_read, vector_read}

-- ---- characters

-- the assignment of a character
abbrev pub gift_decl : List Token → ℕ → Given → Assignment
gift_decl tokens at given =
    record { reference = signal_called given.name; items = a_character given.character ∷ []; line = line_at tokens at }

abbrev pub gift_entry : ℕ → Given → Entry
gift_entry at given = record { first = at; count = 3; body = None }

abbrev pub gift_next : ℕ → Given → ℕ
gift_next at given = at + 3 + 1

-- a character that may be given to a signal
pub record GiftFits (given : Given) : Type 0 where
  pub called : fits_name given.name ≡ true
  pub plain : has_underscore (given.character ∷ []) ≡ false

-- `"name"=character;` is read
gift_read : (bytes : List ℕ) (tokens : List Token) (at : ℕ) (given : Given) → GiftFits given
    → take 3 (drop at (lexemes_of bytes tokens)) ≡ name given.name ∷ equals_one given.character
    → assignment_at (setting bytes tokens []) (gift_entry at given) ≡ Ok (gift_decl tokens at given)
gift_read bytes tokens at given fits head =
    assignment_said bytes tokens [] at (name given.name) given.name given.character head
    (ap (λ (o : Option (List ℕ)). option_and_then (behind_name (equals_one given.character)) o)
    (named_is given.name fits.called)) fits.plain

gift_form : (bytes : List ℕ) (tokens : List Token) → IsForm bytes tokens gift_said gift_entry gift_next
gift_form bytes tokens = record { front = λ given at more. refl; behind = λ given at more h. unspaced (behind_statement h) }

-- the characters of a row
gifts_read : (bytes : List ℕ) (tokens : List Token) (gifts : List Given) (at : ℕ) → AllByRecursion GiftFits gifts
    → Stands bytes tokens at (each_said gift_said gifts spoken.no_more)
    → assignments_of (setting bytes tokens []) (entries (trees_at at (each_said gift_said gifts spoken.no_more)))
    ≡ Ok (each_from (gift_decl tokens) gift_next at gifts)
gifts_read bytes tokens gifts at fits stands =
    let s = setting bytes tokens [] in
    ap (λ (es : List Entry). reading (judge_assignment s) [] es)
    (unskipped_all bytes tokens (entries (trees_at at (each_said gift_said gifts spoken.no_more))))
    ∙ reading_each bytes tokens gift_said gift_entry gift_next (gift_form bytes tokens) (judge_assignment s) (gift_decl tokens)
    (λ before left. AllByRecursion GiftFits left)
    (λ before place given left more fit here. (
      ap (at_statement place) (gift_read bytes tokens place given fit.0
          (statement_head here ∙ gift_head given.name given.character)),
      fit.1,
    ))
    gifts [] at fits stands

-- ---- which characters are given

-- a waveform character is no low line
pub no_underscore : (c : ℕ) → is_character c ≡ true → has_underscore (c ∷ []) ≡ false
unfolding is_character
no_underscore c is = elim (cases_Bool (c == 95)) [
  | inl e ↦ absurd (false≢true (subst (λ (b : ℕ). is_character b ≡ true) (eqb-true c 95 e) is))
  | inr e ↦ or_from (c == 95) false e refl
]

-- the name of a signal that there is
pub named_signal : (signals : List CodeSignal) (signal : ℕ) → AllByRecursion (λ s. fits_name s.name ≡ true) signals
    → signal < length signals → fits_name (option_map_or (λ s. s.name) (slice_get signals signal) []) ≡ true
named_signal [] signal fit inside = absurd (omega (arith, inside))
named_signal (s ∷ signals) zero fit inside = fit.0
named_signal (s ∷ signals) (suc signal) fit inside = named_signal signals signal fit.1 (omega (arith, inside))

-- the characters of a row fit
pub given_fits : (code : Program) → AllByRecursion (λ s. fits_name s.name ≡ true) code.signals → (row : List ℕ) (signal : ℕ)
    → signal + length row ≤ length code.signals → list_all is_place row ≡ true → AllByRecursion GiftFits (given_from code signal row)
given_fits code fit [] signal inside places = tt
given_fits code fit (c ∷ row) signal inside places =
    let parts = and_parts (is_place c) (list_all is_place row) places in
    let rest = given_fits code fit row (signal + 1) (omega (arith, inside)) parts.1 in
    elim (cases_Bool (c == 0)) [
      | inl none ↦ rw none rest
      | inr some ↦
          let plain : has_underscore (c ∷ []) ≡ false = no_underscore c (sym (ap (λ (b : Bool). b || is_character c) some) ∙ parts.0) in
          rw some (record { called = named_signal code.signals signal fit (omega (arith, inside)); plain = plain }, rest)
    ]

-- ---- rows

-- the statements in a row
abbrev pub row_inside : Program → ℕ → Said
row_inside code number =
    spaced (braced (a_word (codes "V") ∷ blank ∷ [])
    (spaced (each_said gift_said (given_from code 0 (row_numbered code number)) spoken.no_more)) (spaced spoken.no_more))

abbrev pub row_entry : Program → ℕ → ℕ → Entry
row_entry code at number = record { first = at; count = 1; body = Some (trees_at (at + 1 + 1) (row_inside code number)) }

abbrev pub row_next : Program → ℕ → ℕ → ℕ
row_next code at number = at + 1 + 1 + count_of (pieces_of (row_inside code number)) + 1

-- what it gives
abbrev pub row_gifts : Program → List Token → ℕ → ℕ → List Assignment
row_gifts code tokens at number =
    each_from (gift_decl tokens) gift_next (at + 1 + 1 + 1 + 1) (given_from code 0 (row_numbered code number))

-- a row
abbrev pub row_decl : Program → List Token → ℕ → ℕ → BodyDef
row_decl code tokens at number = record {
  name = numbered (codes "r") number;
  body = single (line_at tokens (at + 1 + 1)) (step.Vector (row_gifts code tokens at number)) no_more;
}

-- what all rows give fits
abbrev pub RowsFit : Program → Type 0
RowsFit code = (number : ℕ) → AllByRecursion GiftFits (given_from code 0 (row_numbered code number))

-- a row's body
row_body : (code : Program) (bytes : List ℕ) (tokens : List Token) (at number : ℕ)
    → AllByRecursion GiftFits (given_from code 0 (row_numbered code number)) → Stands bytes tokens (at + 1 + 1) (row_inside code number)
    → body_of (setting bytes tokens []) place.Procedure (trees_at (at + 1 + 1) (row_inside code number))
    ≡ Ok (row_decl code tokens at number).body
row_body code bytes tokens at number fits stands =
    let s = setting bytes tokens [] in
    let f = at + 1 + 1 in
    let gifts = given_from code 0 (row_numbered code number) in
    let inside = trees_at (f + 1 + 1) (each_said gift_said gifts spoken.no_more) in
    let e : Entry = record { first = f; count = 1; body = Some inside } in
    let given = row_gifts code tokens at number in
    let stmt : PatStmt = on_line (line_at tokens f) (action.Step (step.Vector given)) in
    let one = unspaced stands in
    let read : assignments_of s (entries inside) ≡ Ok given =
    gifts_read bytes tokens gifts (f + 1 + 1) fits (unspaced (inside_braced one)) in
    ap (λ (r : Result (List PatStmt) FormFault). and_then r (λ all. Ok (written_of all)))
    (one_read bytes tokens false [] e (body_from s false [] inside) (λ all. Ok all) stmt
    (vector_read bytes tokens false f inside (body_from s false [] inside) given (braced_head one) read))

-- a row behind others
row_read : (code : Program) (bytes : List ℕ) (tokens : List Token) (before : List BodyDef) (at number : ℕ) (more : Said)
    → AllByRecursion GiftFits (given_from code 0 (row_numbered code number)) → number < 2 ^ 64
    → is_declared (under [] (names_of before)) [] (numbered (codes "r") number) ≡ false → Stands bytes tokens at (row_said code number more)
    → judge_def (setting bytes tokens []) place.Procedure [] [] before (row_entry code at number) ≡ Ok (row_decl code tokens at number)
unfolding is_printable
row_read code bytes tokens before at number more fits small new stands =
    let s = setting bytes tokens [] in
    let e = row_entry code at number in
    let called = numbered (codes "r") number in
    let declared = under [] (names_of before) in
    let said : def_name s e ≡ Ok called =
    ap (λ (ls : List Lexeme). only_name ls) (braced_head stands ∙ lone_name called)
    ∙ ap (λ (o : Option (List ℕ)). is_there o) (named_is called (numbered_fits 114 number refl small)) in
    let fresh : new_name declared [] called ≡ Ok called = ap (λ (b : Bool). cond b (Err Twice) (Ok called)) new in
    let def : new_def s [] declared e ≡ Ok called =
    ap (λ (r : Result (List ℕ) FormKind). and_then (at_statement at r) (λ c. at_statement at (new_name declared [] c))) said
    ∙ ap (at_statement at) fresh in
    ap (λ (r : Result (List ℕ) FormFault). and_then r (λ c.
    and_then (body_of s place.Procedure (trees_at (at + 1 + 1) (row_inside code number))) (λ body. Ok (def_called c body)))) def
    ∙ ap (λ (r : Result Written FormFault). and_then r (λ body. Ok (def_called called body)))
    (row_body code bytes tokens at number fits (inside_braced stands))

row_form : (code : Program) (bytes : List ℕ) (tokens : List Token) → IsForm bytes tokens (row_said code) (row_entry code) (row_next code)
row_form code bytes tokens = record { front = λ number at more. refl; behind = λ number at more h. unspaced (behind_braced h) }

-- what was read, and what is still to be read
abbrev pub RowsLeft : List BodyDef → List ℕ → Type 0
RowsLeft before left = (m : ℕ) × NoneFrom (under [] (names_of before)) [] 114 m × AreRising m left

-- rows are read
pub rows_read : (code : Program) (bytes : List ℕ) (tokens : List Token) (numbers : List ℕ) (at : ℕ) → RowsFit code → AreRising 0 numbers
    → Stands bytes tokens at (each_said (row_said code) numbers spoken.no_more)
    → defs_in (setting bytes tokens []) place.Procedure [] [] (entries (trees_at at (each_said (row_said code) numbers spoken.no_more)))
    ≡ Ok (each_from (row_decl code tokens) (row_next code) at numbers)
rows_read code bytes tokens numbers at fits rise stands =
    let s = setting bytes tokens [] in
    ap (λ (es : List Entry). reading (judge_def s place.Procedure [] []) [] es)
    (unskipped_all bytes tokens (entries (trees_at at (each_said (row_said code) numbers spoken.no_more))))
    ∙ reading_each bytes tokens (row_said code) (row_entry code) (row_next code) (row_form code bytes tokens)
    (judge_def s place.Procedure [] []) (row_decl code tokens) RowsLeft
    (λ before f number left more fit here. (
      row_read code bytes tokens before f number more (fits number) fit.2.1 (fit.1 number fit.2.0 fit.2.1) here,
      (
        number + 1,
        subst (λ (d : List (List ℕ × List ℕ)). NoneFrom d [] 114 (number + 1))
            (sym (under_push [] (λ (d : BodyDef). d.name) before (row_decl code tokens f number)))
            (none_behind (under [] (names_of before)) [] 114 fit.0 number fit.1 fit.2.0 fit.2.1),
        fit.2.2,
      ),
    ))
    numbers [] at (0, (λ k low small. refl), rise) stands

-- each is the row of its number
pub rows_are : (code : Program) (tokens : List Token) (numbers : List ℕ) (at : ℕ)
    → AllZip (IsRowBody code) numbers (each_from (row_decl code tokens) (row_next code) at numbers)
rows_are code tokens numbers at =
    zip_all (IsRowBody code) (row_decl code tokens) (row_next code)
    (λ f number. record {
      name = refl;
      line = line_at tokens (f + 1 + 1);
      gifts = row_gifts code tokens f number;
      body = refl;
      each = zip_all IsGift (gift_decl tokens) gift_next (λ k given. refl) (given_from code 0 (row_numbered code number))
          (f + 1 + 1 + 1 + 1);
    }) numbers at
