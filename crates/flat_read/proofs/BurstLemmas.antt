-- The patterns and bursts of a code are read, each once.
use Rattle.std.proofs.Common.{◌≡◌, ℕ, ◌+◌, ◌^◌, ◌<◌, Bool, true, false, List, [], ◌∷◌, ◌++◌, Option, Some, None, Result, Ok, Err, refl, sym, ap, subst, ◌∙◌, cond}
use Rattle.std.specs.Prelude.{codes, is_some}
use Rattle.text_bytes.specs.Bytes.{is_printable}
use Rattle.stil_lex.specs.declared.token.Token.{Token}
use Rattle.stil_tree.specs.Trees.{Entry, entries}
use Rattle.answers.specs.Reading.{and_then, reading}
use Rattle.stil_form.specs.declared.fault.FormFault.{FormFault}
use Rattle.stil_form.specs.declared.fault.FormFault.TheVariants.{Refused}
use Rattle.stil_form.specs.declared.fault.FormKind.TheVariants.{Twice}
use Rattle.stil_form.specs.Lexeme.{Lexeme, word, name}
use Rattle.stil_form.specs.Words.{fits_name}
use Rattle.stil_form.specs.Setting.{setting, lexemes_at, line_at, at_statement, unskipped}
use Rattle.stil_ast.specs.Data.Bodies.{written_of}
use Rattle.stil_ast.specs.declared.blocks.Pattern.{Pattern}
use Rattle.stil_ast.specs.declared.body.PatStmt.{PatStmt}
use Rattle.stil_ast.specs.declared.executive.Burst.{Burst}
use Rattle.stil_ast.specs.declared.executive.BurstItem.{BurstItem}
use Rattle.stil_ast.specs.declared.executive.BurstWord.TheVariants as burst
use Rattle.pat_read.specs.Statements.{is_there, only_name}
use Rattle.pat_read.specs.Body.{body_from}
use Rattle.block_forms.specs.Heads.{is_declared, where_so, nothing, behind_first, named_block}
use Rattle.block_forms.specs.Keywords.{first_meaning}
use Rattle.pattern_blocks.specs.Bursts.{burst_words, item_on, where_empty, entry_item, by_word, names_in, judge_burst, burst_called, items_in, burst_block}
use Rattle.pattern_blocks.specs.Defs.{pattern_called, pattern_block}
use Rattle.stil_read.specs.Top.{once, pattern_names, burst_names, more_bursts, more_patterns}
use Rattle.packed_code.specs.Program.{Program}
use Rattle.line_texts.specs.Said.{Said, no_more, statement, braced, blank, spaced, pieces_of, count_of, trees_at}
use Rattle.line_texts.specs.Said as spoken
use Rattle.line_texts.proofs.SettingLemmas.{unskipped_all}
use Rattle.line_texts.proofs.StandingLemmas.{Stands, unspaced, statement_head, braced_head, inside_braced, behind_braced}
use Rattle.flat_parts.specs.Nests.{Nest}
use Rattle.flat_parts.specs.FlatBlocks.{numbered}
use Rattle.flat_said.specs.FlatSaid.{nest_said, pattern_said, burst_said}
use Rattle.flat_read.proofs.HeadLemmas.{lone_name, named_head}
use Rattle.flat_read.proofs.NameLemmas.{named_is, numbered_fits, NoneFrom, none_behind, under_push, AreRising}
use Rattle.flat_read.proofs.ReadingLemmas.{IsForm}
use Rattle.flat_read.proofs.BodyLemmas.{stmts_of, IsFew, NamesFit, nest_read}

-- a keyword and a name, with a block
pub named_read : (bytes : List ℕ) (tokens : List Token) (e : Entry) (keyword called : List ℕ)
    → is_some e.body ≡ true → fits_name called ≡ true
    → lexemes_at (setting bytes tokens []) e ≡ word keyword ∷ name called ∷ [] → named_block (setting bytes tokens []) e ≡ Ok called
named_read bytes tokens e keyword called block fits head =
    ap (λ (ls : List Lexeme). at_statement e.first (where_so (is_some e.body) (only_name (behind_first ls)))) head
    ∙ ap (λ (b : Bool). at_statement e.first (where_so b (only_name (name called ∷ [])))) block
    ∙ ap (λ (o : Option (List ℕ)). at_statement e.first (is_there o)) (named_is called fits)

-- a named block whose name is new
pub once_read : {X : Type 0} (declared : List (List ℕ × List ℕ)) (bytes : List ℕ) (tokens : List Token) (e : Entry)
    (read : Result X FormFault) (called : List ℕ) → named_block (setting bytes tokens []) e ≡ Ok called
    → is_declared declared [] called ≡ false
    → once declared (setting bytes tokens []) e read ≡ read
once_read declared bytes tokens e read called named new =
    ap (λ (r : Result (List ℕ) FormFault). and_then r (λ c. cond (is_declared declared [] c) (Err (Refused Twice e.first)) read)) named
    ∙ ap (λ (b : Bool). cond b (Err (Refused Twice e.first)) read) new

-- ---- patterns

-- a pattern
abbrev pub pattern_decl : Program → (ℕ → Nest) → List Token → ℕ → ℕ → Pattern
pattern_decl code nests tokens at exec =
    pattern_called (numbered (codes "p") exec) (written_of (stmts_of code tokens (at + 2 + 1) (nests exec)))

abbrev pub pattern_entry : Program → (ℕ → Nest) → ℕ → ℕ → Entry
pattern_entry code nests at exec =
    record { first = at; count = 2; body = Some (trees_at (at + 2 + 1) (nest_said code (nests exec) no_more)) }

abbrev pub pattern_next : Program → (ℕ → Nest) → ℕ → ℕ → ℕ
pattern_next code nests at exec = at + 2 + 1 + count_of (pieces_of (nest_said code (nests exec) no_more)) + 1

pub pattern_form : (code : Program) (nests : ℕ → Nest) (bytes : List ℕ) (tokens : List Token)
    → IsForm bytes tokens (pattern_said code nests) (pattern_entry code nests) (pattern_next code nests)
pattern_form code nests bytes tokens = record { front = λ exec at more. refl; behind = λ exec at more h. unspaced (behind_braced h) }

-- one more
pub pattern_read : (code : Program) (nests : ℕ → Nest) (bytes : List ℕ) (tokens : List Token) (before : List Pattern) (at exec : ℕ)
    (more : Said) → NamesFit code → IsFew (nests exec) → exec < 2 ^ 64
    → is_declared (pattern_names before) [] (numbered (codes "p") exec) ≡ false → Stands bytes tokens at (pattern_said code nests exec more)
    → more_patterns (setting bytes tokens []) before (pattern_entry code nests at exec)
    ≡ Ok (before ++ pattern_decl code nests tokens at exec ∷ [])
unfolding more_patterns is_printable
pattern_read code nests bytes tokens before at exec more fit few small new stands =
    let s = setting bytes tokens [] in
    let e = pattern_entry code nests at exec in
    let called = numbered (codes "p") exec in
    let inside = trees_at (at + 2 + 1) (nest_said code (nests exec) no_more) in
    let stmts = stmts_of code tokens (at + 2 + 1) (nests exec) in
    let named = named_read bytes tokens e (codes "Pattern") called refl (numbered_fits 112 exec refl small)
    (braced_head stands ∙ named_head (codes "Pattern") called) in
    let block : pattern_block s e ≡ Ok (pattern_decl code nests tokens at exec) =
    ap (λ (r : Result (List ℕ) FormFault). and_then r (λ c. and_then (and_then (body_from s true [] inside) (λ read. Ok (written_of read)))
    (λ body. Ok (pattern_called c body)))) named
    ∙ ap (λ (r : Result (List PatStmt) FormFault). and_then (and_then r (λ read. Ok (written_of read)))
    (λ body. Ok (pattern_called called body)))
    (nest_read code bytes tokens fit (nests exec) true [] (at + 2 + 1) few (unspaced (inside_braced stands))) in
    ap (λ (r : Result Pattern FormFault). and_then r (λ one. Ok (before ++ one ∷ [])))
    (once_read (pattern_names before) bytes tokens e (pattern_block s e) called named new ∙ block)

-- what was read, and what is still to be read
abbrev pub PatternsLeft : List Pattern → List ℕ → Type 0
PatternsLeft before left = (m : ℕ) × NoneFrom (pattern_names before) [] 112 m × AreRising m left

-- the same behind one more
pub patterns_left : (before : List Pattern) (p : Pattern) (exec : ℕ) (left : List ℕ) → p.name ≡ numbered (codes "p") exec
    → PatternsLeft before (exec ∷ left) → PatternsLeft (before ++ p ∷ []) left
patterns_left before p exec left is h =
    let more : pattern_names (before ++ p ∷ []) ≡ pattern_names before ++ ([], numbered (codes "p") exec) ∷ [] =
    under_push [] (λ (q : Pattern). q.name) before p
    ∙ ap (λ (n : List ℕ). pattern_names before ++ ([], n) ∷ []) is in (
      exec + 1,
      subst (λ (d : List (List ℕ × List ℕ)). NoneFrom d [] 112 (exec + 1)) (sym more)
          (none_behind (pattern_names before) [] 112 h.0 exec h.1 h.2.0 h.2.1),
      h.2.2,
    )

-- ---- bursts

-- the statements in a burst
abbrev pub burst_inside : ℕ → Said
burst_inside exec =
    spaced
    (braced (spoken.word (codes "PatList") ∷ blank ∷ [])
    (spaced (statement (spoken.a_name (numbered (codes "p") exec) ∷ []) (spaced no_more))) (spaced no_more))

-- a burst
abbrev pub burst_decl : List Token → ℕ → ℕ → Burst
burst_decl tokens at exec =
    burst_called (numbered (codes "b") exec)
    (record { word = burst.Entry; name = numbered (codes "p") exec; line = line_at tokens (at + 2 + 1 + 1 + 1) } ∷ [])

abbrev pub burst_entry : ℕ → ℕ → Entry
burst_entry at exec = record { first = at; count = 2; body = Some (trees_at (at + 2 + 1) (burst_inside exec)) }

abbrev pub burst_next : ℕ → ℕ → ℕ
burst_next at exec = at + 2 + 1 + count_of (pieces_of (burst_inside exec)) + 1

pub burst_form : (bytes : List ℕ) (tokens : List Token) → IsForm bytes tokens burst_said burst_entry burst_next
burst_form bytes tokens = record { front = λ exec at more. refl; behind = λ exec at more h. unspaced (behind_braced h) }

-- an entry of a PatList
entry_read : (bytes : List ℕ) (tokens : List Token) (f : ℕ) (called : List ℕ) (more : Said) → fits_name called ≡ true
    → Stands bytes tokens f (statement (spoken.a_name called ∷ []) more)
    → entry_item (setting bytes tokens []) (record { first = f; count = 1; body = None })
    ≡ Ok (record { word = burst.Entry; name = called; line = line_at tokens f })
entry_read bytes tokens f called more fits stands =
    let e : Entry = record { first = f; count = 1; body = None } in
    ap (λ (ls : List Lexeme). and_then (at_statement f (only_name ls)) (λ c.
    where_empty [] (item_on (setting bytes tokens []) e burst.Entry c))) (statement_head stands ∙ lone_name called)
    ∙ ap (λ (o : Option (List ℕ)). and_then (at_statement f (is_there o)) (λ c.
    where_empty [] (item_on (setting bytes tokens []) e burst.Entry c))) (named_is called fits)

-- the names of a burst
items_read : (bytes : List ℕ) (tokens : List Token) (f exec : ℕ) → exec < 2 ^ 64 → Stands bytes tokens f (burst_inside exec)
    → items_in (setting bytes tokens []) (entries (trees_at f (burst_inside exec)))
    ≡ Ok (record { word = burst.Entry; name = numbered (codes "p") exec; line = line_at tokens (f + 1 + 1) } ∷ [])
unfolding is_printable
items_read bytes tokens f exec small stands =
    let s = setting bytes tokens [] in
    let called = numbered (codes "p") exec in
    let item : BurstItem = record { word = burst.Entry; name = called; line = line_at tokens (f + 1 + 1) } in
    let one = unspaced stands in
    let inside = trees_at (f + 1 + 1) (statement (spoken.a_name called ∷ []) (spaced no_more)) in
    let e : Entry = record { first = f; count = 1; body = Some inside } in
    let first : Entry = record { first = f + 1 + 1; count = 1; body = None } in
    let listed : judge_burst s [] e ≡ Ok (item ∷ []) =
    ap (λ (ls : List Lexeme). by_word s [] e (first_meaning burst_words ls)) (braced_head one)
    ∙ ap (λ (ls : List Lexeme). and_then (at_statement f (where_so true (nothing (behind_first ls)))) (λ n.
    reading (λ _ inner. entry_item s inner) [] (unskipped s (first ∷ [])))) (braced_head one)
    ∙ ap (λ (es : List Entry). reading (λ _ inner. entry_item s inner) [] es) (unskipped_all bytes tokens (first ∷ []))
    ∙ ap (λ (r : Result BurstItem FormFault). and_then r (λ x. Ok (x ∷ [])))
    (entry_read bytes tokens (f + 1 + 1) called _ (numbered_fits 112 exec refl small) (unspaced (inside_braced one))) in
    ap (λ (es : List Entry). and_then (reading (judge_burst s) [] es) (λ told. Ok (names_in told))) (unskipped_all bytes tokens (e ∷ []))
    ∙ ap (λ (r : Result (List BurstItem) FormFault). and_then (and_then r (λ x. Ok (x ∷ []))) (λ told. Ok (names_in told))) listed

-- one more
pub burst_read : (bytes : List ℕ) (tokens : List Token) (before : List Burst) (at exec : ℕ) (more : Said) → exec < 2 ^ 64
    → is_declared (burst_names before) [] (numbered (codes "b") exec) ≡ false → Stands bytes tokens at (burst_said exec more)
    → more_bursts (setting bytes tokens []) before (burst_entry at exec) ≡ Ok (before ++ burst_decl tokens at exec ∷ [])
unfolding more_bursts is_printable
burst_read bytes tokens before at exec more small new stands =
    let s = setting bytes tokens [] in
    let e = burst_entry at exec in
    let called = numbered (codes "b") exec in
    let inner = entries (trees_at (at + 2 + 1) (burst_inside exec)) in
    let named = named_read bytes tokens e (codes "PatternBurst") called refl (numbered_fits 98 exec refl small)
    (braced_head stands ∙ named_head (codes "PatternBurst") called) in
    let block : burst_block s e ≡ Ok (burst_decl tokens at exec) =
    ap (λ (r : Result (List ℕ) FormFault). and_then r (λ c. and_then (items_in s inner) (λ items. Ok (burst_called c items)))) named
    ∙ ap (λ (r : Result (List BurstItem) FormFault). and_then r (λ items. Ok (burst_called called items)))
    (items_read bytes tokens (at + 2 + 1) exec small (inside_braced stands)) in
    ap (λ (r : Result Burst FormFault). and_then r (λ one. Ok (before ++ one ∷ [])))
    (once_read (burst_names before) bytes tokens e (burst_block s e) called named new ∙ block)

-- what was read, and what is still to be read
abbrev pub BurstsLeft : List Burst → List ℕ → Type 0
BurstsLeft before left = (m : ℕ) × NoneFrom (burst_names before) [] 98 m × AreRising m left

-- the same behind one more
pub bursts_left : (before : List Burst) (b : Burst) (exec : ℕ) (left : List ℕ) → b.name ≡ numbered (codes "b") exec
    → BurstsLeft before (exec ∷ left) → BurstsLeft (before ++ b ∷ []) left
bursts_left before b exec left is h =
    let more : burst_names (before ++ b ∷ []) ≡ burst_names before ++ ([], numbered (codes "b") exec) ∷ [] =
    under_push [] (λ (q : Burst). q.name) before b
    ∙ ap (λ (n : List ℕ). burst_names before ++ ([], n) ∷ []) is in (
      exec + 1,
      subst (λ (d : List (List ℕ × List ℕ)). NoneFrom d [] 98 (exec + 1)) (sym more)
          (none_behind (burst_names before) [] 98 h.0 exec h.1 h.2.0 h.2.1),
      h.2.2,
    )
