-- The flat text of a code is the statements that are said, and has their tokens.
use Rattle.std.proofs.Common.{◌≡◌, ℕ, zero, suc, ◌<◌, true, List, [], ◌∷◌, ◌++◌, length, get_or, map, refl, sym, ap, subst, ◌∙◌, arith, append_assoc, append-nil}
use Rattle.std.specs.Prelude.{codes}
use Rattle.std.specs.List.{AllByRecursion, flat_map}
use Rattle.text_bytes.specs.Bytes.{is_word}
use Rattle.text_bytes.proofs.ListLemmas.{all_from}
use Rattle.stil_lex.specs.Tokens.{spelled, Reads}
use Rattle.stil_form.specs.Lexeme.{lexemes_of}
use Rattle.packed_code.specs.declared.instr.Instr.TheVariants.{Done}
use Rattle.packed_code.specs.Program.{Exec, Program}
use Rattle.packed_code.specs.Conditions.{IsExec, IsProgram}
use Rattle.line_texts.specs.Said.{Said, no_more, statement, a_sign, each_said, word, blank, next_line}
use Rattle.line_texts.specs.Lexemes.{lexemes_in}
use Rattle.line_texts.proofs.PieceLemmas.{reads_pieces}
use Rattle.line_texts.proofs.LexemeLemmas.{lexemes_of-pieces}
use Rattle.packed_code.proofs.Lists.{behind_all}
use Rattle.flat_parts.specs.FlatText.{text_of, with_feed, signal_lines, timing_lines, row_lines, pattern_lines, burst_line, exec_line, executives, flat_text, has_plain_names}
use Rattle.flat_parts.specs.Nests.{Nest, nothing, instrs_in}
use Rattle.flat_parts.proofs.NestLemmas.{IsRest-nests}
use Rattle.flat_said.specs.FlatSaid.{signals_said, timing_said, rows_said, pattern_said, burst_said, exec_said}
use Rattle.flat_said.specs.Laws.{AreNests, flat_pieces, flat_tokens}
use Rattle.flat_said.proofs.ListLemmas.{all_any, all_range}
use Rattle.flat_said.proofs.SaysLemmas.{Says, says_as, says_then, says_statement, says_line, Heads, heads_word, heads_word_blank, heads_sign, heads_last_word, dot_is, IsPlainWord, plain_word_is}
use Rattle.flat_said.proofs.BlockLemmas.{text_of-cons, text_of-append, says_line_each, says_lines_each}
use Rattle.flat_said.proofs.TableLemmas.{signals_say}
use Rattle.flat_said.proofs.TimingLemmas.{timing_says}
use Rattle.flat_said.proofs.RowLemmas.{rows_say}
use Rattle.flat_said.proofs.NestLemmas.{pattern_says}
use Rattle.flat_said.proofs.ExecLemmas.{burst_says, exec_says}
use Rattle.flat_said.proofs.FactLemmas.{signals_are, names_are, execs_are, table_sayable, numbers_there, row_sayable}

-- ---- how instructions nest

-- the nest of the first executive, and those of the others
abbrev nest_at : Nest → (ℕ → Nest) → ℕ → Nest
nest_at first rest zero = first
nest_at first rest (suc exec) = rest exec

-- those of each executive
nests_from : (execs : List Exec) → AllByRecursion (λ e. (nest : Nest) × (e.instrs ≡ instrs_in nest ++ Done ∷ [])) execs
    → (nests : ℕ → Nest)
    × ((exec : ℕ) → exec < length execs
    → (get_or execs exec (record { name = []; chains = []; instrs = [] })).instrs ≡ instrs_in (nests exec) ++ Done ∷ [])
nests_from [] all = (λ exec. nothing, λ exec lt. absurd (omega arith))
nests_from (e ∷ execs) all =
    let rest = nests_from execs all.1 in (nest_at all.0.0 rest.0, at rest.0 rest.1)
  where
    at : (nests : ℕ → Nest)
        → ((exec : ℕ) → exec < length execs
        → (get_or execs exec (record { name = []; chains = []; instrs = [] })).instrs ≡ instrs_in (nests exec) ++ Done ∷ [])
        → (exec : ℕ) → exec < length (e ∷ execs)
        → (get_or (e ∷ execs) exec (record { name = []; chains = []; instrs = [] })).instrs
        ≡ instrs_in (nest_at all.0.0 nests exec) ++ Done ∷ []
    at nests each zero lt = all.0.1
    at nests each (suc exec) lt = each exec (omega arith)

-- the instructions of a code nest
pub nests_of : (code : Program) → IsProgram code → (nests : ℕ → Nest) × AreNests code nests
nests_of code is =
    nests_from code.execs
    (behind_all (λ before e. IsExec (length code.signals) code.tables code.rows e)
    (λ e. (nest : Nest) × (e.instrs ≡ instrs_in nest ++ Done ∷ [])) (λ before e x. IsRest-nests e.instrs x.whole.rest) [] code.execs
    is.execs)

-- ---- the text

stil_word : IsPlainWord (codes "STIL")
unfolding is_word
stil_word = plain_word_is (codes "STIL") refl

one_word : IsPlainWord (codes "1")
unfolding is_word
one_word = plain_word_is (codes "1") refl

zero_word : IsPlainWord (codes "0")
unfolding is_word
zero_word = plain_word_is (codes "0") refl

-- the first line
first_heads : Heads (word (codes "STIL") ∷ blank ∷ word (codes "1") ∷ a_sign 46 ∷ word (codes "0") ∷ []) (codes "STIL 1.0")
unfolding is_word
first_heads = heads_word_blank stil_word (heads_word one_word refl (heads_sign 46 dot_is (heads_last_word zero_word)))

parts_text : (a b c d e f : List (List ℕ))
    → text_of a ++ (text_of b ++ (text_of c ++ (text_of d ++ (text_of e ++ text_of f)))) ≡ text_of (a ++ b ++ c ++ d ++ e ++ f)
parts_text a b c d e f = simp (text_of-append, append_assoc)

-- all statements of the text, in front of others
abbrev all_said : Program → (ℕ → Nest) → Said → Said
all_said code nests more =
    statement (word (codes "STIL") ∷ blank ∷ word (codes "1") ∷ a_sign 46 ∷ word (codes "0") ∷ [])
    (next_line
    (signals_said code
    (each_said (timing_said code) (executives code)
    (rows_said code
    (each_said (pattern_said code nests) (executives code)
    (each_said burst_said (executives code) (each_said (exec_said code) (executives code) more)))))))

-- they say the text
pub flat_says : (code : Program) (nests : ℕ → Nest) → IsProgram code → has_plain_names code ≡ true → AreNests code nests
    → Says (all_said code nests) (flat_text code)
flat_says code nests is plain nested =
    let execs = executives code in
    let names = names_are code is plain in
    let inside = all_range 0 (length code.execs) (length code.execs) (omega arith) in
    let signals = signals_say code (signals_are code is plain) in
    let timings =
    says_lines_each (timing_said code) (timing_lines code) execs
    (all_any (λ exec. Says (timing_said code exec) (text_of (timing_lines code exec)))
    (λ exec. timing_says code exec (numbers_there code is) (all_any _ (table_sayable code is names) _)) execs) in
    let rows = rows_say code names (row_sayable code is) in
    let patterns =
    says_lines_each (pattern_said code nests) (pattern_lines code) execs
    (all_from (λ exec. exec < length code.execs) (λ exec. Says (pattern_said code nests exec) (text_of (pattern_lines code exec)))
    (λ exec lt. pattern_says code nests exec (nested exec lt)) execs inside) in
    let bursts =
    says_line_each burst_said burst_line execs (all_any (λ exec. Says (burst_said exec) (with_feed (burst_line exec))) burst_says execs) in
    let ends =
    says_line_each (exec_said code) (exec_line code) execs
    (all_any (λ exec. Says (exec_said code exec) (with_feed (exec_line code exec)))
    (λ exec. exec_says code exec (execs_are code is plain exec)) execs) in
    let lines =
    signal_lines code ++ flat_map (timing_lines code) execs ++ row_lines code ++ flat_map (pattern_lines code) execs
    ++ map burst_line execs ++ map (exec_line code) execs in
    let whole =
    ap (λ (ys : List ℕ). with_feed (codes "STIL 1.0;") ++ ys)
    (parts_text (signal_lines code) (flat_map (timing_lines code) execs) (row_lines code) (flat_map (pattern_lines code) execs)
    (map burst_line execs) (map (exec_line code) execs))
    ∙ sym (text_of-cons (codes "STIL 1.0;") lines) in
    says_as whole
    (says_then (says_statement first_heads)
    (says_then says_line
    (says_then signals (says_then timings (says_then rows (says_then patterns (says_then bursts ends)))))))

-- the text is what is said
pub spelled_flat : (code : Program) (nests : ℕ → Nest) → IsProgram code → has_plain_names code ≡ true → AreNests code nests
    → spelled (flat_pieces code nests) ≡ flat_text code
spelled_flat code nests is plain nested = (flat_says code nests is plain nested).spells no_more ∙ append-nil (flat_text code)

-- and has these tokens
pub flat_reads : (code : Program) (nests : ℕ → Nest) → IsProgram code → has_plain_names code ≡ true → AreNests code nests
    → Reads (flat_text code) (flat_tokens code nests)
flat_reads code nests is plain nested =
    subst (λ (bytes : List ℕ). Reads bytes (flat_tokens code nests)) (spelled_flat code nests is plain nested)
    (reads_pieces (flat_pieces code nests) ((flat_says code nests is plain nested).are no_more [] tt))

-- what readers of forms see of them
pub flat_lexemes : (code : Program) (nests : ℕ → Nest) → IsProgram code → has_plain_names code ≡ true → AreNests code nests
    → lexemes_of (flat_text code) (flat_tokens code nests) ≡ lexemes_in (flat_pieces code nests)
flat_lexemes code nests is plain nested =
    ap (λ (bytes : List ℕ). lexemes_of bytes (flat_tokens code nests))
    (sym (append-nil (spelled (flat_pieces code nests)) ∙ spelled_flat code nests is plain nested))
    ∙ lexemes_of-pieces [] (flat_pieces code nests) []
