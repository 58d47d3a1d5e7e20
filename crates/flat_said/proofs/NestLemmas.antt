-- The patterns of a flat text.
use Rattle.std.proofs.Common.{◌≡◌, ℕ, Bool, true, false, cond, List, [], ◌∷◌, ◌++◌, refl, sym, ap, ◌∙◌, append_assoc, append-nil}
use Rattle.std.specs.Prelude.{codes, decimal, nat_lt}
use Rattle.std.specs.List.{flat_map}
use Rattle.std.proofs.lemmas.List.Concat.{flat_map-append}
use Rattle.text_bytes.specs.Bytes.{is_word}
use Rattle.packed_code.specs.declared.instr.Instr.TheVariants.{Done, End}
use Rattle.packed_code.specs.Program.{Program}
use Rattle.packed_code.specs.Cycles.{exec_of}
use Rattle.line_texts.specs.Said.{no_more, statement, braced, spaced, next_line, word, a_name, blank}
use Rattle.flat_parts.specs.Order.{table_order, row_order, number_in}
use Rattle.flat_parts.specs.FlatText.{with_feed, text_of, block, opening, one_line, many_line, run_line, instr_lines, pattern_lines}
use Rattle.flat_parts.specs.FlatBlocks.{numbered}
use Rattle.flat_parts.specs.Nests.{Nest, nothing, run, loop, instrs_in}
use Rattle.flat_said.specs.FlatSaid.{call_said, loop_head, nest_said, pattern_said}
use Rattle.flat_said.proofs.SaysLemmas.{Says, says_as, says_nothing, says_then, says_statement, says_braced, says_space, says_line, Heads, heads_nil, heads_name_blank, heads_word_blank, heads_last_name, IsPlainWord, plain_word_is}
use Rattle.flat_said.proofs.WordLemmas.{decimal_is, w_is, r_is, p_is}
use Rattle.flat_said.proofs.BlockLemmas.{text_of-nil, text_of-cons, text_of-append, text_of-block, says_lines}
use Rattle.flat_said.proofs.TimingLemmas.{opening_text}

-- ---- words

wave_word : IsPlainWord (codes "W")
unfolding is_word
wave_word = plain_word_is (codes "W") refl

call_word : IsPlainWord (codes "Call")
unfolding is_word
call_word = plain_word_is (codes "Call") refl

loop_word : IsPlainWord (codes "Loop")
unfolding is_word
loop_word = plain_word_is (codes "Loop") refl

pattern_word : IsPlainWord (codes "Pattern")
unfolding is_word
pattern_word = plain_word_is (codes "Pattern") refl

-- ---- instructions

-- a call of a row of the text
call_says : (row : ℕ)
    → Says (statement (word (codes "Call") ∷ blank ∷ a_name (numbered (codes "r") row) ∷ []))
    ((codes "Call" ++ 32 ∷ ((34 ∷ numbered (codes "r") row ++ 34 ∷ []) ++ [])) ++ 59 ∷ [])
call_says row = says_statement (heads_word_blank call_word (heads_last_name (r_is row)))

-- a table of the text
use_says : (table : ℕ)
    → Says (statement (word (codes "W") ∷ blank ∷ a_name (numbered (codes "w") table) ∷ []))
    ((codes "W" ++ 32 ∷ ((34 ∷ numbered (codes "w") table ++ 34 ∷ []) ++ [])) ++ 59 ∷ [])
use_says table = says_statement (heads_word_blank wave_word (heads_last_name (w_is table)))

-- the head of a Loop
loop_heads : (times : ℕ) → Heads (loop_head times) (codes "Loop" ++ 32 ∷ (decimal times ++ 32 ∷ []))
loop_heads times = heads_word_blank loop_word (heads_word_blank (decimal_is times) heads_nil)

one_text : (wave space quote w table stop call r row feed : List ℕ)
    → ((wave ++ (space ++ ((quote ++ ((w ++ table) ++ quote)) ++ []))) ++ stop)
    ++ (space ++ (((call ++ (space ++ ((quote ++ ((r ++ row) ++ quote)) ++ []))) ++ stop) ++ feed))
    ≡ (((wave ++ (space ++ (quote ++ w))) ++ table ++ (quote ++ (stop ++ (space ++ (call ++ (space ++ (quote ++ r)))))))
    ++ row ++ (quote ++ stop)) ++ feed
one_text wave space quote w table stop call r row feed = simp (append_assoc, append-nil)

many_text : (wave space quote w table stop call r row loops times opens closes feed : List ℕ)
    → ((wave ++ (space ++ ((quote ++ ((w ++ table) ++ quote)) ++ []))) ++ stop)
    ++ (space ++ (((loops ++ (space ++ (times ++ (space ++ []))))
    ++ (opens ++ ((space ++ (((call ++ (space ++ ((quote ++ ((r ++ row) ++ quote)) ++ []))) ++ stop) ++ space)) ++ closes))) ++ feed))
    ≡ (((wave ++ (space ++ (quote ++ w))) ++ table ++ (quote ++ (stop ++ (space ++ (loops ++ space)))) ++ times
    ++ (space ++ (opens ++ (space ++ (call ++ (space ++ (quote ++ r)))))) ++ row) ++ (quote ++ (stop ++ (space ++ closes)))) ++ feed
many_text wave space quote w table stop call r row loops times opens closes feed = simp (append_assoc, append-nil)

-- a Run, by whether it is called more than once
run_by : (table row times : ℕ) (many : Bool)
    → Says
    (λ more.
    statement (word (codes "W") ∷ blank ∷ a_name (numbered (codes "w") table) ∷ [])
    (spaced
    (cond many
    (braced (loop_head times) (spaced (call_said (numbered (codes "r") row) (spaced no_more))) (next_line more))
    (call_said (numbered (codes "r") row) (next_line more)))))
    (with_feed (cond many (many_line table row times) (one_line table row)))
run_by table row times true =
    says_as
    (many_text (codes "W") (32 ∷ []) (34 ∷ []) (codes "w") (decimal table) (59 ∷ []) (codes "Call") (codes "r") (decimal row)
    (codes "Loop") (decimal times) (123 ∷ []) (125 ∷ []) (10 ∷ []))
    (says_then (use_says table)
    (says_then says_space
    (says_then (says_braced (loop_heads times) (says_then says_space (says_then (call_says row) says_space))) says_line)))
run_by table row times false =
    says_as
    (one_text (codes "W") (32 ∷ []) (34 ∷ []) (codes "w") (decimal table) (59 ∷ []) (codes "Call") (codes "r") (decimal row)
    (10 ∷ []))
    (says_then (use_says table) (says_then says_space (says_then (call_says row) says_line)))

loop_text : (loops space times brace : List ℕ)
    → (loops ++ space) ++ times ++ (space ++ brace) ≡ (loops ++ (space ++ (times ++ (space ++ [])))) ++ brace
loop_text loops space times brace = simp (append_assoc, append-nil)

loop_whole : (opening inside rest end : List ℕ) → (opening ++ (inside ++ end)) ++ rest ≡ opening ++ (inside ++ (end ++ rest))
loop_whole opening inside rest end = simp append_assoc

-- instructions
pub nest_says : (code : Program) (nest : Nest) → Says (nest_said code nest) (text_of (flat_map (instr_lines code) (instrs_in nest)))
nest_says code nothing = says_as (sym text_of-nil) says_nothing
nest_says code (run lines table row mark times rest) =
    let line = run_line (number_in (table_order code) table) (number_in (row_order code) row) times in
    says_as (sym (text_of-cons line (flat_map (instr_lines code) (instrs_in rest))))
    (says_then (run_by (number_in (table_order code) table) (number_in (row_order code) row) times (nat_lt 1 times)) (nest_says code rest))
nest_says code (loop line times body rest) =
    let head = codes "Loop " ++ decimal times ++ codes " {" in
    let inside = flat_map (instr_lines code) (instrs_in body) in
    let behind = flat_map (instr_lines code) (instrs_in rest) in
    let whole : text_of (block head inside) ++ text_of behind
    ≡ text_of (flat_map (instr_lines code) (instrs_in (loop line times body rest))) =
    ap (λ (ys : List ℕ). ys ++ text_of behind) (text_of-block head inside)
    ∙ loop_whole (with_feed head) (text_of inside) (text_of behind) (with_feed (codes "}"))
    ∙ ap (λ (ys : List ℕ). with_feed head ++ (text_of inside ++ ys)) (sym (text_of-cons (codes "}") behind))
    ∙ ap (λ (ys : List ℕ). with_feed head ++ ys) (sym (text_of-append inside (codes "}" ∷ behind)))
    ∙ sym (text_of-cons head (inside ++ codes "}" ∷ behind))
    ∙ ap (λ (lines : List (List ℕ)). text_of (head ∷ lines))
    (sym (flat_map-append (instr_lines code) (instrs_in body) (End ∷ instrs_in rest))) in
    says_as whole
    (says_then
    (says_lines head inside (loop_heads times) (nest_says code body)
    (loop_text (codes "Loop") (32 ∷ []) (decimal times) (123 ∷ [])))
    (nest_says code rest))

-- ---- patterns

-- the pattern of an executive whose instructions nest so
pub pattern_says : (code : Program) (nests : ℕ → Nest) (exec : ℕ) → (exec_of code exec).instrs ≡ instrs_in (nests exec) ++ Done ∷ []
    → Says (pattern_said code nests exec) (text_of (pattern_lines code exec))
pattern_says code nests exec is =
    let front = flat_map (instr_lines code) (instrs_in (nests exec)) in
    let all : front ≡ flat_map (instr_lines code) (exec_of code exec).instrs =
    sym (append-nil front) ∙ sym (flat_map-append (instr_lines code) (instrs_in (nests exec)) (Done ∷ []))
    ∙ ap (flat_map (instr_lines code)) (sym is) in
    says_lines (opening (codes "Pattern \"p") exec) (flat_map (instr_lines code) (exec_of code exec).instrs)
    (heads_word_blank pattern_word (heads_name_blank (p_is exec) heads_nil)) (says_as (ap text_of all) (nest_says code (nests exec)))
    (opening_text (codes "Pattern") (32 ∷ []) (34 ∷ []) (codes "p") (decimal exec) (123 ∷ []))
