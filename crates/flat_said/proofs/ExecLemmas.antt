-- The bursts and the executives of a flat text.
use Rattle.std.proofs.Common.{◌≡◌, ℕ, List, [], ◌∷◌, ◌++◌, refl, append_assoc, append-nil}
use Rattle.std.specs.Prelude.{codes, decimal}
use Rattle.text_bytes.specs.Bytes.{is_word}
use Rattle.stil_lex.specs.Bytes.{double_quote}
use Rattle.packed_code.specs.Program.{Program}
use Rattle.packed_code.specs.Cycles.{exec_of}
use Rattle.line_texts.specs.Said.{no_more, statement, braced, spaced, next_line, word, a_name, blank}
use Rattle.flat_parts.specs.FlatText.{with_feed, burst_line, exec_text, exec_line}
use Rattle.flat_parts.specs.FlatBlocks.{numbered}
use Rattle.flat_said.specs.FlatSaid.{burst_said, title_pieces, exec_said}
use Rattle.flat_said.proofs.SaysLemmas.{Says, says_as, says_then, says_statement, says_braced, says_space, says_line, heads_nil, heads_name_blank, heads_word_blank, heads_last_name, IsQuotable, IsPlainWord, plain_word_is}
use Rattle.flat_said.proofs.WordLemmas.{t_is, b_is, p_is}
use Rattle.flat_said.proofs.TimingLemmas.{timing_word}

-- ---- words

burst_word : IsPlainWord (codes "PatternBurst")
unfolding is_word
burst_word = plain_word_is (codes "PatternBurst") refl

list_word : IsPlainWord (codes "PatList")
unfolding is_word
list_word = plain_word_is (codes "PatList") refl

exec_word : IsPlainWord (codes "PatternExec")
unfolding is_word
exec_word = plain_word_is (codes "PatternExec") refl

-- ---- bursts

burst_text : (burst space quote b digits opens list p stop closes feed : List ℕ)
    → ((burst ++ (space ++ ((quote ++ ((b ++ digits) ++ quote)) ++ (space ++ []))))
    ++ (opens ++ ((space ++ (((list ++ (space ++ []))
    ++ (opens ++ ((space ++ ((((quote ++ ((p ++ digits) ++ quote)) ++ []) ++ stop) ++ space)) ++ closes))) ++ space)) ++ closes))) ++ feed
    ≡ (((burst ++ (space ++ (quote ++ b))) ++ digits
    ++ (quote ++ (space ++ (opens ++ (space ++ (list ++ (space ++ (opens ++ (space ++ (quote ++ p))))))))) ++ digits)
    ++ (quote ++ (stop ++ (space ++ (closes ++ (space ++ closes)))))) ++ feed
burst_text burst space quote b digits opens list p stop closes feed = simp (append_assoc, append-nil)

-- a burst
pub burst_says : (exec : ℕ) → Says (burst_said exec) (with_feed (burst_line exec))
burst_says exec =
    says_as
    (burst_text (codes "PatternBurst") (32 ∷ []) (34 ∷ []) (codes "b") (decimal exec) (123 ∷ []) (codes "PatList") (codes "p") (59 ∷ [])
    (125 ∷ []) (10 ∷ []))
    (says_then
    (says_braced (heads_word_blank burst_word (heads_name_blank (b_is exec) heads_nil))
    (says_then says_space
    (says_then
    (says_braced (heads_word_blank list_word heads_nil)
    (says_then says_space (says_then (says_statement (heads_last_name (p_is exec))) says_space)))
    says_space)))
    says_line)

-- ---- executives

-- what stands inside an executive
abbrev inside_text : List ℕ → List ℕ
inside_text digits =
    codes " Timing \"t" ++ digits ++ codes "\"; PatternBurst \"b" ++ digits ++ codes "\"; "

inside_is : (space timing quote t digits stop burst b : List ℕ)
    → space ++ (((timing ++ (space ++ ((quote ++ ((t ++ digits) ++ quote)) ++ []))) ++ stop)
    ++ (space ++ (((burst ++ (space ++ ((quote ++ ((b ++ digits) ++ quote)) ++ []))) ++ stop) ++ space)))
    ≡ ((space ++ (timing ++ (space ++ (quote ++ t)))) ++ digits
    ++ (quote ++ (stop ++ (space ++ (burst ++ (space ++ (quote ++ b)))))) ++ digits)
    ++ (quote ++ (stop ++ space))
inside_is space timing quote t digits stop burst b = simp (append_assoc, append-nil)

inside_says : (exec : ℕ)
    → Says
    (λ more.
    spaced
    (statement (word (codes "Timing") ∷ blank ∷ a_name (numbered (codes "t") exec) ∷ [])
    (spaced (statement (word (codes "PatternBurst") ∷ blank ∷ a_name (numbered (codes "b") exec) ∷ []) (spaced more)))))
    (inside_text (decimal exec))
inside_says exec =
    says_as (inside_is (32 ∷ []) (codes "Timing") (34 ∷ []) (codes "t") (decimal exec) (59 ∷ []) (codes "PatternBurst") (codes "b"))
    (says_then says_space
    (says_then (says_statement (heads_word_blank timing_word (heads_last_name (t_is exec))))
    (says_then says_space
    (says_then (says_statement (heads_word_blank burst_word (heads_last_name (b_is exec)))) says_space))))

plain_text : (exec space opens first digits second third closes feed : List ℕ)
    → ((exec ++ space) ++ (opens ++ ((first ++ digits ++ second ++ digits ++ third) ++ closes))) ++ feed
    ≡ (exec ++ ([] ++ (space ++ (opens ++ first)) ++ digits ++ second ++ digits ++ (third ++ closes))) ++ feed
plain_text exec space opens first digits second third closes feed = simp append_assoc

named_text : (exec space name opens first digits second third closes feed : List ℕ)
    → ((exec ++ (space ++ (name ++ (space ++ [])))) ++ (opens ++ ((first ++ digits ++ second ++ digits ++ third) ++ closes))) ++ feed
    ≡ (exec ++ ((space ++ name) ++ ((space ++ (opens ++ first)) ++ digits ++ second ++ digits ++ (third ++ closes)))) ++ feed
named_text exec space name opens first digits second third closes feed = simp (append_assoc, append-nil)

-- an executive of a name
exec_by : (name : List ℕ) (exec : ℕ) → IsQuotable double_quote name
    → Says
    (λ more.
    braced (word (codes "PatternExec") ∷ title_pieces name)
    (spaced
    (statement (word (codes "Timing") ∷ blank ∷ a_name (numbered (codes "t") exec) ∷ [])
    (spaced (statement (word (codes "PatternBurst") ∷ blank ∷ a_name (numbered (codes "b") exec) ∷ []) (spaced no_more)))))
    (next_line more))
    (with_feed (exec_text name exec))
exec_by [] exec quotable =
    says_as
    (plain_text (codes "PatternExec") (32 ∷ []) (123 ∷ []) (codes " Timing \"t") (decimal exec) (codes "\"; PatternBurst \"b")
    (codes "\"; ") (125 ∷ []) (10 ∷ []))
    (says_then (says_braced (heads_word_blank exec_word heads_nil) (inside_says exec)) says_line)
exec_by (byte ∷ name) exec quotable =
    says_as
    (named_text (codes "PatternExec") (32 ∷ []) (34 ∷ (byte ∷ name) ++ 34 ∷ []) (123 ∷ []) (codes " Timing \"t") (decimal exec)
    (codes "\"; PatternBurst \"b") (codes "\"; ") (125 ∷ []) (10 ∷ []))
    (says_then (says_braced (heads_word_blank exec_word (heads_name_blank quotable heads_nil)) (inside_says exec)) says_line)

-- an executive
pub exec_says : (code : Program) (exec : ℕ) → IsQuotable double_quote (exec_of code exec).name
    → Says (exec_said code exec) (with_feed (exec_line code exec))
exec_says code exec quotable = exec_by (exec_of code exec).name exec quotable
