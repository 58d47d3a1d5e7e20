-- Where the first line of a text ends, and what is behind it.
use Rattle.std.proofs.Common.{◌≡◌, ℕ, ◌+◌, ◌<◌, ◌≤◌, ◌==◌, Bool, cond, true, false, not, List, [], ◌∷◌, ◌++◌, length, take, drop, Some, None, refl, sym, ap, ◌∙◌, subst, arith, append_assoc, rules, length-append, drop-drop}
use Rattle.std.specs.Prelude.{nat_lt}
use Rattle.std.specs.List.{list_all, position, prefix_len}
use Rattle.std.proofs.lemmas.List.{take_all, append-nil, take-append-drop}
use Rattle.std.proofs.lemmas.Option.{cond_some}
use Rattle.std.specs.Option.{option_and_then}
use Rattle.std.proofs.lemmas.Grind.{flat_map-append}
use Rattle.text_bytes.proofs.ListLemmas.{all_append}
use Rattle.text_bytes.specs.Bytes.{begins_with}
use Rattle.text_bytes.proofs.Spans.{span}
use Rattle.vcd_text.specs.Dump.{Line, spelled, ended, text_of}
use Rattle.vcd_text.specs.Standing.{Standing, begun, behind, behind_all, FitsLine, has_no_feed}
use Rattle.vcd_text.specs.Read.{IsLineEnd, IsReadTo}
use Rattle.vcd_text.proofs.ReadingLemmas.{behind_both}

-- what doesn't pass is a line feed
abbrev within : ℕ → Bool
within b = not (b == 10)

drop_next : (n : ℕ) (text : List ℕ) (b : ℕ) (back : List ℕ) → drop n text ≡ b ∷ back → drop (n + 1) text ≡ back
drop_next n text b back is = sym (drop-drop 1 n text) ∙ ap (drop 1) is

feed_at : (text front back : List ℕ) → text ≡ front ++ back → begins_with within back ≡ false → length front < length text
    → drop (length front) text ≡ back → drop (length front) text ≡ 10 ∷ drop (length front + 1) text
feed_at text front [] is stops less at = absurd (omega (arith, less, ap length is, length-append front []))
feed_at text front (b ∷ back) is stops less at =
    let feed : b ≡ 10 = search (rules, stops) in
    let next : drop (length front + 1) text ≡ back =
    drop_next (length front) text b back at in
    at ∙ ap (λ x. x ∷ back) feed ∙ ap (λ l. 10 ∷ l) (sym next)

pub end_some : (text : List ℕ) (end : ℕ) → Some end ≡ position (λ b. b == 10) text → IsLineEnd text end
end_some text end is =
    let s = span within text in
    let p = cond_some _ _ _ (sym is) in
    let less : prefix_len within text < length text = search (rules, p.0) in
    subst (IsLineEnd text) p.1 (record {
      within = omega (arith, less);
      free = ap has_no_feed s.front_is ∙ s.each;
      feed = λ h. ap (λ n. drop n text) s.len ∙ feed_at text s.front s.back s.spelled s.stops (omega (arith, less, s.len)) (ap (λ n. drop n text) (sym s.len) ∙ s.back_is)
          ∙ ap (λ n. 10 ∷ drop (n + 1) text) (sym s.len);
    })

no_position : (b : Bool) (n : ℕ) → None ≡ cond b (Some n) None → b ≡ false
no_position true n e = absurd cc
no_position false n e = refl

all_within : (text front back : List ℕ) → text ≡ front ++ back → list_all within front ≡ true → length text ≤ length front
    → has_no_feed text ≡ true
all_within text front [] is each long = ap has_no_feed (is ∙ append-nil front) ∙ each
all_within text front (b ∷ back) is each long = absurd (omega (arith, long, ap length is, length-append front (b ∷ back)))

pub end_none : (text : List ℕ) → None ≡ position (λ b. b == 10) text → IsLineEnd text (length text)
end_none text is =
    let s = span within text in
    let over : nat_lt (prefix_len within text) (length text) ≡ false = no_position _ _ is in
    let long : length text ≤ prefix_len within text = search (rules, over) in
    record {
      within = omega arith;
      free = ap has_no_feed (take_all (length text) text (omega arith)) ∙ all_within text s.front s.back s.spelled s.each (omega (arith, long, s.len));
      feed = λ h. absurd (omega (arith, h));
    }

-- the rest of a text, by the line that it begins with
pub first_line : (rest : List ℕ) (end : ℕ) → IsLineEnd rest end → end < length rest → rest ≡ take end rest ++ 10 ∷ drop (end + 1) rest
first_line rest end e less = sym (take-append-drop end rest) ∙ ap (λ l. take end rest ++ l) (e.feed less)

-- a text has no more lines than bytes
text_long : (lines : List Line) → length lines ≤ length (text_of lines)
text_long [] = omega arith
text_long (line ∷ lines) =
    let a = length-append (ended line) (text_of lines) in
    let b = length-append (spelled line) (10 ∷ []) in
    omega (arith, a, b, text_long lines)

count_few : (bytes rest : List ℕ) (lines : List Line) → bytes ≡ text_of lines ++ rest → length lines ≤ length bytes
count_few bytes rest lines is = omega (arith, text_long lines, ap length is, length-append (text_of lines) rest)

-- one more line was read
pub reads_on : (bytes rest more text : List ℕ) (count : ℕ) (old new : Standing) (line : Line) → IsReadTo bytes rest count old
    → FitsLine line → text ≡ spelled line → behind old line ≡ Some new → rest ≡ text ++ 10 ∷ more → IsReadTo bytes more (count + 1) new
unfolding behind_all
reads_on bytes rest more text count old new line r fits is went at =
    let whole : bytes ≡ text_of (r.lines ++ line ∷ []) ++ more = r.spelled ∙ ap (λ t. text_of r.lines ++ t) (at ∙ ap (λ t. t ++ 10 ∷ more) is ∙ sym (append_assoc (spelled line) (10 ∷ []) more))
    ∙ sym (append_assoc (text_of r.lines) (ended line) more)
    ∙ ap (λ t. t ++ more) (ap (λ t. text_of r.lines ++ t) (sym (append-nil (ended line))) ∙ sym (flat_map-append ended r.lines (line ∷ []))) in
    let many : length (r.lines ++ line ∷ []) ≡ count + 1 = length-append r.lines (line ∷ []) ∙ ap (λ n. n + 1) r.counted in
    record {
      lines = r.lines ++ line ∷ [];
      fits = all_append FitsLine r.lines (line ∷ []) r.fits (fits, tt);
      went = behind_both begun old new r.lines (line ∷ []) r.went (ap (λ o. option_and_then (λ next. behind_all next []) o) went);
      spelled = whole;
      counted = many;
      few = omega (arith, many, count_few bytes more (r.lines ++ line ∷ []) whole);
    }

-- no line was read
pub reads_none : (bytes : List ℕ) → IsReadTo bytes bytes 0 begun
unfolding behind_all
reads_none bytes = record { lines = []; fits = tt; went = refl; spelled = refl; counted = refl; few = omega arith }
