-- What is held of fault lines, one more line at a time.
use Rattle.std.proofs.Common.{◌≡◌, ℕ, ◌+◌, ◌≤◌, Bool, true, false, not, cond, List, [], ◌∷◌, ◌++◌, length, take, drop, refl, sym, ap, ◌∙◌, subst, arith, append_assoc, length-append, length-drop}
use Rattle.std.specs.Prelude.{codes, decimal, Option, Some, None}
use denote.Ref.{Bor}
use Rattle.std.specs.List.{flat_map}
use Rattle.std.proofs.lemmas.List.{append-nil, append_cancel_left, take_at}
use Rattle.std.proofs.lemmas.List.Sums.{sum_by_push}
use Rattle.std.proofs.Math.Seq.{take-add}
use Rattle.std.proofs.lemmas.Grind.{flat_map-append}
use Rattle.text_bytes.proofs.ListLemmas.{all_append}
use Rattle.part_lines.specs.Lines.{is_one_line, ended}
use Rattle.grade_parts.specs.Log.{Stuck, Tells, AreFaults, ends_none, found_in}
use Rattle.grade_parts.specs.Held.{onto_first, lines_of, AreHeld}
use Rattle.grade_parts.specs.Step.{Known, AreMore, IsFirst, IsNextFault, IsBehind, counts_text}
use Rattle.part_lines.proofs.LineLemmas.{line_parts}
use Rattle.grade_parts.proofs.LogLemmas.{fault_one}
use Rattle.grade_parts.proofs.TurnLemmas.{more_push}

-- ---- the lines of a text

-- the first of them
lines-ended : (line rest : List ℕ) → is_one_line line ≡ true → lines_of (ended line ++ rest) ≡ line ∷ lines_of rest
lines-ended [] rest one = refl
lines-ended (b ∷ line) rest one =
    let head = line_parts b line one in
    ap (λ (x : Bool). cond x ([] ∷ lines_of (ended line ++ rest)) (onto_first b (lines_of (ended line ++ rest)))) head.0
    ∙ ap (onto_first b) (lines-ended line rest head.1)

-- lines of faults, put one after another, are the lines of that text
pub lines-faults : (lines : List (List ℕ)) → AreFaults lines → lines_of (flat_map ended lines) ≡ lines
lines-faults [] are = refl
lines-faults (line ∷ lines) are =
    lines-ended line (flat_map ended lines) (fault_one line are.0) ∙ ap (λ (l : List (List ℕ)). line ∷ l) (lines-faults lines are.1)

-- with a text behind them
lines_behind-faults : (lines : List (List ℕ)) (rest : List ℕ) → AreFaults lines
    → lines_of (flat_map ended lines ++ rest) ≡ lines ++ lines_of rest
lines_behind-faults [] rest are = refl
lines_behind-faults (line ∷ lines) rest are =
    ap lines_of (append_assoc (ended line) (flat_map ended lines) rest)
    ∙ lines-ended line (flat_map ended lines ++ rest) (fault_one line are.0)
    ∙ ap (λ (l : List (List ℕ)). line ∷ l) (lines_behind-faults lines rest are.1)

-- they are held by their counts
pub held_lines : (lines : List (List ℕ)) (text : List ℕ) (all hits : ℕ) → AreFaults lines → text ≡ flat_map ended lines
    → all ≡ length lines → hits ≡ found_in lines → AreHeld text all hits
held_lines lines text all hits are is count found =
    let same = ap lines_of is ∙ lines-faults lines are in
    record {
      whole = is ∙ ap (flat_map ended) (sym same);
      are = subst AreFaults (sym same) are;
      count = count ∙ ap (λ (l : List (List ℕ)). length l) (sym same);
      found = found ∙ ap found_in (sym same);
    }

-- ---- one more line

pub held_more : (text : List ℕ) (end all hits : ℕ) (line : List ℕ) → AreHeld (take end text) all hits
    → IsFirst (drop end text) line → (stuck : Stuck) × Tells line stuck
    → AreHeld (take (end + (length line + 1)) text) (all + 1) (hits + cond {A = ℕ} (not (ends_none line)) 1 0)
held_more text end all hits line held has fault =
    let lines = lines_of (take end text) in
    let more = line ∷ [] in
    let rest = drop (length line + 1) (drop end text) in
    let cut : take (length line + 1) (drop end text) ≡ ended line =
    ap (take (length line + 1)) has.whole ∙ take_at (ended line) rest (length line + 1) (length-append line (codes "\n")) in
    let last : flat_map ended more ≡ ended line = append-nil (ended line) in
    let is = take-add end (length line + 1) text ∙ (λ i. held.whole i ++ cut i)
    ∙ ap (λ (l : List ℕ). flat_map ended lines ++ l) (sym last) ∙ sym (flat_map-append ended lines more) in
    held_lines (lines ++ more) (take (end + (length line + 1)) text) (all + 1) (hits + cond {A = ℕ} (not (ends_none line)) 1 0)
    (all_append (λ (l : List ℕ). (stuck : Stuck) × Tells l stuck) lines more held.are (fault, tt)) is
    (ap (λ (n : ℕ). n + 1) held.count ∙ sym (length-append lines more))
    (ap (λ (n : ℕ). n + cond {A = ℕ} (not (ends_none line)) 1 0) held.found
    ∙ sym (sum_by_push (λ l. cond {A = ℕ} (not (ends_none l)) 1 0) lines line))

-- its lines are those before and this one
pub lines_push : (text : List ℕ) (end all hits : ℕ) (line : List ℕ) → AreHeld (take end text) all hits → IsFirst (drop end text) line
    → lines_of (take (end + (length line + 1)) text) ≡ lines_of (take end text) ++ line ∷ []
lines_push text end all hits line held has =
    let lines = lines_of (take end text) in
    let rest = drop (length line + 1) (drop end text) in
    let cut : take (length line + 1) (drop end text) ≡ ended line =
    ap (take (length line + 1)) has.whole ∙ take_at (ended line) rest (length line + 1) (length-append line (codes "\n")) in
    ap lines_of (take-add end (length line + 1) text ∙ (λ i. held.whole i ++ cut i))
    ∙ lines_behind-faults lines (ended line) held.are
    ∙ ap (λ (l : List (List ℕ)). lines ++ l) (ap lines_of (sym (append-nil (ended line))) ∙ lines-ended line [] has.one)

-- ---- what stands behind

-- two fronts, one after the other
pub behind_both : (text a b mid : List ℕ) (r : Option (Bor (List ℕ))) → text ≡ a ++ mid → IsBehind mid b r → IsBehind text (a ++ b) r
behind_both text a b mid None e none = λ rest is.
    none rest (append_cancel_left a mid (b ++ rest) (sym e ∙ is ∙ append_assoc a b rest))
behind_both text a b mid (Some rest) e found =
    e ∙ ap (λ (l : List ℕ). a ++ l) found ∙ sym (append_assoc a b rest.now)

-- where the first does not stand
pub behind_none : (text a b : List ℕ) → ((rest : List ℕ) → text ≡ a ++ rest → ⊥) → (rest : List ℕ) → text ≡ (a ++ b) ++ rest → ⊥
behind_none text a b none rest is = none (b ++ rest) (is ∙ append_assoc a b rest)

-- where the first stands, and the second not behind it
pub behind_none_last : (text a b mid : List ℕ) → text ≡ a ++ mid → ((rest : List ℕ) → mid ≡ b ++ rest → ⊥)
    → (rest : List ℕ) → text ≡ (a ++ b) ++ rest → ⊥
behind_none_last text a b mid e none rest is =
    none rest (append_cancel_left a mid (b ++ rest) (sym e ∙ is ∙ append_assoc a b rest))

-- the line of the counts by its two numbers
pub counts-parts : (all hits : ℕ) → counts_text all hits
    ≡ (codes "faults " ++ decimal all) ++ ((codes " found " ++ decimal hits) ++ codes "\n")
counts-parts all hits =
    let n = codes "faults " ++ decimal all in
    ap (λ (l : List ℕ). l ++ codes "\n") (append_assoc n (codes " found ") (decimal hits))
    ∙ append_assoc n (codes " found " ++ decimal hits) (codes "\n")

-- ---- where the lines of faults end

-- one more stands there
pub goes_so : (text rest line : List ℕ) (end all hits hits' : ℕ) (before now : Known) → AreHeld (take end text) all hits
    → rest ≡ drop end text → IsNextFault rest line before now → hits' ≡ hits + cond {A = ℕ} (not (ends_none line)) 1 0
    → AreHeld (take (end + (length line + 1)) text) (all + 1) hits'
goes_so text rest line end all hits hits' before now held is has more =
    subst (λ (n : ℕ). AreHeld (take (end + (length line + 1)) text) (all + 1) n) (sym more)
    (held_more text end all hits line held (subst (λ (l : List ℕ). IsFirst l line) is has.is_first) (has.stuck, has.tells))

-- and is known
pub known_so : (text rest line : List ℕ) (end all hits : ℕ) (known before now : Known) → AreHeld (take end text) all hits
    → rest ≡ drop end text → IsNextFault rest line before now
    → (told : List Stuck) × AreMore known (lines_of (take end text)) told before
    → (told : List Stuck) × AreMore known (lines_of (take (end + (length line + 1)) text)) told now
known_so text rest line end all hits known before now held is has so_far = (
  so_far.0 ++ has.stuck ∷ [],
  subst (λ (l : List (List ℕ)). AreMore known l (so_far.0 ++ has.stuck ∷ []) now)
      (sym (lines_push text end all hits line held (subst (λ (l : List ℕ). IsFirst l line) is has.is_first)))
      (more_push (lines_of (take end text)) known before now so_far.0 line has.stuck so_far.1 has.tells has.next has.more),
)

-- it is whole within the text
pub fits_so : (text rest line : List ℕ) (end : ℕ) → end ≤ length text → rest ≡ drop end text → IsFirst rest line
    → end + (length line + 1) ≤ length text
fits_so text rest line end within is has =
    omega (arith, within, ap (λ (l : List ℕ). length l) is, has.fits, length-drop end text)

-- it counts once at most
pub weight-le : (line : List ℕ) → cond {A = ℕ} (not (ends_none line)) 1 0 ≤ 1
weight-le line = by_test (ends_none line)
  where
    by_test : (b : Bool) → cond {A = ℕ} (not b) 1 0 ≤ 1
    by_test true = omega arith
    by_test false = omega arith
