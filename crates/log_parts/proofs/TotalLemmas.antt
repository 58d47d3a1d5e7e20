-- How the totals of a datalog go on.
use Rattle.std.proofs.Common.{◌≡◌, ℕ, zero, suc, ◌+◌, ◌-◌, ◌≤◌, true, List, [], ◌∷◌, ◌++◌, refl, sym, ap, subst, ◌∙◌, arith}
use Rattle.std.specs.List.{flat_map, range_with_len}
use Rattle.std.proofs.lemmas.List.{append_cancel_left, append-nil}
use Rattle.std.proofs.lemmas.Grind.{flat_map-append}
use Rattle.text_bytes.specs.Texts.{AreLines}
use Rattle.text_bytes.proofs.TextLemmas.{lines_behind}
use Rattle.text_bytes.proofs.ListLemmas.{range-append}
use Rattle.datalog.specs.DatalogText.{total_line, dies_in, totals_text}
use Rattle.part_lines.specs.Lines.{is_one_line, ended}
use Rattle.part_lines.specs.LineFault.{IsLineFault}
use Rattle.part_lines.specs.Reading.{IsNext, GoesOn}
use Rattle.part_lines.proofs.LineLemmas.{lines_more, no_lines}
use Rattle.part_lines.proofs.FaultLemmas.{first_line_fault, end_fault}
use Rattle.log_parts.specs.Step.{IsText, total_words, totals_from}

-- behind a front of a text stands the rest of it
pub goes_text : (front back whole : List ℕ) → whole ≡ front ++ back → GoesOn (IsText whole) (IsText back) front
goes_text front back whole is = record {
  whole = λ rest e. ap (λ t. front ++ t) e ∙ sym is;
  only = λ rest e. append_cancel_left front rest back (e ∙ is);
}

-- where the next line of a text isn't next, that line is the fault
pub text_fault : (line back text : List ℕ) → is_one_line line ≡ true → (IsNext text line → ⊥) → IsLineFault (IsText (ended line ++ back)) text 1
text_fault line back text one none =
    first_line_fault (IsText (ended line ++ back)) (λ l. l ≡ line) text
    (record { back = ended line ++ back; whole = refl })
    (λ whole is. (line, record { one = one; later = back; is = is }, refl))
    (λ other next is. none (subst (λ (l : List ℕ). IsNext text l) is next))

-- what stands behind the end is a fault
pub behind_end : (text : List ℕ) → (text ≡ [] → ⊥) → IsLineFault (IsText []) text 1
behind_end text more = end_fault (IsText []) text refl (λ whole is. is) more

-- the totals of bins are cut before any bin
pub totals_cut : (bins : List ℕ) (a m n : ℕ) → totals_from bins a (m + n) ≡ totals_from bins a m ++ totals_from bins (a + m) n
totals_cut bins a m n =
    ap (flat_map (λ bin. total_line bin (dies_in bin bins))) (range-append a m n)
    ∙ flat_map-append (λ bin. total_line bin (dies_in bin bins)) (range_with_len a m) (range_with_len (a + m) n)

-- the totals up to a bin, and one more
pub totals_more : (bins : List ℕ) (bin to : ℕ) → 1 ≤ bin → to ≡ bin + 1 →
    totals_from bins 1 (to - 1) ≡ totals_from bins 1 (bin - 1) ++ total_line bin (dies_in bin bins)
totals_more bins bin to some is =
    ap (totals_from bins 1) (let e : to - 1 ≡ bin - 1 + 1 = omega arith in e)
    ∙ totals_cut bins 1 (bin - 1) 1
    ∙ ap (λ b. totals_from bins 1 (bin - 1) ++ totals_from bins b 1) (let e : 1 + (bin - 1) ≡ bin = omega arith in e)
    ∙ ap (λ t. totals_from bins 1 (bin - 1) ++ t) (append-nil (total_line bin (dies_in bin bins)))

-- all totals: those up to a bin, its own, and those behind it
pub totals_all : (bins : List ℕ) (bin : ℕ) → 1 ≤ bin → bin ≤ 99 →
    totals_text bins ≡ totals_from bins 1 (bin - 1) ++ (total_line bin (dies_in bin bins) ++ totals_from bins (bin + 1) (99 - bin))
unfolding totals_text
totals_all bins bin some last =
    ap (totals_from bins 1) (let e : 99 ≡ bin - 1 + suc (99 - bin) = omega arith in e)
    ∙ totals_cut bins 1 (bin - 1) (suc (99 - bin))
    ∙ ap (λ b. totals_from bins 1 (bin - 1) ++ totals_from bins b (suc (99 - bin))) (let e : 1 + (bin - 1) ≡ bin = omega arith in e)

-- the totals of all bins
pub totals_whole : (bins : List ℕ) (to : ℕ) → to ≡ 100 → totals_from bins 1 (to - 1) ≡ totals_text bins
unfolding totals_text
totals_whole bins to is = ap (totals_from bins 1) (let e : to - 1 ≡ 99 = omega arith in e)

-- the line of a total is a whole line, or none
lines_total : (bin dies : ℕ) → AreLines (total_line bin dies)
lines_total bin zero = no_lines
lines_total bin (suc dies) = lines_more [] (total_words bin (suc dies))

lines_each : (bins range : List ℕ) → AreLines (flat_map (λ bin. total_line bin (dies_in bin bins)) range)
lines_each bins [] = no_lines
lines_each bins (bin ∷ range) =
    lines_behind (total_line bin (dies_in bin bins)) (flat_map (λ b. total_line b (dies_in b bins)) range)
    (lines_total bin (dies_in bin bins)) (lines_each bins range)

-- totals are whole lines
pub lines_totals : (bins : List ℕ) (a n : ℕ) → AreLines (totals_from bins a n)
lines_totals bins a n = lines_each bins (range_with_len a n)

-- so are all of them
pub lines_all_totals : (bins : List ℕ) → AreLines (totals_text bins)
unfolding totals_text
lines_all_totals bins = lines_totals bins 1 99

-- a bin with dies has a line of its own
pub total_there : (bin dies : ℕ) → 1 ≤ dies → total_line bin dies ≡ ended (total_words bin dies)
total_there bin zero some = absurd (omega arith)
total_there bin (suc dies) some = refl
