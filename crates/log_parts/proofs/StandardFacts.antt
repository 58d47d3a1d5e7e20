-- Datalogs that the definitions must give, and a fault that they must have.
use Rattle.std.proofs.Common.{◌≡◌, ℕ, true, false, List, [], ◌∷◌, ◌++◌, get_or, codes, refl, sym, ap, ◌∙◌, arith}
use Rattle.std.specs.Fmt.{digits}
use Rattle.std.proofs.lemmas.Bool.{false≢true}
use Rattle.part_lines.specs.Lines.{begins_so}
use Rattle.datalog.specs.DatalogText.{totals_text}
use Rattle.part_lines.specs.LineFault.{IsLineFault}
use Rattle.part_lines.specs.Reading.{IsNext}
use Rattle.part_lines.proofs.HasReadLemmas.{one_next, none_is_next}
use Rattle.text_bytes.specs.Bytes.{is_digit}
use Rattle.log_parts.specs.Tries.{IsTryLine, IsVerdictLine, by_desk, is_fail_line}
use Rattle.log_parts.specs.Log.{log_text}
use Rattle.log_parts.specs.Step.{IsTriesRest, IsText, bin_words}
use Rattle.log_parts.proofs.TryLemmas.{head_fault, bin_fault}
use Rattle.log_parts.proofs.TotalLemmas.{behind_end, text_fault}

-- two sites, with a die each
pub two_sites : log_text ((codes "a" ∷ []) ∷ (codes "b c" ∷ []) ∷ [])
    ((record { body = codes "try 1 cycles 6 fails 0" ∷ codes "verdict pass" ∷ []; bin = 1 } ∷ [])
    ∷ (record { body = codes "try 1 cycles 0 fails 0" ∷ codes "verdict contact 7" ∷ []; bin = 7 } ∷ []) ∷ [])
    ≡ codes "site 0\ndie a\ntry 1 cycles 6 fails 0\nverdict pass\nbin 1\n"
    ++ codes "site 1\ndie \"b c\"\ntry 1 cycles 0 fails 0\nverdict contact 7\nbin 7\ntotal 1 1\ntotal 7 1\n"
unfolding log_text totals_text digits
two_sites = refl

-- lines of fails: one that names a cell, and one of a signal whose name holds a blank and double quotes
pub fails_with_cells : is_fail_line (codes "fail 5 540000000 SO H 0 c1 f6") ≡ true
unfolding is_digit
fails_with_cells = refl

pub quotes_in_names : is_fail_line (codes "fail 3 340 \"a \"b\" c\" L 1") ≡ true
unfolding is_digit
quotes_in_names = refl

-- none: a letter is missing, one of a look that is always met, a level that isn't one, a byte that can't stand in a name, a chain without its cell
pub missing_letter : is_fail_line (codes "fail 3 340 G17 L") ≡ false
unfolding is_digit
missing_letter = refl

pub always_met : is_fail_line (codes "fail 3 340 G17 X 1") ≡ false
unfolding is_digit
always_met = refl

pub other_level : is_fail_line (codes "fail 3 340 G17 L 2") ≡ false
unfolding is_digit
other_level = refl

pub byte_in_a_name : is_fail_line (codes "fail 3 340 G\t17 L 1") ≡ false
unfolding is_digit
byte_in_a_name = refl

pub lone_chain : is_fail_line (codes "fail 3 340 G17 L 1 c1") ≡ false
unfolding is_digit
lone_chain = refl

-- a stop of the desk is a verdict
pub desk_stops : IsVerdictLine (codes "verdict stopped 3 desk 1")
unfolding is_digit
desk_stops = by_desk (codes "3") (codes "1") refl refl refl

-- where the first try has another number, the fault stands there
pub number_out_of_turn : IsLineFault (IsTriesRest 1 1 [] 0 [] []) (codes "try 56 cycles 6 fails 0\n") 1
unfolding digits
number_out_of_turn = head_fault [] 0 [] [] 1 (codes "try 56 cycles 6 fails 0\n") other
  where
    next_try : IsNext (codes "try 56 cycles 6 fails 0\n") (codes "try 56 cycles 6 fails 0")
    next_try = record { one = refl; later = []; is = refl }

    sixth : (line : List ℕ) → IsTryLine 1 line → get_or line 5 0 ≡ 32
    sixth line is = ap (λ (l : List ℕ). get_or l 5 0) is.is

    other : (line : List ℕ) → IsNext (codes "try 56 cycles 6 fails 0\n") line → IsTryLine 1 line → ⊥
    other line next is =
        let same = one_next (codes "try 56 cycles 6 fails 0\n") line (codes "try 56 cycles 6 fails 0") next next_try in
        let e : 54 ≡ 32 = ap (λ (l : List ℕ). get_or l 5 0) (sym same) ∙ sixth line is in
        absurd (omega (arith, e))

-- what stands behind the totals is a fault in its line
pub more_behind : IsLineFault (IsText []) (codes "total 2 1\n") 1
more_behind = behind_end (codes "total 2 1\n") (λ e. cc)

-- a line that is the next one
abbrev next_die : IsNext (codes "die b\n") (codes "die b")
next_die = record { one = refl; later = []; is = refl }

-- where the line of the bin is missing, the fault stands there
pub missing_bin : IsLineFault (IsTriesRest 0 2 [] 0 [] []) (codes "die b\n") 1
missing_bin =
    bin_fault [] 0 [] [] 2 (codes "die b\n")
    (λ line next is. no_try line (one_next (codes "die b\n") line (codes "die b") next next_die) is)
    (λ bin some last next. other bin (one_next (codes "die b\n") (bin_words bin) (codes "die b") next next_die))
  where
    no_try : (line : List ℕ) → line ≡ codes "die b" → IsTryLine 2 line → ⊥
    no_try line e is = false≢true (sym (ap (begins_so (codes "die")) (sym e ∙ is.is)))

    other : (bin : ℕ) → bin_words bin ≡ codes "die b" → ⊥
    other bin e = false≢true (ap (λ (l : List ℕ). begins_so (codes "die") l) e)

-- where a total is cut off, the fault stands there
pub cut_total : IsLineFault (IsText (codes "total 1 2\n")) (codes "total 1") 1
cut_total = text_fault (codes "total 1 2") [] (codes "total 1") refl (λ next. none_is_next (codes "total 1") (codes "total 1 2") refl next)
