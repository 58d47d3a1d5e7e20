-- The words of the lines of a datalog: each is one line, and tells what it is.
use Rattle.std.proofs.Common.{◌≡◌, ℕ, ◌≤◌, true, List, [], ◌∷◌, ◌++◌, refl, sym, ap, ◌∙◌, arith, codes}
use Rattle.std.specs.Prelude.{decimal, ◌==◌}
use Rattle.std.proofs.lemmas.Bool.{and_parts, eqb-true, false≢true}
use Rattle.std.proofs.lemmas.Fmt.{decimal_injective}
use Rattle.std.proofs.lemmas.List.{append_cancel_left}
use Rattle.tester_types.specs.Printing.{printed_name}
use Rattle.plan_rows.specs.Limits.{last_bin}
use Rattle.part_lines.specs.Lines.{is_one_line}
use Rattle.part_lines.proofs.LineLemmas.{one_append, one_decimal, one_printed}
use Rattle.log_parts.specs.Tries.{IsTryLine, IsVerdictLine, passed, failed, by_plan, by_desk, lost, from_cycle, word_then, is_fail_line}
use Rattle.log_parts.specs.Step.{site_words, bin_words}

-- the line of a site
pub one_site : (number : ℕ) → is_one_line (site_words number) ≡ true
one_site number = one_append (codes "site ") (decimal number) refl (one_decimal number)

-- the line of a bin
pub one_bin : (bin : ℕ) → is_one_line (bin_words bin) ≡ true
one_bin bin = one_append (codes "bin ") (decimal bin) refl (one_decimal bin)

-- the line of a die
pub one_die : (name : List ℕ) → is_one_line name ≡ true → is_one_line (codes "die " ++ printed_name name) ≡ true
one_die name one = one_append (codes "die ") (printed_name name) refl (one_printed name one)

-- the line of a total
pub one_total : (bin dies : ℕ) → is_one_line (codes "total " ++ decimal bin ++ codes " " ++ decimal dies) ≡ true
one_total bin dies =
    one_append (codes "total " ++ decimal bin ++ codes " ") (decimal dies)
    (one_append (codes "total " ++ decimal bin) (codes " ") (one_append (codes "total ") (decimal bin) refl (one_decimal bin)) refl)
    (one_decimal dies)

-- the first byte of a line
abbrev first_byte : List ℕ → ℕ
first_byte [] = 0
first_byte (byte ∷ bytes) = byte

-- the first line of a try begins with t
try_first : (number : ℕ) (line : List ℕ) → IsTryLine number line → first_byte line ≡ 116
try_first number line is = ap first_byte is.is

-- that of a fail with f
fail_first : (line : List ℕ) → is_fail_line line ≡ true → first_byte line ≡ 102
fail_first [] e = absurd (false≢true e)
fail_first (byte ∷ line) e =
    let word = (and_parts (word_then (codes "fail ") from_cycle (byte ∷ line)) (is_one_line (byte ∷ line)) e).0 in
    eqb-true byte 102 (and_parts (byte == 102) (word_then (codes "ail ") from_cycle line) word).0

-- that of a verdict with v
verdict_first : (line : List ℕ) → IsVerdictLine line → first_byte line ≡ 118
verdict_first line (passed is) = ap first_byte is
verdict_first line (failed exec are is) = ap first_byte is
verdict_first line (by_plan batch are is) = ap first_byte is
verdict_first line (by_desk batch stops are are_stops is) = ap first_byte is
verdict_first line (lost at are is) = ap first_byte is

-- no first line of a try is that of a bin
pub try_is_no_bin : (number bin : ℕ) → IsTryLine number (bin_words bin) → ⊥
try_is_no_bin number bin is = let e : 98 ≡ 116 = try_first number (bin_words bin) is in absurd (omega (arith, e))

-- nor is that of a fail
pub fail_is_no_bin : (bin : ℕ) → is_fail_line (bin_words bin) ≡ true → ⊥
fail_is_no_bin bin is = false≢true is

-- nor that of a verdict
pub verdict_is_no_bin : (bin : ℕ) → IsVerdictLine (bin_words bin) → ⊥
verdict_is_no_bin bin is = let e : 98 ≡ 118 = verdict_first (bin_words bin) is in absurd (omega (arith, e))

-- no line of a fail is one of a verdict
pub fail_is_no_verdict : (line : List ℕ) → is_fail_line line ≡ true → IsVerdictLine line → ⊥
fail_is_no_verdict line is verdict =
    let e : 102 ≡ 118 = sym (fail_first line is) ∙ verdict_first line verdict in absurd (omega (arith, e))

-- the line of a fail is one line
pub one_fail : (line : List ℕ) → is_fail_line line ≡ true → is_one_line line ≡ true
one_fail line is = (and_parts (word_then (codes "fail ") from_cycle line) (is_one_line line) is).1

-- the words of a bin tell it
pub one_bin_said : (a b : ℕ) → a ≤ last_bin → b ≤ last_bin → bin_words a ≡ bin_words b → a ≡ b
one_bin_said a b p q e =
    decimal_injective a b (omega arith) (omega arith) (append_cancel_left (codes "bin ") (decimal a) (decimal b) e)
