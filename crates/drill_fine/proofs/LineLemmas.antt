-- The lines of a drill's netlist say what they are to say.
use Rattle.std.proofs.Common.{◌≡◌, ℕ, zero, suc, ◌+◌, ◌-◌, ◌≤◌, ◌<◌, Bool, true, false, not, cond, List, [], ◌∷◌, ◌++◌, length, take, refl, sym, ap, subst, ◌∙◌, arith, append_assoc, eqb, length-append}
use Rattle.std.specs.Prelude.{codes, decimal, slice_index, map, All}
use Rattle.std.specs.List.{AllPass, AllZip, flat_map, list_all, range_with_len, slice_split}
use Rattle.std.specs.Str.Lines.{lines, lines_of_parts, strip_carriage_return}
use Rattle.std.proofs.lemmas.Bool.{le-leb, and_parts, and_from, not-true}
use Rattle.std.proofs.lemmas.List.{get_or_at}
use Rattle.std.proofs.lemmas.List.Folds.{list_all-append}
use Rattle.std.proofs.lemmas.Fmt.{decimal_digit}
use Rattle.std.proofs.lemmas.List.Concat.{flat_map-cons}
use Rattle.std.proofs.lemmas.List.Elements.{All-nil, All-cons}
use Rattle.std.proofs.lemmas.List.Splits.{slice_split_at, length-slice_split}
use Rattle.std.proofs.lemmas.List.Sums.{AllPass-from_list_all}
use Rattle.text_bytes.specs.Limits.{longest_name}
use Rattle.text_bytes.proofs.DigitLemmas.{digit_cases}
use Rattle.bench_net.specs.Step.{Step, ends, bad, begins, delimiter_step}
use Rattle.bench_net.specs.Line.{is_gap, is_name_byte, Lexeme, word, Spells, Form, input, output, is_net, Says}
use Rattle.bench_net.specs.Net.{Reads}
use Rattle.bench_net.proofs.TextLemmas.{lines_first}
use Rattle.drill_fine.specs.Texts.{register_line, net_head, net_text}
use Rattle.drill_fine.specs.Nets.{net_at, register_with, register_form, drill_forms}
use Rattle.drill_fine.proofs.NameLemmas.{net_all, net_length}

-- the bytes of names are bytes of names
name_bytes : (k : ℕ) → k ≤ 1000 → AllPass is_name_byte (net_at k)
name_bytes k few =
    AllPass-from_list_all is_name_byte (net_at k) (net_all is_name_byte refl refl
    (digit_cases (λ b. is_name_byte b ≡ true) refl refl refl refl refl refl refl refl refl refl) k few)

-- and are no line feeds
no_feeds : (k : ℕ) → k ≤ 1000 → list_all (λ b. not (eqb b 10)) (net_at k) ≡ true
no_feeds k few =
    net_all (λ b. not (eqb b 10)) refl refl
    (digit_cases (λ b. not (eqb b 10) ≡ true) refl refl refl refl refl refl refl refl refl refl) k few

-- a name is no longer than a name may be
net_fits : (k : ℕ) → k ≤ 1000 → is_net (net_at k) ≡ true
net_fits k few = le-leb (length (net_at k)) longest_name (omega (arith, (net_length k few).1))

-- one space
blank : AllPass is_gap (32 ∷ [])
blank = AllPass-from_list_all is_gap (32 ∷ []) refl

-- the part that a byte begins
abbrev part_in : Step → Lexeme
part_in ends = word []
part_in bad = word []
part_in (begins p rest) = p

-- a delimiter, by its byte
abbrev mark : ℕ → Lexeme
mark b = part_in (delimiter_step b [])

-- `name = DFF(pin)`
abbrev pub register_text : List ℕ → List ℕ → List ℕ
register_text name pin = name ++ (codes " = DFF(" ++ (pin ++ codes ")"))

-- a name in parentheses
closed_spells : (k : ℕ) → k ≤ 1000 → Spells (mark 40 ∷ word (net_at k) ∷ mark 41 ∷ []) (codes "(" ++ (net_at k ++ codes ")"))
closed_spells k few =
    let close : Spells (mark 41 ∷ []) (codes ")") = (
      [],
      record { gap = []; whole = refl; blank = All-nil (λ x. is_gap x ≡ true); part_is = tt },
      record { gap = []; rest = []; whole = refl; blank = All-nil (λ x. is_gap x ≡ true); comment = tt },
    ) in
    let pin : Spells (word (net_at k) ∷ mark 41 ∷ []) (net_at k ++ codes ")") = (
      codes ")",
      record { gap = []; whole = refl; blank = All-nil (λ x. is_gap x ≡ true); part_is = ((net_length k few).0, name_bytes k few, refl) },
      close,
    ) in
    (net_at k ++ codes ")", record { gap = []; whole = refl; blank = All-nil (λ x. is_gap x ≡ true); part_is = tt }, pin)

register_says : (a b : ℕ) → a ≤ 1000 → b ≤ 1000
    → Says (register_text (net_at a) (net_at b)) (register_with (net_at a) (net_at b ∷ []))
register_says a b few some =
    let called : Spells (word (codes "DFF") ∷ mark 40 ∷ word (net_at b) ∷ mark 41 ∷ []) (codes " DFF(" ++ (net_at b ++ codes ")")) = (
      codes "(" ++ (net_at b ++ codes ")"),
      record {
        gap = 32 ∷ [];
        whole = refl;
        blank = blank;
        part_is = (omega arith, AllPass-from_list_all is_name_byte (codes "DFF") refl, refl);
      },
      closed_spells b some,
    ) in
    let equal : Spells (mark 61 ∷ word (codes "DFF") ∷ mark 40 ∷ word (net_at b) ∷ mark 41 ∷ []) (codes " = DFF(" ++ (net_at b ++ codes ")")) =
    (codes " DFF(" ++ (net_at b ++ codes ")"), record { gap = 32 ∷ []; whole = refl; blank = blank; part_is = tt }, called) in
    record {
      parts = word (net_at a) ∷ mark 61 ∷ word (codes "DFF") ∷ mark 40 ∷ word (net_at b) ∷ mark 41 ∷ [];
      spells = (
        codes " = DFF(" ++ (net_at b ++ codes ")"),
        record { gap = []; whole = refl; blank = All-nil (λ x. is_gap x ≡ true); part_is = ((net_length a few).0, name_bytes a few, refl) },
        equal,
      );
      writes = (
        codes "DFF",
        refl,
        net_fits a few,
        omega arith,
        All-cons (λ p. is_net p ≡ true) (net_at b) [] (net_fits b some) (All-nil (λ p. is_net p ≡ true)),
        refl,
      );
    }

-- `WORD(net)`, where the word says that it is an input or an output
enclosed_spells : (w : List ℕ) (k : ℕ) → k ≤ 1000 → 0 < length w → list_all is_name_byte w ≡ true
    → Spells (word w ∷ mark 40 ∷ word (net_at k) ∷ mark 41 ∷ []) (w ++ (codes "(" ++ (net_at k ++ codes ")")))
enclosed_spells w k few some each = (
  codes "(" ++ (net_at k ++ codes ")"),
  record { gap = []; whole = refl; blank = All-nil (λ x. is_gap x ≡ true); part_is = (some, AllPass-from_list_all is_name_byte w each, refl) },
  closed_spells k few,
)

input_says : Says (codes "INPUT" ++ (codes "(" ++ (net_at 0 ++ codes ")"))) (input (net_at 0))
input_says = record {
  parts = word (codes "INPUT") ∷ mark 40 ∷ word (net_at 0) ∷ mark 41 ∷ [];
  spells = enclosed_spells (codes "INPUT") 0 (omega arith) (omega arith) refl;
  writes = (codes "INPUT", refl, refl, refl);
}

output_says : (k : ℕ) → k ≤ 1000 → Says (codes "OUTPUT" ++ (codes "(" ++ (net_at k ++ codes ")"))) (output (net_at k))
output_says k few = record {
  parts = word (codes "OUTPUT") ∷ mark 40 ∷ word (net_at k) ∷ mark 41 ∷ [];
  spells = enclosed_spells (codes "OUTPUT") k few (omega arith) refl;
  writes = (codes "OUTPUT", refl, net_fits k few, refl);
}

-- a line that ends in `)` keeps its end
keeps_end : (front : List ℕ) → strip_carriage_return (front ++ codes ")") ≡ front ++ codes ")"
keeps_end front =
    let place : length (front ++ codes ")") - 1 ≡ length front = omega (arith, length-append front (codes ")")) in
    let last : slice_index (front ++ codes ")") (length (front ++ codes ")") - 1) ≡ 41 =
    ap (slice_index (front ++ codes ")")) place ∙ get_or_at front 41 [] 0 (length front) refl in
    ap (λ (b : Bool). cond b (take (length (front ++ codes ")") - 1) (front ++ codes ")")) (front ++ codes ")"))
    (ap (λ (b : ℕ). eqb b 13) last)

-- a line in front of others
pub lines_more : (front rest : List ℕ) → list_all (λ b. not (eqb b 10)) (front ++ codes ")") ≡ true
    → lines ((front ++ codes ")") ++ 10 ∷ rest) ≡ (front ++ codes ")") ∷ lines rest
lines_more front rest each =
    let line = front ++ codes ")" in
    let parts = slice_split (λ b. eqb b 10) rest in
    ap lines_of_parts (slice_split_at (λ b. eqb b 10) line 10 rest (none line each) refl)
    ∙ lines_first line parts (omega (arith, length-slice_split (λ b. eqb b 10) rest))
    ∙ ap (λ (l : List ℕ). l ∷ lines_of_parts parts) (keeps_end front)
  where
    none : (xs : List ℕ) → list_all (λ b. not (eqb b 10)) xs ≡ true → All (λ b. eqb b 10 ≡ false) xs
    none [] h = All-nil (λ b. eqb b 10 ≡ false)
    none (x ∷ xs) h =
        let parts = and_parts (not (eqb x 10)) (list_all (λ b. not (eqb b 10)) xs) h in
        All-cons (λ b. eqb b 10 ≡ false) x xs (not-true (eqb x 10) parts.0) (none xs parts.1)

-- the lines of registers behind the first
abbrev pub registers_from : ℕ → ℕ → List Form
registers_from a m = map register_form (range_with_len a m)

-- a line of a register
abbrev pub line_of_register : ℕ → List ℕ
line_of_register a = register_text (net_at (suc a)) (net_at a)

-- without a line feed
register_feeds : (a : ℕ) → suc a ≤ 1000
    → list_all (λ b. not (eqb b 10)) ((net_at (suc a) ++ (codes " = DFF(" ++ net_at a)) ++ codes ")") ≡ true
register_feeds a few =
    let test = λ (b : ℕ). not (eqb b 10) in
    list_all-append test (net_at (suc a) ++ (codes " = DFF(" ++ net_at a)) (codes ")")
    ∙ and_from (list_all test (net_at (suc a) ++ (codes " = DFF(" ++ net_at a))) true
    (list_all-append test (net_at (suc a)) (codes " = DFF(" ++ net_at a)
    ∙ and_from (list_all test (net_at (suc a))) (list_all test (codes " = DFF(" ++ net_at a)) (no_feeds (suc a) few)
    (list_all-append test (codes " = DFF(") (net_at a) ∙ no_feeds a (omega (arith, few)))) refl

-- the name of a register
net_pos : (a : ℕ) → 0 < a → net_at a ≡ codes "f" ++ decimal a
net_pos zero some = absurd (omega (arith, some))
net_pos (suc a) some = refl

-- the text of a register's line, in front of others
register_line_is : (a : ℕ) (rest : List ℕ) → 0 < a
    → register_line (a + 1) ++ rest ≡ ((net_at (suc a) ++ (codes " = DFF(" ++ net_at a)) ++ codes ")") ++ 10 ∷ rest
unfolding register_line
register_line_is a rest some =
    let up : a + 1 ≡ suc a = omega arith in
    let down : (a + 1) - 1 ≡ a = omega arith in
    ap (λ (k : ℕ). (codes "f" ++ decimal k ++ codes " = DFF(f" ++ decimal ((a + 1) - 1) ++ codes ")\n") ++ rest) up
    ∙ ap (λ (k : ℕ). (codes "f" ++ decimal (suc a) ++ codes " = DFF(f" ++ decimal k ++ codes ")\n") ++ rest) down
    ∙ text_is (decimal (suc a)) (decimal a) rest
    ∙ ap (λ (pin : List ℕ). ((net_at (suc a) ++ (codes " = DFF(" ++ pin)) ++ codes ")") ++ 10 ∷ rest) (sym (net_pos a some))
  where
    text_is : (xs ys more : List ℕ) → (codes "f" ++ xs ++ codes " = DFF(f" ++ ys ++ codes ")\n") ++ more
        ≡ (((codes "f" ++ xs) ++ (codes " = DFF(" ++ (codes "f" ++ ys))) ++ codes ")") ++ 10 ∷ more
    text_is xs ys more = simp append_assoc refl

-- what the lines of registers say
registers_read : (a m : ℕ) → 0 < a → a + m ≤ 1000
    → AllZip Says (lines (flat_map register_line (range_with_len (a + 1) m))) (registers_from a m)
registers_read a zero some few = tt
registers_read a (suc m) some few =
    let rest = flat_map register_line (range_with_len (a + 1 + 1) m) in
    let whole : flat_map register_line (range_with_len (a + 1) (suc m))
    ≡ ((net_at (suc a) ++ (codes " = DFF(" ++ net_at a)) ++ codes ")") ++ 10 ∷ rest =
    flat_map-cons register_line (a + 1) (range_with_len (a + 1 + 1) m) ∙ register_line_is a rest some in
    let split : lines (flat_map register_line (range_with_len (a + 1) (suc m))) ≡ ((net_at (suc a) ++ (codes " = DFF(" ++ net_at a)) ++ codes ")") ∷ lines rest =
    ap lines whole ∙ lines_more (net_at (suc a) ++ (codes " = DFF(" ++ net_at a)) rest (register_feeds a (omega (arith, few))) in
    let one : Says ((net_at (suc a) ++ (codes " = DFF(" ++ net_at a)) ++ codes ")") (register_form a) =
    subst (λ (line : List ℕ). Says line (register_form a))
    (sym (append_assoc (net_at (suc a)) (codes " = DFF(" ++ net_at a) (codes ")")))
    (register_says (suc a) a (omega (arith, few)) (omega (arith, few))) in
    subst (λ (ls : List (List ℕ)). AllZip Says ls (registers_from a (suc m))) (sym split)
    (one, registers_read (a + 1) m (omega arith) (omega (arith, few)))

-- the first register's line
third_is : (more : List ℕ) → codes "\nf1 = DFF(d)\n" ++ more
    ≡ 10 ∷ ((((codes "f" ++ (49 ∷ [])) ++ (codes " = DFF(" ++ net_at 0)) ++ codes ")") ++ 10 ∷ more)
third_is more = refl

-- what the lines of the netlist say
pub drill_net_reads : (n : ℕ) → 1 ≤ n → n ≤ 500 → Reads (net_text n) (drill_forms n)
unfolding net_text net_head
drill_net_reads zero some few = absurd (omega (arith, some))
drill_net_reads (suc m) some few =
    let n = suc m in
    let rest = flat_map register_line (range_with_len 2 m) in
    let third = ((net_at 1 ++ (codes " = DFF(" ++ net_at 0)) ++ codes ")") ++ 10 ∷ rest in
    let second = (codes "OUTPUT(" ++ net_at n ++ codes ")") ++ 10 ∷ third in
    let first = (codes "INPUT(d" ++ codes ")") ++ 10 ∷ second in
    let many : n - 1 ≡ m = omega arith in
    let digit : decimal 1 ≡ 49 ∷ [] = decimal_digit 1 (omega arith) in
    let whole : net_text n ≡ first =
    ap (λ (k : ℕ). (codes "INPUT(d)\n" ++ (codes "OUTPUT(f" ++ decimal n ++ codes ")\n") ++ codes "f1 = DFF(d)\n") ++ flat_map register_line (range_with_len 2 k)) many
    ∙ text_is (decimal n) rest
    ∙ ap (λ (one : List ℕ). (codes "INPUT(d" ++ codes ")") ++ 10 ∷ ((codes "OUTPUT(" ++ net_at n ++ codes ")") ++ 10 ∷ ((((codes "f" ++ one) ++ (codes " = DFF(" ++ net_at 0)) ++ codes ")") ++ 10 ∷ rest))) (sym digit) in
    let l3 : lines third ≡ ((net_at 1 ++ (codes " = DFF(" ++ net_at 0)) ++ codes ")") ∷ lines rest =
    lines_more (net_at 1 ++ (codes " = DFF(" ++ net_at 0)) rest (register_feeds 0 (omega arith)) in
    let l2 : lines second ≡ (codes "OUTPUT(" ++ net_at n ++ codes ")") ∷ lines third =
    lines_more (codes "OUTPUT(" ++ net_at n) third (list_all-append (λ b. not (eqb b 10)) (codes "OUTPUT(" ++ net_at n) (codes ")")
    ∙ and_from (list_all (λ b. not (eqb b 10)) (codes "OUTPUT(" ++ net_at n)) true
    (list_all-append (λ b. not (eqb b 10)) (codes "OUTPUT(") (net_at n) ∙ no_feeds n (omega (arith, few))) refl) in
    let l1 : lines first ≡ (codes "INPUT(d" ++ codes ")") ∷ lines second = lines_more (codes "INPUT(d") second refl in
    let split : lines (net_text n) ≡ (codes "INPUT(d" ++ codes ")") ∷ (codes "OUTPUT(" ++ net_at n ++ codes ")") ∷ ((net_at 1 ++ (codes " = DFF(" ++ net_at 0)) ++ codes ")") ∷ lines rest =
    ap lines whole ∙ l1 ∙ ap (λ (ls : List (List ℕ)). (codes "INPUT(d" ++ codes ")") ∷ ls) (l2 ∙ ap (λ (ls : List (List ℕ)). (codes "OUTPUT(" ++ net_at n ++ codes ")") ∷ ls) l3) in
    let reg : Says ((net_at 1 ++ (codes " = DFF(" ++ net_at 0)) ++ codes ")") (register_form 0) =
    subst (λ (line : List ℕ). Says line (register_form 0)) (sym (append_assoc (net_at 1) (codes " = DFF(" ++ net_at 0) (codes ")")))
    (register_says 1 0 (omega arith) (omega arith)) in
    let out : Says (codes "OUTPUT(" ++ net_at n ++ codes ")") (output (net_at n)) =
    subst (λ (line : List ℕ). Says line (output (net_at n))) (sym (append_assoc (codes "OUTPUT(") (net_at n) (codes ")"))) (output_says n (omega (arith, few))) in
    subst (λ (ls : List (List ℕ)). AllZip Says ls (drill_forms n)) (sym split)
    (input_says, (out, (reg, registers_read 1 m (omega arith) (omega (arith, few)))))
  where
    text_is : (xs more : List ℕ) → (codes "INPUT(d)\n" ++ (codes "OUTPUT(f" ++ xs ++ codes ")\n") ++ codes "f1 = DFF(d)\n") ++ more
        ≡ (codes "INPUT(d" ++ codes ")") ++ 10 ∷ ((codes "OUTPUT(" ++ (codes "f" ++ xs) ++ codes ")") ++ 10 ∷ ((((codes "f" ++ (49 ∷ [])) ++ (codes " = DFF(" ++ net_at 0)) ++ codes ")") ++ 10 ∷ more))
    text_is xs more =
        ap (λ (ys : List ℕ). codes "INPUT(d)\nOUTPUT(f" ++ ys)
        (append_assoc (xs ++ codes ")\n") (codes "f1 = DFF(d)\n") more ∙ append_assoc xs (codes ")\n") (codes "f1 = DFF(d)\n" ++ more)
        ∙ sym (append_assoc xs (codes ")") (codes "\nf1 = DFF(d)\n" ++ more)))
        ∙ ap (λ (ys : List ℕ). codes "INPUT(d)\nOUTPUT(f" ++ ((xs ++ codes ")") ++ ys)) (third_is more)
