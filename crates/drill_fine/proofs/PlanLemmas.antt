-- The plan of a drill has no fault, and its rows are those of four dies.
use Rattle.std.proofs.Common.{◌≡◌, ℕ, ◌+◌, ◌≤◌, true, false, not, List, [], ◌∷◌, ◌++◌, length, Ok, refl, sym, ap, subst, ◌∙◌, arith, append_assoc}
use Rattle.std.specs.Prelude.{codes, decimal, map, nat_le, nat_lt}
use Rattle.std.specs.List.{list_all, list_any}
use Rattle.std.proofs.lemmas.Bool.{le-leb, lt-ltb}
use Rattle.std.proofs.lemmas.Fmt.{length-decimal-le}
use Rattle.csv.specs.Machine.{next_record}
use Rattle.csv.specs.Reading.{default_config, strip_bom, Reached, AreRecords}
use Rattle.csv.specs.Writing.{needs_byte, default_writer, fields_text, row_text, is_blank, escaped}
use Rattle.csv.specs.declared.parser.State.TheVariants as st
use Rattle.csv.proofs.RoundTrip.{read-write-many}
use Rattle.text_bytes.specs.Bytes.{is_digit, is_printing, is_printable}
use Rattle.text_bytes.specs.Limits.{longest_name}
use Rattle.text_bytes.proofs.Spans.{list_any-not}
use Rattle.text_bytes.proofs.DigitLemmas.{decimal_all, digit_cases}
use Rattle.plan_rows.specs.Words.{is_text}
use Rattle.plan_rows.specs.Judging.{plan_of}
use Rattle.plan_rows.specs.Plan.{HasRecords, IsPlan}
use Rattle.plan_rows.specs.Rows.{sites_of}
use Rattle.drill_fine.specs.Texts.{die_rows, plan_text}
use Rattle.drill_fine.specs.Rows.{last_net, die_record, drill_records, drill_rows}

-- a number needs no quotes
digits_plain : (n : ℕ) → n ≤ 1000 → list_any (needs_byte default_writer) (decimal n) ≡ false
digits_plain n few =
    list_any-not (needs_byte default_writer) (decimal n)
    (decimal_all (λ b. not (needs_byte default_writer b))
    (digit_cases (λ b. not (needs_byte default_writer b) ≡ true) refl refl refl refl refl refl refl refl refl refl) n)

-- the line that binds the output, in front of others
bind_line : (n : ℕ) (rest : List ℕ) → n ≤ 1000
    → row_text default_writer (codes "bind" ∷ codes "q" ∷ last_net n ∷ [] ∷ [] ∷ [] ∷ []) ++ rest
    ≡ codes "bind,q,f" ++ (decimal n ++ (codes ",,,\n" ++ rest))
unfolding is_blank fields_text escaped
bind_line n rest few =
    rw (digits_plain n few) (tail (decimal n) rest)
  where
    tail : (ds more : List ℕ) → (codes "bind,q,f" ++ ((ds ++ codes ",,,") ++ codes "\n")) ++ more ≡ codes "bind,q,f" ++ (ds ++ (codes ",,,\n" ++ more))
    tail ds more =
        ap (λ (ys : List ℕ). codes "bind,q,f" ++ ys)
        (append_assoc (ds ++ codes ",,,") (codes "\n") more ∙ append_assoc ds (codes ",,,") (codes "\n" ++ more))

-- one record more
reached_more : (x y : List ℕ) (ys : List (List ℕ)) (tail : List ℕ) (rows : List (List (List ℕ)))
    → Reached default_config st.StartRecord tail rows st.StartRecord []
    → Reached default_config st.StartRecord (row_text default_writer (x ∷ y ∷ ys) ++ tail) ((x ∷ y ∷ ys) ∷ rows) st.StartRecord []
unfolding Reached
reached_more x y ys tail rows later = ((x ∷ y ∷ ys, st.StartRecord, tail), read-write-many x y ys tail, refl, later)

reached_none : Reached default_config st.StartRecord [] [] st.StartRecord []
unfolding Reached
reached_none = (refl, refl)

-- the text of records one after another
abbrev text_of : List (List (List ℕ)) → List ℕ
text_of [] = []
text_of (r ∷ rows) = row_text default_writer r ++ text_of rows

-- the records behind the first three
abbrev pub late_records : List (List (List ℕ))
late_records =
    die_record (codes "0") (codes "a") ∷ die_record (codes "1") (codes "b") ∷ die_record (codes "2") (codes "c") ∷ die_record (codes "3") (codes "d")
    ∷ (codes "fault" ∷ codes "1" ∷ codes "b" ∷ codes "f1" ∷ codes "0" ∷ [] ∷ []) ∷ []

late_text : text_of late_records ≡ die_rows
unfolding is_blank fields_text escaped die_rows
late_text = refl

early_text : (rest : List ℕ)
    → row_text default_writer (codes "lot" ∷ codes "256" ∷ codes "1" ∷ codes "0" ∷ [] ∷ [] ∷ [])
    ++ (row_text default_writer (codes "clock" ∷ codes "ck" ∷ [] ∷ [] ∷ [] ∷ [] ∷ []) ++ rest)
    ≡ codes "lot,256,1,0,,\nclock,ck,,,,\n" ++ rest
unfolding is_blank fields_text escaped
early_text rest = refl

-- the plan is the text of its records
records_text : (n : ℕ) → n ≤ 1000 → text_of (drill_records n) ≡ plan_text n
unfolding plan_text
records_text n few =
    early_text (row_text default_writer (codes "bind" ∷ codes "q" ∷ last_net n ∷ [] ∷ [] ∷ [] ∷ []) ++ text_of late_records)
    ∙ ap (λ (ys : List ℕ). codes "lot,256,1,0,,\nclock,ck,,,,\n" ++ ys)
    (bind_line n (text_of late_records) few ∙ ap (λ (ys : List ℕ). codes "bind,q,f" ++ (decimal n ++ (codes ",,,\n" ++ ys))) late_text)
    ∙ ap (λ (ys : List ℕ). codes "lot,256,1,0,,\nclock,ck,,,,\nbind,q,f" ++ ys) (sym (append_assoc (decimal n) (codes ",,,\n") die_rows))

-- no byte order mark stands before it
no_mark : (n : ℕ) → strip_bom (plan_text n) ≡ plan_text n
unfolding strip_bom plan_text
no_mark n = refl

-- a record by its first two fields and the others
abbrev wide : List ℕ × List ℕ × List (List ℕ) → List (List ℕ)
wide r = r.0 ∷ r.1 ∷ r.2

-- records of two fields or more, one after another
reached_all : (rows : List (List ℕ × List ℕ × List (List ℕ)))
    → Reached default_config st.StartRecord (text_of (map wide rows)) (map wide rows) st.StartRecord []
reached_all [] = reached_none
reached_all (r ∷ rows) = reached_more r.0 r.1 r.2 (text_of (map wide rows)) (map wide rows) (reached_all rows)

-- a die's
abbrev wide_die : List ℕ → List ℕ → List ℕ × List ℕ × List (List ℕ)
wide_die site name = (codes "die", site, name ∷ codes "drill.bench" ∷ [] ∷ [] ∷ [])

abbrev wide_records : ℕ → List (List ℕ × List ℕ × List (List ℕ))
wide_records n =
    (codes "lot", codes "256", codes "1" ∷ codes "0" ∷ [] ∷ [] ∷ [])
    ∷ (codes "clock", codes "ck", [] ∷ [] ∷ [] ∷ [] ∷ [])
    ∷ (codes "bind", codes "q", last_net n ∷ [] ∷ [] ∷ [] ∷ [])
    ∷ wide_die (codes "0") (codes "a") ∷ wide_die (codes "1") (codes "b")
    ∷ wide_die (codes "2") (codes "c") ∷ wide_die (codes "3") (codes "d")
    ∷ (codes "fault", codes "1", codes "b" ∷ codes "f1" ∷ codes "0" ∷ [] ∷ [])
    ∷ []

-- the records of the plan
has_records : (n : ℕ) → n ≤ 1000 → HasRecords (plan_text n) (drill_records n)
unfolding next_record
has_records n few =
    subst (λ (bytes : List ℕ). AreRecords default_config st.StartRecord bytes (drill_records n))
    (records_text n few ∙ sym (no_mark n)) (st.StartRecord, [], reached_all (wide_records n), refl)

-- the name of the last register is that of a net
net_is : (n : ℕ) → n ≤ 1000 → is_text is_printable longest_name (last_net n) ≡ true
unfolding is_printable
net_is n few =
    let long = length-decimal-le 20 n (omega arith) (omega (arith, few)) (omega (arith, few)) in
    let fits : nat_le (length (last_net n)) longest_name ≡ true = le-leb (length (last_net n)) longest_name (omega (arith, long)) in
    let each : list_all is_printable (last_net n) ≡ true =
    decimal_all is_printable (digit_cases (λ b. is_printable b ≡ true) refl refl refl refl refl refl refl refl refl refl) n in
    let some : nat_lt 0 (length (last_net n)) ≡ true = lt-ltb 0 (length (last_net n)) (omega arith) in
    rw (some, fits, each) refl

-- the rows of the plan
pub drill_plan_rows : (n : ℕ) → n ≤ 1000 → plan_of (drill_records n) ≡ Ok (drill_rows n)
unfolding is_digit is_printing is_printable
drill_plan_rows n few = rw (net_is n few) refl

-- the plan
pub drill_is_plan : (n : ℕ) → n ≤ 1000 → IsPlan (plan_text n) (drill_rows n)
drill_is_plan n few = record { records = drill_records n; are = has_records n few; read = drill_plan_rows n few }

-- it has four sites
pub drill_sites : (n : ℕ) → sites_of (drill_rows n) ≡ 4
drill_sites n = refl
