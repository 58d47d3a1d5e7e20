-- What is left of a plan's records, and their text: it is the plan of what is left of its rows.
use Rattle.std.proofs.Common.{◌≡◌, ℕ, ◌+◌, ◌<◌, Bool, true, false, cond, ◌==◌, List, [], ◌∷◌, ◌++◌, length, Option, Some, None, Result, Ok, Err, refl, sym, ap, ◌∙◌, subst, arith, append_assoc, append-nil}
use Rattle.std.specs.Option.{option_map}
use Rattle.std.proofs.lemmas.Bool.{ne_eqb}
use Rattle.csv.specs.Machine.{next_record}
use Rattle.csv.specs.Reading.{Reached, AreRecords, default_config, strip_bom}
use Rattle.csv.specs.Writing.{default_writer, fields_text, is_blank, escaped, needs_byte}
use Rattle.std.specs.Prelude.{codes}
use Rattle.std.specs.List.{list_any}
use Rattle.csv.specs.declared.parser.State.TheVariants as st
use Rattle.csv.proofs.RoundTrip.{read-write-many}
use Rattle.answers.specs.Reading.{and_then, reading}
use Rattle.plan_rows.specs.Rows.{AreKept, one, each_of, as_lot, site_in}
use Rattle.plan_rows.specs.Forms.{Written, written_of}
use Rattle.plan_rows.specs.Judging.{judge, plan_of}
use Rattle.plan_rows.specs.Plan.{HasRecords}
use Rattle.plan_rows.specs.declared.row.Row.{Row}
use Rattle.plan_rows.specs.declared.row.LotRow.{LotRow}
use Rattle.plan_rows.specs.declared.fault.PlanFault.{PlanFault}
use Rattle.plan_rows.proofs.JudgeLemmas.{next_is}
use Rattle.plan_rows.proofs.KeptLemmas.{kept_next, each_of-last}
use Rattle.plan_parts.specs.Moved.{moved}
use Rattle.plan_parts.specs.PartText.{with_site, records_text}
use Rattle.plan_parts.proofs.TextLemmas.{read_of}
use Rattle.plan_parts.proofs.CutLemmas.{IsCut, Counts, AllCount, AllCount-parts, said_at, cut_row, cut_rows, lots_cut}
use Rattle.plan_parts.proofs.CutJudging.{judged, judge_moved, judge_same}

-- rows that were read
abbrev pub ok_rows : List Row → Result (List Row) PlanFault
ok_rows rows = Ok rows

-- what is left of a record that says this row
abbrev pub cut_record : (ℕ → Option ℕ) → Row → List (List ℕ) → Option (List (List ℕ))
cut_record cut r fields = said_at cut fields (with_site fields) (site_in r)

-- what is left of records and their rows
abbrev pub cut_records : (ℕ → Option ℕ) → List Row → List (List (List ℕ)) → List (List (List ℕ))
cut_records cut [] records = []
cut_records cut (r ∷ later) [] = []
cut_records cut (r ∷ later) (fields ∷ records) = one (cut_record cut r fields) ++ cut_records cut later records

module _ (cut : ℕ → Option ℕ) (counts : ℕ → Bool) (is_cut : IsCut cut counts) where
  -- one record more
  step_cut : (before : List Row) (x : Row) (fields : List (List ℕ)) (rest : List (List (List ℕ))) (all : List Row) → (0 < length before → AreKept before)
      → AllCount counts before → Counts counts x → judge before fields ≡ Ok x
      → reading judge (cut_rows cut before ++ one (cut_row cut x)) rest ≡ Ok all
      → reading judge (cut_rows cut before) (one (cut_record cut x fields) ++ rest) ≡ Ok all
  step_cut before x fields rest all kept counted own h read = by (site_in x) refl read
    where
      on : (fields' : List (List ℕ)) (y : Row) → judge (cut_rows cut before) fields' ≡ Ok y
          → reading judge (cut_rows cut before ++ y ∷ []) rest ≡ Ok all → reading judge (cut_rows cut before) (fields' ∷ rest) ≡ Ok all
      on fields' y is read = ap (λ (r : Result Row PlanFault). and_then r (λ z. reading judge (cut_rows cut before ++ z ∷ []) rest)) is ∙ read

      of_cut : (s : ℕ) (o : Option ℕ) → site_in x ≡ Some s → cut s ≡ o
          → reading judge (cut_rows cut before ++ one (option_map (λ n. moved n x) o)) rest ≡ Ok all
          → reading judge (cut_rows cut before) (one (option_map (with_site fields) o) ++ rest) ≡ Ok all
      of_cut s None at to read = ap (λ (l : List Row). reading judge l rest) (sym (append-nil (cut_rows cut before))) ∙ read
      of_cut s (Some n) at to read = on (with_site fields n) (moved n x) (judge_moved cut counts is_cut before fields x s n kept counted own at to h) read

      by : (o : Option ℕ) → site_in x ≡ o
          → reading judge (cut_rows cut before ++ one (said_at cut x (λ n. moved n x) o)) rest ≡ Ok all
          → reading judge (cut_rows cut before) (one (said_at cut fields (with_site fields) o) ++ rest) ≡ Ok all
      by None at read = on fields x (judge_same cut counts is_cut before fields x kept counted at h) read
      by (Some s) at read = of_cut s (cut s) at refl read

  -- all records behind those before
  reading_cut : (before rows : List Row) (records : List (List (List ℕ))) → AllCount counts rows → (0 < length before → AreKept before)
      → reading judge before records ≡ Ok rows
      → (later : List Row) × (rows ≡ before ++ later) × (reading judge (cut_rows cut before) (cut_records cut later records) ≡ Ok (cut_rows cut rows))
  reading_cut before rows [] counted kept is =
      let same : before ≡ rows = cc in
      ([], sym same ∙ sym (append-nil before), ap (λ (l : List Row). ok_rows (cut_rows cut l)) same)
  reading_cut before rows (fields ∷ records) counted kept is =
      by (judge before fields) refl (λ x. reading_cut (before ++ x ∷ []) rows records counted) is
    where
      by : (o : Result Row PlanFault) → judge before fields ≡ o
          → ((x : Row) → (0 < length (before ++ x ∷ []) → AreKept (before ++ x ∷ [])) → reading judge (before ++ x ∷ []) records ≡ Ok rows
          → (later : List Row) × (rows ≡ (before ++ x ∷ []) ++ later)
          × (reading judge (cut_rows cut (before ++ x ∷ [])) (cut_records cut later records) ≡ Ok (cut_rows cut rows)))
          → and_then o (λ x. reading judge (before ++ x ∷ []) records) ≡ Ok rows
          → (later : List Row) × (rows ≡ before ++ later)
          × (reading judge (cut_rows cut before) (cut_records cut later (fields ∷ records)) ≡ Ok (cut_rows cut rows))
      by (Err e) h later is = cc
      by (Ok x) h later is =
          let (l, split, read) = later x (λ some. kept_next before x (next_is (length before + 1) before fields x h) kept) is in
          let parts = AllCount-parts counts (before ++ x ∷ []) l (subst (AllCount counts) split counted) in
          let own = AllCount-parts counts before (x ∷ []) parts.0 in (
            x ∷ l,
            split ∙ append_assoc before (x ∷ []) l,
            step_cut before x fields (cut_records cut l records) (cut_rows cut rows) kept own.0 own.1.0 h
                (ap (λ (r : List Row). reading judge r (cut_records cut l records)) (sym (each_of-last (cut_row cut) before x)) ∙ read),
          )

  -- a plan's
  pub plan_cut : (rows : List Row) (records : List (List (List ℕ))) → AllCount counts rows → AreKept rows → plan_of records ≡ Ok rows
      → plan_of (cut_records cut rows records) ≡ Ok (cut_rows cut rows)
  plan_cut rows records counted kept is =
      let (l, split, read) = reading_cut [] rows records counted (λ none. absurd (omega arith)) (read_of records rows is) in
      by (cut_records cut rows records) (ap (λ (r : List Row). reading judge [] (cut_records cut r records)) split ∙ read)
    where
      by : (made : List (List (List ℕ))) → reading judge [] made ≡ Ok (cut_rows cut rows) → plan_of made ≡ Ok (cut_rows cut rows)
      by [] read =
          let none : [] ≡ cut_rows cut rows = cc in
          absurd (omega (arith, kept.lots, ap (λ (l : List LotRow). length l) (ap (each_of as_lot) none ∙ lots_cut cut rows)))
      by (r ∷ made) read = read

-- ---- the text of records

-- each record has six fields and a kind that begins with no byte order mark
abbrev pub IsPlain : List (List ℕ) → Type 0
IsPlain [] = ⊥
IsPlain (k ∷ []) = ⊥
IsPlain ([] ∷ a ∷ fields) = Unit {0}
IsPlain ((b ∷ k) ∷ a ∷ fields) = b ≡ 239 → ⊥

-- each record is plain
abbrev pub ArePlain : List (List (List ℕ)) → Type 0
ArePlain [] = Unit {0}
ArePlain (r ∷ records) = IsPlain r × ArePlain records

-- plain records, and more
ArePlain-append : (xs ys : List (List (List ℕ))) → ArePlain xs → ArePlain ys → ArePlain (xs ++ ys)
ArePlain-append [] ys a b = b
ArePlain-append (x ∷ xs) ys a b = (a.0, ArePlain-append xs ys a.1 b)

-- the records of a text of plain records
reached_text : (records : List (List (List ℕ))) → ArePlain records
    → Reached default_config st.StartRecord (records_text records) records st.StartRecord []
unfolding Reached
reached_text [] plain = (refl, refl)
reached_text ([] ∷ records) plain = absurd plain.0
reached_text ((k ∷ []) ∷ records) plain = absurd plain.0
reached_text ((k ∷ a ∷ fields) ∷ records) plain =
    ((k ∷ a ∷ fields, st.StartRecord, records_text records), read-write-many k a fields (records_text records), refl, reached_text records plain.1)

-- a text that begins with another byte than the mark stays
strip-first : (a : ℕ) (xs : List ℕ) → (a == 239) ≡ false → strip_bom (a ∷ xs) ≡ a ∷ xs
unfolding strip_bom
strip-first a [] e = refl
strip-first a (b ∷ []) e = refl
strip-first a (b ∷ c ∷ rest) e = rw e refl

-- so does no text
strip-none : strip_bom [] ≡ []
unfolding strip_bom
strip-none = refl

-- no byte order mark stands before it
no_mark : (records : List (List (List ℕ))) → ArePlain records → strip_bom (records_text records) ≡ records_text records
unfolding fields_text is_blank
no_mark [] plain = strip-none
no_mark ([] ∷ records) plain = absurd plain.0
no_mark ((k ∷ []) ∷ records) plain = absurd plain.0
no_mark (([] ∷ a ∷ fields) ∷ records) plain = strip-first 44 _ refl
no_mark (((b ∷ k) ∷ a ∷ fields) ∷ records) plain = by (list_any (needs_byte default_writer) (b ∷ k))
  where
    by : (c : Bool) → (let text : List ℕ = (cond c (34 ∷ (escaped default_writer (b ∷ k) ++ (34 ∷ []))) (b ∷ k) ++ fields_text default_writer (a ∷ fields))
        ++ codes "\n" ++ records_text records in strip_bom text ≡ text)
    by true = strip-first 34 _ refl
    by false = strip-first b _ (ne_eqb b 239 plain.0)

-- so the text has these records
pub text_has : (records : List (List (List ℕ))) → ArePlain records → HasRecords (records_text records) records
unfolding next_record
text_has records plain =
    subst (λ (bytes : List ℕ). AreRecords default_config st.StartRecord bytes records) (sym (no_mark records plain))
    (st.StartRecord, [], reached_text records plain, refl)

-- a record with a form is plain
plain_form : (fields : List (List ℕ)) (w : Written) → written_of fields ≡ Some w → IsPlain fields
plain_form [] w h = cc
plain_form (k ∷ []) w h = cc
plain_form (k ∷ a ∷ []) w h = cc
plain_form (k ∷ a ∷ b ∷ []) w h = cc
plain_form (k ∷ a ∷ b ∷ c ∷ []) w h = cc
plain_form (k ∷ a ∷ b ∷ c ∷ d ∷ []) w h = cc
plain_form (k ∷ a ∷ b ∷ c ∷ d ∷ e ∷ x ∷ xs) w h = cc
plain_form ([] ∷ a ∷ b ∷ c ∷ d ∷ e ∷ []) w h = tt
plain_form ((m ∷ k) ∷ a ∷ b ∷ c ∷ d ∷ e ∷ []) w h = λ mark.
    wrong (sym (ap (λ (i : ℕ). written_of ((i ∷ k) ∷ a ∷ b ∷ c ∷ d ∷ e ∷ [])) mark) ∙ h)
  where
    wrong : written_of ((239 ∷ k) ∷ a ∷ b ∷ c ∷ d ∷ e ∷ []) ≡ Some w → ⊥
    wrong h = cc

-- a plain record stays plain with another site
plain_with : (fields : List (List ℕ)) (n : ℕ) → IsPlain fields → IsPlain (with_site fields n)
plain_with [] n plain = plain
plain_with (k ∷ []) n plain = plain
plain_with ([] ∷ a ∷ fields) n plain = tt
plain_with ((b ∷ k) ∷ a ∷ fields) n plain = plain

-- what is left of plain records is plain
pub plain_cut : (cut : ℕ → Option ℕ) (rows : List Row) (records : List (List (List ℕ))) → ArePlain records → ArePlain (cut_records cut rows records)
plain_cut cut [] records plain = tt
plain_cut cut (r ∷ rows) [] plain = tt
plain_cut cut (r ∷ rows) (fields ∷ records) plain =
    ArePlain-append (one (cut_record cut r fields)) (cut_records cut rows records) (by (site_in r)) (plain_cut cut rows records plain.1)
  where
    of_cut : (o : Option ℕ) → ArePlain (one (option_map (with_site fields) o))
    of_cut None = tt
    of_cut (Some n) = (plain_with fields n plain.0, tt)

    by : (o : Option ℕ) → ArePlain (one (said_at cut fields (with_site fields) o))
    by None = (plain.0, tt)
    by (Some s) = of_cut (cut s)

-- the records of a plan are plain
pub plain_read : (before rows : List Row) (records : List (List (List ℕ))) → reading judge before records ≡ Ok rows → ArePlain records
plain_read before rows [] is = tt
plain_read before rows (fields ∷ records) is = by (judge before fields) refl (λ x. plain_read (before ++ x ∷ []) rows records) is
  where
    by : (o : Result Row PlanFault) → judge before fields ≡ o → ((x : Row) → reading judge (before ++ x ∷ []) records ≡ Ok rows → ArePlain records)
        → and_then o (λ x. reading judge (before ++ x ∷ []) records) ≡ Ok rows → IsPlain fields × ArePlain records
    by (Ok x) h later is = let j = judged before fields x h in (plain_form fields j.said j.form, later x is)
    by (Err e) h later is = cc
