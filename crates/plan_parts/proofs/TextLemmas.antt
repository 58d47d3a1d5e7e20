-- A reader of a plan's records as it goes through the text, and what was written of them for a part.
use Rattle.std.proofs.Common.{Bor, ◌≡◌, ℕ, ◌+◌, ◌<◌, ◌≤◌, true, false, List, [], ◌∷◌, ◌++◌, length, get_or, None, Some, Result, Ok, Err, refl, sym, ap, ◌∙◌, arith, inl, inr, append_assoc, append-nil, length-append}
use Rattle.std.proofs.Math.ListN.{take}
use Rattle.std.proofs.lemmas.List.{take_more, take_all, length-take-le}
use Rattle.csv.specs.Reading.{Reached, Ready, ReadRecord, default_config, source_of, strip_bom}
use Rattle.csv.specs.Writing.{default_writer, row_text}
use Rattle.csv.specs.declared.reader.Reader.{Reader}
use Rattle.csv.specs.declared.parser.State.{State}
use Rattle.csv.specs.declared.parser.State.TheVariants as st
use Rattle.csv.specs.declared.reader.Trim.TheVariants as trim
use Rattle.csv.proofs.ReadFacts.{rows-end, rows-more}
use Rattle.answers.specs.Reading.{and_then, reading}
use Rattle.answers.proofs.ReadingLemmas.{length-reading}
use Rattle.plan_rows.specs.Rows.{one}
use Rattle.plan_rows.specs.Forms.{Written, written_of}
use Rattle.plan_rows.specs.Judging.{judge, plan_of, placed, row_of, row_at, once}
use Rattle.plan_rows.specs.Plan.{IsPlan}
use Rattle.plan_rows.specs.declared.row.Row.{Row}
use Rattle.plan_rows.specs.declared.fault.PlanFault.{PlanFault}
use Rattle.plan_rows.proofs.JudgeLemmas.{steps, stands_where_placed}
use Rattle.plan_rows.proofs.RecordLemmas.{some_records, Reached-append}
use Rattle.plan_rows.proofs.PlanLemmas.{one_list}
use Rattle.plan_parts.specs.PartText.{IsPartText, record_in, records_in, records_text}

-- ---- the fields of a record

-- a record with a form has six fields
pub six_form : (fields : List (List ℕ)) (w : Written) → written_of fields ≡ Some w → length fields ≡ 6
six_form [] w h = cc
six_form (k ∷ []) w h = cc
six_form (k ∷ a ∷ []) w h = cc
six_form (k ∷ a ∷ b ∷ []) w h = cc
six_form (k ∷ a ∷ b ∷ c ∷ []) w h = cc
six_form (k ∷ a ∷ b ∷ c ∷ d ∷ []) w h = cc
six_form (k ∷ a ∷ b ∷ c ∷ d ∷ e ∷ []) w h = refl
six_form (k ∷ a ∷ b ∷ c ∷ d ∷ e ∷ x ∷ xs) w h = cc

-- a record that says a row has six fields
pub six_judged : (before : List Row) (fields : List (List ℕ)) (x : Row) → judge before fields ≡ Ok x → length fields ≡ 6
six_judged before fields x h =
    let place : ℕ = length before + 1 in
    let (y, row, again) = steps (row_at place before fields) (once place before) x h in
    let (w, form, made) = steps (placed place before (written_of fields)) (row_of place before) y row in
    six_form fields w (stands_where_placed place before (written_of fields) w form).0

-- so has each record of a plan
six_at : (before rows : List Row) (front : List (List (List ℕ))) (fields : List (List ℕ)) (back : List (List (List ℕ)))
    → reading judge before (front ++ fields ∷ back) ≡ Ok rows → length fields ≡ 6
six_at before rows [] fields back is = by (judge before fields) refl is
  where
    by : (o : Result Row PlanFault) → judge before fields ≡ o → and_then o (λ x. reading judge (before ++ x ∷ []) back) ≡ Ok rows
        → length fields ≡ 6
    by (Ok x) e h = six_judged before fields x e
    by (Err f) e h = cc
six_at before rows (r ∷ front) fields back is = by (judge before r) (λ x. six_at (before ++ x ∷ []) rows front fields back) is
  where
    by : (o : Result Row PlanFault) → ((x : Row) → reading judge (before ++ x ∷ []) (front ++ fields ∷ back) ≡ Ok rows → length fields ≡ 6)
        → and_then o (λ x. reading judge (before ++ x ∷ []) (front ++ fields ∷ back)) ≡ Ok rows → length fields ≡ 6
    by (Ok x) later h = later x h
    by (Err f) later h = cc

-- ---- the records of a plan

-- the records of a plan are read one after another
pub read_of : (records : List (List (List ℕ))) (rows : List Row) → plan_of records ≡ Ok rows → reading judge [] records ≡ Ok rows
read_of [] rows is = cc
read_of (r ∷ records) rows is = is

-- behind these records the plan has one more, of six fields
pub one_more : (bytes : List ℕ) (rows : List Row) (records : List (List (List ℕ))) (fields : List (List ℕ)) (s : State) (ys : List ℕ)
    → IsPlan bytes rows → Reached default_config st.StartRecord (strip_bom bytes) (records ++ fields ∷ []) s ys
    → (length records < length rows) × (length fields ≡ 6)
one_more bytes rows records fields s ys plan reached =
    let (rest, (s2, zs, more, none)) = some_records (length ys) default_config s ys (omega arith) in
    let all : Reached default_config st.StartRecord (strip_bom bytes) ((records ++ fields ∷ []) ++ rest) s2 zs =
    Reached-append default_config st.StartRecord s s2 (strip_bom bytes) ys zs (records ++ fields ∷ []) rest reached more in
    let same : (records ++ fields ∷ []) ++ rest ≡ plan.records =
    one_list bytes ((records ++ fields ∷ []) ++ rest) plan.records (s2, zs, all, none) plan.are in
    let read : reading judge [] (records ++ fields ∷ rest) ≡ Ok rows =
    ap (reading judge []) (sym (append_assoc records (fields ∷ []) rest) ∙ same) ∙ read_of plan.records rows plan.read in
    let long = length-reading judge [] rows (records ++ fields ∷ rest) read in
    (omega (arith, long, length-append records (fields ∷ rest)), six_at [] rows records fields rest read)

-- ---- what was written

-- the records of a part, with one more
pub records_in-more : (parts part : ℕ) (rows xs : List Row) (r : Row) (ys : List (List (List ℕ))) (fields : List (List ℕ)) → length xs ≡ length ys
    → records_in parts part rows (xs ++ r ∷ []) (ys ++ fields ∷ []) ≡ records_in parts part rows xs ys ++ one (record_in parts part rows r fields)
records_in-more parts part rows [] r [] fields long = append-nil (one (record_in parts part rows r fields))
records_in-more parts part rows [] r (y ∷ ys) fields long = absurd (omega (arith, long))
records_in-more parts part rows (x ∷ xs) r [] fields long = absurd (omega (arith, long))
records_in-more parts part rows (x ∷ xs) r (y ∷ ys) fields long =
    ap (λ (l : List (List (List ℕ))). one (record_in parts part rows x y) ++ l) (records_in-more parts part rows xs r ys fields (omega (arith, long)))
    ∙ sym (append_assoc (one (record_in parts part rows x y)) (records_in parts part rows xs ys) (one (record_in parts part rows r fields)))

-- the text of records, and of more
pub records_text-append : (xs ys : List (List (List ℕ))) → records_text (xs ++ ys) ≡ records_text xs ++ records_text ys
records_text-append [] ys = refl
records_text-append (x ∷ xs) ys =
    ap (λ (l : List ℕ). row_text default_writer x ++ l) (records_text-append xs ys)
    ∙ sym (append_assoc (row_text default_writer x) (records_text xs) (records_text ys))

-- these records were read, the rest is there, and this was written of them
pub record IsCutting (bytes : List ℕ) (rdr : Reader (Bor (List ℕ))) (parts part : ℕ) (rows : List Row) (at : ℕ) (text : List ℕ) : Type 0 where
  pub plain : rdr.trim ≡ trim.None
  pub ready : Ready rdr
  pub config : rdr.config ≡ default_config
  pub rest : List ℕ
  pub source : source_of (λ (s : Bor (List ℕ)). Some s.now) rdr ≡ Some rest
  pub records : List (List (List ℕ))
  pub reached : Reached default_config st.StartRecord (strip_bom bytes) records rdr.state rest
  pub long : length records ≡ at
  pub within : at ≤ length rows
  pub all : text ≡ records_text (records_in parts part rows (take at rows) records)

-- before the first record
pub starts : (bytes : List ℕ) (rdr : Reader (Bor (List ℕ))) (parts part : ℕ) (rows : List Row) → rdr.trim ≡ trim.None
    → rdr.has_headers ≡ false → rdr.headers ≡ None → rdr.config ≡ default_config
    → source_of (λ (s : Bor (List ℕ)). Some s.now) rdr ≡ Some (strip_bom bytes)
    → rdr.state ≡ st.StartRecord → IsCutting bytes rdr parts part rows 0 []
unfolding Reached
starts bytes rdr parts part rows plain names headers config source state = record {
  plain = plain;
  ready = inr (inr (names, headers));
  config = config;
  rest = strip_bom bytes;
  source = source;
  records = [];
  reached = (sym state, refl);
  long = refl;
  within = omega arith;
  all = refl;
}

-- a record was read: there is a row for it, and it has six fields
pub has_row : (bytes : List ℕ) (old new : Reader (Bor (List ℕ))) (parts part : ℕ) (rows : List Row) (at : ℕ) (text : List ℕ) (fields : List (List ℕ))
    → IsPlan bytes rows → IsCutting bytes old parts part rows at text → ReadRecord (λ (s : Bor (List ℕ)). Some s.now) old new true fields
    → (at < length rows) × (length fields ≡ 6)
has_row bytes old new parts part rows at text fields plan g step =
    let (z, source, reached) = rows-more (λ (s : Bor (List ℕ)). Some s.now) old new fields default_config st.StartRecord (strip_bom bytes) g.rest g.records
    g.config g.source g.reached step in
    let both = one_more bytes rows g.records fields new.state z plan reached in
    (omega (arith, both.0, g.long), both.1)

-- and what the part has of it was written
pub goes_on : (bytes : List ℕ) (old new : Reader (Bor (List ℕ))) (parts part : ℕ) (rows : List Row) (at : ℕ)
    (text made : List ℕ) (fields : List (List ℕ)) (x : Row)
    → IsPlan bytes rows → IsCutting bytes old parts part rows at text → ReadRecord (λ (s : Bor (List ℕ)). Some s.now) old new true fields → new.first ≡ true
    → x ≡ get_or rows at x → made ≡ text ++ records_text (one (record_in parts part rows x fields)) → IsCutting bytes new parts part rows (at + 1) made
goes_on bytes old new parts part rows at text made fields x plan g step first here more =
    let (z, source, reached) = rows-more (λ (s : Bor (List ℕ)). Some s.now) old new fields default_config st.StartRecord (strip_bom bytes) g.rest g.records
    g.config g.source g.reached step in
    let inside = (has_row bytes old new parts part rows at text fields plan g step).0 in
    record {
      plain = step.3 ∙ g.plain;
      ready = inl first;
      config = step.2 ∙ g.config;
      rest = z;
      source = source;
      records = g.records ++ fields ∷ [];
      reached = reached;
      long = omega (arith, g.long, length-append g.records (fields ∷ []));
      within = omega (arith, inside);
      all = more ∙ ap (λ (l : List ℕ). l ++ records_text (one (record_in parts part rows x fields))) g.all
          ∙ sym (records_text-append (records_in parts part rows (take at rows) g.records) (one (record_in parts part rows x fields)))
          ∙ ap records_text (sym (records_in-more parts part rows (take at rows) x g.records fields (long inside)))
          ∙ ap (λ (l : List Row). records_text (records_in parts part rows l (g.records ++ fields ∷ [])))
          (sym (take_more rows at x inside ∙ ap (λ (y : Row). take at rows ++ y ∷ []) (sym here)));
    }
  where
    long : at < length rows → length (take at rows) ≡ length g.records
    long inside = length-take-le at rows (omega (arith, inside)) ∙ sym g.long

-- no record was left
pub is_done : (bytes : List ℕ) (old new : Reader (Bor (List ℕ))) (parts part : ℕ) (rows : List Row) (at : ℕ) (text made : List ℕ)
    → IsPlan bytes rows → IsCutting bytes old parts part rows at text → ReadRecord (λ (s : Bor (List ℕ)). Some s.now) old new false []
    → made ≡ text → IsPartText parts part bytes rows made
is_done bytes old new parts part rows at text made plan g step same =
    let none = rows-end (λ (s : Bor (List ℕ)). Some s.now) old new [] default_config g.rest g.config g.source step in
    let one : g.records ≡ plan.records = one_list bytes g.records plan.records (old.state, g.rest, g.reached, none) plan.are in
    let size : length rows ≡ 0 + length g.records = length-reading judge [] rows g.records (ap (reading judge []) one ∙ read_of plan.records rows plan.read) in
    record {
      records = g.records;
      are = (old.state, g.rest, g.reached, none);
      read = ap plan_of one ∙ plan.read;
      is = same ∙ g.all ∙ ap (λ (l : List Row). records_text (records_in parts part rows l g.records)) (take_all at rows (omega (arith, size, g.long)));
    }
