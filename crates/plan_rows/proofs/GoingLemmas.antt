-- A reader of records as it goes through a text: what it read and what it has left are the text.
use Rattle.std.proofs.Common.{Bor, ◌≡◌, ℕ, ◌+◌, ◌≤◌, true, false, List, [], ◌∷◌, ◌++◌, length, None, Some, Ok, Err, refl, sym, ap, ◌∙◌, arith, inl, inr}
use Rattle.csv.specs.Reading.{Reached, Ready, ReadRecord, default_config, source_of, strip_bom}
use Rattle.csv.specs.declared.reader.Reader.{Reader}
use Rattle.csv.specs.declared.parser.State.TheVariants as st
use Rattle.csv.specs.declared.reader.Trim.TheVariants as trim
use Rattle.csv.proofs.ReadFacts.{rows-end, rows-more}
use Rattle.answers.specs.Reading.{reading}
use Rattle.answers.proofs.ReadingLemmas.{reading-one, length-reading}
use Rattle.plan_rows.specs.Judging.{judge}
use Rattle.plan_rows.specs.Plan.{IsFault}
use Rattle.plan_rows.specs.Inside.{IsWhole}
use Rattle.plan_rows.specs.declared.row.Row.{Row}
use Rattle.plan_rows.specs.declared.fault.PlanFault.{PlanFault}
use Rattle.plan_rows.proofs.RecordLemmas.{few_records, strip-le}
use Rattle.plan_rows.proofs.PlanLemmas.{fault_found}

-- these records were read, they are these rows, and the rest is there
pub record IsGoing (bytes : List ℕ) (rdr : Reader (Bor (List ℕ))) (rows : List Row) : Type 0 where
  pub plain : rdr.trim ≡ trim.None
  pub ready : Ready rdr
  pub config : rdr.config ≡ default_config
  pub rest : List ℕ
  pub source : source_of (λ (s : Bor (List ℕ)). Some s.now) rdr ≡ Some rest
  pub records : List (List (List ℕ))
  pub reached : Reached default_config st.StartRecord (strip_bom bytes) records rdr.state rest
  pub read : reading judge [] records ≡ Ok rows

-- before the first record
pub starts : (bytes : List ℕ) (rdr : Reader (Bor (List ℕ))) (rows : List Row) → rows ≡ [] → rdr.trim ≡ trim.None
    → rdr.has_headers ≡ false → rdr.headers ≡ None → rdr.config ≡ default_config
    → source_of (λ (s : Bor (List ℕ)). Some s.now) rdr ≡ Some (strip_bom bytes)
    → rdr.state ≡ st.StartRecord → IsGoing bytes rdr rows
unfolding Reached
starts bytes rdr rows none plain names headers config source state = record {
  plain = plain;
  ready = inr (inr (names, headers));
  config = config;
  rest = strip_bom bytes;
  source = source;
  records = [];
  reached = (sym state, refl);
  read = ap Ok (sym none);
}

-- a record was read and is one more row
pub goes_on : (bytes : List ℕ) (old new : Reader (Bor (List ℕ))) (rows made : List Row) (fields : List (List ℕ)) (x : Row)
    → IsGoing bytes old rows → ReadRecord (λ (s : Bor (List ℕ)). Some s.now) old new true fields → new.first ≡ true
    → judge rows fields ≡ Ok x → made ≡ rows ++ x ∷ [] → IsGoing bytes new made
goes_on bytes old new rows made fields x g step first judged more =
    let (z, source, reached) = rows-more (λ (s : Bor (List ℕ)). Some s.now) old new fields default_config st.StartRecord (strip_bom bytes) g.rest g.records
    g.config g.source g.reached step in
    record {
      plain = step.3 ∙ g.plain;
      ready = inl first;
      config = step.2 ∙ g.config;
      rest = z;
      source = source;
      records = g.records ++ fields ∷ [];
      reached = reached;
      read = reading-one judge [] rows g.records fields x g.read judged ∙ ap Ok (sym more);
    }

-- a record was read and is refused
pub stops : (bytes : List ℕ) (old new : Reader (Bor (List ℕ))) (rows : List Row) (fields : List (List ℕ)) (e : PlanFault) → IsGoing bytes old rows →
    ReadRecord (λ (s : Bor (List ℕ)). Some s.now) old new true fields → judge rows fields ≡ Err e → IsFault bytes e
stops bytes old new rows fields e g step judged =
    let (z, source, reached) = rows-more (λ (s : Bor (List ℕ)). Some s.now) old new fields default_config st.StartRecord (strip_bom bytes) g.rest g.records
    g.config g.source g.reached step in
    fault_found bytes g.records rows fields e new.state z reached g.read judged

-- no record was left
pub is_done : (bytes : List ℕ) (old new : Reader (Bor (List ℕ))) (rows : List Row) → IsGoing bytes old rows →
    ReadRecord (λ (s : Bor (List ℕ)). Some s.now) old new false [] → IsWhole bytes rows
is_done bytes old new rows g step = record {
  records = g.records;
  are = (old.state, g.rest, g.reached, rows-end (λ (s : Bor (List ℕ)). Some s.now) old new [] default_config g.rest g.config g.source step);
  read = g.read;
}

-- there are few rows
pub few_rows : (bytes : List ℕ) (rdr : Reader (Bor (List ℕ))) (rows : List Row) → IsGoing bytes rdr rows → length rows ≤ length bytes + 1
few_rows bytes rdr rows g = omega (
  arith,
  few_records default_config st.StartRecord rdr.state (strip_bom bytes) g.rest g.records g.reached,
  length-reading judge [] rows g.records g.read,
  strip-le bytes,
)
