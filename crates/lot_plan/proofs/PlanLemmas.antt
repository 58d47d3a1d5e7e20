-- How many sites and dies an accepted plan has.
use Rattle.std.proofs.Common.{◌≡◌, ◌==◌, ℕ, zero, suc, ◌+◌, ◌≤◌, Bool, true, false, cond, List, [], ◌∷◌, ◌++◌, length, arith}
use Rattle.std.specs.Prelude.{All, fold}
use Rattle.std.proofs.lemmas.Bool.{and_parts}
use Rattle.std.proofs.lemmas.List.Elements.{All-append, All-head, All-tail}
use Rattle.std.specs.List.{list_all, list_any}
use Rattle.std.specs.Str.{bytes_eq}
use Rattle.text_bytes.specs.Texts.{added}
use Rattle.text_bytes.specs.Bytes.{is_printing}
use Rattle.text_bytes.proofs.ListLemmas.{length-filter-le}
use Rattle.plan_rows.specs.Words.{is_name}
use Rattle.plan_rows.specs.declared.row.Row.{Row}
use Rattle.plan_rows.specs.declared.row.DieRow.{DieRow}
use Rattle.plan_rows.specs.Rows.{AreKept, dies_of, dies_at, files_of}

-- a site has at most 4,096 dies
pub length-dies_at : (rows : List Row) (site : ℕ) → AreKept rows → length (dies_at site rows) ≤ 4096
length-dies_at rows site kept = omega (arith, kept.dies, length-filter-le (λ (d : DieRow). d.site == site) (dies_of rows))

-- a file whose bytes show in print
abbrev pub IsPrinting : List ℕ → Type 0
IsPrinting file = list_all is_printing file ≡ true

-- one file alone
alone : (file : List ℕ) → IsPrinting file → All IsPrinting (file ∷ [])
alone file is zero d within = is
alone file is (suc k) d within = absurd (omega arith)

-- one more file
with_file-printing : (files : List (List ℕ)) (file : List ℕ) → All IsPrinting files → IsPrinting file → All IsPrinting (added files file)
with_file-printing files file all is = by (list_any (bytes_eq file) files)
  where
    by : (b : Bool) → All IsPrinting (cond b files (files ++ file ∷ []))
    by true = all
    by false = All-append IsPrinting files (file ∷ []) all (alone file is)

-- the files of more dies
folded-printing : (files : List (List ℕ)) (dies : List DieRow) → All IsPrinting files → All (λ d. is_name d.file ≡ true) dies
    → All IsPrinting (fold (λ files d. added files d.file) files dies)
folded-printing files [] all each = all
folded-printing files (d ∷ ds) all each =
    let here : is_name d.file ≡ true = All-head (λ (x : DieRow). is_name x.file ≡ true) d ds each in
    folded-printing (added files d.file) ds (with_file-printing files d.file all (and_parts _ (list_all is_printing d.file) here).1)
    (All-tail (λ (x : DieRow). is_name x.file ≡ true) d ds each)

-- the bytes of a plan's files show in print
pub files_of-printing : (rows : List Row) → AreKept rows → All IsPrinting (files_of rows)
files_of-printing rows kept = folded-printing [] (dies_of rows) (λ k d within. absurd (omega arith)) kept.files
