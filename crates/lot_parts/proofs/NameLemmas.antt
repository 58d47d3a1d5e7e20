-- The names of the dies of a plan have no line feeds.
use Rattle.std.proofs.Common.{◌≡◌, ℕ, ◌+◌, ◌^◌, Bool, true, false, not, cond, ◌&&◌, ◌==◌, List, [], ◌∷◌, ◌++◌, length, map, Option, Some, None, Result, Ok, Err, refl, sym, ap, ◌∙◌, subst}
use Rattle.std.specs.Prelude.{codes, filter, nat_le, nat_lt}
use Rattle.std.proofs.lemmas.Bool.{and_parts, eqb-true}
use Rattle.std.specs.List.{list_all, range_with_len, AllByRecursion}
use Rattle.std.specs.Str.{bytes_eq}
use Rattle.plan_rows.specs.Limits.{last_site, most_skew, most_tries}
use Rattle.text_bytes.specs.Bytes.{is_printing}
use Rattle.text_bytes.specs.Limits.{longest_label}
use Rattle.text_bytes.specs.Numbers.{is_within}
use Rattle.answers.specs.Reading.{reading, and_then}
use Rattle.plan_rows.specs.declared.row.Row.{Row}
use Rattle.plan_rows.specs.declared.row.Row.TheVariants as row
use Rattle.plan_rows.specs.declared.row.DieRow.{DieRow}
use Rattle.plan_rows.specs.declared.fault.PlanFault.{PlanFault}
use Rattle.plan_rows.specs.declared.fault.PlanFault.TheVariants.{UnknownName}
use Rattle.plan_rows.specs.Words.{is_name, name_of, net_of, number_in}
use Rattle.plan_rows.specs.Forms.{Written, a_lot, a_clock, a_bind, a_die, a_fault, a_stop, a_bin, a_skew, given, unused, bound_net, fault_tries, ending_form, offset_in, written_of}
use Rattle.plan_rows.specs.Judging.{judge, row_of, names_at, number_at, plan_of, lot_fits, die_fits, tries_fit, ending_fits}
use Rattle.plan_rows.proofs.JudgeLemmas.{fits_within, die_there}
use Rattle.plan_rows.specs.Rows.{as_die, dies_of, dies_at}
use Rattle.plan_rows.specs.Plan.{IsPlan}
use Rattle.plan_parts.proofs.CutJudging.{judged}
use Rattle.text_bytes.proofs.Spans.{list_any-not}
use Rattle.part_lines.specs.Lines.{is_feed, is_one_line}
use Rattle.plan_parts.specs.Cut.{sites_with_dies, sites_in_part, site_at}
use Rattle.log_parts.specs.Merged.{names_in}
use Rattle.log_parts.specs.Step.{AreOneLineEach}

-- ---- what a record says of a die

-- where a die is said, it has a name
abbrev Prints : Option Written → Type 0
Prints o = (site : ℕ) (name file : List ℕ) → o ≡ Some (a_die site name file) → is_name name ≡ true

none-prints : Prints None
none-prints site name file h = cc

given-prints : {A : Type 0} (o : Option A) (f : A → Option Written) → ((x : A) → Prints (f x)) → Prints (given o f)
given-prints None f all = none-prints
given-prints (Some x) f all = all x

chosen-prints : (b : Bool) (x y : Option Written) → Prints x → Prints y → Prints (cond b x y)
chosen-prints true x y first second = first
chosen-prints false x y first second = second

unused-prints : (fields : List (List ℕ)) (o : Option Written) → Prints o → Prints (unused fields o)
unused-prints fields o prints = chosen-prints (list_all (λ f. length f == 0) fields) o None prints none-prints

-- a name is one
named-prints : (bytes : List ℕ) (f : List ℕ → Option Written) → ((x : List ℕ) → is_name x ≡ true → Prints (f x)) → Prints (given (name_of bytes) f)
named-prints bytes f all = by (is_name bytes) refl
  where
    by : (b : Bool) → is_name bytes ≡ b → Prints (given (cond b (Some bytes) None) f)
    by true is = all bytes is
    by false is = none-prints

die-prints : (site : ℕ) (name file : List ℕ) → is_name name ≡ true → Prints (Some (a_die site name file))
die-prints site name file is s n g h = let same : name ≡ n = cc in subst (λ (m : List ℕ). is_name m ≡ true) same is

-- what records of each kind say
six-prints : (kind a b c d e : List ℕ) → Prints (written_of (kind ∷ a ∷ b ∷ c ∷ d ∷ e ∷ []))
six-prints kind a b c d e =
    chosen-prints (bytes_eq kind (codes "lot")) _ _ (unused-prints (d ∷ e ∷ []) _
    (given-prints (number_in a) _ (λ batch. given-prints (number_in b) _ (λ tries. given-prints (number_in c) _ (λ keep s n f h. cc)))))
    (chosen-prints (bytes_eq kind (codes "clock")) _ _ (unused-prints (b ∷ c ∷ d ∷ e ∷ []) _
    (given-prints (net_of a) _ (λ signal s n f h. cc)))
    (chosen-prints (bytes_eq kind (codes "bind")) _ _ (unused-prints (c ∷ d ∷ e ∷ []) _
    (given-prints (net_of a) _ (λ signal. given-prints (bound_net b) _ (λ net s n f h. cc))))
    (chosen-prints (bytes_eq kind (codes "die")) _ _ (unused-prints (d ∷ e ∷ []) _
    (given-prints (number_in a) _ (λ site. named-prints b _ (λ name is. given-prints (name_of c) _ (λ file. die-prints site name file is)))))
    (chosen-prints (bytes_eq kind (codes "fault")) _ _
    (given-prints (number_in a) _ (λ site. given-prints (name_of b) _ (λ name. given-prints (net_of c) _ (λ net.
    given-prints (number_in d) _ (λ value. given-prints (fault_tries e) _ (λ tries s n f h. cc))))))
    (chosen-prints (bytes_eq kind (codes "stop")) _ _ (unused-prints (e ∷ []) _
    (given-prints (number_in a) _ (λ site. given-prints (name_of b) _ (λ name. given-prints (number_in c) _ (λ number.
    given-prints (number_in d) _ (λ batch s n f h. cc))))))
    (chosen-prints (bytes_eq kind (codes "bin")) _ _ (unused-prints (d ∷ e ∷ []) _
    (given-prints (ending_form a b) _ (λ ending. given-prints (number_in c) _ (λ number s n f h. cc))))
    (chosen-prints (bytes_eq kind (codes "skew")) _ _ (unused-prints (d ∷ e ∷ []) _
    (given-prints (number_in a) _ (λ site. given-prints (net_of b) _ (λ signal. given-prints (offset_in c) _ (λ offset s n f h. cc)))))
    none-prints)))))))

said-prints : (fields : List (List ℕ)) → Prints (written_of fields)
said-prints [] = none-prints
said-prints (k ∷ []) = none-prints
said-prints (k ∷ a ∷ []) = none-prints
said-prints (k ∷ a ∷ b ∷ []) = none-prints
said-prints (k ∷ a ∷ b ∷ c ∷ []) = none-prints
said-prints (k ∷ a ∷ b ∷ c ∷ d ∷ []) = none-prints
said-prints (k ∷ a ∷ b ∷ c ∷ d ∷ e ∷ []) = six-prints k a b c d e
said-prints (k ∷ a ∷ b ∷ c ∷ d ∷ e ∷ x ∷ xs) = none-prints

-- ---- the row of a record

-- the name of a die, where there is one
abbrev name_or : Option DieRow → List ℕ
name_or None = []
name_or (Some d) = d.name

-- a row of a die
abbrev die_row : DieRow → Result Row PlanFault
die_row d = Ok (row.Die d)

-- a row of another kind is no die's
apart : {A : Type 0} (r : Row) (d : DieRow) → as_die r ≡ None → r ≡ row.Die d → A
apart r d none is = let wrong : ◌≡◌ {A = Option DieRow} None (Some d) = sym none ∙ ap as_die is in cc

-- the row that was made is the one that was judged
made_so : (r x : Row) → ◌≡◌ {A = Result Row PlanFault} (Ok r) (Ok x) → r ≡ x
made_so r x h = cc

-- a row of a die was said of a die
of_a_die : (place : ℕ) (before : List Row) (w : Written) (d : DieRow) → row_of place before w ≡ die_row d
    → (site : ℕ) × (file : List ℕ) × (w ≡ a_die site d.name file)
of_a_die place before (a_lot batch tries keep) d h =
    let m = (fits_within place (lot_fits batch tries keep) _ (row.Die d) h).1 in
    apart (row.Lot (record { batch = batch; tries = tries; keep = keep })) d refl (made_so _ _ m)
of_a_die place before (a_clock signal) d h = apart (row.Clock signal) d refl (made_so _ _ h)
of_a_die place before (a_bind signal net) d h =
    apart (row.Bind (record { signal = signal; net = net })) d refl (made_so _ _ h)
of_a_die place before (a_die site name file) d h =
    let m = (fits_within place (nat_le site last_site && die_fits before) _ (row.Die d) h).1 in
    let r : row.Die (record { site = site; name = name; file = file }) ≡ row.Die d = made_so _ _ m in
    (site, file, ap (λ (n : List ℕ). a_die site n file) (ap (λ (x : Row). name_or (as_die x)) r))
of_a_die place before (a_fault site name net value tries) d h =
    let found = (fits_within place (nat_le site last_site && nat_le value 1 && tries_fit tries) _ (row.Die d) h).1 in
    let (n, at, made) = die_there place (number_at before site name) _ (row.Die d) found in
    apart _ d refl made
of_a_die place before (a_stop site name number batch) d h =
    let found = (fits_within place (nat_le site last_site && is_within 1 most_tries number && nat_le batch (2 ^ 48)) _ (row.Die d) h).1 in
    let (n, at, made) = die_there place (number_at before site name) _ (row.Die d) found in
    apart _ d refl made
of_a_die place before (a_bin ending number) d h =
    let m = (fits_within place (ending_fits ending && is_within 1 99 number) _ (row.Die d) h).1 in
    apart (row.Bin (record { ending = ending; bin = number })) d refl (made_so _ _ m)
of_a_die place before (a_skew site signal back size) d h =
    by (nat_lt 0 (length (dies_at site before))) _ refl (fits_within place (nat_le site last_site && nat_le size most_skew) _ (row.Die d) h).1
  where
    by : {A : Type 0} (b : Bool) (y : Row) → as_die y ≡ None
        → cond {A = Result Row PlanFault} b (Ok y) (Err (UnknownName place)) ≡ Ok (row.Die d) → A
    by true y none m = apart y d none (made_so _ _ m)
    by false y none m = absurd (let wrong : ⊥ = cc in wrong)

-- a row that names a die has a name
abbrev IsNamed : Row → Type 0
IsNamed r = (d : DieRow) → r ≡ row.Die d → is_name d.name ≡ true

is_named : (before : List Row) (fields : List (List ℕ)) (x : Row) → judge before fields ≡ Ok x → IsNamed x
is_named before fields x h d same =
    let j = judged before fields x h in
    let (site, file, is) = of_a_die (length before + 1) before j.said d (j.made ∙ ap Ok same) in
    said-prints fields site d.name file (j.form ∙ ap Some is)

-- ---- the rows of a plan

named-append : (xs : List Row) (x : Row) → AllByRecursion IsNamed xs → IsNamed x → AllByRecursion IsNamed (xs ++ x ∷ [])
named-append [] x all is = (is, tt)
named-append (y ∷ ys) x all is = (all.0, named-append ys x all.1 is)

read_named : (records : List (List (List ℕ))) (before rows : List Row) → AllByRecursion IsNamed before
    → reading judge before records ≡ Ok rows → AllByRecursion IsNamed rows
read_named [] before rows all h = let same : before ≡ rows = cc in subst (AllByRecursion IsNamed) same all
read_named (r ∷ records) before rows all h =
    by (judge before r) refl h (λ x is later. read_named records (before ++ x ∷ []) rows (named-append before x all (is_named before r x is)) later)
  where
    by : (o : Result Row PlanFault) → judge before r ≡ o → and_then o (λ x. reading judge (before ++ x ∷ []) records) ≡ Ok rows
        → ((x : Row) → judge before r ≡ Ok x → reading judge (before ++ x ∷ []) records ≡ Ok rows → AllByRecursion IsNamed rows)
        → AllByRecursion IsNamed rows
    by (Ok x) is later go = go x is later
    by (Err f) is later go = absurd (let wrong : ⊥ = cc in wrong)

plan_named : (bytes : List ℕ) (rows : List Row) → IsPlan bytes rows → AllByRecursion IsNamed rows
plan_named bytes rows plan = by plan.records plan.read
  where
    by : (records : List (List (List ℕ))) → plan_of records ≡ Ok rows → AllByRecursion IsNamed rows
    by [] h = absurd (let wrong : ⊥ = cc in wrong)
    by (r ∷ records) h = read_named (r ∷ records) [] rows tt h

-- ---- names without line feeds

prints-feeds : (b : ℕ) → is_printing b ≡ true → not (is_feed b) ≡ true
unfolding is_printing
prints-feeds b prints = by (b == 10) refl
  where
    by : (t : Bool) → (b == 10) ≡ t → not t ≡ true
    by false is = refl
    by true is = absurd (no (subst (λ (n : ℕ). (nat_le 33 n && nat_le n 126) ≡ true) (eqb-true b 10 is) prints))
      where
        no : (nat_le 33 10 && nat_le 10 126) ≡ true → ⊥
        no h = cc

all-prints : (bytes : List ℕ) → list_all is_printing bytes ≡ true → list_all (λ b. not (is_feed b)) bytes ≡ true
all-prints [] h = refl
all-prints (b ∷ bytes) h =
    let (first, rest) = and_parts (is_printing b) (list_all is_printing bytes) h in
    rw (prints-feeds b first) (all-prints bytes rest)

name-line : (name : List ℕ) → is_name name ≡ true → is_one_line name ≡ true
name-line name is =
    let (long, each) = and_parts (nat_lt 0 (length name) && nat_le (length name) longest_label) (list_all is_printing name) is in
    ap not (list_any-not is_feed name (all-prints name each))

-- names of dies of a site
site_names : (site : ℕ) (rows : List Row) → AllByRecursion IsNamed rows → AllByRecursion (λ name. is_one_line name ≡ true) (names_at site rows)
site_names site [] all = tt
site_names site (row.Lot l ∷ rows) all = site_names site rows all.1
site_names site (row.Clock s ∷ rows) all = site_names site rows all.1
site_names site (row.Bind b ∷ rows) all = site_names site rows all.1
site_names site (row.Fault f ∷ rows) all = site_names site rows all.1
site_names site (row.Stop s ∷ rows) all = site_names site rows all.1
site_names site (row.Bin b ∷ rows) all = site_names site rows all.1
site_names site (row.Skew k ∷ rows) all = site_names site rows all.1
site_names site (row.Die d ∷ rows) all = by (d.site == site) (filter (λ (d : DieRow). d.site == site) (dies_of rows)) (site_names site rows all.1)
  where
    by : (b : Bool) (later : List DieRow) → AllByRecursion (λ name. is_one_line name ≡ true) (map (λ (d : DieRow). d.name) later)
        → AllByRecursion (λ name. is_one_line name ≡ true) (map (λ (d : DieRow). d.name) (cond b (d ∷ later) later))
    by true later are = (name-line d.name (all.0 d refl), are)
    by false later are = are

-- those of all sites of a part
pub part_names : (bytes : List ℕ) (rows : List Row) (parts part : ℕ) → IsPlan bytes rows → AreOneLineEach (names_in parts part rows)
unfolding names_in
part_names bytes rows parts part plan =
    each (range_with_len 0 (sites_in_part parts part (length (sites_with_dies rows))))
  where
    each : (numbers : List ℕ) → AreOneLineEach (map (λ number. names_at (site_at parts part rows number) rows) numbers)
    each [] = tt
    each (n ∷ numbers) = (site_names (site_at parts part rows n) rows (plan_named bytes rows plan), each numbers)
