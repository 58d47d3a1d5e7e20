-- What the rows of a plan keep.
use Rattle.std.proofs.Common.{◌≡◌, ℕ, zero, suc, ◌+◌, ◌*◌, ◌<◌, ◌≤◌, Bool, true, false, cond, ◌||◌, ◌&&◌, ◌==◌, List, [], ◌∷◌, ◌++◌, length, map, filter, get_or, All, Option, Some, None, Result, Ok, Err, refl, sym, ap, ◌∙◌, subst, arith, inl, inr, length-append}
use Rattle.std.specs.List.{list_any}
use Rattle.std.proofs.Math.ListN.{get_or-append}
use Rattle.std.proofs.Math.Seq.{get_or-append_seam}
use Rattle.std.proofs.lemmas.Bool.{cases_lt, eqb-true, and_parts, or_cases, or_left, or_right}
use Rattle.std.proofs.lemmas.List.{append-nil}
use Rattle.std.proofs.lemmas.List.Elements.{All-append, filter-append, filter_passes}
use Rattle.std.proofs.lemmas.List.Folds.{list_any_at}
use Rattle.plan_rows.specs.Limits.{last_site}
use Rattle.plan_rows.specs.Rows.{one, each_of, as_lot, as_clock, as_die, as_fault, as_stop, as_bin, dies_of, dies_at, faults_at, lot_of, IsLot, HasDie, AreApart, AreKept}
use Rattle.answers.specs.Reading.{and_then, reading}
use Rattle.answers.proofs.ReadingLemmas.{length-reading}
use Rattle.plan_rows.specs.Words.{is_name}
use Rattle.plan_rows.specs.Judging.{judge, plan_of, says_again}
use Rattle.plan_rows.specs.Subjects.{Subject, subject_of, same_subject}
use Rattle.plan_rows.specs.Plan.{IsPlan}
use Rattle.plan_rows.specs.Inside.{Suits, IsNext}
use Rattle.plan_rows.specs.declared.row.Row.{Row}
use Rattle.plan_rows.specs.declared.row.Row.TheVariants as row
use Rattle.plan_rows.specs.declared.row.LotRow.{LotRow}
use Rattle.plan_rows.specs.declared.row.DieRow.{DieRow}
use Rattle.plan_rows.specs.declared.row.FaultRow.{FaultRow}
use Rattle.plan_rows.specs.declared.row.StopRow.{StopRow}
use Rattle.plan_rows.specs.declared.row.BinRow.{BinRow}
use Rattle.plan_rows.specs.declared.fault.PlanFault.{PlanFault}
use Rattle.plan_rows.proofs.RowLemmas.{each_of-append}
use Rattle.plan_rows.proofs.NextLemmas.{each_of-other, each_of-one}
use Rattle.plan_rows.proofs.SubjectLemmas.{same_net}
use Rattle.plan_rows.proofs.JudgeLemmas.{next_is}
use Rattle.plan_rows.proofs.SaidLemmas.{any_subject, fault_subject, clock_subject, covers_fault, covers_clock}

-- what rows give with one more row
pub each_of-last : {A : Type 0} (f : Row → Option A) (rows : List Row) (x : Row) → each_of f (rows ++ x ∷ []) ≡ each_of f rows ++ one (f x)
each_of-last f rows x = each_of-append f rows (x ∷ []) ∙ ap (λ (l : List _). each_of f rows ++ l) (append-nil (one (f x)))

-- a site has no fewer dies with one more row
pub dies_at-le : (site : ℕ) (rows : List Row) (x : Row) → length (dies_at site rows) ≤ length (dies_at site (rows ++ x ∷ []))
dies_at-le site rows x =
    let p : DieRow → Bool = λ d. d.site == site in
    let more : dies_at site (rows ++ x ∷ []) ≡ dies_at site rows ++ filter p (one (as_die x)) =
    ap (filter p) (each_of-last as_die rows x) ∙ filter-append p (dies_of rows) (one (as_die x)) in
    omega (arith, ap length more, length-append (dies_at site rows) (filter p (one (as_die x))))

-- where something passes in a part, something passes in the whole
pub any_filter : {A : Type 0} (q p : A → Bool) (xs : List A) → list_any q (filter p xs) ≡ true → list_any q xs ≡ true
any_filter q p [] h = h
any_filter q p (x ∷ xs) h = by (p x) (any_filter q p xs) h
  where
    by : (b : Bool) → (list_any q (filter p xs) ≡ true → list_any q xs ≡ true) → list_any q (cond b (x ∷ filter p xs) (filter p xs)) ≡ true →
        (q x || list_any q xs) ≡ true
    by true rest h = elim (or_cases (q x) (list_any q (filter p xs)) h) [
      | inl here ↦ or_left (q x) _ here
      | inr later ↦ or_right (q x) _ (rest later)
    ]
    by false rest h = or_right (q x) _ (rest h)

-- one more, with another net
pub apart_more : (fs : List FaultRow) (x : FaultRow) → AreApart fs → ((k : ℕ) (f : FaultRow) → k < length fs → (get_or fs k f).net ≡ x.net → ⊥) →
    AreApart (fs ++ x ∷ [])
apart_more fs x apart other k l f g lk ll e =
    let size = length-append fs (x ∷ []) in
    elim (cases_lt k (length fs)) [
      | inl k_in ↦ elim (cases_lt l (length fs)) [
        | inl l_in ↦ apart k l f g k_in l_in (sym (ap (λ (y : FaultRow). y.net) (get_or-append fs (x ∷ []) f k k_in)) ∙ e
            ∙ ap (λ (y : FaultRow). y.net) (get_or-append fs (x ∷ []) g l l_in))
        | inr l_out ↦ absurd (other k f k_in (sym (ap (λ (y : FaultRow). y.net) (get_or-append fs (x ∷ []) f k k_in)) ∙ e
            ∙ ap (λ (y : FaultRow). y.net) (last fs x g l (omega arith))))
      ]
      | inr k_out ↦ elim (cases_lt l (length fs)) [
        | inl l_in ↦ absurd (other l g l_in (sym (ap (λ (y : FaultRow). y.net) (get_or-append fs (x ∷ []) g l l_in)) ∙ sym e
            ∙ ap (λ (y : FaultRow). y.net) (last fs x f k (omega arith))))
        | inr l_out ↦ omega arith
      ]
    ]
  where
    last : (fs : List FaultRow) (x d : FaultRow) (k : ℕ) → k ≡ length fs → get_or (fs ++ x ∷ []) k d ≡ x
    last fs x d k e = ap (λ i. get_or (fs ++ x ∷ []) i d) e ∙ get_or-append_seam fs x [] d

-- a fault's net is new among those of its die
pub new_net : (rows : List Row) (x : FaultRow) → says_again rows (row.Fault x) ≡ false →
    (k : ℕ) (f : FaultRow) → k < length (faults_at x.site x.die rows) → (get_or (faults_at x.site x.die rows) k f).net ≡ x.net → ⊥
new_net rows x fresh k f low e =
    let p : FaultRow → Bool = λ g. (g.site == x.site) && (g.die == x.die) in
    let here : FaultRow = get_or (faults_at x.site x.die rows) k f in
    let test : p here ≡ true = filter_passes p (each_of as_fault rows) k f low in
    let (site, die) = and_parts (here.site == x.site) (here.die == x.die) test in
    let q : FaultRow → Bool = λ g. same_subject (fault_subject x) (fault_subject g) in
    let same : q here ≡ true =
    same_net x.site here.site x.die here.die x.net here.net (sym (eqb-true here.site x.site site)) (sym (eqb-true here.die x.die die)) (sym e) in
    let found : list_any q (faults_at x.site x.die rows) ≡ true = list_any_at q (faults_at x.site x.die rows) k f low same in
    wrong _ (any_subject as_fault fault_subject covers_fault (fault_subject x) rows (any_filter q p (each_of as_fault rows) found)) fresh
  where
    wrong : (b : Bool) → b ≡ true → b ≡ false → ⊥
    wrong b h g = cc

-- the same by equal numbers
new_net_at : (rows : List Row) (x : FaultRow) (site die : ℕ) → says_again rows (row.Fault x) ≡ false → x.site ≡ site → x.die ≡ die →
    (k : ℕ) (f : FaultRow) → k < length (faults_at site die rows) → (get_or (faults_at site die rows) k f).net ≡ x.net → ⊥
new_net_at rows x site die fresh at of =
    let P : ℕ → ℕ → Type 0 = λ s d. (k : ℕ) (f : FaultRow) → k < length (faults_at s d rows) → (get_or (faults_at s d rows) k f).net ≡ x.net → ⊥ in
    subst (λ d. P site d) of (subst (λ s. P s x.die) at (new_net rows x fresh))

-- the faults of a die with one more fault
apart_one : (rows : List Row) (f : FaultRow) (site die : ℕ) → AreApart (faults_at site die rows) → says_again rows (row.Fault f) ≡ false →
    (b : Bool) → ((f.site == site) && (f.die == die)) ≡ b → AreApart (faults_at site die rows ++ cond b (f ∷ []) [])
apart_one rows f site die apart fresh true e =
    let (at, of) = and_parts (f.site == site) (f.die == die) e in
    apart_more (faults_at site die rows) f apart (new_net_at rows f site die fresh (eqb-true f.site site at) (eqb-true f.die die of))
apart_one rows f site die apart fresh false e = subst AreApart (sym (append-nil (faults_at site die rows))) apart

-- the faults of a die with one more row
pub faults_apart : (rows : List Row) (x : Row) → ((site die : ℕ) → AreApart (faults_at site die rows)) → says_again rows x ≡ false →
    (site die : ℕ) → AreApart (faults_at site die (rows ++ x ∷ []))
faults_apart rows x apart fresh site die = by (as_fault x) refl
  where
    by : (o : Option FaultRow) → as_fault x ≡ o → AreApart (faults_at site die (rows ++ x ∷ []))
    by None e =
        let p : FaultRow → Bool = λ f. (f.site == site) && (f.die == die) in
        subst AreApart (sym (ap (filter p) (each_of-other as_fault rows x e))) (apart site die)
    by (Some f) e =
        let p : FaultRow → Bool = λ f. (f.site == site) && (f.die == die) in
        let new : says_again rows (row.Fault f) ≡ false =
        ap (λ (s : Subject). list_any (same_subject s) (map subject_of rows)) (sym (covers_fault x f e)) ∙ fresh in
        let more : faults_at site die (rows ++ x ∷ []) ≡ faults_at site die rows ++ filter p (f ∷ []) =
        ap (filter p) (each_of-one as_fault rows x f e) ∙ filter-append p (each_of as_fault rows) (f ∷ []) in
        subst AreApart (sym more) (apart_one rows f site die (apart site die) new (p f) refl)

-- the lot among lots
abbrev lot_among : List LotRow → LotRow
lot_among lots = get_or lots 0 (record { batch = 0; tries = 0; keep = 0 })

-- what a row that is no lot's own adds to what is kept
pub record Adds (before : List Row) (x : Row) : Type 0 where
  pub no_lot : as_lot x ≡ None
  pub clocks : length (each_of as_clock before) + length (one (as_clock x)) ≤ 1
  pub site : All (λ (d : DieRow). d.site ≤ last_site) (one (as_die x))
  pub file : All (λ (d : DieRow). is_name d.file ≡ true) (one (as_die x))
  pub few : length (dies_of before) + length (one (as_die x)) ≤ 4096
  pub kept : (length (dies_of before) + length (one (as_die x))) * ((lot_of before).tries * (lot_of before).keep) ≤ 1048576
  pub fault : All (λ (f : FaultRow). HasDie before f.site f.die) (one (as_fault x))
  pub stop : All (λ (s : StopRow). HasDie before s.site s.die) (one (as_stop x))
  pub bin : All (λ (b : BinRow). (1 ≤ b.bin) × (b.bin ≤ 99)) (one (as_bin x))
  pub fresh : says_again before x ≡ false

-- what rows keep, with one more
pub kept_more : (before : List Row) (x : Row) → AreKept before → Adds before x → AreKept (before ++ x ∷ [])
kept_more before x kept adds =
    let rows : List Row = before ++ x ∷ [] in
    let lots : each_of as_lot rows ≡ each_of as_lot before = each_of-other as_lot before x adds.no_lot in
    let same : lot_of rows ≡ lot_of before = ap lot_among lots in
    let clocks : length (each_of as_clock rows) ≡ length (each_of as_clock before) + length (one (as_clock x)) =
    ap length (each_of-last as_clock before x) ∙ length-append (each_of as_clock before) (one (as_clock x)) in
    let dies : length (dies_of rows) ≡ length (dies_of before) + length (one (as_die x)) =
    ap length (each_of-last as_die before x) ∙ length-append (dies_of before) (one (as_die x)) in
    let product : length (dies_of rows) * ((lot_of rows).tries * (lot_of rows).keep)
    ≡ (length (dies_of before) + length (one (as_die x))) * ((lot_of before).tries * (lot_of before).keep) =
    ap (λ n. n * ((lot_of rows).tries * (lot_of rows).keep)) dies
    ∙ ap (λ (l : LotRow). (length (dies_of before) + length (one (as_die x))) * (l.tries * l.keep)) same in
    let stays : (site die : ℕ) → HasDie before site die → HasDie rows site die = λ site die h. omega (arith, dies_at-le site before x, h) in
    let IsSite : DieRow → Type 0 = λ d. d.site ≤ last_site in
    let IsNamed : DieRow → Type 0 = λ d. is_name d.file ≡ true in
    let FaultIn : FaultRow → Type 0 = λ f. HasDie rows f.site f.die in
    let StopIn : StopRow → Type 0 = λ s. HasDie rows s.site s.die in
    let IsBin : BinRow → Type 0 = λ b. (1 ≤ b.bin) × (b.bin ≤ 99) in
    record {
      lots = ap length lots ∙ kept.lots;
      lot = subst IsLot (sym same) kept.lot;
      clocks = omega (arith, clocks, adds.clocks);
      sites = subst (All IsSite) (sym (each_of-last as_die before x)) (All-append IsSite (dies_of before) (one (as_die x)) kept.sites adds.site);
      files = subst (All IsNamed) (sym (each_of-last as_die before x)) (All-append IsNamed (dies_of before) (one (as_die x)) kept.files adds.file);
      dies = omega (arith, dies, adds.few);
      few_kept = let P : ℕ → Type 0 = λ n. n ≤ 1048576 in subst P (sym product) adds.kept;
      faults = subst (All FaultIn) (sym (each_of-last as_fault before x))
          (All-append FaultIn (each_of as_fault before) (one (as_fault x))
          (λ k f low. stays _ _ (kept.faults k f low)) (λ k f low. stays _ _ (adds.fault k f low)));
      stops = subst (All StopIn) (sym (each_of-last as_stop before x))
          (All-append StopIn (each_of as_stop before) (one (as_stop x))
          (λ k s low. stays _ _ (kept.stops k s low)) (λ k s low. stays _ _ (adds.stop k s low)));
      bins = subst (All IsBin) (sym (each_of-last as_bin before x)) (All-append IsBin (each_of as_bin before) (one (as_bin x)) kept.bins adds.bin);
      one_fault = faults_apart before x kept.one_fault adds.fresh;
    }

-- the kept fails of as many dies
more_dies : (before : List Row) (n : ℕ) → length (dies_of before) * ((lot_of before).tries * (lot_of before).keep) ≤ 1048576 →
    (length (dies_of before) + 0) * ((lot_of before).tries * (lot_of before).keep) ≤ 1048576
more_dies before n h = let P : ℕ → Type 0 = λ m. m * ((lot_of before).tries * (lot_of before).keep) ≤ 1048576 in
    let same : length (dies_of before) ≡ length (dies_of before) + 0 = omega arith in
    subst P same h

none_of : {A : Type 0} (P : A → Type 0) → All P []
none_of P k d low = absurd (omega arith)

one_of : {A : Type 0} (P : A → Type 0) (x : A) → P x → All P (x ∷ [])
one_of P x h zero d low = h
one_of P x h (suc k) d low = absurd (omega arith)

-- where a clock is new, there is none before
no_clock : (before : List Row) (s : List ℕ) → says_again before (row.Clock s) ≡ false → length (each_of as_clock before) ≡ 0
no_clock before s fresh = by (each_of as_clock before) refl
  where
    wrong : (b : Bool) → b ≡ true → b ≡ false → ⊥
    wrong b h g = cc

    by : (clocks : List (List ℕ)) → each_of as_clock before ≡ clocks → length (each_of as_clock before) ≡ 0
    by [] e = ap length e
    by (t ∷ clocks) e =
        let q : List ℕ → Bool = λ a. same_subject (clock_subject s) (clock_subject a) in
        let found : list_any q (each_of as_clock before) ≡ true =
        ap (list_any q) e ∙ or_left (q t) (list_any q clocks) refl in
        absurd (wrong _ (any_subject as_clock clock_subject covers_clock (clock_subject s) before found) fresh)

-- a row that adds neither die, fault, stop nor clock, and maybe a bin
adds_none : (before : List Row) (x : Row) → AreKept before → as_lot x ≡ None → as_clock x ≡ None → as_die x ≡ None → as_fault x ≡ None →
    as_stop x ≡ None → All (λ (b : BinRow). (1 ≤ b.bin) × (b.bin ≤ 99)) (one (as_bin x)) → says_again before x ≡ false → Adds before x
adds_none before x kept no_lot no_clock no_die no_fault no_stop bin fresh =
    let none : length (dies_of before) + length (one (as_die x)) ≡ length (dies_of before) =
    ap (λ (o : Option DieRow). length (dies_of before) + length (one o)) no_die ∙ zeros (length (dies_of before)) in
    record {
      no_lot = no_lot;
      clocks = omega (arith, ap (λ (o : Option (List ℕ)). length (one o)) no_clock, kept.clocks);
      site = subst (λ (o : Option DieRow). All (λ (d : DieRow). d.site ≤ last_site) (one o)) (sym no_die) (none_of _);
      file = subst (λ (o : Option DieRow). All (λ (d : DieRow). is_name d.file ≡ true) (one o)) (sym no_die) (none_of _);
      few = omega (arith, none, kept.dies);
      kept = let P : ℕ → Type 0 = λ n. n * ((lot_of before).tries * (lot_of before).keep) ≤ 1048576 in subst P (sym none) kept.few_kept;
      fault = subst (λ (o : Option FaultRow). All (λ (f : FaultRow). HasDie before f.site f.die) (one o)) (sym no_fault) (none_of _);
      stop = subst (λ (o : Option StopRow). All (λ (s : StopRow). HasDie before s.site s.die) (one o)) (sym no_stop) (none_of _);
      bin = bin;
      fresh = fresh;
    }
  where
    zeros : (n : ℕ) → n + 0 ≡ n
    zeros n = omega arith

-- a row that may follow adds what is kept
pub adds : (before : List Row) (x : Row) → AreKept before → 0 < length before → IsNext before x → Adds before x
adds before (row.Lot l) kept some next = absurd (omega (arith, next.suits.0))
adds before (row.Clock s) kept some next =
    record {
      no_lot = refl;
      clocks = omega (arith, no_clock before s next.fresh);
      site = none_of _;
      file = none_of _;
      few = omega (arith, kept.dies);
      kept = more_dies before 0 kept.few_kept;
      fault = none_of _;
      stop = none_of _;
      bin = none_of _;
      fresh = next.fresh;
    }
adds before (row.Bind b) kept some next = adds_none before (row.Bind b) kept refl refl refl refl refl (none_of _) next.fresh
adds before (row.Skew k) kept some next = adds_none before (row.Skew k) kept refl refl refl refl refl (none_of _) next.fresh
adds before (row.Bin b) kept some next =
    adds_none before (row.Bin b) kept refl refl refl refl refl
    (one_of (λ (c : BinRow). (1 ≤ c.bin) × (c.bin ≤ 99)) b (next.suits.1, next.suits.2)) next.fresh
adds before (row.Die d) kept some next = record {
  no_lot = refl;
  clocks = omega (arith, kept.clocks);
  site = one_of (λ (e : DieRow). e.site ≤ last_site) d next.suits.1;
  file = one_of (λ (e : DieRow). is_name e.file ≡ true) d next.suits.4;
  few = next.suits.2;
  kept = next.suits.3;
  fault = none_of _;
  stop = none_of _;
  bin = none_of _;
  fresh = next.fresh;
}
adds before (row.Fault f) kept some next = record {
  no_lot = refl;
  clocks = omega (arith, kept.clocks);
  site = none_of _;
  file = none_of _;
  few = omega (arith, kept.dies);
  kept = more_dies before 0 kept.few_kept;
  fault = one_of (λ (g : FaultRow). HasDie before g.site g.die) f next.suits.1;
  stop = none_of _;
  bin = none_of _;
  fresh = next.fresh;
}
adds before (row.Stop s) kept some next = record {
  no_lot = refl;
  clocks = omega (arith, kept.clocks);
  site = none_of _;
  file = none_of _;
  few = omega (arith, kept.dies);
  kept = more_dies before 0 kept.few_kept;
  fault = none_of _;
  stop = one_of (λ (t : StopRow). HasDie before t.site t.die) s next.suits.1;
  bin = none_of _;
  fresh = next.fresh;
}

-- the first row, which is the lot's own
first_kept : (x : Row) → Suits [] x → AreKept (x ∷ [])
first_kept (row.Lot l) (none, fits) = record {
  lots = refl;
  lot = fits;
  clocks = omega arith;
  sites = none_of _;
  files = none_of _;
  dies = omega arith;
  few_kept = omega arith;
  faults = none_of _;
  stops = none_of _;
  bins = none_of _;
  one_fault = λ site die k l f g lk ll e. absurd (omega arith);
}
first_kept (row.Clock s) some = absurd (omega (arith, some))
first_kept (row.Bind b) some = absurd (omega (arith, some))
first_kept (row.Die d) some = absurd (omega (arith, some.0))
first_kept (row.Fault f) some = absurd (omega (arith, some.0))
first_kept (row.Stop s) some = absurd (omega (arith, some.0))
first_kept (row.Bin b) some = absurd (omega (arith, some.0))
first_kept (row.Skew k) some = absurd (omega (arith, some))

-- what is kept, with a row that may follow
pub kept_next : (before : List Row) (x : Row) → IsNext before x → (0 < length before → AreKept before) → AreKept (before ++ x ∷ [])
kept_next [] x next kept = first_kept x next.suits
kept_next (y ∷ before) x next kept =
    let some : 0 < length (y ∷ before) = omega arith in
    kept_more (y ∷ before) x (kept some) (adds (y ∷ before) x (kept some) some next)

-- rows that were read keep it
pub kept_read : (before rows : List Row) (records : List (List (List ℕ))) → reading judge before records ≡ Ok rows → (0 < length before → AreKept before) →
    0 < length rows → AreKept rows
kept_read before rows [] is kept some = let same : before ≡ rows = cc in subst AreKept same (kept (omega (arith, ap (λ (l : List Row). length l) same)))
kept_read before rows (r ∷ records) is kept some = by (judge before r) refl (λ x. kept_read (before ++ x ∷ []) rows records) is
  where
    by : (o : Result Row PlanFault) → judge before r ≡ o →
        ((x : Row) → reading judge (before ++ x ∷ []) records ≡ Ok rows
        → (0 < length (before ++ x ∷ []) → AreKept (before ++ x ∷ [])) → 0 < length rows → AreKept rows) →
        and_then o (λ x. reading judge (before ++ x ∷ []) records) ≡ Ok rows → AreKept rows
    by (Ok x) e later is = later x is (λ more. kept_next before x (next_is (length before + 1) before r x e) kept) some
    by (Err e) h later is = cc

pub kept_where_read : (bytes : List ℕ) (rows : List Row) → IsPlan bytes rows → AreKept rows
kept_where_read bytes rows plan = by plan.records plan.read
  where
    no_rows : (rows : List Row) → [] ≡ rows → length rows ≡ 0
    no_rows rows e = ap (λ (l : List Row). length l) (sym e)

    by : (records : List (List (List ℕ))) → plan_of records ≡ Ok rows → AreKept rows
    by [] is = cc
    by (r ∷ records) is = kept_read [] rows (r ∷ records) is (λ none. absurd (omega arith)) (omega (arith, length-reading judge [] rows (r ∷ records) is))
