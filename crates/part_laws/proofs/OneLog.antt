-- A text is a datalog of dies with given names in one way: `one_log`.
use Rattle.std.proofs.Common.{◌≡◌, ℕ, ◌+◌, ◌≤◌, true, List, [], ◌∷◌, ◌++◌, refl, sym, ap, ◌∙◌, subst, arith, append_assoc}
use Rattle.std.specs.List.{AllByRecursion, flat_map}
use Rattle.std.proofs.lemmas.List.{append_cancel_left}
use Rattle.datalog.specs.DatalogText.{die_line, bin_line, site_line, totals_text}
use Rattle.text_bytes.proofs.ListLemmas.{all_append}
use Rattle.part_lines.specs.Lines.{is_one_line, ended}
use Rattle.part_lines.proofs.LineLemmas.{one_reading}
use Rattle.log_parts.specs.Tries.{TryLog, IsTryLine, IsVerdictLine, is_fail_line, try_lines, AreFails, IsTry, AreTries}
use Rattle.log_parts.specs.Log.{DieLog, IsDieLog, AreDieLogs, AreLogs, IsLog, die_text, dies_text, sites_text, bins_of, log_text}
use Rattle.log_parts.specs.Step.{bin_words}
use Rattle.log_parts.proofs.WordLemmas.{one_bin, one_fail, one_bin_said, try_is_no_bin, fail_is_no_bin, verdict_is_no_bin}
use Rattle.log_parts.proofs.SaidLemmas.{one_try, one_verdict}

-- ---- a bin

-- one line, which is none of a bin
record IsNoBin (line : List ℕ) : Type 0 where
  one : is_one_line line ≡ true
  other : (bin : ℕ) → line ≡ bin_words bin → ⊥

-- those of fails
fails_no_bin : (fails : List (List ℕ)) → AreFails fails → AllByRecursion IsNoBin fails
fails_no_bin [] are = tt
fails_no_bin (line ∷ fails) are = (
  record {
    one = one_fail line are.0;
    other = λ bin e. fail_is_no_bin bin (subst (λ (l : List ℕ). is_fail_line l ≡ true) e are.0);
  },
  fails_no_bin fails are.1,
)

-- those of a try
try_no_bin : (number : ℕ) (t : TryLog) → IsTry number t → AllByRecursion IsNoBin (try_lines t)
try_no_bin number t is = (
  record { one = one_try number t.head is.head; other = λ bin e. try_is_no_bin number bin (subst (IsTryLine number) e is.head) },
  all_append IsNoBin t.fails (t.verdict ∷ []) (fails_no_bin t.fails is.fails)
      (record { one = one_verdict t.verdict is.verdict; other = λ bin e. verdict_is_no_bin bin (subst IsVerdictLine e is.verdict) }, tt),
)

-- those of tries
tries_no_bin : (number : ℕ) (tries : List TryLog) → AreTries number tries → AllByRecursion IsNoBin (flat_map try_lines tries)
tries_no_bin number [] are = tt
tries_no_bin number (t ∷ tries) are =
    all_append IsNoBin (try_lines t) (flat_map try_lines tries) (try_no_bin number t are.0) (tries_no_bin (number + 1) tries are.1)

-- those of a die
die_no_bin : (log : DieLog) → IsDieLog log → AllByRecursion IsNoBin log.body
die_no_bin log is =
    subst (λ (l : List (List ℕ)). AllByRecursion IsNoBin l) (sym is.lines) (tries_no_bin 1 is.tries is.are)

-- ---- a die

-- lines up to a bin, and what stands behind it
one_rest_of_die : (a b : List (List ℕ)) (m n : ℕ) (x y : List ℕ)
    → AllByRecursion IsNoBin a
    → AllByRecursion IsNoBin b → m ≤ 99 → n ≤ 99
    → flat_map ended a ++ (bin_line m ++ x) ≡ flat_map ended b ++ (bin_line n ++ y)
    → (a ≡ b) × (m ≡ n) × (x ≡ y)
one_rest_of_die [] [] m n x y p q low high e =
    let both = one_reading (bin_words m) (bin_words n) x y (one_bin m) (one_bin n) e in
    (refl, one_bin_said m n low high both.0, both.1)
one_rest_of_die [] (l ∷ b) m n x y p q low high e =
    let both = one_reading (bin_words m) l x (flat_map ended b ++ (bin_line n ++ y)) (one_bin m) q.0.one
    (e ∙ append_assoc (ended l) (flat_map ended b) (bin_line n ++ y)) in
    absurd (q.0.other m (sym both.0))
one_rest_of_die (k ∷ a) [] m n x y p q low high e =
    let both = one_reading k (bin_words n) (flat_map ended a ++ (bin_line m ++ x)) y p.0.one (one_bin n)
    (sym (append_assoc (ended k) (flat_map ended a) (bin_line m ++ x)) ∙ e) in
    absurd (p.0.other n both.0)
one_rest_of_die (k ∷ a) (l ∷ b) m n x y p q low high e =
    let both = one_reading k l (flat_map ended a ++ (bin_line m ++ x)) (flat_map ended b ++ (bin_line n ++ y)) p.0.one q.0.one
    (sym (append_assoc (ended k) (flat_map ended a) (bin_line m ++ x)) ∙ e ∙ append_assoc (ended l) (flat_map ended b) (bin_line n ++ y)) in
    let rest = one_rest_of_die a b m n x y p.1 q.1 low high both.1 in
    (ap (λ (h : List ℕ). h ∷ a) both.0 ∙ ap (λ (t : List (List ℕ)). l ∷ t) rest.0, rest.1, rest.2)

-- a die in front of others
die_split : (name : List ℕ) (log : DieLog) (d x : List ℕ)
    → (die_text name log ++ d) ++ x
    ≡ die_line name ++ (flat_map ended log.body ++ (bin_line log.bin ++ (d ++ x)))
die_split name log d x =
    append_assoc (die_text name log) d x
    ∙ append_assoc (die_line name ++ flat_map ended log.body) (bin_line log.bin) (d ++ x)
    ∙ append_assoc (die_line name) (flat_map ended log.body) (bin_line log.bin ++ (d ++ x))

-- dies with these names, and what stands behind them
one_dies : (names : List (List ℕ)) (a b : List DieLog) (x y : List ℕ) → AreDieLogs names a
    → AreDieLogs names b
    → dies_text names a ++ x ≡ dies_text names b ++ y → (a ≡ b) × (x ≡ y)
one_dies [] [] [] x y p q e = (refl, e)
one_dies [] (k ∷ a) b x y p q e = absurd (omega (arith, p.0))
one_dies [] [] (l ∷ b) x y p q e = absurd (omega (arith, q.0))
one_dies (n ∷ names) [] b x y p q e = absurd (omega (arith, p.0))
one_dies (n ∷ names) (k ∷ a) [] x y p q e = absurd (omega (arith, q.0))
one_dies (n ∷ names) (k ∷ a) (l ∷ b) x y p q e =
    let first = one_rest_of_die k.body l.body k.bin l.bin (dies_text names a ++ x) (dies_text names b ++ y) (die_no_bin k p.1.0) (die_no_bin l q.1.0) p.1.0.last q.1.0.last
    (append_cancel_left (die_line n) (flat_map ended k.body ++ (bin_line k.bin ++ (dies_text names a ++ x)))
    (flat_map ended l.body ++ (bin_line l.bin ++ (dies_text names b ++ y)))
    (sym (die_split n k (dies_text names a) x) ∙ e ∙ die_split n l (dies_text names b) y)) in
    let rest = one_dies names a b x y (omega (arith, p.0), p.1.1) (omega (arith, q.0), q.1.1) first.2 in
    let same : k ≡ l = λ i. record { body = first.0 i; bin = first.1 i } in
    (ap (λ (h : DieLog). h ∷ a) same ∙ ap (λ (t : List DieLog). l ∷ t) rest.0, rest.1)

-- ---- all sites

-- a site in front of others
site_split : (number : ℕ) (d s x : List ℕ)
    → (site_line number ++ d ++ s) ++ x ≡ site_line number ++ (d ++ (s ++ x))
site_split number d s x = append_assoc (site_line number ++ d) s x ∙ append_assoc (site_line number) d (s ++ x)

-- sites from a number on
one_sites : (number : ℕ) (names : List (List (List ℕ))) (a b : List (List DieLog)) (x y : List ℕ)
    → AreLogs names a → AreLogs names b
    → sites_text number names a ++ x ≡ sites_text number names b ++ y → a ≡ b
one_sites number [] [] [] x y p q e = refl
one_sites number [] (k ∷ a) b x y p q e = absurd p
one_sites number [] [] (l ∷ b) x y p q e = absurd q
one_sites number (n ∷ names) [] b x y p q e = absurd p
one_sites number (n ∷ names) (k ∷ a) [] x y p q e = absurd q
one_sites number (n ∷ names) (k ∷ a) (l ∷ b) x y p q e =
    let first = one_dies n k l (sites_text (number + 1) names a ++ x) (sites_text (number + 1) names b ++ y) p.0 q.0
    (append_cancel_left (site_line number) (dies_text n k ++ (sites_text (number + 1) names a ++ x))
    (dies_text n l ++ (sites_text (number + 1) names b ++ y))
    (sym (site_split number (dies_text n k) (sites_text (number + 1) names a) x) ∙ e
    ∙ site_split number (dies_text n l) (sites_text (number + 1) names b) y)) in
    ap (λ (h : List DieLog). h ∷ a) first.0 ∙ ap (λ (t : List (List DieLog)). l ∷ t) (one_sites (number + 1) names a b x y p.1 q.1 first.1)

-- what a datalog says is one thing
pub one_log : (names : List (List (List ℕ))) (text : List ℕ) (a b : List (List DieLog))
    → IsLog names text a → IsLog names text b → a ≡ b
unfolding log_text
one_log names text a b p q =
    one_sites 0 names a b (totals_text (bins_of a)) (totals_text (bins_of b)) p.are q.are (sym p.is ∙ q.is)
