-- What rows say again, by their lists.
use Rattle.std.proofs.Common.{◌≡◌, ℕ, Bool, true, false, cond, ◌||◌, ◌==◌, List, [], ◌∷◌, ◌++◌, map, filter, Option, Some, None, refl, sym, ap, ◌∙◌, inl, inr}
use Rattle.std.specs.List.{list_any}
use Rattle.std.specs.Str.{bytes_eq}
use Rattle.std.specs.Cmp.Lexicographic.{bytes_decides}
use Rattle.std.proofs.lemmas.Bool.{eqb-true, or_cases, false_from_ne_true, or_left, or_right}
use Rattle.plan_rows.specs.Rows.{one, each_of, dies_of, as_clock, as_die, as_fault}
use Rattle.plan_rows.specs.Judging.{names_at, says_again}
use Rattle.plan_rows.specs.Subjects.{Subject, the_clock, the_name, the_net, subject_of, same_subject}
use Rattle.plan_rows.proofs.SubjectLemmas.{same_name}
use Rattle.plan_rows.specs.declared.row.Row.{Row}
use Rattle.plan_rows.specs.declared.row.Row.TheVariants as row
use Rattle.plan_rows.specs.declared.row.DieRow.{DieRow}
use Rattle.plan_rows.specs.declared.row.FaultRow.{FaultRow}

-- a subject of one kind is among those of all rows
pub any_subject : {A : Type 0} (f : Row → Option A) (s : A → Subject) → ((x : Row) (a : A) → f x ≡ Some a → subject_of x ≡ s a) →
    (q : Subject) (rows : List Row) → list_any (λ a. same_subject q (s a)) (each_of f rows) ≡ true →
    list_any (same_subject q) (map subject_of rows) ≡ true
any_subject f s covers q [] h = h
any_subject {A} f s covers q (x ∷ rows) h = by (f x) refl (any_subject f s covers q rows) h
  where
    by : (o : Option A) → f x ≡ o →
        (list_any (λ a. same_subject q (s a)) (each_of f rows) ≡ true → list_any (same_subject q) (map subject_of rows) ≡ true) →
        list_any (λ a. same_subject q (s a)) (one o ++ each_of f rows) ≡ true →
        (same_subject q (subject_of x) || list_any (same_subject q) (map subject_of rows)) ≡ true
    by None e rest h = or_right (same_subject q (subject_of x)) _ (rest h)
    by (Some a) e rest h = elim (or_cases (same_subject q (s a)) (list_any (λ b. same_subject q (s b)) (each_of f rows)) h) [
      | inl here ↦ or_left (same_subject q (subject_of x)) _ (ap (same_subject q) (covers x a e) ∙ here)
      | inr later ↦ or_right (same_subject q (subject_of x)) _ (rest later)
    ]

-- the subjects of dies, clocks and faults
abbrev pub die_subject : DieRow → Subject
die_subject d = the_name d.site d.name

abbrev pub fault_subject : FaultRow → Subject
fault_subject f = the_net f.site f.die f.net

abbrev pub clock_subject : List ℕ → Subject
clock_subject s = the_clock

pub covers_die : (x : Row) (d : DieRow) → as_die x ≡ Some d → subject_of x ≡ die_subject d
covers_die (row.Die e) d h = let same : e ≡ d = cc in ap die_subject same
covers_die (row.Lot l) d h = cc
covers_die (row.Clock s) d h = cc
covers_die (row.Bind b) d h = cc
covers_die (row.Fault f) d h = cc
covers_die (row.Stop s) d h = cc
covers_die (row.Bin b) d h = cc
covers_die (row.Skew k) d h = cc

pub covers_fault : (x : Row) (f : FaultRow) → as_fault x ≡ Some f → subject_of x ≡ fault_subject f
covers_fault (row.Fault e) f h = let same : e ≡ f = cc in ap fault_subject same
covers_fault (row.Lot l) f h = cc
covers_fault (row.Clock s) f h = cc
covers_fault (row.Bind b) f h = cc
covers_fault (row.Die d) f h = cc
covers_fault (row.Stop s) f h = cc
covers_fault (row.Bin b) f h = cc
covers_fault (row.Skew k) f h = cc

pub covers_clock : (x : Row) (s : List ℕ) → as_clock x ≡ Some s → subject_of x ≡ clock_subject s
covers_clock (row.Clock e) s h = refl
covers_clock (row.Lot l) s h = cc
covers_clock (row.Bind b) s h = cc
covers_clock (row.Die d) s h = cc
covers_clock (row.Fault f) s h = cc
covers_clock (row.Stop x) s h = cc
covers_clock (row.Bin b) s h = cc
covers_clock (row.Skew k) s h = cc

-- a name at a site is a die's subject
named : (site : ℕ) (name : List ℕ) (dies : List DieRow) →
    list_any (bytes_eq name) (map (λ (d : DieRow). d.name) (filter (λ (d : DieRow). d.site == site) dies)) ≡ true →
    list_any (λ d. same_subject (the_name site name) (die_subject d)) dies ≡ true
named site name [] h = h
named site name (d ∷ dies) h = by (d.site == site) refl (named site name dies) h
  where
    by : (b : Bool) → (d.site == site) ≡ b →
        (list_any (bytes_eq name) (map (λ (d : DieRow). d.name) (filter (λ (d : DieRow). d.site == site) dies)) ≡ true →
        list_any (λ d. same_subject (the_name site name) (die_subject d)) dies ≡ true) →
        list_any (bytes_eq name) (map (λ (d : DieRow). d.name)
        (cond b (d ∷ filter (λ (d : DieRow). d.site == site) dies) (filter (λ (d : DieRow). d.site == site) dies))) ≡ true →
        (same_subject (the_name site name) (die_subject d) || list_any (λ d. same_subject (the_name site name) (die_subject d)) dies) ≡ true
    by false e rest h = or_right (same_subject (the_name site name) (die_subject d)) _ (rest h)
    by true e rest h = elim (or_cases (bytes_eq name d.name) _ h) [
      | inl here ↦ or_left _ _ (same_name site d.site name d.name (sym (eqb-true d.site site e)) ((bytes_decides name d.name).0 here))
      | inr later ↦ or_right (same_subject (the_name site name) (die_subject d)) _ (rest later)
    ]

not_both : (b : Bool) → b ≡ true → b ≡ false → ⊥
not_both b h g = cc

-- a die that says nothing again has a new name at its site
pub fresh_name : (rows : List Row) (d : DieRow) → says_again rows (row.Die d) ≡ false → list_any (bytes_eq d.name) (names_at d.site rows) ≡ false
fresh_name rows d fresh = false_from_ne_true _ (λ h. not_both _
    (any_subject as_die die_subject covers_die (the_name d.site d.name) rows (named d.site d.name (dies_of rows) h)) fresh)
