-- What two rows are about is one thing exactly where their numbers are.
use Rattle.std.proofs.Common.{◌≡◌, ℕ, true, ◌&&◌, ◌||◌, ◌==◌, List, [], ◌∷◌, map, refl, ap, ◌∙◌, eq-eqb}
use Rattle.std.specs.List.{list_any}
use Rattle.std.specs.Str.{bytes_eq}
use Rattle.std.specs.Cmp.Lexicographic.{bytes_decides}
use Rattle.std.proofs.lemmas.Bool.{and_from}
use Rattle.std.proofs.Math.Bool.{and-true}
use Rattle.plan_rows.specs.Subjects.{Subject, the_lot, the_clock, the_signal, the_name, the_net, the_try, the_ending, the_skew, subject_of, same_ending, same_subject}
use Rattle.plan_rows.specs.Inside.{ending_key, subject_key, key_of}
use Rattle.plan_rows.specs.declared.row.Row.{Row}
use Rattle.plan_rows.specs.declared.row.Ending.{Ending}
use Rattle.plan_rows.specs.declared.row.Ending.TheVariants.{Pass, Fail, Stopped, Contact}

-- the numbers of two endings
same_ending-key : (a b : Ending) → bytes_eq (ending_key a) (ending_key b) ≡ same_ending a b
same_ending-key Pass Pass = refl
same_ending-key (Fail e) (Fail f) = and-true (e == f)
same_ending-key Stopped Stopped = refl
same_ending-key Contact Contact = refl
same_ending-key Pass _ = refl
same_ending-key (Fail e) _ = refl
same_ending-key Stopped _ = refl
same_ending-key Contact _ = refl

-- the numbers of two subjects
pub same_subject-key : (a b : Subject) → bytes_eq (subject_key a) (subject_key b) ≡ same_subject a b
same_subject-key the_lot the_lot = refl
same_subject-key the_clock the_clock = refl
same_subject-key (the_signal s) (the_signal t) = refl
same_subject-key (the_name s n) (the_name t m) = refl
same_subject-key (the_net s d n) (the_net t e m) = refl
same_subject-key (the_try s d n) (the_try t e m) = ap (λ b. (s == t) && ((d == e) && b)) (and-true (n == m))
same_subject-key (the_ending a) (the_ending b) = same_ending-key a b
same_subject-key (the_skew s n) (the_skew t m) = refl
same_subject-key the_lot _ = refl
same_subject-key the_clock _ = refl
same_subject-key (the_signal s) _ = refl
same_subject-key (the_name s n) _ = refl
same_subject-key (the_net s d n) _ = refl
same_subject-key (the_try s d n) _ = refl
same_subject-key (the_ending a) _ = refl
same_subject-key (the_skew s n) _ = refl

-- a row is about what earlier rows are about, in numbers
pub same_subject-keys : (before : List Row) (a : Subject)
    → list_any (bytes_eq (subject_key a)) (map key_of before) ≡ list_any (same_subject a) (map subject_of before)
same_subject-keys [] a = refl
same_subject-keys (x ∷ before) a =
    ap (λ b. b || list_any (bytes_eq (subject_key a)) (map key_of before)) (same_subject-key a (subject_of x))
    ∙ ap (λ b. same_subject a (subject_of x) || b) (same_subject-keys before a)

-- one name at one site
pub same_name : (site place : ℕ) (name other : List ℕ) → site ≡ place → name ≡ other
    → same_subject (the_name site name) (the_name place other) ≡ true
same_name site place name other at is = and_from _ _ (eq-eqb site place at) ((bytes_decides name other).1 is)

-- one net of one die
pub same_net : (site place die number : ℕ) (net other : List ℕ) → site ≡ place → die ≡ number → net ≡ other
    → same_subject (the_net site die net) (the_net place number other) ≡ true
same_net site place die number net other at of is =
    and_from _ _ (eq-eqb site place at) (and_from _ _ (eq-eqb die number of) ((bytes_decides net other).1 is))
