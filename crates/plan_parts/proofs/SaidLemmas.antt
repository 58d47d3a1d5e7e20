-- What rows of a cut say again: only what the rows said again.
use Rattle.std.proofs.Common.{◌≡◌, ℕ, Bool, true, ◌&&◌, ◌||◌, ◌==◌, List, [], ◌∷◌, ◌++◌, map, Option, Some, None, refl, sym, ap, ◌∙◌, inl, inr}
use Rattle.std.specs.List.{list_any}
use Rattle.std.specs.Str.{bytes_eq}
use Rattle.std.specs.Option.{option_map}
use Rattle.std.proofs.lemmas.Bool.{eq-eqb, eqb-true, and_parts, and_from, or_cases, or_left, or_right}
use Rattle.plan_rows.specs.declared.row.Row.{Row}
use Rattle.plan_rows.specs.Rows.{one, site_in}
use Rattle.plan_rows.specs.Judging.{says_again}
use Rattle.plan_rows.specs.Subjects.{Subject, the_lot, the_clock, the_signal, the_name, the_net, the_try, the_ending, the_skew, subject_of, same_subject}
use Rattle.plan_parts.specs.Moved.{moved}
use Rattle.plan_parts.proofs.CutLemmas.{IsCut, Counts, AllCount, by_kind, cut_rows, said_at}

-- a subject at another site
abbrev pub subject_to : ℕ → Subject → Subject
subject_to n the_lot = the_lot
subject_to n the_clock = the_clock
subject_to n (the_signal signal) = the_signal signal
subject_to n (the_name site name) = the_name n name
subject_to n (the_net site die net) = the_net n die net
subject_to n (the_try site die number) = the_try n die number
subject_to n (the_ending ending) = the_ending ending
subject_to n (the_skew site signal) = the_skew n signal

-- the site of a subject
abbrev pub subject_site : Subject → Option ℕ
subject_site the_lot = None
subject_site the_clock = None
subject_site (the_signal signal) = None
subject_site (the_name site name) = Some site
subject_site (the_net site die net) = Some site
subject_site (the_try site die number) = Some site
subject_site (the_ending ending) = None
subject_site (the_skew site signal) = Some site

-- what a row is about at another site
subject-moved : (n : ℕ) (r : Row) → subject_of (moved n r) ≡ subject_to n (subject_of r)
subject-moved n =
    by_kind (λ r. subject_of (moved n r) ≡ subject_to n (subject_of r)) (λ l. refl) (λ s. refl) (λ b. refl) (λ b. refl) (λ d. refl) (λ f. refl) (λ s. refl) (λ k. refl)

-- the site of what a row is about
site-subject : (r : Row) → subject_site (subject_of r) ≡ site_in r
site-subject =
    by_kind (λ r. subject_site (subject_of r) ≡ site_in r) (λ l. refl) (λ s. refl) (λ b. refl) (λ b. refl) (λ d. refl) (λ f. refl) (λ s. refl) (λ k. refl)

-- with sites that are one where the numbers are
one_place : (n m s t : ℕ) (b : Bool) → ((x y : ℕ) → Some s ≡ Some x → Some t ≡ Some y → n ≡ m → x ≡ y) → ((n == m) && b) ≡ true → ((s == t) && b) ≡ true
one_place n m s t b one h =
    let both = and_parts (n == m) b h in
    and_from (s == t) b (eq-eqb s t (one s t refl refl (eqb-true n m both.0))) both.1

-- what is one thing under numbers is one thing
same_moved : (a b : Subject) (n m : ℕ) → ((s t : ℕ) → subject_site a ≡ Some s → subject_site b ≡ Some t → n ≡ m → s ≡ t)
    → same_subject (subject_to n a) (subject_to m b) ≡ true → same_subject a b ≡ true
same_moved the_lot the_lot n m one h = refl
same_moved the_clock the_clock n m one h = refl
same_moved (the_signal s) (the_signal t) n m one h = h
same_moved (the_name s x) (the_name t y) n m one h = one_place n m s t (bytes_eq x y) one h
same_moved (the_net s d x) (the_net t e y) n m one h = one_place n m s t ((d == e) && bytes_eq x y) one h
same_moved (the_try s d x) (the_try t e y) n m one h = one_place n m s t ((d == e) && (x == y)) one h
same_moved (the_ending a) (the_ending b) n m one h = h
same_moved (the_skew s x) (the_skew t y) n m one h = one_place n m s t (bytes_eq x y) one h
same_moved the_lot _ n m one h = cc
same_moved the_clock _ n m one h = cc
same_moved (the_signal s) _ n m one h = cc
same_moved (the_name s x) _ n m one h = cc
same_moved (the_net s d x) _ n m one h = cc
same_moved (the_try s d x) _ n m one h = cc
same_moved (the_ending a) _ n m one h = cc
same_moved (the_skew s x) _ n m one h = cc

-- ---- a row of a cut

-- the number of a row's site, or any number
abbrev pub Numbered : (ℕ → Option ℕ) → Row → ℕ → Type 0
Numbered cut r n = (s : ℕ) → site_in r ≡ Some s → cut s ≡ Some n

-- a row of no site stays
pub moved-stays : (n : ℕ) (r : Row) → site_in r ≡ None → moved n r ≡ r
moved-stays n =
    by_kind (λ r. site_in r ≡ None → moved n r ≡ r) (λ l e. refl) (λ s e. refl) (λ b e. refl) (λ b e. refl)
    (λ d e. wrong d.site e) (λ f e. wrong f.site e) (λ s e. wrong s.site e) (λ k e. wrong k.site e)
  where
    wrong : {A : Type 0} (s : ℕ) → Some s ≡ None → A
    wrong s e = cc

module _ (cut : ℕ → Option ℕ) (counts : ℕ → Bool) (is_cut : IsCut cut counts) (x : Row) (n : ℕ) (own : Counts counts x) (to : Numbered cut x n) where
  -- a row under its number says what x says there: it says what x says
  said_one : (y : Row) (m : ℕ) → Counts counts y → Numbered cut y m → same_subject (subject_of (moved n x)) (subject_of (moved m y)) ≡ true
      → same_subject (subject_of x) (subject_of y) ≡ true
  said_one y m owns there h =
      same_moved (subject_of x) (subject_of y) n m
      (λ s t at by same. is_cut.single s t n (own s (sym (site-subject x) ∙ at)) (owns t (sym (site-subject y) ∙ by))
      (to s (sym (site-subject x) ∙ at)) (there t (sym (site-subject y) ∙ by) ∙ ap Some (sym same)))
      (ap (λ (a : Subject). same_subject a (subject_to m (subject_of y))) (sym (subject-moved n x))
      ∙ ap (same_subject (subject_of (moved n x))) (sym (subject-moved m y)) ∙ h)

  -- so rows of the cut say again only what the rows do
  pub said_cut : (before : List Row) → AllCount counts before → says_again (cut_rows cut before) (moved n x) ≡ true → says_again before x ≡ true
  said_cut [] all h = cc
  said_cut (y ∷ ys) all h = by (said_cut ys all.1) (site_in y) refl h
    where
      here : (says_again (cut_rows cut ys) (moved n x) ≡ true → says_again ys x ≡ true) → (m : ℕ) (y' : Row) → moved m y ≡ y' → Numbered cut y m
          → (same_subject (subject_of (moved n x)) (subject_of y') || list_any (same_subject (subject_of (moved n x))) (map subject_of (cut_rows cut ys))) ≡ true
          → (same_subject (subject_of x) (subject_of y) || says_again ys x) ≡ true
      here rest m y' is there h = elim (or_cases (same_subject (subject_of (moved n x)) (subject_of y')) _ h) [
        | inl now ↦ or_left (same_subject (subject_of x) (subject_of y)) _
            (said_one y m all.0 there (ap (λ (r : Row). same_subject (subject_of (moved n x)) (subject_of r)) is ∙ now))
        | inr later ↦ or_right (same_subject (subject_of x) (subject_of y)) _ (rest later)
      ]

      none_some : {A : Type 0} (s : ℕ) → ◌≡◌ {A = Option ℕ} None (Some s) → A
      none_some s e = cc

      same : (s t : ℕ) → ◌≡◌ {A = Option ℕ} (Some s) (Some t) → s ≡ t
      same s t e = cc

      of_cut : (says_again (cut_rows cut ys) (moved n x) ≡ true → says_again ys x ≡ true) → (t : ℕ) (o : Option ℕ) → site_in y ≡ Some t → cut t ≡ o
          → list_any (same_subject (subject_of (moved n x))) (map subject_of (one (option_map (λ m. moved m y) o) ++ cut_rows cut ys)) ≡ true
          → (same_subject (subject_of x) (subject_of y) || says_again ys x) ≡ true
      of_cut rest t None at is h = or_right (same_subject (subject_of x) (subject_of y)) _ (rest h)
      of_cut rest t (Some m) at is h = here rest m (moved m y) refl (λ s e. ap cut (same s t (sym e ∙ at)) ∙ is) h

      by : (says_again (cut_rows cut ys) (moved n x) ≡ true → says_again ys x ≡ true) → (o : Option ℕ) → site_in y ≡ o
          → list_any (same_subject (subject_of (moved n x))) (map subject_of (one (said_at cut y (λ m. moved m y) o) ++ cut_rows cut ys)) ≡ true
          → (same_subject (subject_of x) (subject_of y) || says_again ys x) ≡ true
      by rest None at h = here rest 0 y (moved-stays 0 y at) (λ s e. none_some s (sym at ∙ e)) h
      by rest (Some t) at h = of_cut rest t (cut t) at refl h
