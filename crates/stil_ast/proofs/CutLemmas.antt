-- What two lists of kept assignments hold is read back: what a further one adds, and what the first one leaves.
use Rattle.std.proofs.Common.{◌≡◌, ◌↔◌, ◌==◌, IsTrue, ℕ, zero, suc, ◌≤◌, List, [], ◌∷◌, ◌++◌, refl, ap, sym, subst, ◌∙◌, arith, append_assoc, length, take, drop, map, Option, Some, None}
use Rattle.std.specs.List.{All, flat_map}
use Rattle.std.specs.Iterator.{AlwaysYields, Drains}
use Rattle.std.proofs.Math.Seq.{take-append_seam, drop-append_seam}
use Rattle.std.proofs.lemmas.Bool.{eqb-true}
use Rattle.std.proofs.lemmas.List.{length-append, map-append, flat_map_more}
use Rattle.std.proofs.lemmas.List.Elements.{All-append, All-cons, All-rest}
use Rattle.std.proofs.lemmas.Iterator.Consumers.{count_from_yields_List}
use Rattle.stil_ast.specs.Data.Items.{KeepRepeats}
use Rattle.stil_ast.specs.Data.Assignments.{TakesAssignment, assignment_said}
use Rattle.stil_ast.specs.Data.AssignmentCuts.{KeptAssignment, kept_said, kept_bytes, kind_numbers, head_bytes, head_of, FitsHead, AreKept, kind_front, head_front, with_head, with_front, assignments_in, assignments_kept}
use Rattle.stil_ast.specs.declared.data.ItemRun.{ItemRun}
use Rattle.stil_ast.specs.declared.assignment_list.AssignmentHead.{AssignmentHead}
use Rattle.stil_ast.specs.declared.assignment_list.AssignmentParts.{AssignmentParts}
use Rattle.stil_ast.specs.declared.body.Assignment.{Assignment}

-- the bytes of assignments, and their runs
abbrev all_bytes : List KeptAssignment → List ℕ
all_bytes kept = flat_map kept_bytes kept

abbrev all_runs : List KeptAssignment → List ItemRun
all_runs kept = flat_map (λ (k : KeptAssignment). k.runs) kept

-- a head that stands in front is read back
head_front-kept_bytes : (kept : KeptAssignment) (rest : List ℕ) → FitsHead kept →
    head_front (kept_bytes kept ++ rest) ≡ Some (head_of kept, kept.bytes ++ rest)
unfolding head_front kind_front
head_front-kept_bytes kept rest fits = search (arith)

-- no head stands in front of nothing
head_front-none : head_front [] ≡ None
unfolding head_front
head_front-none = refl

-- assignments are read back in their order
assignments_in-kept : (kept : List KeptAssignment) (most : ℕ) → All FitsHead kept → length kept ≤ most →
    assignments_in most (all_bytes kept) (all_runs kept) ≡ map kept_said kept
unfolding assignments_in
assignments_in-kept [] zero fit enough = refl
assignments_in-kept [] (suc most) fit enough =
    ap (λ (found : Option (AssignmentHead × List ℕ)). with_front found [] (assignments_in most)) head_front-none
assignments_in-kept (first ∷ more) zero fit enough = elim (let f : ⊥ = omega (arith, enough) in f) [ ]
assignments_in-kept (first ∷ more) (suc most) fit enough =
    ap (λ (found : Option (AssignmentHead × List ℕ)). with_front found (all_runs (first ∷ more)) (assignments_in most))
    (head_front-kept_bytes first (all_bytes more) (fit 0 first (omega arith)))
    ∙ rw (
      take-append_seam first.bytes (all_bytes more),
      drop-append_seam first.bytes (all_bytes more),
      take-append_seam first.runs (all_runs more),
      drop-append_seam first.runs (all_runs more),
    )
    (ap (λ (behind : List Assignment). kept_said first ∷ behind)
    (assignments_in-kept more most (All-rest FitsHead first more (first ∷ more) refl fit) (omega (arith, enough))))

-- each assignment has a byte
length-le-all_bytes : (kept : List KeptAssignment) → length kept ≤ length (all_bytes kept)
length-le-all_bytes [] = omega arith
length-le-all_bytes (first ∷ more) =
    omega (arith, length-le-all_bytes more, length-append (kept_bytes first) (all_bytes more))

-- what two lists hold
pub assignments_kept-are : (texts : List ℕ) (runs : List ItemRun) (cut : AreKept texts runs) →
    assignments_kept texts runs ≡ map kept_said cut.kept
unfolding assignments_kept
assignments_kept-are texts runs cut =
    rw (cut.texts_are, cut.runs_are)
    (assignments_in-kept cut.kept (length (all_bytes cut.kept)) cut.fit (length-le-all_bytes cut.kept))

-- two empty lists hold none
pub assignments_kept-none : assignments_kept [] [] ≡ []
unfolding assignments_kept assignments_in
assignments_kept-none = refl

fit-none : All FitsHead []
fit-none k d below = elim (let f : ⊥ = omega (arith, below) in f) [ ]

-- a further one is held behind the others
pub still_kept : (texts : List ℕ) (runs : List ItemRun) (further : KeptAssignment) → AreKept texts runs → FitsHead further →
    AreKept (texts ++ kept_bytes further) (runs ++ further.runs)
still_kept texts runs further cut fits =
    record {
      kept = cut.kept ++ further ∷ [];
      texts_are = rw cut.texts_are (flat_map_more kept_bytes [] cut.kept further);
      runs_are = rw cut.runs_are (flat_map_more (λ (k : KeptAssignment). k.runs) [] cut.kept further);
      fit = All-append FitsHead cut.kept (further ∷ []) cut.fit (All-cons FitsHead further [] fits fit-none);
    }

pub one_further : (texts : List ℕ) (runs : List ItemRun) (further : KeptAssignment) → AreKept texts runs → FitsHead further →
    assignments_kept (texts ++ kept_bytes further) (runs ++ further.runs) ≡ assignments_kept texts runs ++ kept_said further ∷ []
unfolding still_kept
one_further texts runs further cut fits =
    assignments_kept-are (texts ++ kept_bytes further) (runs ++ further.runs) (still_kept texts runs further cut fits)
    ∙ map-append kept_said cut.kept (further ∷ [])
    ∙ ap (λ (before : List Assignment). before ++ kept_said further ∷ []) (sym (assignments_kept-are texts runs cut))

-- the pieces of a further one
pieces_of : (texts : List ℕ) (kept : KeptAssignment) →
    texts ++ kept_bytes kept ≡ texts ++ head_bytes (head_of kept) ++ kind_numbers kept.reference ++ kept.bytes
pieces_of texts kept = simp append_assoc

-- the same where its head and its kind's own numbers are given
pub still_kept_with : (texts : List ℕ) (runs : List ItemRun) (further : KeptAssignment) (front numbers : List ℕ) →
    AreKept texts runs → FitsHead further → front ≡ head_bytes (head_of further) → numbers ≡ kind_numbers further.reference →
    AreKept (texts ++ front ++ numbers ++ further.bytes) (runs ++ further.runs)
still_kept_with texts runs further front numbers cut fits front_is numbers_are =
    rw (front_is, numbers_are, ← pieces_of texts further) (still_kept texts runs further cut fits)

pub one_further_with : (texts : List ℕ) (runs : List ItemRun) (further : KeptAssignment) (front numbers : List ℕ) →
    AreKept texts runs → FitsHead further → front ≡ head_bytes (head_of further) → numbers ≡ kind_numbers further.reference →
    assignments_kept (texts ++ front ++ numbers ++ further.bytes) (runs ++ further.runs)
    ≡ assignments_kept texts runs ++ kept_said further ∷ []
one_further_with texts runs further front numbers cut fits front_is numbers_are =
    rw (front_is, numbers_are, ← pieces_of texts further) (one_further texts runs further cut fits)

-- what stands behind a head that is in front: its bytes, its runs, and the other assignments
pub record Behind (texts : List ℕ) (runs : List ItemRun) (head : AssignmentHead) (rest : List ℕ) : Type 0 where
  pub bytes_there : head.bytes ≤ length rest
  pub runs_there : head.runs ≤ length runs
  pub others : AreKept (drop head.bytes rest) (drop head.runs runs)
  pub repeats : KeepRepeats (take head.runs runs)
  pub holds :
      assignments_kept texts runs
      ≡ with_head head (take head.bytes rest) (take head.runs runs)
      ∷ assignments_kept (drop head.bytes rest) (drop head.runs runs)

behind-first : (first : KeptAssignment) (more : List KeptAssignment) → All FitsHead (first ∷ more) →
    Behind (all_bytes (first ∷ more)) (all_runs (first ∷ more)) (head_of first) (first.bytes ++ all_bytes more)
behind-first first more fit =
    let others : AreKept (all_bytes more) (all_runs more) = record {
      kept = more;
      texts_are = refl;
      runs_are = refl;
      fit = All-rest FitsHead first more (first ∷ more) refl fit;
    } in
    let all : AreKept (all_bytes (first ∷ more)) (all_runs (first ∷ more)) =
    record { kept = first ∷ more; texts_are = refl; runs_are = refl; fit = fit } in
    record {
      bytes_there = omega (arith, length-append first.bytes (all_bytes more));
      runs_there = omega (arith, length-append first.runs (all_runs more));
      others = rw (drop-append_seam first.bytes (all_bytes more), drop-append_seam first.runs (all_runs more)) others;
      repeats = rw (take-append_seam first.runs (all_runs more)) (fit 0 first (omega arith)).repeats;
      holds = rw (
        drop-append_seam first.bytes (all_bytes more),
        drop-append_seam first.runs (all_runs more),
        take-append_seam first.bytes (all_bytes more),
        take-append_seam first.runs (all_runs more),
      )
          (assignments_kept-are (all_bytes (first ∷ more)) (all_runs (first ∷ more)) all
          ∙ ap (λ (behind : List Assignment). kept_said first ∷ behind)
          (sym (assignments_kept-are (all_bytes more) (all_runs more) others)));
    }

behind-of : (kept : List KeptAssignment) (head : AssignmentHead) (rest : List ℕ) → All FitsHead kept →
    head_front (all_bytes kept) ≡ Some (head, rest) → Behind (all_bytes kept) (all_runs kept) head rest
behind-of [] head rest fit found = elim (let f : ⊥ = cc (head_front-none, found) in f) [ ]
behind-of (first ∷ more) head rest fit found =
    let same : (head_of first, first.bytes ++ all_bytes more) ≡ (head, rest) =
    cc (found, head_front-kept_bytes first (all_bytes more) (fit 0 first (omega arith))) in
    subst (λ (x : AssignmentHead × List ℕ). Behind (all_bytes (first ∷ more)) (all_runs (first ∷ more)) x.0 x.1) same
    (behind-first first more fit)

pub behind_front : (texts : List ℕ) (runs : List ItemRun) (head : AssignmentHead) (rest : List ℕ) → AreKept texts runs →
    head_front texts ≡ Some (head, rest) → Behind texts runs head rest
behind_front texts runs head rest cut found =
    let at : head_front (all_bytes cut.kept) ≡ Some (head, rest) =
    subst (λ (bs : List ℕ). head_front bs ≡ Some (head, rest)) cut.texts_are found in
    rw (cut.texts_are, cut.runs_are) (behind-of cut.kept head rest cut.fit at)

-- where no head is in front, nothing is held
none-of : (kept : List KeptAssignment) → All FitsHead kept → head_front (all_bytes kept) ≡ None → kept ≡ []
none-of [] fit none = refl
none-of (first ∷ more) fit none =
    elim (let f : ⊥ = cc (none, head_front-kept_bytes first (all_bytes more) (fit 0 first (omega arith))) in f) [ ]

pub none_in_front : (texts : List ℕ) (runs : List ItemRun) → AreKept texts runs → head_front texts ≡ None →
    assignments_kept texts runs ≡ []
none_in_front texts runs cut none =
    let at : head_front (all_bytes cut.kept) ≡ None = subst (λ (bs : List ℕ). head_front bs ≡ None) cut.texts_are none in
    assignments_kept-are texts runs cut ∙ ap (λ (kept : List KeptAssignment). map kept_said kept) (none-of cut.kept cut.fit at)

-- no more are held than there are bytes
length-with_front : (found : Option (AssignmentHead × List ℕ)) (runs : List ItemRun) (most : ℕ)
    (behind : List ℕ → List ItemRun → List Assignment) → ((bs : List ℕ) (rs : List ItemRun) → length (behind bs rs) ≤ most) →
    length (with_front found runs behind) ≤ suc most
length-with_front None runs most behind fewer = omega arith
length-with_front (Some found) runs most behind fewer =
    omega (arith, fewer (drop found.0.bytes found.1) (drop found.0.runs runs))

length-assignments_in : (most : ℕ) (texts : List ℕ) (runs : List ItemRun) → length (assignments_in most texts runs) ≤ most
unfolding assignments_in
length-assignments_in zero texts runs = omega arith
length-assignments_in (suc most) texts runs =
    length-with_front (head_front texts) runs most (assignments_in most) (length-assignments_in most)

pub length-assignments_kept : (texts : List ℕ) (runs : List ItemRun) → length (assignments_kept texts runs) ≤ length texts
unfolding assignments_kept
length-assignments_kept texts runs = length-assignments_in (length texts) texts runs

-- where there are no bytes, nothing is held, and else something is
empty-of : (kept : List KeptAssignment) → IsTrue (length (all_bytes kept) == 0) ↔ (map kept_said kept ≡ [])
empty-of [] = (λ _. refl, λ _. refl)
empty-of (first ∷ more) = (
  λ h. elim (let f : ⊥ = omega (arith, eqb-true (length (all_bytes (first ∷ more))) 0 h, length-le-all_bytes (first ∷ more)) in f) [ ],
  λ e. elim (let f : ⊥ = cc e in f) [ ],
)

pub is_empty-texts : (texts : List ℕ) (runs : List ItemRun) → AreKept texts runs →
    IsTrue (length texts == 0) ↔ (assignments_kept texts runs ≡ [])
is_empty-texts texts runs cut = rw (assignments_kept-are texts runs cut, cut.texts_are) (empty-of cut.kept)

-- calls give the assignments that are left, one after another
always_yields : (left : List Assignment) → AlwaysYields TakesAssignment assignment_said left left
always_yields [] = λ x j took. let f : ⊥ = cc took.first in f
always_yields (y ∷ ys) = (
  λ j none. let f : ⊥ = cc none.first.0 in f,
  λ x j took.
      let said : assignment_said x ≡ y = cc took.first in
      let rest : ys ≡ j = cc took.first in
      (said, subst (λ (s : List Assignment). AlwaysYields TakesAssignment assignment_said s ys) rest (always_yields ys)),
)

pub count_is_length : (left : List Assignment) (count : ℕ) →
    ((xs : List AssignmentParts) × Drains TakesAssignment left xs × (count ≡ length xs)) → count ≡ length left
count_is_length left count ran =
    count_from_yields_List {steps = TakesAssignment} {v = assignment_said} left count ran (record { runs = always_yields left })
