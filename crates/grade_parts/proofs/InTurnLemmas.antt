-- The faults of a grade come in their turn, and so do those of its parts, one after another.
use Rattle.std.proofs.Common.{◌≡◌, ℕ, zero, suc, ◌+◌, ◌<◌, ◌≤◌, Bool, true, false, ◌||◌, List, [], ◌∷◌, ◌++◌, length, map, refl, sym, ap, ◌∙◌, subst, arith, inl, inr, append_assoc}
use Rattle.std.specs.Prelude.{Option, Some, None, not, slice_index_or}
use Rattle.std.specs.List.{flat_map, range_with_len, list_any, AllByRecursion}
use Rattle.std.specs.Str.{bytes_eq}
use Rattle.std.proofs.lemmas.Bool.{cases_Bool}
use Rattle.std.proofs.lemmas.List.{append-nil}
use Rattle.std.proofs.lemmas.Slice.Eq.{bytes_eq-Decides}
use Rattle.text_bytes.proofs.ListLemmas.{all_append, all_from}
use Rattle.tester_types.specs.Printing.{printed_name}
use Rattle.bench_net.specs.Circuit.{number}
use Rattle.site_meaning.specs.Part.{Part}
use Rattle.fault_grade.specs.Grade.{graded, faults_of_net, nets_in, faults_in}
use Rattle.fault_grade.specs.declared.graded.Graded.{Graded}
use Rattle.grade_parts.specs.Log.{Stuck}
use Rattle.grade_parts.specs.Turns.{has_net, open_net, comes_next, AreInTurn}
use Rattle.grade_parts.specs.Printed.{AreNames, said_fault, stuck_said}
use Rattle.grade_parts.proofs.TurnLemmas.{open_last}
use Rattle.grade_parts.proofs.PrintedLemmas.{said_tells}

-- ---- names

-- the name of a net as it is printed
abbrev printed_at : List (List ℕ) → ℕ → List ℕ
printed_at names net = printed_name (slice_index_or names net [])

bare_at : (names : List (List ℕ)) (n : ℕ) → AllByRecursion (λ (name : List ℕ). printed_name name ≡ name) names → n < length names
    → printed_at names n ≡ slice_index_or names n []
bare_at [] n bare within = absurd (omega (arith, within))
bare_at (name ∷ names) zero bare within = bare.0
bare_at (name ∷ names) (suc n) bare within = bare_at names n bare.1 (omega (arith, within))

-- nets are printed apart
one_net : (names : List (List ℕ)) (i j : ℕ) → AreNames names → i < length names → j < length names
    → printed_at names i ≡ printed_at names j → i ≡ j
one_net names i j are k l same =
    sym (are.apart i k)
    ∙ ap (number names) (sym (bare_at names i are.bare k) ∙ same ∙ bare_at names j are.bare l)
    ∙ are.apart j l

-- ---- faults so far

-- these are of nets below a number
abbrev AreBelow : List (List ℕ) → ℕ → List Stuck → Type 0
AreBelow names from before =
    AllByRecursion (λ (stuck : Stuck). (net : ℕ) × (net < from) × (stuck.net ≡ printed_at names net)) before

-- a further net is none of theirs
not_below : (names : List (List ℕ)) (from net : ℕ) (before : List Stuck) → AreNames names → from ≤ net → net < length names
    → AreBelow names from before → has_net (printed_at names net) before ≡ false
not_below names from net [] are past within below = refl
not_below names from net (stuck ∷ before) are past within below =
    let rest = not_below names from net before are past within below.1 in
    elim (cases_Bool (bytes_eq (printed_at names net) stuck.net)) [
      | inl y ↦
          let same : printed_at names net ≡ stuck.net = (bytes_eq-Decides (printed_at names net) stuck.net).0 y in
          let one : net ≡ below.0.0 =
          one_net names net below.0.0 are within (omega (arith, below.0.1, past, within)) (same ∙ below.0.2) in
          absurd (omega (arith, one, below.0.1, past))
      | inr other ↦ (λ i. other i || rest i)
    ]

-- ---- all faults in turn

-- the faults of these nets
abbrev faults_from : Part → ℕ → ℕ → List Graded
faults_from part from count = map (graded part) (flat_map faults_of_net (range_with_len from count))

-- what they tell, behind those of nets below
pub record TurnFrom (names : List (List ℕ)) (part : Part) (from count : ℕ) (before : List Stuck) : Type 0 where
  pub turn : AreInTurn before (map (said_fault names) (faults_from part from count))
      (map (stuck_said names) (faults_from part from count))
  pub none : open_net (before ++ map (stuck_said names) (faults_from part from count)) ≡ None

turn_from : (names : List (List ℕ)) (part : Part) (count from : ℕ) (before : List Stuck) → AreNames names
    → from + count ≤ length names → AreBelow names from before → open_net before ≡ None → TurnFrom names part from count before
turn_from names part zero from before are within below none = record {
  turn = tt;
  none = ap open_net (append-nil before) ∙ none;
}
turn_from names part (suc count) from before are within below none =
    let net = printed_at names from in
    let zero_said : Stuck = record { net = net; value = false } in
    let one_said : Stuck = record { net = net; value = true } in
    let first = before ++ zero_said ∷ [] in
    let both = first ++ one_said ∷ [] in
    let fresh = not_below names from from before are (omega arith) (omega (arith, within)) below in
    let at_zero : comes_next (open_net before) before zero_said ≡ true =
    ap (λ (o : Option (List ℕ)). comes_next o before zero_said) none ∙ ap not fresh in
    let waits : open_net first ≡ Some net = open_last before zero_said in
    let at_one : comes_next (open_net first) first one_said ≡ true =
    ap (λ (o : Option (List ℕ)). comes_next o first one_said) waits ∙ (bytes_eq-Decides net net).1 refl in
    let wider : (s : Stuck) → (n : ℕ) × (n < from) × (s.net ≡ printed_at names n)
    → (n : ℕ) × (n < from + 1) × (s.net ≡ printed_at names n) =
    λ s is. (is.0, omega (arith, is.1), is.2) in
    let here : (n : ℕ) × (n < from + 1) × (net ≡ printed_at names n) = (from, omega arith, refl) in
    let more : AreBelow names (from + 1) both =
    all_append (λ (s : Stuck). (n : ℕ) × (n < from + 1) × (s.net ≡ printed_at names n)) first (one_said ∷ [])
    (all_append (λ (s : Stuck). (n : ℕ) × (n < from + 1) × (s.net ≡ printed_at names n)) before (zero_said ∷ [])
    (all_from (λ (s : Stuck). (n : ℕ) × (n < from) × (s.net ≡ printed_at names n))
    (λ (s : Stuck). (n : ℕ) × (n < from + 1) × (s.net ≡ printed_at names n)) wider before below)
    (here, tt)) (here, tt) in
    let rest = turn_from names part count (from + 1) both are (omega (arith, within)) more (open_last first one_said) in
    let later = map (stuck_said names) (faults_from part (from + 1) count) in
    record {
      turn = (
        said_tells names (graded part (record { net = from; value = false })) are.one,
        at_zero,
        (said_tells names (graded part (record { net = from; value = true })) are.one, at_one, rest.turn),
      );
      none = ap open_net
          (sym (append_assoc before (zero_said ∷ []) (one_said ∷ later)) ∙ sym (append_assoc first (one_said ∷ []) later))
          ∙ rest.none;
    }

-- those of all nets
pub turn_all : (names : List (List ℕ)) (part : Part) → AreNames names → nets_in part ≡ length names
    → (told : List Stuck) × AreInTurn [] (map (said_fault names) (map (graded part) (faults_in part))) told × (open_net told ≡ None)
unfolding faults_in
turn_all names part are count =
    let all = turn_from names part (nets_in part) 0 [] are (omega (arith, count)) tt refl in
    (map (stuck_said names) (faults_from part 0 (nets_in part)), all.turn, all.none)
