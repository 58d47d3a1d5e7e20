-- Faults that come one after another, as they are told and as they are known.
use Rattle.std.proofs.Common.{◌≡◌, ℕ, Bool, true, false, not, ◌&&◌, ◌||◌, cond, List, [], ◌∷◌, ◌++◌, refl, sym, ap, subst, ◌∙◌, append_assoc}
use Rattle.std.specs.Prelude.{codes, map, Option, Some, None}
use denote.Ref.{Bor}
use Rattle.indexmap.specs.IndexSet.{IndexSet, keys}
use Rattle.std.specs.List.{AllByRecursion}
use Rattle.std.specs.Str.{bytes_eq}
use Rattle.std.proofs.lemmas.Bool.{and_parts, and_from, false≢true}
use Rattle.std.proofs.lemmas.List.{append-nil}
use Rattle.std.proofs.lemmas.List.Folds.{list_any-append}
use Rattle.std.proofs.lemmas.Slice.Eq.{bytes_eq-Decides}
use Rattle.text_bytes.specs.Bytes.{is_digit}
use Rattle.text_bytes.proofs.ListLemmas.{all_append, list_any-map}
use Rattle.text_bytes.proofs.TextLemmas.{bytes_eq-comm}
use Rattle.part_lines.specs.Lines.{is_one_line, ended}
use Rattle.part_lines.specs.Words.{is_named}
use Rattle.part_lines.proofs.LineLemmas.{one_append}
use Rattle.grade_parts.specs.Log.{Stuck, Tells, AreFaults}
use Rattle.grade_parts.specs.Turns.{has_net, open_net, comes_next, AreInTurn}
use Rattle.grade_parts.specs.Step.{has_in, Known, knows_net, Knows, next_by, open_behind, stuck_of, IsMore, AreMore, IsFirst, LacksNext}
use Rattle.grade_parts.proofs.LineLemmas.{one_first}
use Rattle.grade_parts.proofs.SaidLemmas.{one_told, net_one}

-- ---- lines in turn

pub turn_faults : (before : List Stuck) (lines : List (List ℕ)) (told : List Stuck) → AreInTurn before lines told → AreFaults lines
turn_faults before [] told turn = tt
turn_faults before (line ∷ lines) [] turn = absurd turn
turn_faults before (line ∷ lines) (stuck ∷ told) turn =
    ((stuck, turn.0), turn_faults (before ++ stuck ∷ []) lines told turn.2)

-- lines of two texts, one after the other
pub turn_split : (xs ys : List (List ℕ)) (before all : List Stuck) → AreInTurn before (xs ++ ys) all
    → (told later : List Stuck) × (all ≡ told ++ later) × AreInTurn before xs told × AreInTurn (before ++ told) ys later
turn_split [] ys before all turn =
    ([], all, refl, tt, subst (λ (b : List Stuck). AreInTurn b ys all) (sym (append-nil before)) turn)
turn_split (x ∷ xs) ys before [] turn = absurd turn
turn_split (x ∷ xs) ys before (stuck ∷ all) turn =
    let rest = turn_split xs ys (before ++ stuck ∷ []) all turn.2 in (
      stuck ∷ rest.0,
      rest.1,
      ap (λ (l : List Stuck). stuck ∷ l) rest.2,
      (turn.0, turn.1, rest.3),
      subst (λ (b : List Stuck). AreInTurn b ys rest.1) (append_assoc before (stuck ∷ []) rest.0) rest.4,
    )

pub turn_join : (xs ys : List (List ℕ)) (before told later : List Stuck) → AreInTurn before xs told
    → AreInTurn (before ++ told) ys later → AreInTurn before (xs ++ ys) (told ++ later)
turn_join [] ys before [] later turn more = subst (λ (b : List Stuck). AreInTurn b ys later) (append-nil before) more
turn_join [] ys before (stuck ∷ told) later turn more = absurd turn
turn_join (x ∷ xs) ys before [] later turn more = absurd turn
turn_join (x ∷ xs) ys before (stuck ∷ told) later turn more = (
  turn.0,
  turn.1,
  turn_join xs ys (before ++ stuck ∷ []) told later turn.2
      (subst (λ (b : List Stuck). AreInTurn b ys later) (sym (append_assoc before (stuck ∷ []) told)) more),
)

-- lines tell of one list of faults
pub one_turn : (lines : List (List ℕ)) (before told other : List Stuck) → AreInTurn before lines told
    → AreInTurn before lines other → told ≡ other
one_turn [] before [] [] turn was = refl
one_turn [] before (stuck ∷ told) other turn was = absurd turn
one_turn [] before [] (stuck ∷ other) turn was = absurd was
one_turn (line ∷ lines) before [] other turn was = absurd turn
one_turn (line ∷ lines) before (stuck ∷ told) [] turn was = absurd was
one_turn (line ∷ lines) before (stuck ∷ told) (this ∷ other) turn was =
    let same : this ≡ stuck = one_told line this stuck was.0 turn.0 in
    let rest = one_turn lines (before ++ stuck ∷ []) told other turn.2
    (subst (λ (s : Stuck). AreInTurn (before ++ s ∷ []) lines other) same was.2) in
    λ i. sym same i ∷ rest i

-- ---- what is open

pub open_last : (before : List Stuck) (stuck : Stuck) → open_net (before ++ stuck ∷ []) ≡ open_behind stuck
open_last [] stuck = refl
open_last (b ∷ []) stuck = refl
open_last (b ∷ c ∷ before) stuck = open_last (c ∷ before) stuck

-- names as they are printed, without line feeds
abbrev pub AreNamed : List Stuck → Type 0
AreNamed all = AllByRecursion (λ (stuck : Stuck). (is_named stuck.net && is_one_line stuck.net) ≡ true) all

open_named : (all : List Stuck) (net : List ℕ) → AreNamed all → open_net all ≡ Some net → (is_named net && is_one_line net) ≡ true
open_named [] net named e = cc
open_named (stuck ∷ []) net named e = by_value stuck.value e
  where
    by_value : (value : Bool) → cond {A = Option (List ℕ)} value None (Some stuck.net) ≡ Some net → (is_named net && is_one_line net) ≡ true
    by_value true e = cc
    by_value false e = let same : stuck.net ≡ net = cc in ap (λ (n : List ℕ). is_named n && is_one_line n) (sym same) ∙ named.0
open_named (stuck ∷ next ∷ all) net named e = open_named (next ∷ all) net named.1 e

-- lines behind these, after which no net is open
pub record Closes (all : List Stuck) : Type 0 where
  pub lines : List (List ℕ)
  pub told : List Stuck
  pub turn : AreInTurn all lines told
  pub none : open_net (all ++ told) ≡ None

pub closed : (all : List Stuck) → AreNamed all → Closes all
unfolding is_digit
closed all named = by_open (open_net all) refl
  where
    by_open : (o : Option (List ℕ)) → open_net all ≡ o → Closes all
    by_open None e = record {
      lines = [];
      told = [];
      turn = tt;
      none = ap open_net (append-nil all) ∙ e;
    }
    by_open (Some net) e =
        let parts = and_parts (is_named net) (is_one_line net) (open_named all net named e) in
        let stuck : Stuck = record { net = net; value = true } in
        let next : comes_next (open_net all) all stuck ≡ true =
        ap (λ (o : Option (List ℕ)). comes_next o all stuck) e ∙ (bytes_eq-Decides net net).1 refl in
        let tells : Tells (codes "fault " ++ net ++ codes " 1 " ++ codes "none") stuck = record {
          one = one_append (codes "fault " ++ net ++ codes " 1 ") (codes "none")
              (one_append (codes "fault " ++ net) (codes " 1 ") (one_append (codes "fault ") net refl parts.1) refl) refl;
          is_net = parts.0;
          cycle = codes "none";
          is_cycle = refl;
          is = refl;
        } in
        record {
          lines = (codes "fault " ++ net ++ codes " 1 " ++ codes "none") ∷ [];
          told = stuck ∷ [];
          turn = (tells, next, tt);
          none = open_last all stuck;
        }

-- ---- what is known

next_same : (known : Known) (before : List Stuck) (stuck : Stuck) → Knows known before
    → next_by known.waiting known stuck ≡ comes_next (open_net before) before stuck
next_same known before stuck knows =
    ap (λ (o : Option (List ℕ)). next_by o known stuck) knows.waits ∙ by_open (open_net before)
  where
    by_open : (o : Option (List ℕ)) → next_by o known stuck ≡ comes_next o before stuck
    by_open None = ap (λ (b : Bool). not stuck.value && not b) (knows.has stuck.net)
    by_open (Some net) = refl

pub knows_more : (known now : Known) (before : List Stuck) (line : List ℕ) (stuck : Stuck) → Knows known before
    → Tells line stuck → IsMore known now stuck → Knows now (before ++ stuck ∷ [])
knows_more known now before line stuck knows tells more = record {
  has = λ net. more.has net
      ∙ (λ i. knows.has net i || bytes_eq-comm stuck.net net i)
      ∙ or_none (has_net net before) (bytes_eq net stuck.net)
      ∙ sym (list_any-append (λ (s : Stuck). bytes_eq net s.net) before (stuck ∷ []));
  waits = more.waits ∙ sym (open_last before stuck);
  named = all_append (λ (s : Stuck). (is_named s.net && is_one_line s.net) ≡ true) before (stuck ∷ []) knows.named
      (and_from (is_named stuck.net) (is_one_line stuck.net) tells.is_net (net_one line stuck tells), tt);
}
  where
    or_none : (a b : Bool) → (a || b) ≡ (a || (b || false))
    or_none true b = refl
    or_none false true = refl
    or_none false false = refl

-- lines in turn, by what is known
pub turn_known : (lines : List (List ℕ)) (known now : Known) (before told : List Stuck) → Knows known before
    → AreMore known lines told now → AreInTurn before lines told × Knows now (before ++ told)
turn_known [] known now before [] knows more =
    (tt, subst (λ (b : List Stuck). Knows now b) (sym (append-nil before)) (subst (λ (k : Known). Knows k before) (sym more) knows))
turn_known [] known now before (stuck ∷ told) knows more = absurd more
turn_known (line ∷ lines) known now before [] knows more = absurd more
turn_known (line ∷ lines) known now before (stuck ∷ told) knows more =
    let rest = turn_known lines more.0 now (before ++ stuck ∷ []) told
    (knows_more known more.0 before line stuck knows more.1 more.3) more.4 in (
      (more.1, sym (next_same known before stuck knows) ∙ more.2, rest.0),
      subst (λ (b : List Stuck). Knows now b) (append_assoc before (stuck ∷ []) told) rest.1,
    )

-- one more line
pub more_push : (lines : List (List ℕ)) (known next now : Known) (told : List Stuck) (line : List ℕ) (stuck : Stuck)
    → AreMore known lines told next → Tells line stuck → next_by next.waiting next stuck ≡ true → IsMore next now stuck
    → AreMore known (lines ++ line ∷ []) (told ++ stuck ∷ []) now
more_push [] known next now [] line stuck more tells comes is = (
  now,
  tells,
  ap (λ (k : Known). next_by k.waiting k stuck) (sym more) ∙ comes,
  subst (λ (k : Known). IsMore k now stuck) more is,
  refl,
)
more_push [] known next now (s ∷ told) line stuck more tells comes is = absurd more
more_push (l ∷ lines) known next now [] line stuck more tells comes is = absurd more
more_push (l ∷ lines) known next now (s ∷ told) line stuck more tells comes is =
    (more.0, more.1, more.2, more.3, more_push lines more.0 next now told line stuck more.4 tells comes is)

-- where the first line is that of no fault that comes next, none stands there
pub lacks_first : (known : Known) (text line : List ℕ) → IsFirst text line
    → ((stuck : Stuck) → Tells line stuck → next_by known.waiting known stuck ≡ true → ⊥) → LacksNext known text
lacks_first known text line first none other later stuck is tells next =
    none stuck (subst (λ (t : List ℕ). Tells t stuck) (one_first text line other later first tells.one is) tells) next

-- one fault is told of, so where it doesn't come next none does
pub lacks_told : (known : Known) (text line : List ℕ) (told : Stuck) → IsFirst text line → Tells line told
    → next_by known.waiting known told ≡ false → LacksNext known text
lacks_told known text line told first tells other =
    lacks_first known text line first
    (λ stuck was next.
    (let same : stuck ≡ told = one_told line stuck told was tells in
    false≢true (sym other ∙ ap (λ (s : Stuck). next_by known.waiting known s) (sym same) ∙ next)))

-- the nets that are kept are those that are known
pub kept_known : {S : Type 0} (nets : IndexSet (Bor (List ℕ)) S) (waiting : Option (List ℕ)) (net : List ℕ)
    → knows_net (record { nets = map (λ (k : Bor (List ℕ)). k.now) (keys nets); waiting = waiting }) net ≡ has_in nets net
kept_known nets waiting net = list_any-map (λ (k : Bor (List ℕ)). k.now) (bytes_eq net) (keys nets)

-- a fault at 0 comes next where no net waits and its net isn't known
pub next_none : (known : Known) (net : List ℕ) (value there : Bool) → known.waiting ≡ None → value ≡ false
    → there ≡ knows_net known net → not there ≡ next_by known.waiting known (stuck_of net value)
next_none known net value there waits is has =
    ap not has
    ∙ sym (ap (λ (o : Option (List ℕ)). next_by o known (stuck_of net value)) waits
    ∙ ap (λ (v : Bool). not v && not (knows_net known net)) is)

-- no fault comes next
pub lacks_known : (known : Known) (before : List Stuck) (text line later : List ℕ) (stuck : Stuck) → Knows known before
    → LacksNext known text → text ≡ ended line ++ later → Tells line stuck → comes_next (open_net before) before stuck ≡ true → ⊥
lacks_known known before text line later stuck knows lacks is tells comes =
    lacks line later stuck is tells (next_same known before stuck knows ∙ comes)
