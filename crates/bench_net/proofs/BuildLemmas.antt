-- The net list that is built is the one that the lines name.
use Rattle.std.proofs.Common.{◌≡◌, ℕ, zero, suc, ◌<◌, ◌≤◌, Bool, true, false, not, cond, List, [], ◌∷◌, length, get_or, map, Option, Some, None, refl, sym, ap, ◌∙◌, subst, arith, inl, inr, eqb, ltb}
use Rattle.std.specs.Prelude.{All, slice_index, MatchOption, count_by}
use Rattle.std.specs.List.{list_any, list_all, filter_map, find, cons_option, AllZip}
use Rattle.std.specs.Option.{option_map_or}
use Rattle.std.specs.Str.{bytes_eq}
use Rattle.std.specs.Str.Lines.{lines}
use Rattle.std.specs.Cmp.Lexicographic.{bytes_decides}
use Rattle.std.proofs.lemmas.List.{length-map}
use Rattle.std.proofs.lemmas.List.Elements.{All-nil, All-cons, All-head, All-tail, All-map}
use Rattle.std.proofs.lemmas.Bool.{and_parts, cases_Bool, eqb-true, eqb-false, ltb-false, both_ways, not-false, not-true}
use Rattle.bench_net.specs.Gates.{is_single, takes_not}
use Rattle.bench_net.specs.declared.gate.GateKind.{GateKind}
use Rattle.bench_net.specs.declared.gate.Function.TheVariants.{Logic, Register}
use Rattle.bench_net.specs.declared.gate.Driver.{Driver}
use Rattle.bench_net.specs.declared.gate.Driver.TheVariants.{Input, Dff, Gate}
use Rattle.bench_net.specs.Wiring.{driver_at, gate_at, pins_at, is_gate, pins_of, is_settled, IsWired, IsReached, AreReaders}
use Rattle.bench_net.specs.Circuit.{Net, IsWhole, number}
use Rattle.bench_net.specs.Line.{Form, nothing, input, output, gate, Says}
use Rattle.bench_net.specs.Net.{Reads, named, names, shown, drives, driver_of, driver_for, net_of, wrong_arity, head_of, arity_fault, IsDriven}
use Rattle.bench_net.specs.Fault.{IsReachedLine, IsLoopLine, IsFirstLoop}
use Rattle.bench_net.specs.Numbers.{HasPins, IsNetOf, looped, loop_fault}
use Rattle.bench_net.specs.Sorting.{AreWithin, IsSorted}
use Rattle.bench_net.proofs.SortLemmas.{gate_within, pins_none}
use Rattle.bench_net.proofs.NamesLemmas.{numbers_within, number-within, AreApart-names}
use Rattle.bench_net.proofs.OrderLemmas.{reached_from_sorted, unreached_from_sorted, IsOrder-sorted}

-- a line that has a form reads one net at least
pins-Says : (line : List ℕ) (f : Form) → Says line f → HasPins f
pins-Says line nothing s = tt
pins-Says line (input n) s = tt
pins-Says line (output n) s = tt
pins-Says line (gate n f pins) s = s.writes.3

pins-Reads : (ls : List (List ℕ)) (fs : List Form) → AllZip Says ls fs → All HasPins fs
pins-Reads [] [] h = All-nil HasPins
pins-Reads [] (f ∷ fs) h = elim h [ ]
pins-Reads (l ∷ ls) [] h = elim h [ ]
pins-Reads (l ∷ ls) (f ∷ fs) h = All-cons HasPins f fs (pins-Says l f h.0) (pins-Reads ls fs h.1)

pub HasPins-Reads : (bytes : List ℕ) (fs : List Form) → Reads bytes fs → All HasPins fs
HasPins-Reads bytes fs h = pins-Reads (lines bytes) fs h

-- where none of the lines has a fault, none has one
none_of : (p : Form → Option (List ℕ)) (fs : List Form) → head_of (filter_map p fs) ≡ None
    → All (λ f. p f ≡ None) fs
none_of p [] e = All-nil (λ f. p f ≡ None)
none_of p (f ∷ fs) e = All-cons (λ g. p g
    ≡ None) f fs (first (p f) (filter_map p fs) e) (none_of p fs (others (p f) (filter_map p fs) e))
  where
    first : (o : Option (List ℕ)) (xs : List (List ℕ)) → head_of (cons_option o xs) ≡ None → o
        ≡ None
    first None xs e = refl
    first (Some n) xs e = cc

    others : (o : Option (List ℕ)) (xs : List (List ℕ)) → head_of (cons_option o xs) ≡ None
        → head_of xs ≡ None
    others None xs e = e
    others (Some n) xs e = cc

-- what is known of each line of an accepted text
record IsFine (all : List (List ℕ)) (f : Form) : Type 0 where
  pins : HasPins f
  arity : wrong_arity f ≡ None
  there : All (λ m. number all m < length all) (named f)

none_cond : (b : Bool) (n : List ℕ) → cond b (Some n) None ≡ None → b ≡ false
none_cond true n e = cc
none_cond false n e = refl

wired_gate : (k : GateKind) (n : List ℕ) (all pins : List (List ℕ)) → 0 < length pins
    → takes_not (Logic k) (length pins) ≡ false → All (λ m. number all m < length all) pins
    → IsWired (length all) (Gate k (map (number all) pins))
wired_gate k n all pins some takes there =
    let len : length (map (number all) pins) ≡ length pins = length-map pins (number all) in
    elim (cases_Bool (is_single k)) [
      | inl s ↦
          let one : length pins ≡ 1 = eqb-true (length pins) 1
          (not-false (eqb (length pins) 1)
          (sym (ap (λ b. cond b (not (eqb (length pins) 1)) (ltb 1024 (length pins))) s)
          ∙ takes)) in (
            omega (arith, len, some),
            omega (arith, len, one),
            (λ _. omega (arith, len, one)),
            All-map (λ p. p < length all) (number all) pins there,
          )
      | inr s ↦
          let few : length pins ≤ 1024 = ltb-false 1024 (length pins)
          (sym (ap (λ b. cond b (not (eqb (length pins) 1)) (ltb 1024 (length pins))) s)
          ∙ takes) in (
            omega (arith, len, some),
            omega (arith, len, few),
            (λ e. absurd (both_ways (is_single k) s e)),
            All-map (λ p. p < length all)
                (number all) pins there,
          )
    ]

wired_line : (all : List (List ℕ)) (f : Form) → IsFine all f
    → IsWired (length all) (driver_of all f)
wired_line all nothing h = tt
wired_line all (input n) h = tt
wired_line all (output n) h = tt
wired_line all (gate n (Logic k) pins) h =
    wired_gate k n all pins h.pins (none_cond (takes_not (Logic k) (length pins)) n h.arity)
    (All-tail (λ m. number all m < length all) n pins h.there)
wired_line all (gate n Register []) h = tt
wired_line all (gate n Register (p ∷ ps)) h =
    All-head (λ m. number all m < length all) p ps
    (All-tail (λ m. number all m < length all) n (p ∷ ps) h.there)

find_all : (P : Form → Type 0) (p : Form → Bool) (fs : List Form) (o : Option Form) → o ≡ find p fs
    → All P fs → MatchOption o (Unit {0}) (λ f. P f × (p f ≡ true))
find_all P p [] None e h = tt
find_all P p [] (Some f) e h = cc
find_all P p (f ∷ fs) o e h =
    elim (cases_Bool (p f)) [
      | inl t ↦ subst (λ (q : Option Form). MatchOption q (Unit {0}) (λ g. P g × (p g ≡ true)))
          (sym (e ∙ ap (λ b. cond b (Some f) (find p fs)) t)) (All-head P f fs h, t)
      | inr t ↦ find_all P p fs o (e ∙ ap (λ b. cond b (Some f) (find p fs)) t) (All-tail P f fs h)
    ]

fine_lines : (all : List (List ℕ)) (fs : List Form) → All HasPins fs
    → All (λ f. wrong_arity f ≡ None) fs
    → All (λ f. All (λ m. number all m < length all) (named f)) fs → All (IsFine all) fs
fine_lines all fs p a t = λ k d l. record { pins = p k d l; arity = a k d l; there = t k d l }

wired_option : (all : List (List ℕ)) (p : Form → Bool) (o : Option Form)
    → MatchOption o (Unit {0}) (λ f. IsFine all f × (p f ≡ true))
    → IsWired (length all) (option_map_or (driver_of all) o Input)
wired_option all p None h = tt
wired_option all p (Some f) h = wired_line all f h.0

pub wired_for : (forms : List Form) → All HasPins forms → arity_fault forms ≡ None → (name : List ℕ)
    → IsWired (length (names forms)) (driver_for forms name)
wired_for forms p a name =
    wired_option (names forms) (drives name) (find (drives name) forms)
    (find_all (IsFine (names forms)) (drives name) forms (find (drives name) forms) refl
    (fine_lines (names forms) forms p (none_of wrong_arity forms a)
    (λ k d l i e m. number-within forms (get_or (named (get_or forms k d)) i e)
    (numbers_within forms k d l i e m))))

get_or-map : (f : List ℕ → Driver) (xs : List (List ℕ)) (n : ℕ) → n < length xs
    → get_or (map f xs) n Input ≡ f (get_or xs n [])
get_or-map f [] n l = absurd (omega (arith, l))
get_or-map f (x ∷ xs) zero l = refl
get_or-map f (x ∷ xs) (suc n) l = get_or-map f xs n (omega (arith, l))

pub length-drivers : (forms : List Form) → length (net_of forms).drivers ≡ length (names forms)
length-drivers forms = length-map (names forms) (driver_for forms)

pub driver_at-net_of : (forms : List Form) (n : ℕ) → n < length (names forms)
    → driver_at (net_of forms).drivers n ≡ driver_for forms (get_or (names forms) n [])
driver_at-net_of forms n l = get_or-map (driver_for forms) (names forms) n l

-- the drivers are wired
pub wired : (forms : List Form) → All HasPins forms → arity_fault forms ≡ None → (n : ℕ)
    → n < length (net_of forms).drivers
    → IsWired (length (net_of forms).drivers) (driver_at (net_of forms).drivers n)
wired forms p a n l =
    subst (λ (c : ℕ). IsWired c (driver_at (net_of forms).drivers n)) (sym (length-drivers forms))
    (subst (λ (d : Driver). IsWired (length (names forms)) d)
    (sym (driver_at-net_of forms n (omega (arith, l, length-drivers forms))))
    (wired_for forms p a (get_or (names forms) n [])))

-- what a driver of a netlist reads are its nets
pub wired_pins : (count : ℕ) (d : Driver) → IsWired count d → AreWithin count (pins_of d)
wired_pins count Input h = All-nil (λ p. p < count)
wired_pins count (Dff d) h = All-nil (λ p. p < count)
wired_pins count (Gate k pins) h = h.3

-- so are what all their gates read
pub within-wired : (drivers : List Driver)
    → ((n : ℕ) → n < length drivers → IsWired (length drivers) (driver_at drivers n)) → (n : ℕ)
    → n < length drivers → AreWithin (length drivers) (pins_at drivers n)
within-wired drivers h n l = wired_pins (length drivers) (driver_at drivers n) (h n l)

-- the first of the lines that has a fault
record FirstOf (p : Form → Option (List ℕ)) (fs : List Form) (name : List ℕ) : Type 0 where
  place : ℕ
  within : place < length fs
  here : p (get_or fs place nothing) ≡ Some name
  before : (k : ℕ) → k < place → p (get_or fs k nothing) ≡ None

fault_later : (p : Form → Option (List ℕ)) (f : Form) (fs : List Form) (name : List ℕ) → p f ≡ None
    → FirstOf p fs name → FirstOf p (f ∷ fs) name
fault_later p f fs name q r = record {
  place = suc r.place;
  within = omega
      (arith, r.within);
  here = r.here;
  before = λ k l. earlier k l;
}
  where
    earlier : (k : ℕ) → k < suc r.place → p (get_or (f ∷ fs) k nothing) ≡ None
    earlier zero l = q
    earlier (suc k) l = r.before k (omega (arith, l))

fault_here : (p : Form → Option (List ℕ)) (f : Form) (fs : List Form) (name n : List ℕ) → p f
    ≡ Some n → head_of (filter_map p (f ∷ fs)) ≡ Some name → FirstOf p (f ∷ fs) name
fault_here p f fs name n q e = record {
  place = 0;
  within = omega arith;
  here = q ∙ sym (ap (λ o. head_of (cons_option o (filter_map p fs))) q) ∙ e;
  before = λ k l. absurd (omega (arith, l));
}

fault_next : (p : Form → Option (List ℕ)) (f : Form) (fs : List Form) (name : List ℕ)
    (o : Option (List ℕ)) → p f ≡ o → head_of (filter_map p (f ∷ fs)) ≡ Some name
    → (head_of (filter_map p fs) ≡ Some name → FirstOf p fs name) → FirstOf p (f ∷ fs) name
fault_next p f fs name None q e next = fault_later p f fs name q
    (next (sym (ap (λ o. head_of (cons_option o (filter_map p fs))) q) ∙ e))
fault_next p f fs name (Some n) q e next = fault_here p f fs name n q e

fault_first : (p : Form → Option (List ℕ)) (fs : List Form) (name : List ℕ)
    → head_of (filter_map p fs) ≡ Some name → FirstOf p fs name
fault_first p [] name e = cc
fault_first p (f ∷ fs) name e = fault_next p f fs name (p f) refl e (fault_first p fs name)

left_zero : (left : List ℕ) (i : ℕ) (n : List ℕ)
    → cond (not (eqb (slice_index left i) 0)) (Some n) None ≡ None → slice_index left i ≡ 0
left_zero left i n e = eqb-true (slice_index left i) 0
    (not-false (eqb (slice_index left i) 0) (none_cond (not (eqb (slice_index left i) 0)) n e))

-- where nothing waits, no line does
looped-none : (all : List (List ℕ)) (left : List ℕ) (f : Form) → ((n : ℕ) → slice_index left n ≡ 0) → looped all left f ≡ None
looped-none all left nothing h = refl
looped-none all left (input n) h = refl
looped-none all left (output n) h = refl
looped-none all left (gate n f pins) h = ap (λ k. cond (not (eqb k 0)) (Some n) None) (h (number all n))

all_zero : (left : List ℕ) → list_all (λ k. eqb k 0) left ≡ true → (n : ℕ) → slice_index left n ≡ 0
all_zero [] h n = refl
all_zero (k ∷ ks) h zero = eqb-true k 0 (and_parts (eqb k 0) (list_all (λ j. eqb j 0) ks) h).0
all_zero (k ∷ ks) h (suc n) = all_zero ks (and_parts (eqb k 0) (list_all (λ j. eqb j 0) ks) h).1 n

pub loop_fault-none : (all : List (List ℕ)) (left : List ℕ) (forms : List Form) → list_all (λ k. eqb k 0) left ≡ true
    → loop_fault all left forms ≡ None
loop_fault-none all left [] h = refl
loop_fault-none all left (f ∷ fs) h =
    ap (λ o. head_of (cons_option o (filter_map (looped all left) fs))) (looped-none all left f (all_zero left h))
    ∙ loop_fault-none all left fs h

some_cond : (b : Bool) (n name : List ℕ) → cond b (Some n) None ≡ Some name → (name ≡ n)
    × (b ≡ true)
some_cond true n name e = (some_same n name e, refl)
  where
    some_same : (n name : List ℕ) → Some n ≡ Some name → name ≡ n
    some_same n name e = cc
some_cond false n name e = cc

-- all that is known once the gates are sorted
pub record IsTable (forms : List Form) (drivers : List Driver) (left order : List ℕ) : Type 0 where
  pub pins : All HasPins forms
  pub driven_once : IsDriven forms
  pub sorted : IsSorted drivers left order

-- it is known, whatever list holds the drivers
pub IsTable-sorted : (forms : List Form) (drivers : List Driver) (left order : List ℕ)
    → All HasPins forms → IsDriven forms → drivers ≡ (net_of forms).drivers
    → IsSorted drivers left order → IsTable forms (net_of forms).drivers left order
IsTable-sorted forms drivers left order pins once same sorted = record {
  pins = pins;
  driven_once = once;
  sorted = subst (λ (ds : List Driver). IsSorted ds left order) same sorted;
}

-- what the loop's search answers is said of the nets' names and of the counts
pub loop_fault-same : (forms : List Form) (all : List (List ℕ)) (counts left : List ℕ)
    (o : Option (List ℕ)) → all ≡ names forms → counts ≡ left → o ≡ loop_fault all counts forms
    → loop_fault (names forms) left forms ≡ o
loop_fault-same forms all counts left o a c e =
    sym (e ∙ ap (λ (ks : List (List ℕ)). loop_fault ks counts forms) a
    ∙ ap (λ (l : List ℕ). loop_fault (names forms) l forms) c)

module _ (forms : List Form) (left order : List ℕ)
    (t : IsTable forms (net_of forms).drivers left order) where
  within_all : (n : ℕ) → n < length (net_of forms).drivers
      → AreWithin (length (net_of forms).drivers) (pins_at (net_of forms).drivers n)
  within_all = within-wired (net_of forms).drivers (wired forms t.pins t.driven_once.arity)

  gate_waits : (n : ℕ) → n < length (net_of forms).drivers → (slice_index left n ≡ 0 → ⊥)
      → gate_at (net_of forms).drivers n ≡ true
  gate_waits n l ne =
      elim (cases_Bool (gate_at (net_of forms).drivers n)) [
        | inl e ↦ e
        | inr e ↦ absurd (ne (t.sorted.counts n l ∙ ap
            (count_by (λ p. not (is_settled (net_of forms).drivers order p)))
            (pins_none (driver_at (net_of forms).drivers n) e)))
      ]

  reached_at : (n : ℕ) → n < length (net_of forms).drivers → slice_index left n ≡ 0
      → IsReached (net_of forms).drivers n
  reached_at n l e = reached_from_sorted (net_of forms).drivers left order within_all t.sorted n l
      (λ g. e)

  named_within : (f : Form) (k : ℕ) → f ≡ get_or forms k nothing → k < length forms
      → All (λ m. number (names forms) m < length (net_of forms).drivers) (named f)
  named_within f k e l = subst
      (λ (g : Form). All (λ m. number (names forms) m < length (net_of forms).drivers) (named g))
      (sym e)
      (λ i d m. subst (λ (c : ℕ). number (names forms)
      (get_or (named (get_or forms k nothing)) i d) < c) (sym (length-drivers forms))
      (number-within forms (get_or (named (get_or forms k nothing)) i d)
      (numbers_within forms k nothing l i d m)))

  loop_line : (f : Form) (name : List ℕ)
      → All (λ m. number (names forms) m < length (net_of forms).drivers) (named f)
      → looped (names forms) left f ≡ Some name → IsLoopLine forms f name
  loop_line nothing name w e = cc
  loop_line (input n) name w e = cc
  loop_line (output n) name w e = cc
  loop_line (gate n f pins) name w e =
      let both = some_cond (not (eqb (slice_index left (number (names forms) n)) 0)) n name e in
      let ne : slice_index left (number (names forms) n) ≡ 0
      → ⊥ = eqb-false (slice_index left (number (names forms) n)) 0
      (not-true (eqb (slice_index left (number (names forms) n)) 0) both.1) in
      let g = gate_waits (number (names forms) n)
      (All-head (λ m. number (names forms) m < length (net_of forms).drivers) n pins w) ne in (
        both.0,
        unreached_from_sorted (net_of forms).drivers left order t.sorted within_all
            (number (names forms) n) g ne,
      )

  reached_line : (f : Form)
      → All (λ m. number (names forms) m < length (net_of forms).drivers) (named f)
      → looped (names forms) left f ≡ None → IsReachedLine forms f
  reached_line nothing w e = tt
  reached_line (input n) w e = tt
  reached_line (output n) w e = tt
  reached_line (gate n f pins) w e =
      reached_at (number (names forms) n)
      (All-head (λ m. number (names forms) m < length (net_of forms).drivers) n pins w)
      (left_zero left (number (names forms) n) n e)

  -- the first line whose gate waits is the first of a loop
  pub loop-first : (name : List ℕ) → loop_fault (names forms) left forms ≡ Some name
      → IsFirstLoop forms name
  loop-first name e =
      let r = fault_first (looped (names forms) left) forms name e in
      record {
        place = r.place;
        within = r.within;
        loop = loop_line (get_or forms r.place nothing) name
            (named_within (get_or forms r.place nothing) r.place refl r.within) r.here;
        before = λ k l. reached_line (get_or forms k nothing)
            (named_within (get_or forms k nothing) k refl (omega (arith, l, r.within)))
            (r.before k l);
      }

  line_zero : (name : List ℕ) (o : Option Form)
      → MatchOption o (Unit {0}) (λ f. (looped (names forms) left f ≡ None)
      × (drives name f ≡ true)) → is_gate (option_map_or (driver_of (names forms)) o Input) ≡ true
      → slice_index left (number (names forms) name) ≡ 0
  line_zero name None h g = cc
  line_zero name (Some nothing) h g = cc
  line_zero name (Some (input n)) h g = cc
  line_zero name (Some (output n)) h g = cc
  line_zero name (Some (gate n f pins)) h g =
      ap (λ (m : List ℕ). slice_index left (number (names forms) m)) ((bytes_decides name n).0 h.1)
      ∙ left_zero left (number (names forms) n) n h.0

  -- where no line's gate waits, none does
  pub none_waits : loop_fault (names forms) left forms ≡ None → (n : ℕ)
      → gate_at (net_of forms).drivers n ≡ true → slice_index left n ≡ 0
  none_waits e n g =
      let l : n < length (names forms) = omega
      (arith, gate_within (net_of forms).drivers n g, length-drivers forms) in
      let name : List ℕ = get_or (names forms) n [] in
      let own : number (names forms) (get_or (names forms) n [])
      ≡ n = (AreApart-names forms).each n l in
      ap (slice_index left) (sym own)
      ∙ line_zero (get_or (names forms) n []) (find (drives (get_or (names forms) n [])) forms)
      (find_all (λ f. looped (names forms) left f
      ≡ None) (drives (get_or (names forms) n [])) forms
      (find (drives (get_or (names forms) n [])) forms) refl
      (none_of (looped (names forms) left) forms e))
      (sym (ap is_gate (driver_at-net_of forms n l)) ∙ g)

-- the netlist of lines whose gates form no loop keeps what each netlist keeps
pub IsWhole-net_of : (forms : List Form) (left order : List ℕ) (readers : List (List ℕ))
    → IsTable forms (net_of forms).drivers left order → AreReaders (net_of forms).drivers readers
    → loop_fault (names forms) left forms ≡ None
    → IsWhole (record { net = net_of forms; order = order; readers = readers })
IsWhole-net_of forms left order readers t r e = record {
  small = t.driven_once.in_range;
  drivers = length-drivers forms;
  outputs = length-map (names forms) (λ name. list_any (bytes_eq name) (filter_map shown forms));
  apart = (AreApart-names forms).each;
  wired = wired forms t.pins t.driven_once.arity;
  order = IsOrder-sorted (net_of forms).drivers left order t.sorted
      (none_waits forms left order t e);
  readers = r;
}

pub IsNetOf-net_of : (forms : List Form) (left order : List ℕ)
    → IsTable forms (net_of forms).drivers left order → loop_fault (names forms) left forms ≡ None
    → IsNetOf forms (net_of forms)
IsNetOf-net_of forms left order t e = record {
  driven_once = t.driven_once;
  net_is = refl;
  reached = λ n l. reached_from_sorted (net_of forms).drivers left order
      (within-wired (net_of forms).drivers (wired forms t.pins t.driven_once.arity)) t.sorted n
      (omega (arith, l, length-drivers forms)) (none_waits forms left order t e n);
}

-- the parts of a netlist, as one
pub same_net : (forms : List Form) (all : List (List ℕ)) (drivers : List Driver)
    (outputs : List Bool) → all ≡ names forms → drivers ≡ (net_of forms).drivers → outputs
    ≡ (net_of forms).outputs →
    (let made : Net = record { names = all; drivers = drivers; outputs = outputs } in made
    ≡ net_of forms)
same_net forms all drivers outputs a d o = λ i. record { names = a i; drivers = d i; outputs = o i }
