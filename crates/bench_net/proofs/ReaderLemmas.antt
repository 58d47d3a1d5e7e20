-- The readers of nets, gate after gate.
use Rattle.std.proofs.Common.{◌≡◌, ℕ, ◌+◌, ◌<◌, ◌≤◌, ◌&&◌, cond, List, length, get_or, take, sym, ap, ◌∙◌, arith, inl, inr, eqb, ltb}
use Rattle.std.proofs.lemmas.List.{get_or_past}
use Rattle.std.proofs.lemmas.List.Sums.{sum_by_more}
use Rattle.std.proofs.lemmas.Bool.{cases_Bool, cases_order, cases_lt, eq-eqb, ne_eqb, lt-ltb, le-ltb}
use Rattle.std.proofs.Math.Bool.{and-true, and-false}
use Rattle.bench_net.specs.declared.gate.Driver.{Driver}
use Rattle.bench_net.specs.declared.gate.Driver.TheVariants.{Input}
use Rattle.bench_net.specs.Wiring.{pins_of, pins_at, driver_at, AreReaders}
use Rattle.bench_net.specs.Sorting.{reads, times, AddsReader, AddsReaders}

-- one more of the nets is taken
pub AddsReaders-more : (old mid new : List (List ℕ)) (pins : List ℕ) (i gate : ℕ) → i < length pins
    → AddsReaders old mid (take i pins) gate → AddsReader mid new (get_or pins i 0) gate
    → AddsReaders old new (take (i + 1) pins) gate
AddsReaders-more old mid new pins i gate l h s = record {
  count = s.count ∙ h.count;
  more = λ n g m. more n g m;
}
  where
    more : (n g : ℕ) → n < length old → reads new n g
        ≡ reads old n g + cond {A = ℕ} (eqb gate g) (times n (take (i + 1) pins)) 0
    more n g m =
        let a : reads mid n g ≡ reads old n g + cond {A = ℕ} (eqb gate g)
        (times n (take i pins)) 0 = h.more n g m in
        let b : reads new n g ≡ reads mid n g + cond {A = ℕ}
        (eqb (get_or pins i 0) n && eqb gate g) 1 0 = s.more n g (omega (arith, h.count)) in
        let t : times n (take (i + 1) pins)
        ≡ times n (take i pins) + cond {A = ℕ} (eqb (get_or pins i 0) n) 1 0 = sum_by_more
        (λ m. cond {A = ℕ} (eqb m n) 1 0) pins i 0 l in
        elim (cases_Bool (eqb gate g)) [
          | inl e ↦
              let a' : reads mid n g ≡ reads old n g + times n (take i pins) = a
              ∙ ap (λ b. reads old n g + cond {A = ℕ} b (times n (take i pins)) 0) e in
              let b' : reads new n g ≡ reads mid n g + cond {A = ℕ}
              (eqb (get_or pins i 0) n) 1 0 = b
              ∙ ap (λ c. reads mid n g + cond {A = ℕ} c 1 0)
              (ap (λ b. eqb (get_or pins i 0) n && b) e ∙ and-true (eqb (get_or pins i 0) n)) in
              let goal' : reads new n g
              ≡ reads old n g + times n (take (i + 1) pins) = omega (arith, a', b', t) in
              goal' ∙ ap (λ b. reads old n g + cond {A = ℕ} b (times n (take (i + 1) pins)) 0)
              (sym e)
          | inr e ↦
              let a' : reads mid n g ≡ reads old n g + 0 = a
              ∙ ap (λ b. reads old n g + cond {A = ℕ} b (times n (take i pins)) 0) e in
              let b' : reads new n g ≡ reads mid n g + 0 = b
              ∙ ap (λ c. reads mid n g + cond {A = ℕ} c 1 0)
              (ap (λ b. eqb (get_or pins i 0) n && b) e ∙ and-false (eqb (get_or pins i 0) n))
              in
              let goal' : reads new n g ≡ reads old n g + 0 = omega (arith, a', b') in
              goal' ∙ ap (λ b. reads old n g + cond {A = ℕ} b (times n (take (i + 1) pins)) 0)
              (sym e)
        ]

-- the gates below a number, among the readers
pub record ReadersBelow (drivers : List Driver) (readers : List (List ℕ)) (gate : ℕ) : Type 0 where
  pub one_each : length readers ≡ length drivers
  pub counts : (n g : ℕ) → n < length drivers → reads readers n g
      ≡ cond {A = ℕ} (ltb g gate) (times n (pins_at drivers g)) 0

pub ReadersBelow-more : (drivers : List Driver) (old new : List (List ℕ)) (gate : ℕ)
    → ReadersBelow drivers old gate → AddsReaders old new (pins_at drivers gate) gate
    → ReadersBelow drivers new (gate + 1)
ReadersBelow-more drivers old new gate h s = record {
  one_each = s.count ∙ h.one_each;
  counts = λ n g l. counts n g l;
}
  where
    counts : (n g : ℕ) → n < length drivers → reads new n g
        ≡ cond {A = ℕ} (ltb g (gate + 1)) (times n (pins_at drivers g)) 0
    counts n g l =
        let a : reads old n g ≡ cond {A = ℕ} (ltb g gate)
        (times n (pins_at drivers g)) 0 = h.counts n g l in
        let b : reads new n g ≡ reads old n g + cond {A = ℕ} (eqb gate g)
        (times n (pins_at drivers gate)) 0 = s.more n g (omega (arith, h.one_each)) in
        elim (cases_order gate g) [
          | inl e ↦
              let a' : reads old n g ≡ 0 = a
              ∙ ap (λ b. cond {A = ℕ} b (times n (pins_at drivers g)) 0)
              (le-ltb g gate (omega arith)) in
              let b' : reads new n g ≡ reads old n g + times n (pins_at drivers gate) = b
              ∙ ap (λ b. reads old n g + cond {A = ℕ} b (times n (pins_at drivers gate)) 0)
              (eq-eqb gate g e) in
              let c' : times n (pins_at drivers gate)
              ≡ times n (pins_at drivers g) = ap (λ k. times n (pins_at drivers k)) e in
              let goal' : reads new n g ≡ times n (pins_at drivers g) = omega (arith, a', b', c') in
              goal' ∙ ap (λ b. cond {A = ℕ} b (times n (pins_at drivers g)) 0)
              (sym (lt-ltb g (gate + 1) (omega arith)))
          | inr o ↦
              let b' : reads new n g ≡ reads old n g + 0 = b
              ∙ ap (λ b. reads old n g + cond {A = ℕ} b (times n (pins_at drivers gate)) 0)
              (ne_eqb gate g (λ e. elim o [
                | inl l ↦ absurd (omega arith)
                | inr l ↦ absurd (omega arith)
              ])) in
              let a' : reads new n g ≡ cond {A = ℕ} (ltb g gate)
              (times n (pins_at drivers g)) 0 = omega (arith, b') ∙ a in
              elim o [
                | inl m ↦ a' ∙ ap (λ b. cond {A = ℕ} b (times n (pins_at drivers g)) 0)
                    (le-ltb g gate (omega arith) ∙ sym (le-ltb g (gate + 1) (omega arith)))
                | inr m ↦ a' ∙ ap (λ b. cond {A = ℕ} b (times n (pins_at drivers g)) 0)
                    (lt-ltb g gate m ∙ sym (lt-ltb g (gate + 1) (omega arith)))
              ]
        ]

driver_past : (drivers : List Driver) (n : ℕ) → length drivers ≤ n → driver_at drivers n ≡ Input
driver_past drivers n l = get_or_past drivers n Input l

pub ReadersBelow-all : (drivers : List Driver) (readers : List (List ℕ)) (count : ℕ) → count
    ≡ length drivers → ReadersBelow drivers readers count → AreReaders drivers readers
ReadersBelow-all drivers readers count e h = record {
  one_each = h.one_each;
  counts = λ n g l. elim (cases_lt g count) [
    | inl m ↦ h.counts n g l ∙ ap (λ b. cond {A = ℕ} b (times n (pins_at drivers g)) 0)
        (lt-ltb g count m)
    | inr m ↦ h.counts n g l ∙ ap (λ b. cond {A = ℕ} b (times n (pins_at drivers g)) 0)
        (le-ltb g count m)
        ∙ sym (ap (λ (d : Driver). times n (pins_of d)) (driver_past drivers g (omega arith)))
  ];
}
