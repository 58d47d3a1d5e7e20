-- The places of the readers of a net are the places of the gates that read it.
use Rattle.std.proofs.Common.{◌≡◌, ℕ, ◌+◌, ◌-◌, ◌<◌, ◌≤◌, ◌++◌, true, List, [], ◌∷◌, length, get_or, take, drop, map, refl, sym, ap, ◌∙◌, subst, arith, inl, inr, length-append}
use Rattle.std.specs.Prelude.{All}
use Rattle.std.proofs.lemmas.List.{get_or_append_left, get_or_push, get_or-map, length-map, take_all}
use Rattle.std.proofs.lemmas.List.Elements.{All-get_or, All-head, All-tail, All-nil, All-cons, All-weaker}
use Rattle.std.proofs.Math.Seq.{drop-append_seam}
use Rattle.std.proofs.lemmas.Bool.{cases_eq}
use Rattle.bench_net.specs.declared.gate.Driver.{Driver}
use Rattle.bench_net.specs.Wiring.{gate_at, IsOrder}
use Rattle.bench_net.specs.Circuit.{Circuit, IsWhole}
use Rattle.die_sim.specs.Spread.{Reads}
use Rattle.die_sim.specs.Pending.{PendingGates, place_at, AreSeats, SameSeats, SetsPending, ActivatesEach, ActivatesReaders}
use Rattle.die_sim.specs.Readers.{cut, ArePlacesOf, AreReadersTo, AreReaderPlaces}
use Rattle.die_sim.proofs.OrderLemmas.{place_of, All-times, reader_is_gate, reads_is_times}
use Rattle.die_sim.proofs.PendingLemmas.{ActivatesEach-more, ActivatesReaders-each}
use Rattle.die_sim.proofs.CellLemmas.{cut_kept}

-- the places of gates are places of the order
pub places_are : (drivers : List Driver) (order : List ℕ) → IsOrder drivers order → (m : PendingGates) → AreSeats order m
    → (nets : List ℕ) → All (λ g. gate_at drivers g ≡ true) nets → ArePlacesOf order (map (place_at m) nets) nets
places_are drivers order o m s [] all = record { within = All-nil (λ p. p < length order); are = refl }
places_are drivers order o m s (g ∷ gs) all =
    let rest = places_are drivers order o m s gs (All-tail (λ h. gate_at drivers h ≡ true) g gs all) in
    let p = place_of drivers order o g (All-head (λ h. gate_at drivers h ≡ true) g gs all) in
    let is : place_at m g ≡ p.place = subst (λ (n : ℕ). place_at m n ≡ p.place) p.is (s.here p.place p.within) in
    let below : place_at m g < length order = let w = p.within in omega (arith, w, is) in
    record {
      within = All-cons (λ q. q < length order) (place_at m g) (map (place_at m) gs) below rest.within;
      are = ap (λ (n : ℕ). n ∷ map (λ q. get_or order q 0) (map (place_at m) gs)) (ap (λ (q : ℕ). get_or order q 0) is ∙ p.is) ∙ ap (λ (ns : List ℕ). g ∷ ns) rest.are;
    }

-- the readers of a net are gates
pub readers_are_gates : (c : Circuit) → IsWhole c → (n : ℕ) → n < length c.net.names
    → All (λ g. gate_at c.net.drivers g ≡ true) (get_or c.readers n [])
readers_are_gates c w n l = All-times (λ g. gate_at c.net.drivers g ≡ true) (get_or c.readers n []) (λ g t.
    let r : Reads c.net.drivers g n = omega (arith, t, reads_is_times c w n g l) in
    reader_is_gate c.net.drivers g n r)

-- one more has
module _ (c : Circuit) (starts places more whole starts' : List ℕ) (k : ℕ) (h : AreReadersTo c starts places k)
    (whole_is : whole ≡ places ++ more) (starts_is : starts' ≡ starts ++ length whole ∷ [])
    (are : ArePlacesOf c.order more (get_or c.readers k [])) where
  start_kept : (n : ℕ) → n ≤ k → get_or starts' n 0 ≡ get_or starts n 0
  start_kept n l = ap (λ (s : List ℕ). get_or s n 0) starts_is ∙ get_or_append_left starts (length whole ∷ []) 0 n (omega (arith, l, h.count))

  start_last : get_or starts' (k + 1) 0 ≡ length whole
  start_last = ap (λ (s : List ℕ). get_or s (k + 1) 0) starts_is ∙ get_or_push starts (length whole) 0 (k + 1) h.count

  whole_length : length whole ≡ length places + length more
  whole_length = ap (λ (ps : List ℕ). length ps) whole_is ∙ length-append places more

  cut_before : (n : ℕ) → n < k → cut starts' whole n ≡ cut starts places n
  cut_before n l =
      ap (λ (f : ℕ). take (get_or starts' (n + 1) 0 - f) (drop f whole)) (start_kept n (omega (arith, l)))
      ∙ ap (λ (t : ℕ). take (t - get_or starts n 0) (drop (get_or starts n 0) whole)) (start_kept (n + 1) (omega (arith, l)))
      ∙ ap (λ (ps : List ℕ). take (get_or starts (n + 1) 0 - get_or starts n 0) (drop (get_or starts n 0) ps)) whole_is
      ∙ cut_kept places more (get_or starts n 0) (get_or starts (n + 1) 0) (h.cuts n l).rises (h.cuts n l).within

  cut_here : cut starts' whole k ≡ more
  cut_here =
      ap (λ (f : ℕ). take (get_or starts' (k + 1) 0 - f) (drop f whole)) (start_kept k (omega arith) ∙ h.last)
      ∙ ap (λ (ps : List ℕ). take (get_or starts' (k + 1) 0 - length places) (drop (length places) ps)) whole_is
      ∙ ap (take (get_or starts' (k + 1) 0 - length places)) (drop-append_seam places more)
      ∙ take_all (get_or starts' (k + 1) 0 - length places) more (omega (arith, start_last, whole_length))

  pub AreReadersTo-more : AreReadersTo c starts' whole (k + 1)
  AreReadersTo-more = record {
    count = ap (λ (s : List ℕ). length s) starts_is ∙ length-append starts (length whole ∷ []) ∙ ap (λ n. n + 1) h.count;
    last = start_last;
    cuts = λ n l. elim (cases_eq n k) [
      | inl q ↦ record {
        rises = omega (arith, start_last, whole_length, start_kept k (omega arith), h.last, ap (λ (i : ℕ). get_or starts' i 0) q, ap (λ (i : ℕ). get_or starts' (i + 1) 0) q);
        within = omega (arith, start_last, ap (λ (i : ℕ). get_or starts' (i + 1) 0) q);
      }
      | inr ne ↦
          let before : n < k = omega (arith, l, ne) in
          let was = h.cuts n before in
          record {
            rises = omega (arith, was.rises, start_kept n (omega (arith, before)), start_kept (n + 1) (omega (arith, before)));
            within = omega (arith, was.within, whole_length, start_kept (n + 1) (omega (arith, before)));
          }
    ];
    each = λ n l. elim (cases_eq n k) [
      | inl q ↦ subst (λ (i : ℕ). ArePlacesOf c.order (cut starts' whole i) (get_or c.readers i [])) (sym q)
          (subst (λ (ps : List ℕ). ArePlacesOf c.order ps (get_or c.readers k [])) (sym cut_here) are)
      | inr ne ↦
          let before : n < k = omega (arith, l, ne) in
          subst (λ (ps : List ℕ). ArePlacesOf c.order ps (get_or c.readers n [])) (sym (cut_before n before)) (h.each n before)
    ];
  }

-- the gate at one more place is pending
pub activates_more : (order places : List ℕ) (old mid new : PendingGates) (i : ℕ) → i < length places
    → AreSeats order old → All (λ p. p < length order) places → SameSeats old mid
    → ((n : ℕ) → place_at mid n ≡ get_or places i 0 → SetsPending n true mid new)
    → ActivatesEach (take i (map (λ p. get_or order p 0) places)) old mid
    → ActivatesEach (take (i + 1) (map (λ p. get_or order p 0) places)) old new
activates_more order places old mid new i l seats all same sets h =
    let net : ℕ = get_or order (get_or places i 0) 0 in
    let below : get_or places i 0 < length order = All-get_or (λ p. p < length order) places i 0 l all in
    let there : place_at mid net ≡ get_or places i 0 = ap (λ (ps : List ℕ). get_or ps net 4294967295) same.places ∙ seats.here (get_or places i 0) below in
    let is : get_or (map (λ p. get_or order p 0) places) i 0 ≡ net = get_or-map (λ p. get_or order p 0) places i 0 0 l in
    ActivatesEach-more (map (λ p. get_or order p 0) places) old mid new i (omega (arith, l, length-map places (λ p. get_or order p 0)))
    (subst (λ (n : ℕ). SetsPending n true mid new) (sym is) (sets net there)) h

-- the places of a net's readers are places
pub readers_have_bits : (c : Circuit) (starts places : List ℕ) (m : PendingGates) (n : ℕ) → AreReaderPlaces c starts places
    → AreSeats c.order m → n < length c.net.names → All (λ p. p < length m.bits) (cut starts places n)
readers_have_bits c starts places m n h s l =
    All-weaker (λ p. p < length c.order) (λ p. p < length m.bits) (λ p b. omega (arith, b, s.room)) (cut starts places n) (h.each n l).within

-- the gates at those places read the net
pub readers_activated : (c : Circuit) → IsWhole c → (starts places xs : List ℕ) (old new : PendingGates) (n : ℕ)
    → n < length c.net.names → AreReaderPlaces c starts places → AreSeats c.order old → xs ≡ cut starts places n
    → ((order : List ℕ) → AreSeats order old → All (λ p. p < length order) xs → ActivatesEach (map (λ p. get_or order p 0) xs) old new)
    → ActivatesReaders c.net.drivers n old new
readers_activated c w starts places xs old new n l h s xs_is activates =
    let at = h.each n l in
    let within : All (λ p. p < length c.order) xs = subst (λ (ps : List ℕ). All (λ p. p < length c.order) ps) (sym xs_is) at.within in
    let are : map (λ p. get_or c.order p 0) xs ≡ get_or c.readers n [] = ap (map (λ p. get_or c.order p 0)) xs_is ∙ at.are in
    ActivatesReaders-each c n old new w l (subst (λ (ns : List ℕ). ActivatesEach ns old new) are (activates c.order s within))
