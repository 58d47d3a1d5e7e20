-- The faults one after another, each in its lane.
use Rattle.std.proofs.Common.{◌≡◌, ◌≢◌, ℕ, ◌+◌, ◌<◌, ◌≤◌, Option, Some, None, List, [], ◌∷◌, length, get_or, replicate, sym, ap, ◌∙◌, subst, arith, inl, inr}
use Rattle.std.proofs.lemmas.List.{get_or-replicate, length-replicate}
use Rattle.std.proofs.lemmas.Bool.{cases_eq}
use Rattle.tester_types.specs.declared.level.Level.{Level}
use Rattle.die_sim.specs.Die.{stuck, fixed_of}
use Rattle.die_sim.specs.declared.image.StuckAt.{StuckAt}
use Rattle.die_words.specs.declared.word.Word.{Word}
use Rattle.die_words.specs.Lane.{nothing, ShowsFault, AreFaults}
use Rattle.die_words.proofs.LaneLemmas.{AreFaults-put, AreFaults-kept, AreFaults-none}

-- the first of these faults are in their lanes, and in the others is none
pub record AreLaid (nets : ℕ) (faults : List StuckAt) (forces : List Word) (i : ℕ) : Type 0 where
  pub count : length forces ≡ nets
  pub done : (k : ℕ) (d : StuckAt) → k < i → AreFaults forces k (fixed_of nets (get_or faults k d ∷ []))
  pub rest : (k : ℕ) → i ≤ k → AreFaults forces k (replicate nets None)

pub AreLaid-none : (nets : ℕ) (faults : List StuckAt) → AreLaid nets faults (replicate nets nothing) 0
AreLaid-none nets faults = record {
  count = length-replicate nets nothing;
  done = λ k d l. absurd (omega (arith, l));
  rest = λ k l. AreFaults-none nets k;
}

-- one more is
pub AreLaid-more : (nets : ℕ) (faults : List StuckAt) (forces next : List Word) (i : ℕ) (fault : StuckAt)
    → ((d : StuckAt) → get_or faults i d ≡ fault) → fault.net < nets → length next ≡ length forces
    → (ShowsFault (get_or forces fault.net nothing) i None → ShowsFault (get_or next fault.net nothing) i (Some (stuck fault.value)))
    → ((k : ℕ) (f : Option Level) → k ≢ i → ShowsFault (get_or forces fault.net nothing) k f
    → ShowsFault (get_or next fault.net nothing) k f)
    → ((m : ℕ) → m ≢ fault.net → get_or next m nothing ≡ get_or forces m nothing)
    → AreLaid nets faults forces i → AreLaid nets faults next (i + 1)
AreLaid-more nets faults forces next i fault fault_is net_in count here lanes others h =
    let inside : fault.net < length forces = omega (arith, net_in, h.count) in
    record {
      count = count ∙ h.count;
      done = λ k d l. elim (cases_eq k i) [
        | inl q ↦
            let none = h.rest i (omega arith) in
            let free : ShowsFault (get_or forces fault.net nothing) i None =
            subst (λ (f : Option Level). ShowsFault (get_or forces fault.net nothing) i f) (get_or-replicate nets fault.net None None net_in) (none.each fault.net inside) in
            let is : fault ≡ get_or faults k d = sym (ap (λ (j : ℕ). get_or faults j d) q ∙ fault_is d) in
            subst (λ (j : ℕ). AreFaults next j (fixed_of nets (get_or faults k d ∷ []))) (sym q)
            (subst (λ (s : StuckAt). AreFaults next i (fixed_of nets (s ∷ []))) is
            (AreFaults-put forces next i fault.net (replicate nets None) (Some (stuck fault.value)) count inside (here free) others none))
        | inr ne ↦
            let was = h.done k d (omega (arith, l, ne)) in
            AreFaults-kept forces next k fault.net (fixed_of nets (get_or faults k d ∷ [])) count inside
            (lanes k (get_or (fixed_of nets (get_or faults k d ∷ [])) fault.net None) ne (was.each fault.net inside)) others was
      ];
      rest = λ k l.
          let was = h.rest k (omega (arith, l)) in
          AreFaults-kept forces next k fault.net (replicate nets None) count inside
          (lanes k (get_or (replicate nets None) fault.net None) (λ q. omega (arith, l, q)) (was.each fault.net inside)) others was;
    }
