-- Lists of words lane by lane: what is put at a place of the words is put there in each lane.
use Rattle.std.proofs.Common.{◌≡◌, ◌≢◌, ℕ, ◌<◌, Bool, false, Option, None, List, length, get_or, set, take, drop, ◌++◌, replicate, sym, ap, ◌∙◌, subst, arith, inl, inr, length-set}
use Rattle.std.proofs.lemmas.List.{get_or-set_same, get_or-set_other, get_or-replicate, length-replicate}
use Rattle.std.proofs.lemmas.Bool.{cases_eq}
use Rattle.std.proofs.Math.Seq.{take-append_seam}
use Rattle.std.proofs.lemmas.Nat.Bits.{bit_at-zero}
use Rattle.tester_types.specs.declared.level.Level.{Level}
use Rattle.tester_types.specs.declared.level.Level.TheVariants.{Zero}
use Rattle.bench_net.specs.declared.gate.Driver.{Driver}
use Rattle.bench_net.specs.declared.gate.Driver.TheVariants.{Input}
use Rattle.bench_net.specs.Wiring.{driver_at}
use Rattle.bench_net.specs.Gates.{level_at}
use Rattle.die_sim.specs.Walk.{is_off}
use Rattle.die_words.specs.declared.word.Word.{Word}
use Rattle.die_words.specs.Lane.{nothing, Shows, ShowsFault, IsLane, AreFaults}
use Rattle.die_words.specs.Lanes.{AreOff, OnlyInputs}

-- a word and a level are put at one place
pub IsLane-set : (words : List Word) (k n : ℕ) (w : Word) (v : List Level) (x : Level) → n < length words → Shows w k x
    → IsLane words k v → IsLane (set words n w) k (set v n x)
IsLane-set words k n w v x within shows h = record {
  count = length-set v n x ∙ h.count ∙ sym (length-set words n w);
  each = λ m l. elim (cases_eq m n) [
    | inl q ↦
        let there : n < length v = omega (arith, within, h.count) in
        subst (λ (i : ℕ). Shows (get_or (set words n w) i nothing) k (level_at (set v n x) i)) (sym q)
        (subst (λ (y : Word). Shows y k (level_at (set v n x) n)) (sym (get_or-set_same words n w nothing within))
        (subst (λ (y : Level). Shows w k y) (sym (get_or-set_same v n x Zero there)) shows))
    | inr ne ↦
        let inside : m < length words = omega (arith, l, length-set words n w) in
        subst (λ (y : Word). Shows y k (level_at (set v n x) m)) (sym (get_or-set_other words n m w nothing ne))
        (subst (λ (y : Level). Shows (get_or words m nothing) k y) (sym (get_or-set_other v n m x Zero ne)) (h.each m inside))
  ];
}

-- the same where it is said of the words' places
pub IsLane-put : (old next : List Word) (k n : ℕ) (v : List Level) (x : Level) → length next ≡ length old → n < length old
    → Shows (get_or next n nothing) k x → ((m : ℕ) → m ≢ n → get_or next m nothing ≡ get_or old m nothing)
    → IsLane old k v → IsLane next k (set v n x)
IsLane-put old next k n v x count within shows others h = record {
  count = length-set v n x ∙ h.count ∙ sym count;
  each = λ m l. elim (cases_eq m n) [
    | inl q ↦
        let there : n < length v = omega (arith, within, h.count) in
        subst (λ (i : ℕ). Shows (get_or next i nothing) k (level_at (set v n x) i)) (sym q)
        (subst (λ (y : Level). Shows (get_or next n nothing) k y) (sym (get_or-set_same v n x Zero there)) shows)
    | inr ne ↦
        subst (λ (y : Word). Shows y k (level_at (set v n x) m)) (sym (others m ne))
        (subst (λ (y : Level). Shows (get_or old m nothing) k y) (sym (get_or-set_other v n m x Zero ne))
        (h.each m (omega (arith, l, count))))
  ];
}

-- words that are lent as a slice come back
pub lent_back : (words done : List Word) (many : ℕ) → length words ≡ many → length done ≡ length words
    → take many (done ++ drop (length done) words) ≡ done
lent_back words done many whole all =
    ap (λ (n : ℕ). take n (done ++ drop (length done) words)) (sym whole ∙ sym all) ∙ take-append_seam done (drop (length done) words)

-- a word and what fixes its net are put at one place
pub AreFaults-put : (old next : List Word) (k n : ℕ) (fixed : List (Option Level)) (f : Option Level)
    → length next ≡ length old → n < length old → ShowsFault (get_or next n nothing) k f
    → ((m : ℕ) → m ≢ n → get_or next m nothing ≡ get_or old m nothing) → AreFaults old k fixed
    → AreFaults next k (set fixed n f)
AreFaults-put old next k n fixed f count within shows others h = record {
  count = length-set fixed n f ∙ h.count ∙ sym count;
  each = λ m l. elim (cases_eq m n) [
    | inl q ↦
        let there : n < length fixed = omega (arith, within, h.count) in
        subst (λ (i : ℕ). ShowsFault (get_or next i nothing) k (get_or (set fixed n f) i None)) (sym q)
        (subst (λ (y : Option Level). ShowsFault (get_or next n nothing) k y) (sym (get_or-set_same fixed n f None there)) shows)
    | inr ne ↦
        subst (λ (y : Word). ShowsFault y k (get_or (set fixed n f) m None)) (sym (others m ne))
        (subst (λ (y : Option Level). ShowsFault (get_or old m nothing) k y) (sym (get_or-set_other fixed n m f None ne))
        (h.each m (omega (arith, l, count))))
  ];
}

-- a word is put that fixes its net as before
pub AreFaults-kept : (old next : List Word) (k n : ℕ) (fixed : List (Option Level)) → length next ≡ length old → n < length old
    → ShowsFault (get_or next n nothing) k (get_or fixed n None)
    → ((m : ℕ) → m ≢ n → get_or next m nothing ≡ get_or old m nothing) → AreFaults old k fixed → AreFaults next k fixed
AreFaults-kept old next k n fixed count within shows others h = record {
  count = h.count ∙ sym count;
  each = λ m l. elim (cases_eq m n) [
    | inl q ↦ subst (λ (i : ℕ). ShowsFault (get_or next i nothing) k (get_or fixed i None)) (sym q) shows
    | inr ne ↦
        subst (λ (y : Word). ShowsFault y k (get_or fixed m None)) (sym (others m ne)) (h.each m (omega (arith, l, count)))
  ];
}

-- no net is fixed
pub AreFaults-none : (nets k : ℕ) → AreFaults (replicate nets nothing) k (replicate nets None)
AreFaults-none nets k = record {
  count = length-replicate nets None ∙ sym (length-replicate nets nothing);
  each = λ n l.
      let inside : n < nets = omega (arith, l, length-replicate {A = Word} nets nothing) in
      let none : ShowsFault nothing k None = record { zero = bit_at-zero k; one = bit_at-zero k } in
      subst (λ (w : Word). ShowsFault w k (get_or (replicate nets None) n None)) (sym (get_or-replicate nets n nothing nothing inside))
      (subst (λ (f : Option Level). ShowsFault nothing k f) (sym (get_or-replicate nets n None None inside)) none);
}

-- a net is driven, off or not
pub AreOff-set : (offs : List Bool) (own : List Level) (n : ℕ) (b : Bool) (x : Level) → n < length own → b ≡ is_off x
    → AreOff offs own → AreOff (set offs n b) (set own n x)
AreOff-set offs own n b x within is h = record {
  count = length-set offs n b ∙ h.count ∙ sym (length-set own n x);
  each = λ m l. elim (cases_eq m n) [
    | inl q ↦
        let there : n < length offs = omega (arith, within, h.count) in
        subst (λ (i : ℕ). is_off (level_at (set own n x) i) ≡ get_or (set offs n b) i false) (sym q)
        (ap is_off (get_or-set_same own n x Zero within) ∙ sym is ∙ sym (get_or-set_same offs n b false there))
    | inr ne ↦
        ap is_off (get_or-set_other own n m x Zero ne) ∙ h.each m (omega (arith, l, length-set own n x))
        ∙ sym (get_or-set_other offs n m b false ne)
  ];
}

-- an input is driven off, or isn't
pub OnlyInputs-set : (drivers : List Driver) (offs : List Bool) (n : ℕ) (b : Bool) → driver_at drivers n ≡ Input
    → OnlyInputs drivers offs → OnlyInputs drivers (set offs n b)
OnlyInputs-set drivers offs n b input h = record {
  each = λ m e. elim (cases_eq m n) [
    | inl q ↦ ap (λ (i : ℕ). driver_at drivers i) q ∙ input
    | inr ne ↦ h.each m (sym (get_or-set_other offs n m b false ne) ∙ e)
  ];
}
