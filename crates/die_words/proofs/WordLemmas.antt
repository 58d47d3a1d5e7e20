-- An operation on words is that on the levels in each lane: two equations over levels, shown for all of them.
use Rattle.std.proofs.Common.{◌≡◌, ◌≢◌, ℕ, ◌-◌, ◌*◌, ◌%◌, ◌^◌, ◌<◌, ◌⊎◌, inl, inr, Bool, true, false, not, eqb, min, max, Option, Some, None, sym, ap, ◌∙◌, refl, w64}
use Rattle.std.specs.Prelude.{bit_and, bit_or, unwrap_or}
use Rattle.std.specs.Int.{bit_at}
use Rattle.std.proofs.lemmas.Nat.Bits.{bit_at_and, bit_at_or, bit_at_not, bit_at-zero, bit_at_set_same, bit_at_set_other}
use Rattle.std.proofs.lemmas.Bool.{eqb-true}
use Rattle.tester_types.specs.declared.level.Level.{Level}
use Rattle.tester_types.specs.declared.level.Level.TheVariants.{Zero, One, X, Z}
use Rattle.tester_types.specs.declared.wave.Look.{Look}
use Rattle.tester_types.specs.declared.wave.Look.TheVariants.{Low, High, Off, LowWindow, HighWindow, OffWindow}
use Rattle.bench_net.specs.Gates.{is_zero, is_one, negated}
use Rattle.die_sim.specs.Die.{stuck}
use Rattle.die_sim.specs.Moment.{agreed}
use Rattle.die_sim.specs.Walk.{is_off}
use Rattle.die_sim.proofs.TableLemmas.{all_levels, at_level}
use Rattle.strobe_check.specs.Look.{is_met}
use Rattle.die_words.specs.declared.word.Word.{Word}
use Rattle.die_words.specs.Lane.{bit, Shows, ShowsFault}
use Rattle.die_words.specs.Pairs.{both, either, differ}

-- two numbers of two levels are one where the test of all levels says so
pub by_test : (f g : Level → Level → ℕ) → all_levels (λ a. all_levels (λ b. eqb (f a b) (g a b))) ≡ true
    → (a b : Level) → f a b ≡ g a b
by_test f g e a b = eqb-true (f a b) (g a b) (at_level (λ y. eqb (f a y) (g a y)) (at_level (λ x. all_levels (λ y. eqb (f x y) (g x y))) e a) b)

-- bits of words by those of what they are made of
pub and_is : (a b k m n : ℕ) → bit_at a k ≡ m → bit_at b k ≡ n → bit_at (bit_and a b) k ≡ min m n
and_is a b k m n p q = bit_at_and a b k ∙ ap (λ (x : ℕ). min x (bit_at b k)) p ∙ ap (min m) q

pub or_is : (a b k m n : ℕ) → bit_at a k ≡ m → bit_at b k ≡ n → bit_at (bit_or a b) k ≡ max m n
or_is a b k m n p q = bit_at_or a b k ∙ ap (λ (x : ℕ). max x (bit_at b k)) p ∙ ap (max m) q

pub not_is : (a k m : ℕ) → a < 2 ^ 64 → k < 64 → bit_at a k ≡ m → bit_at (18446744073709551615 - a) k ≡ 1 - m
not_is a k m small within p = bit_at_not w64 a k small within ∙ ap (λ (x : ℕ). 1 - x) p

-- AND, OR, XOR, NOT
zero_of_both : (x y : Level) → max (bit (is_zero x)) (bit (is_zero y)) ≡ bit (is_zero (both x y))
zero_of_both = by_test (λ x y. max (bit (is_zero x)) (bit (is_zero y))) (λ x y. bit (is_zero (both x y))) refl

one_of_both : (x y : Level) → min (bit (is_one x)) (bit (is_one y)) ≡ bit (is_one (both x y))
one_of_both = by_test (λ x y. min (bit (is_one x)) (bit (is_one y))) (λ x y. bit (is_one (both x y))) refl

pub shows_both : (a b : Word) (k : ℕ) (x y : Level) → Shows a k x → Shows b k y
    → Shows (record { zeros = bit_or a.zeros b.zeros; ones = bit_and a.ones b.ones }) k (both x y)
shows_both a b k x y p q = record {
  zero = or_is a.zeros b.zeros k _ _ p.zero q.zero ∙ zero_of_both x y;
  one = and_is a.ones b.ones k _ _ p.one q.one ∙ one_of_both x y;
}

zero_of_either : (x y : Level) → min (bit (is_zero x)) (bit (is_zero y)) ≡ bit (is_zero (either x y))
zero_of_either = by_test (λ x y. min (bit (is_zero x)) (bit (is_zero y))) (λ x y. bit (is_zero (either x y))) refl

one_of_either : (x y : Level) → max (bit (is_one x)) (bit (is_one y)) ≡ bit (is_one (either x y))
one_of_either = by_test (λ x y. max (bit (is_one x)) (bit (is_one y))) (λ x y. bit (is_one (either x y))) refl

pub shows_either : (a b : Word) (k : ℕ) (x y : Level) → Shows a k x → Shows b k y
    → Shows (record { zeros = bit_and a.zeros b.zeros; ones = bit_or a.ones b.ones }) k (either x y)
shows_either a b k x y p q = record {
  zero = and_is a.zeros b.zeros k _ _ p.zero q.zero ∙ zero_of_either x y;
  one = or_is a.ones b.ones k _ _ p.one q.one ∙ one_of_either x y;
}

zero_of_differ : (x y : Level)
    → max (min (bit (is_zero x)) (bit (is_zero y))) (min (bit (is_one x)) (bit (is_one y))) ≡ bit (is_zero (differ x y))
zero_of_differ =
    by_test (λ x y. max (min (bit (is_zero x)) (bit (is_zero y))) (min (bit (is_one x)) (bit (is_one y))))
    (λ x y. bit (is_zero (differ x y))) refl

one_of_differ : (x y : Level)
    → max (min (bit (is_zero x)) (bit (is_one y))) (min (bit (is_one x)) (bit (is_zero y))) ≡ bit (is_one (differ x y))
one_of_differ =
    by_test (λ x y. max (min (bit (is_zero x)) (bit (is_one y))) (min (bit (is_one x)) (bit (is_zero y))))
    (λ x y. bit (is_one (differ x y))) refl

pub shows_differ : (a b : Word) (k : ℕ) (x y : Level) → Shows a k x → Shows b k y
    → Shows (record {
      zeros = bit_or (bit_and a.zeros b.zeros) (bit_and a.ones b.ones);
      ones = bit_or (bit_and a.zeros b.ones) (bit_and a.ones b.zeros);
    }) k (differ x y)
shows_differ a b k x y p q = record {
  zero = or_is (bit_and a.zeros b.zeros) (bit_and a.ones b.ones) k _ _
      (and_is a.zeros b.zeros k _ _ p.zero q.zero) (and_is a.ones b.ones k _ _ p.one q.one) ∙ zero_of_differ x y;
  one = or_is (bit_and a.zeros b.ones) (bit_and a.ones b.zeros) k _ _
      (and_is a.zeros b.ones k _ _ p.zero q.one) (and_is a.ones b.zeros k _ _ p.one q.zero) ∙ one_of_differ x y;
}

zero_of_negated : (x : Level) → bit (is_one x) ≡ bit (is_zero (negated x))
zero_of_negated Zero = refl
zero_of_negated One = refl
zero_of_negated X = refl
zero_of_negated Z = refl

one_of_negated : (x : Level) → bit (is_zero x) ≡ bit (is_one (negated x))
one_of_negated Zero = refl
one_of_negated One = refl
one_of_negated X = refl
one_of_negated Z = refl

pub shows_negated : (a : Word) (k : ℕ) (x : Level) → Shows a k x
    → Shows (record { zeros = a.ones; ones = a.zeros }) k (negated x)
shows_negated a k x p = record { zero = p.one ∙ zero_of_negated x; one = p.zero ∙ one_of_negated x }

-- a net that is fixed in some dies
bit_forced : (w keep put k m n p : ℕ) → keep < 2 ^ 64 → k < 64 → bit_at w k ≡ m → bit_at keep k ≡ n → bit_at put k ≡ p
    → bit_at (bit_or (bit_and w (18446744073709551615 - keep)) put) k ≡ max (min m (1 - n)) p
bit_forced w keep put k m n p small within a b c =
    or_is (bit_and w (18446744073709551615 - keep)) put k (min m (1 - n)) p
    (and_is w (18446744073709551615 - keep) k m (1 - n) a (not_is keep k n small within b)) c

-- by what fixes it: nothing, 0 or 1
free : (x : Bool) → max (min (bit x) (1 - 0)) 0 ≡ bit x
free true = refl
free false = refl

put_there : (x : Bool) → max (min (bit x) (1 - 0)) 1 ≡ 1
put_there true = refl
put_there false = refl

cut_there : (x : Bool) → max (min (bit x) (1 - 1)) 0 ≡ 0
cut_there true = refl
cut_there false = refl

pub shows_forced : (word force : Word) → force.zeros < 2 ^ 64 → force.ones < 2 ^ 64 → (k : ℕ) (x : Level)
    (f : Option Level) → k < 64 → Shows word k x → ShowsFault force k f
    → Shows (record {
      zeros = bit_or (bit_and word.zeros (18446744073709551615 - force.ones)) force.zeros;
      ones = bit_or (bit_and word.ones (18446744073709551615 - force.zeros)) force.ones;
    }) k (unwrap_or f x)
shows_forced word force zs os k x None within p q = record {
  zero = bit_forced word.zeros force.ones force.zeros k _ _ _ os within p.zero q.one q.zero ∙ free (is_zero x);
  one = bit_forced word.ones force.zeros force.ones k _ _ _ zs within p.one q.zero q.one ∙ free (is_one x);
}
shows_forced word force zs os k x (Some Zero) within p q = record {
  zero = bit_forced word.zeros force.ones force.zeros k _ _ _ os within p.zero q.one q.zero ∙ put_there (is_zero x);
  one = bit_forced word.ones force.zeros force.ones k _ _ _ zs within p.one q.zero q.one ∙ cut_there (is_one x);
}
shows_forced word force zs os k x (Some One) within p q = record {
  zero = bit_forced word.zeros force.ones force.zeros k _ _ _ os within p.zero q.one q.zero ∙ cut_there (is_zero x);
  one = bit_forced word.ones force.zeros force.ones k _ _ _ zs within p.one q.zero q.one ∙ put_there (is_one x);
}
shows_forced word force zs os k x (Some X) within p q = absurd q
shows_forced word force zs os k x (Some Z) within p q = absurd q

-- a word with the same bits at a lane says the same there
pub shows_same : (a b : Word) (k : ℕ) (x : Level) → bit_at b.zeros k ≡ bit_at a.zeros k
    → bit_at b.ones k ≡ bit_at a.ones k → Shows a k x → Shows b k x
shows_same a b k x p q h = record { zero = p ∙ h.zero; one = q ∙ h.one }

pub fault_same : (a b : Word) (k : ℕ) (f : Option Level) → bit_at b.zeros k ≡ bit_at a.zeros k
    → bit_at b.ones k ≡ bit_at a.ones k → ShowsFault a k f → ShowsFault b k f
fault_same a b k None p q h = shows_same a b k X p q h
fault_same a b k (Some Zero) p q h = shows_same a b k Zero p q h
fault_same a b k (Some One) p q h = shows_same a b k One p q h
fault_same a b k (Some X) p q h = h
fault_same a b k (Some Z) p q h = h

-- one fault more, in a lane
pub put_one : (force : Word) (lane : ℕ) (value : Bool) → lane < 64 → value ≡ true → ShowsFault force lane None
    → ShowsFault (record { zeros = force.zeros; ones = bit_or force.ones (1 * 2 ^ lane % 18446744073709551616) }) lane (Some (stuck value))
put_one force lane true within e h = record { zero = h.zero; one = bit_at_set_same w64 force.ones lane within }
put_one force lane false within e h = cc

pub put_zero : (force : Word) (lane : ℕ) (value : Bool) → lane < 64 → value ≡ false → ShowsFault force lane None
    → ShowsFault (record { zeros = bit_or force.zeros (1 * 2 ^ lane % 18446744073709551616); ones = force.ones }) lane (Some (stuck value))
put_zero force lane false within e h = record { zero = bit_at_set_same w64 force.zeros lane within; one = h.one }
put_zero force lane true within e h = cc

-- and in the other lanes as before
pub other_one : (force : Word) (lane : ℕ) → lane < 64 → (k : ℕ) (f : Option Level) → k ≢ lane → ShowsFault force k f
    → ShowsFault (record { zeros = force.zeros; ones = bit_or force.ones (1 * 2 ^ lane % 18446744073709551616) }) k f
other_one force lane within k f ne h =
    fault_same force (record { zeros = force.zeros; ones = bit_or force.ones (1 * 2 ^ lane % 18446744073709551616) }) k f refl
    (bit_at_set_other w64 force.ones lane within k ne) h

pub other_zero : (force : Word) (lane : ℕ) → lane < 64 → (k : ℕ) (f : Option Level) → k ≢ lane → ShowsFault force k f
    → ShowsFault (record { zeros = bit_or force.zeros (1 * 2 ^ lane % 18446744073709551616); ones = force.ones }) k f
other_zero force lane within k f ne h =
    fault_same force (record { zeros = bit_or force.zeros (1 * 2 ^ lane % 18446744073709551616); ones = force.ones }) k f
    (bit_at_set_other w64 force.zeros lane within k ne) refl h

-- an edge in doubt
zero_of_agreed : (x y : Level) → min (bit (is_zero x)) (bit (is_zero y)) ≡ bit (is_zero (agreed x y))
zero_of_agreed = by_test (λ x y. min (bit (is_zero x)) (bit (is_zero y))) (λ x y. bit (is_zero (agreed x y))) refl

one_of_agreed : (x y : Level) → min (bit (is_one x)) (bit (is_one y)) ≡ bit (is_one (agreed x y))
one_of_agreed = by_test (λ x y. min (bit (is_one x)) (bit (is_one y))) (λ x y. bit (is_one (agreed x y))) refl

pub shows_agreed : (a b : Word) (k : ℕ) (x y : Level) → Shows a k x → Shows b k y
    → Shows (record { zeros = bit_and a.zeros b.zeros; ones = bit_and a.ones b.ones }) k (agreed x y)
shows_agreed a b k x y p q = record {
  zero = and_is a.zeros b.zeros k _ _ p.zero q.zero ∙ zero_of_agreed x y;
  one = and_is a.ones b.ones k _ _ p.one q.one ∙ one_of_agreed x y;
}

-- looks
pub fails_low : (look : Look) (zeros k : ℕ) (x : Level) → (look ≡ Low) ⊎ (look ≡ LowWindow) → zeros < 2 ^ 64 → k < 64
    → bit_at zeros k ≡ bit (is_zero x) → bit_at (18446744073709551615 - zeros) k ≡ bit (not (is_met look x))
fails_low look zeros k x kind small within h = not_is zeros k (bit (is_zero x)) small within h ∙ low look x kind
  where
    low : (l : Look) (y : Level) → (l ≡ Low) ⊎ (l ≡ LowWindow) → 1 - bit (is_zero y) ≡ bit (not (is_met l y))
    low l Zero (inl e) = ap (λ (m : Look). bit (not (is_met m Zero))) (sym e)
    low l Zero (inr e) = ap (λ (m : Look). bit (not (is_met m Zero))) (sym e)
    low l One (inl e) = ap (λ (m : Look). bit (not (is_met m One))) (sym e)
    low l One (inr e) = ap (λ (m : Look). bit (not (is_met m One))) (sym e)
    low l X (inl e) = ap (λ (m : Look). bit (not (is_met m X))) (sym e)
    low l X (inr e) = ap (λ (m : Look). bit (not (is_met m X))) (sym e)
    low l Z (inl e) = ap (λ (m : Look). bit (not (is_met m Z))) (sym e)
    low l Z (inr e) = ap (λ (m : Look). bit (not (is_met m Z))) (sym e)

pub fails_high : (look : Look) (ones k : ℕ) (x : Level) → (look ≡ High) ⊎ (look ≡ HighWindow) → ones < 2 ^ 64 → k < 64
    → bit_at ones k ≡ bit (is_one x) → bit_at (18446744073709551615 - ones) k ≡ bit (not (is_met look x))
fails_high look ones k x kind small within h = not_is ones k (bit (is_one x)) small within h ∙ high look x kind
  where
    high : (l : Look) (y : Level) → (l ≡ High) ⊎ (l ≡ HighWindow) → 1 - bit (is_one y) ≡ bit (not (is_met l y))
    high l Zero (inl e) = ap (λ (m : Look). bit (not (is_met m Zero))) (sym e)
    high l Zero (inr e) = ap (λ (m : Look). bit (not (is_met m Zero))) (sym e)
    high l One (inl e) = ap (λ (m : Look). bit (not (is_met m One))) (sym e)
    high l One (inr e) = ap (λ (m : Look). bit (not (is_met m One))) (sym e)
    high l X (inl e) = ap (λ (m : Look). bit (not (is_met m X))) (sym e)
    high l X (inr e) = ap (λ (m : Look). bit (not (is_met m X))) (sym e)
    high l Z (inl e) = ap (λ (m : Look). bit (not (is_met m Z))) (sym e)
    high l Z (inr e) = ap (λ (m : Look). bit (not (is_met m Z))) (sym e)

pub fails_off : (look : Look) (off k : ℕ) (x : Level) → (look ≡ Off) ⊎ (look ≡ OffWindow) → off < 2 ^ 64 → k < 64
    → bit_at off k ≡ bit (is_off x) → bit_at (18446744073709551615 - off) k ≡ bit (not (is_met look x))
fails_off look off k x kind small within h = not_is off k (bit (is_off x)) small within h ∙ not_off look x kind
  where
    not_off : (l : Look) (y : Level) → (l ≡ Off) ⊎ (l ≡ OffWindow) → 1 - bit (is_off y) ≡ bit (not (is_met l y))
    not_off l Zero (inl e) = ap (λ (m : Look). bit (not (is_met m Zero))) (sym e)
    not_off l Zero (inr e) = ap (λ (m : Look). bit (not (is_met m Zero))) (sym e)
    not_off l One (inl e) = ap (λ (m : Look). bit (not (is_met m One))) (sym e)
    not_off l One (inr e) = ap (λ (m : Look). bit (not (is_met m One))) (sym e)
    not_off l X (inl e) = ap (λ (m : Look). bit (not (is_met m X))) (sym e)
    not_off l X (inr e) = ap (λ (m : Look). bit (not (is_met m X))) (sym e)
    not_off l Z (inl e) = ap (λ (m : Look). bit (not (is_met m Z))) (sym e)
    not_off l Z (inr e) = ap (λ (m : Look). bit (not (is_met m Z))) (sym e)

-- where a net is off that is driven off
pub off_there : (force : Word) (k : ℕ) (f : Option Level) (x : Level) → bit_or force.zeros force.ones < 2 ^ 64 → k < 64
    → ShowsFault force k f → is_off x ≡ true
    → bit_at (18446744073709551615 - bit_or force.zeros force.ones) k ≡ bit (is_off (unwrap_or f x))
off_there force k None x small within h e =
    not_is (bit_or force.zeros force.ones) k _ small within (or_is force.zeros force.ones k _ _ h.zero h.one) ∙ ap bit (sym e)
off_there force k (Some Zero) x small within h e =
    not_is (bit_or force.zeros force.ones) k _ small within (or_is force.zeros force.ones k _ _ h.zero h.one)
off_there force k (Some One) x small within h e =
    not_is (bit_or force.zeros force.ones) k _ small within (or_is force.zeros force.ones k _ _ h.zero h.one)
off_there force k (Some X) x small within h e = absurd h
off_there force k (Some Z) x small within h e = absurd h

pub off_nowhere : (force : Word) (k : ℕ) (f : Option Level) (x : Level) → ShowsFault force k f → is_off x ≡ false
    → bit_at 0 k ≡ bit (is_off (unwrap_or f x))
off_nowhere force k None x h e = bit_at-zero k ∙ ap bit (sym e)
off_nowhere force k (Some Zero) x h e = bit_at-zero k
off_nowhere force k (Some One) x h e = bit_at-zero k
off_nowhere force k (Some X) x h e = absurd h
off_nowhere force k (Some Z) x h e = absurd h

-- nothing is fixed in a word of nothing
pub no_fault : (k : ℕ) → ShowsFault (record { zeros = 0; ones = 0 }) k None
no_fault k = record { zero = bit_at-zero k; one = bit_at-zero k }
