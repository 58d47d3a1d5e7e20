-- A record of six fields, by its fields one after the other.
use Rattle.std.proofs.Common.{◌≡◌, ℕ, zero, suc, ◌<◌, ◌≤◌, List, [], ◌∷◌, length, Some, None, arith}
use Rattle.csv.specs.Records.{field_at}

-- where there is no field, there are no more
pub none_beyond : (fields : List (List ℕ)) (i : ℕ) → None ≡ field_at fields i → length fields ≤ i
unfolding field_at
none_beyond [] i h = omega arith
none_beyond (f ∷ fs) zero h = absurd (differ h)
  where
    differ : {X : Type 0} {x : X} → None ≡ Some x → ⊥
    differ h = cc
none_beyond (f ∷ fs) (suc i) h = omega (arith, none_beyond fs i h)

-- so no field of six is missing
pub none_of_six : (fields : List (List ℕ)) (i : ℕ) → length fields ≡ 6 → i < 6 → None ≡ field_at fields i → ⊥
none_of_six fields i six low h = omega (arith, none_beyond fields i h)

-- the six fields
pub six_is : (fields : List (List ℕ)) (k a b c d e : List ℕ) → length fields ≡ 6 → Some k ≡ field_at fields 0 → Some a ≡ field_at fields 1
    → Some b ≡ field_at fields 2 → Some c ≡ field_at fields 3 → Some d ≡ field_at fields 4 → Some e ≡ field_at fields 5
    → k ∷ a ∷ b ∷ c ∷ d ∷ e ∷ [] ≡ fields
unfolding field_at
six_is (l ∷ g ∷ h ∷ i ∷ j ∷ m ∷ []) k a b c d e six s0 s1 s2 s3 s4 s5 = cc
six_is [] k a b c d e six s0 s1 s2 s3 s4 s5 = absurd (omega arith)
six_is (l ∷ []) k a b c d e six s0 s1 s2 s3 s4 s5 = absurd (omega arith)
six_is (l ∷ g ∷ []) k a b c d e six s0 s1 s2 s3 s4 s5 = absurd (omega arith)
six_is (l ∷ g ∷ h ∷ []) k a b c d e six s0 s1 s2 s3 s4 s5 = absurd (omega arith)
six_is (l ∷ g ∷ h ∷ i ∷ []) k a b c d e six s0 s1 s2 s3 s4 s5 = absurd (omega arith)
six_is (l ∷ g ∷ h ∷ i ∷ j ∷ []) k a b c d e six s0 s1 s2 s3 s4 s5 = absurd (omega arith)
six_is (l ∷ g ∷ h ∷ i ∷ j ∷ m ∷ x ∷ xs) k a b c d e six s0 s1 s2 s3 s4 s5 = absurd (omega arith)
