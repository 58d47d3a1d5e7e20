-- The nets of circuits by their names, and how signals are bound to them.
use Rattle.std.proofs.Common.{◌≡◌, ℕ, suc, ◌+◌, ◌≢◌, not, cond, List, [], ◌∷◌, length, Some, None, slice_get, refl, sym, ap, ◌∙◌, arith, inl, inr}
use Rattle.std.specs.Str.{bytes_eq}
use Rattle.std.specs.Cmp.Lexicographic.{bytes_decides}
use Rattle.std.proofs.lemmas.Bool.{cases_Bool, cases_lt}
use Rattle.std.proofs.lemmas.Option.{get_or_from_slice_get, slice_get_past}
use Rattle.bench_net.specs.Circuit.{Circuit, number, IsWhole}

-- the number of a net that has the name is the name's
pub number-found : (c : Circuit) (name : List ℕ) (n : ℕ) → IsWhole c → slice_get c.net.names n ≡ Some name →
    n ≡ number c.net.names name
number-found c name n whole at =
    elim (cases_lt n (length c.net.names)) [
      | inl h ↦ sym (ap (number c.net.names) (sym (get_or_from_slice_get c.net.names n name [] at)) ∙ whole.apart n h)
      | inr h ↦ absurd (none_some (sym (slice_get_past c.net.names n h) ∙ at))
    ]
  where
    none_some : {X : Type 0} {x : X} → None ≡ Some x → ⊥
    none_some e = cc

-- a name that no net has counts as the number of nets
pub number-none : (names : List (List ℕ)) (name : List ℕ) → ((n : ℕ) → slice_get names n ≢ Some name) →
    length names ≡ number names name
number-none [] name h = refl
number-none (k ∷ ks) name h =
    elim (cases_Bool (bytes_eq name k)) [
      | inl b ↦ absurd (h 0 (ap Some (sym ((bytes_decides name k).0 b))))
      | inr b ↦
          let rest : length ks ≡ number ks name = number-none ks name (λ n. h (suc n)) in
          sym (ap (λ x. cond {A = ℕ} (not x) (1 + number ks name) 0) b ∙ omega (arith, rest))
    ]
