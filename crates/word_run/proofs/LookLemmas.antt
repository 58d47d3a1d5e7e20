-- The windows that are open behind looks, one look after another.
use Rattle.std.proofs.Common.{◌≡◌, ◌≢◌, ℕ, ◌+◌, ◌<◌, List, length, get_or, take, replicate, Option, None, sym, ap, ◌∙◌, arith, inl, inr}
use Rattle.std.proofs.lemmas.List.{get_or-replicate, get_or_past, length-replicate}
use Rattle.std.proofs.lemmas.Bool.{cases_lt, cases_eq}
use Rattle.tester_types.specs.declared.wave.Look.{Look}
use Rattle.strobe_check.specs.Step.{looks_of, opened, window_after}
use Rattle.strobe_check.proofs.LookLemmas.{window_after-own, window_after-other}

-- one more look
pub windows_more : (first old new : List (Option Look)) (looks : List (ℕ × Look)) (i : ℕ) (d : ℕ × Look) → i < length looks
    → length old ≡ length first
    → ((s : ℕ) → s < length first → get_or old s None ≡ window_after (get_or first s None) (looks_of s (take i looks)))
    → ((get_or looks i d).0 < length old → get_or new (get_or looks i d).0 None ≡ opened (get_or looks i d).1)
    → ((s : ℕ) → s ≢ (get_or looks i d).0 → get_or new s None ≡ get_or old s None)
    → (s : ℕ) → s < length first → get_or new s None ≡ window_after (get_or first s None) (looks_of s (take (i + 1) looks))
windows_more first old new looks i d within count before here others s inside =
    let signal = (get_or looks i d).0 in
    elim (cases_eq s signal) [
      | inl same ↦
          ap (λ (k : ℕ). get_or new k None) same ∙ here (omega (arith, same, inside, count))
          ∙ sym (window_after-own (get_or first s None) s looks i d within (sym same))
      | inr apart ↦
          others s apart ∙ before s inside
          ∙ sym (window_after-other (get_or first s None) s looks i d within (λ e. apart (sym e)))
    ]

-- nothing at any place
pub none_at : {X : Type 0} (n s : ℕ) → get_or (replicate {A = Option X} n None) s None ≡ None
none_at {X} n s =
    elim (cases_lt s n) [
      | inl l ↦ get_or-replicate n s None None l
      | inr l ↦ get_or_past (replicate {A = Option X} n None) s None (let long = length-replicate {A = Option X} n None in omega (arith, l, long))
    ]
