-- One more entry adds its own fails at the end of a cycle's, signal by signal.
use Rattle.std.proofs.Common.{◌≡◌, ℕ, ◌<◌, Bool, eqb, List, [], ◌∷◌, ◌++◌, length, map, filter, refl, ap, ◌∙◌, arith, zero-add}
use Rattle.std.proofs.lemmas.Bool.{cond-true, cond-false, eq-eqb, ne_eqb}
use Rattle.std.proofs.lemmas.List.{append-nil, map-append, length_push}
use Rattle.std.proofs.lemmas.List.Concat.{flat_map-append}
use Rattle.std.proofs.lemmas.List.Elements.{filter-append}
use Rattle.std.specs.List.{AllByRecursion, flat_map, range_with_len}
use Rattle.text_bytes.proofs.ListLemmas.{range-push}
use Rattle.tester_types.specs.declared.wave.Look.{Look}
use Rattle.tester_types.specs.declared.record.Fail.{Fail}
use Rattle.strobe_check.specs.Entry.{Entry, looks_at, level_of, fail_at}
use Rattle.strobe_check.specs.Fails.{fails_of, at_place, bound_signals, fails}
use Rattle.strobe_check.specs.History.{open_window}
use Rattle.strobe_check.specs.Step.{failed}
use Rattle.strobe_check.proofs.ListLemmas.{flat_map-same, flat_map-below}
use Rattle.strobe_check.proofs.FailLemmas.{fail_here, fails_of-push}
use Rattle.strobe_check.proofs.PlaceLemmas.{fails_of-below}

-- the fails of a signal that come at the next entry
abbrev pub new_fails : List Entry → Entry → ℕ → List Fail
new_fails entries entry signal =
    map (λ look. fail_at signal look entry)
    (failed (level_of signal entry) (open_window signal entries) (looks_at signal entry.moment))

-- ---- fails by place

at_place-append : (place : ℕ) (xs ys : List (ℕ × Fail))
    → at_place place (xs ++ ys) ≡ at_place place xs ++ at_place place ys
at_place-append place xs ys =
    ap (map (λ (fail : ℕ × Fail). fail.1)) (filter-append (λ fail. eqb fail.0 place) xs ys)
    ∙ map-append (λ (fail : ℕ × Fail). fail.1) (filter (λ fail. eqb fail.0 place) xs)
    (filter (λ fail. eqb fail.0 place) ys)

at_place-none : (place : ℕ) (xs : List (ℕ × Fail)) → AllByRecursion (λ fail. fail.0 < place) xs
    → at_place place xs ≡ []
at_place-none place [] below = refl
at_place-none place (x ∷ xs) below =
    ap (map (λ (fail : ℕ × Fail). fail.1))
    (cond-false _ _ _ (ne_eqb x.0 place (λ e. omega (arith, below.0))))
    ∙ at_place-none place xs below.1

at_place-here : (signal place : ℕ) (entry : Entry) (looks : List Look)
    → at_place place (map (fail_here signal (place, entry)) looks)
    ≡ map (λ look. fail_at signal look entry) looks
at_place-here signal place entry [] = refl
at_place-here signal place entry (look ∷ looks) =
    ap (map (λ (fail : ℕ × Fail). fail.1)) (cond-true _ _ _ (eq-eqb place place refl))
    ∙ ap (λ l. fail_at signal look entry ∷ l) (at_place-here signal place entry looks)

at_place-other : (signal place other : ℕ) (entry : Entry) (looks : List Look) → (place ≡ other → ⊥)
    → at_place other (map (fail_here signal (place, entry)) looks) ≡ []
at_place-other signal place other entry [] apart = refl
at_place-other signal place other entry (look ∷ looks) apart =
    ap (map (λ (fail : ℕ × Fail). fail.1)) (cond-false _ _ _ (ne_eqb place other apart))
    ∙ at_place-other signal place other entry looks apart

-- a place of the entries before
fails-before : (signal place : ℕ) (entries : List Entry) (entry : Entry) → place < length entries
    → at_place place (fails_of signal (entries ++ entry ∷ []))
    ≡ at_place place (fails_of signal entries)
fails-before signal place entries entry before =
    ap (at_place place) (fails_of-push signal entries entry)
    ∙ at_place-append place (fails_of signal entries) _
    ∙ ap (λ l. at_place place (fails_of signal entries) ++ l)
    (at_place-other signal (length entries) place entry _ (λ e. omega arith))
    ∙ append-nil _

-- the place of the new entry
fails-new : (signal : ℕ) (entries : List Entry) (entry : Entry)
    → at_place (length entries) (fails_of signal (entries ++ entry ∷ []))
    ≡ new_fails entries entry signal
fails-new signal entries entry =
    let place = length entries in
    let looks = failed (level_of signal entry) (open_window signal entries) (looks_at signal entry.moment) in
    ap (at_place place) (fails_of-push signal entries entry)
    ∙ at_place-append place (fails_of signal entries) (map (fail_here signal (place, entry)) looks)
    ∙ ap (λ l. l ++ at_place place (map (fail_here signal (place, entry)) looks))
    (at_place-none place (fails_of signal entries) (fails_of-below signal entries))
    ∙ at_place-here signal place entry looks

-- ---- all signals

pub fails-push : (bound : List Bool) (entries : List Entry) (entry : Entry)
    → fails bound (entries ++ entry ∷ [])
    ≡ fails bound entries ++ flat_map (new_fails entries entry) (bound_signals bound)
unfolding fails
fails-push bound entries entry =
    let n = length entries in
    let signals = bound_signals bound in
    let after = λ (place : ℕ). flat_map (λ signal. at_place place (fails_of signal (entries ++ entry ∷ []))) signals in
    let before = λ (place : ℕ). flat_map (λ signal. at_place place (fails_of signal entries)) signals in
    ap (λ k. flat_map after (range_with_len 0 k)) (length_push entries entry)
    ∙ ap (flat_map after) (range-push 0 n ∙ ap (λ k. range_with_len 0 n ++ k ∷ []) (zero-add n))
    ∙ flat_map-append after (range_with_len 0 n) (n ∷ [])
    ∙ ap (λ l. l ++ (after n ++ []))
    (flat_map-below after before n 0 n (zero-add n) (λ k lt. flat_map-same _ _ (λ signal. fails-before signal k entries entry lt) signals))
    ∙ ap (λ l. flat_map before (range_with_len 0 n) ++ l)
    (append-nil (after n) ∙ flat_map-same _ (new_fails entries entry) (λ signal. fails-new signal entries entry) signals)
