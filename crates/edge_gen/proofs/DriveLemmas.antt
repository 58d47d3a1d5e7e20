-- One signal after another, the last drive of each is what stays of its drives.
use Rattle.std.proofs.Common.{◌≡◌, ℕ, zero, suc, ◌-◌, ◌<◌, false, eqb, List, [], ◌∷◌, ◌++◌, length, take, map, Option, Some, None, refl, ap, ◌∙◌, arith}
use Rattle.std.proofs.lemmas.Bool.{eq-eqb, ne_eqb, cond-true, cond-false}
use Rattle.std.proofs.lemmas.List.{append-nil, length_push, take_at}
use Rattle.std.specs.List.{AllByRecursion, fold, last_or, slice_get}
use Rattle.std.specs.Option.{option_map_or, option_to_list}
use Rattle.tester_types.specs.declared.wave.Push.{Push}
use Rattle.edge_gen.specs.Step.{with_drive}

-- the drives so far are of signals below this one
abbrev pub AreBelow : ℕ → List (ℕ × Push) → Type 0
AreBelow signal drives = AllByRecursion (λ drive. drive.0 < signal) drives

-- a signal's drive, if it has one
abbrev pub drive_if : ℕ → Option Push → List (ℕ × Push)
drive_if signal push = map (λ p. (signal, p)) (option_to_list push)

slice_get-end : {X : Type 0} (xs : List X) (x : X) → slice_get (xs ++ x ∷ []) (length xs) ≡ Some x
slice_get-end [] x = refl
slice_get-end (y ∷ ys) x = slice_get-end ys x

before_last : {X : Type 0} (xs : List X) (x : X) → length (xs ++ x ∷ []) - 1 ≡ length xs
before_last xs x = omega (arith, length_push xs x)

with_drive-same : (before : List (ℕ × Push)) (signal : ℕ) (old new : Push)
    → with_drive (before ++ (signal, old) ∷ []) (signal, new) ≡ before ++ (signal, new) ∷ []
with_drive-same before signal old new =
    let drives = before ++ (signal, old) ∷ [] in
    let front = before_last before (signal, old) in
    let last = ap (slice_get drives) front ∙ slice_get-end before (signal, old) in
    let ends = ap (λ o. option_map_or (λ drive. eqb drive.0 signal) o false) last
    ∙ eq-eqb signal signal refl in
    let kept = ap (λ n. take n drives) front ∙ take_at before ((signal, old) ∷ []) (length before) refl in
    ap (λ l. l ++ (signal, new) ∷ []) (cond-true _ _ _ ends ∙ kept)

ends_with-below : (before : List (ℕ × Push)) (signal k : ℕ) → AreBelow signal before
    → option_map_or (λ drive. eqb drive.0 signal) (slice_get before k) false ≡ false
ends_with-below [] signal k below = refl
ends_with-below (drive ∷ before) signal zero below =
    ne_eqb drive.0 signal (λ e. omega (arith, below.0))
ends_with-below (drive ∷ before) signal (suc k) below = ends_with-below before signal k below.1

with_drive-first : (before : List (ℕ × Push)) (signal : ℕ) (new : Push) → AreBelow signal before
    → with_drive before (signal, new) ≡ before ++ (signal, new) ∷ []
with_drive-first before signal new below =
    ap (λ l. l ++ (signal, new) ∷ []) (cond-false _ _ _ (ends_with-below before signal (length before - 1) below))

-- the drives of one signal
pub drives-of_signal : (before : List (ℕ × Push)) (signal : ℕ) (old : Option Push) (pushes : List Push)
    → AreBelow signal before
    → fold with_drive (before ++ drive_if signal old) (map (λ p. (signal, p)) pushes)
    ≡ before ++ drive_if signal (last_or old pushes)
drives-of_signal before signal old [] below = refl
drives-of_signal before signal None (push ∷ pushes) below =
    ap (λ l. fold with_drive (with_drive l (signal, push)) (map (λ p. (signal, p)) pushes)) (append-nil before)
    ∙ ap (λ l. fold with_drive l (map (λ p. (signal, p)) pushes)) (with_drive-first before signal push below)
    ∙ drives-of_signal before signal (Some push) pushes below
drives-of_signal before signal (Some old) (push ∷ pushes) below =
    ap (λ l. fold with_drive l (map (λ p. (signal, p)) pushes)) (with_drive-same before signal old push)
    ∙ drives-of_signal before signal (Some push) pushes below
