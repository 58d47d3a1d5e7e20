-- What the readers of rows see.
use Rattle.std.proofs.Common.{◌≡◌, ℕ, zero, suc, ◌+◌, ◌*◌, ◌<◌, ◌≤◌, ◌⊎◌, Bool, true, false, not, cond, eqb, ltb, leb, ◌&&◌, ◌||◌, List, [], ◌∷◌, ◌++◌, length, Ok, Err, refl, sym, ap, subst, ◌∙◌, arith, inl, inr}
use Rattle.std.specs.Prelude.{slice_index}
use Rattle.std.specs.Int.{w16}
use Rattle.std.proofs.lemmas.Bool.{ltb-true}
use Rattle.packed_code.specs.RowBytes.{is_place}
use Rattle.packed_code.specs.Rows.{is_row_of}
use Rattle.page_code.specs.Changes.{last_row, with_changes, is_shorter, is_difference, least_behind}
use Rattle.page_code.specs.Fields.{◌>>=◌, Read, byte_at, number_at, judged, checked, items_at}
use Rattle.page_code.specs.Reading.{characters_at, change_from, change_at, changed_at, difference_at, whole_row_at, formed_row_at, row_at, version_of, known_version}
use Rattle.page_code.proofs.ReaderLaws.{bind_ok, ok_is}
use Rattle.saved_laws.proofs.Sights.{refused, IsLocal, IsShort, then_local, done_local, either_local, alike, checked_local, items_local}
use Rattle.saved_laws.proofs.FieldSights.{shorter, then_short, done_short, judged_is, characters_local, characters_short}
use Rattle.saved_laws.proofs.PartSights.{made_local, small16, small8, short16, short8}

-- ---- changes

change_local : (least signals : ℕ) (last : List ℕ) → IsLocal (change_from least signals last)
unfolding change_from
change_local least signals last =
    then_local (checked (number_at w16) (λ signal. leb least signal && ltb signal signals))
    (λ signal. checked byte_at (λ character. is_place character && not (eqb character (slice_index last signal.0))) signal.1 >>=
    λ character. Ok ((signal.0, character.0), character.1))
    (small16 (λ signal. leb least signal && ltb signal signals))
    (λ signal. made_local (checked byte_at (λ character. is_place character && not (eqb character (slice_index last signal)))) (λ character. (signal, character))
    (small8 (λ character. is_place character && not (eqb character (slice_index last signal)))))

change_short : (least signals : ℕ) (last : List ℕ) → IsShort 3 (change_from least signals last)
unfolding change_from
change_short least signals last =
    then_short 2 1 (checked (number_at w16) (λ signal. leb least signal && ltb signal signals))
    (λ signal. checked byte_at (λ character. is_place character && not (eqb character (slice_index last signal.0))) signal.1 >>=
    λ character. Ok ((signal.0, character.0), character.1))
    (short16 (λ signal. leb least signal && ltb signal signals))
    (λ bytes signal rest e.
    then_short 1 0 (checked byte_at (λ character. is_place character && not (eqb character (slice_index last signal))))
    (λ character. Ok ((signal, character.0), character.1))
    (short8 (λ character. is_place character && not (eqb character (slice_index last signal))))
    (λ bytes character rest e. done_short (signal, character)))

changes_short : (signals : ℕ) (last : List ℕ) (count : ℕ) (before : List (ℕ × ℕ)) → IsShort (3 * count) (items_at (change_at signals last) count before)
unfolding items_at
changes_short signals last zero before = done_short before
changes_short signals last (suc n) before =
    shorter (3 + 3 * n) (3 * suc n) (items_at (change_at signals last) (suc n) before) (omega arith)
    (then_short 3 (3 * n) (change_at signals last before) (λ x. items_at (change_at signals last) n (before ++ x.0 ∷ []) x.1)
    (change_short (least_behind before) signals last)
    (λ bytes x rest e. changes_short signals last n (before ++ x ∷ [])))

changed_local : (signals : ℕ) (last : List ℕ) (count : ℕ) → IsLocal (changed_at signals last count)
changed_local signals last count =
    made_local (items_at (change_at signals last) count []) (with_changes last)
    (items_local (change_at signals last) (λ before. change_local (least_behind before) signals last) count [])

changed_short : (signals : ℕ) (last : List ℕ) (count : ℕ) → IsShort (3 * count) (changed_at signals last count)
changed_short signals last count bytes row rest e =
    let step = bind_ok (items_at (change_at signals last) count [] bytes) (λ changes. Ok (with_changes last changes.0, changes.1)) (row, rest) e in
    let one = changes_short signals last count [] bytes step.0.0 step.0.1 step.1 in
    let same : step.0.1 ≡ rest = ap (λ p. p.1) (ok_is (with_changes last step.0.0, step.0.1) (row, rest) step.2) in
    omega (arith, one, ap length same)

-- ---- a row of version 2: what is read up to where its form is judged, the judgement, and what is behind

-- the characters of form 0, or the count of form 1
abbrev Begun : Type 0
Begun = List ℕ ⊎ ℕ

abbrev whole_begun : List ℕ → Begun
whole_begun row = inl row

abbrev count_begun : ℕ → Begun
count_begun count = inr count

abbrev is_form : List (List ℕ) → ℕ → Bool
is_form before form = eqb form 0 || eqb form 1 && ltb 0 (length before)

abbrev is_count : ℕ → ℕ → Bool
is_count signals count = ltb 0 count && leb count signals

abbrev behind_form : ℕ → ℕ → List ℕ → Read Begun
behind_form signals form bytes =
    cond (eqb form 0) (characters_at signals bytes >>= λ x. Ok (whole_begun x.0, x.1))
    (checked (number_at w16) (is_count signals) bytes >>= λ x. Ok (count_begun x.0, x.1))

abbrev begun_at : ℕ → List (List ℕ) → List ℕ → Read Begun
begun_at signals before bytes = checked byte_at (is_form before) bytes >>= λ form. behind_form signals form.0 form.1

abbrev suits : ℕ → List (List ℕ) → Begun → Bool
suits signals before (inl row) = not (is_difference before row)
suits signals before (inr count) = is_shorter count signals

abbrev finished : ℕ → List ℕ → Begun × List ℕ → Read (List ℕ)
finished signals last (inl row, bytes) = Ok (row, bytes)
finished signals last (inr count, bytes) = changed_at signals last count bytes

abbrev row_by_form : ℕ → ℕ → List (List ℕ) → ℕ × List ℕ → Read (List ℕ)
row_by_form left signals before form =
    cond (eqb form.0 0) (whole_row_at left signals before form.1) (difference_at left signals (last_row before) form.1)

whole_is : (left signals : ℕ) (before : List (List ℕ)) (r : Read (List ℕ))
    → (r >>= judged left (λ row. not (is_difference before row)))
    ≡ (((r >>= λ x. Ok (whole_begun x.0, x.1)) >>= judged left (suits signals before)) >>= finished signals (last_row before))
whole_is left signals before (Ok x) = by_test (not (is_difference before x.0))
  where
    by_test : (b : Bool) → cond {A = Read (List ℕ)} b (Ok x) (refused left)
        ≡ (cond {A = Read Begun} b (Ok (whole_begun x.0, x.1)) (refused left) >>= finished signals (last_row before))
    by_test true = refl
    by_test false = refl
whole_is left signals before (Err e) = refl

difference_is : (left signals : ℕ) (before : List (List ℕ)) (r : Read ℕ)
    → (r >>= λ count. judged left (λ n. is_shorter n signals) count >>= λ few. changed_at signals (last_row before) few.0 few.1)
    ≡ (((r >>= λ x. Ok (count_begun x.0, x.1)) >>= judged left (suits signals before)) >>= finished signals (last_row before))
difference_is left signals before (Ok x) = by_test (is_shorter x.0 signals)
  where
    by_test : (b : Bool)
        → (cond {A = Read ℕ} b (Ok x) (refused left) >>= λ few. changed_at signals (last_row before) few.0 few.1)
        ≡ (cond {A = Read Begun} b (Ok (count_begun x.0, x.1)) (refused left) >>= finished signals (last_row before))
    by_test true = refl
    by_test false = refl
difference_is left signals before (Err e) = refl

by_form : (left signals : ℕ) (before : List (List ℕ)) (r : Read ℕ)
    → (r >>= row_by_form left signals before)
    ≡ (((r >>= λ form. behind_form signals form.0 form.1) >>= judged left (suits signals before)) >>= finished signals (last_row before))
unfolding whole_row_at difference_at
by_form left signals before (Ok form) = by_test (eqb form.0 0)
  where
    by_test : (b : Bool)
        → cond {A = Read (List ℕ)} b (whole_row_at left signals before form.1) (difference_at left signals (last_row before) form.1)
        ≡ ((cond {A = Read Begun} b (characters_at signals form.1 >>= λ x. Ok (whole_begun x.0, x.1))
        (checked (number_at w16) (is_count signals) form.1 >>= λ x. Ok (count_begun x.0, x.1))
        >>= judged left (suits signals before)) >>= finished signals (last_row before))
    by_test true = whole_is left signals before (characters_at signals form.1)
    by_test false = difference_is left signals before (checked (number_at w16) (is_count signals) form.1)
by_form left signals before (Err e) = refl

formed_is : (signals : ℕ) (before : List (List ℕ)) (bytes : List ℕ)
    → formed_row_at signals before bytes
    ≡ (checked (begun_at signals before) (suits signals before) bytes >>= finished signals (last_row before))
unfolding formed_row_at
formed_is signals before bytes = by_form (length bytes) signals before (checked byte_at (is_form before) bytes)

begun_local : (signals : ℕ) (before : List (List ℕ)) → IsLocal (begun_at signals before)
begun_local signals before =
    then_local (checked byte_at (is_form before)) (λ form. behind_form signals form.0 form.1) (small8 (is_form before))
    (λ form. either_local (eqb form 0) (λ bytes. characters_at signals bytes >>= λ x. Ok (whole_begun x.0, x.1))
    (λ bytes. checked (number_at w16) (is_count signals) bytes >>= λ x. Ok (count_begun x.0, x.1))
    (made_local (characters_at signals) whole_begun (characters_local signals))
    (made_local (checked (number_at w16) (is_count signals)) count_begun (small16 (is_count signals))))

-- how many bytes are taken up to where the form is judged, and behind that
abbrev reach : ℕ → Begun → ℕ
reach signals (inl row) = 1 + signals
reach signals (inr count) = 3

begun_reaches : (signals : ℕ) (before : List (List ℕ)) (bytes : List ℕ) (k : Begun) (rest : List ℕ)
    → begun_at signals before bytes ≡ Ok (k, rest) → length bytes ≤ reach signals k + length rest
begun_reaches signals before bytes k rest e =
    let step = bind_ok (checked byte_at (is_form before) bytes) (λ form. behind_form signals form.0 form.1) (k, rest) e in
    let one = short8 (is_form before) bytes step.0.0 step.0.1 step.1 in
    let two = by_test (eqb step.0.0 0) step.0.1 step.2 in
    omega (arith, one, two)
  where
    by_test : (b : Bool) (after : List ℕ)
        → cond {A = Read Begun} b (characters_at signals after >>= λ x. Ok (whole_begun x.0, x.1))
        (checked (number_at w16) (is_count signals) after >>= λ x. Ok (count_begun x.0, x.1)) ≡ Ok (k, rest)
        → 1 + length after ≤ reach signals k + length rest
    by_test true after e =
        let step = bind_ok (characters_at signals after) (λ x. Ok (whole_begun x.0, x.1)) (k, rest) e in
        let one = characters_short signals after step.0.0 step.0.1 step.1 in
        let same = ok_is (whole_begun step.0.0, step.0.1) (k, rest) step.2 in
        subst (λ (p : Begun × List ℕ). 1 + length after ≤ reach signals p.0 + length p.1) same (omega (arith, one))
    by_test false after e =
        let step = bind_ok (checked (number_at w16) (is_count signals) after) (λ x. Ok (count_begun x.0, x.1)) (k, rest) e in
        let one = short16 (is_count signals) after step.0.0 step.0.1 step.1 in
        let same = ok_is (count_begun step.0.0, step.0.1) (k, rest) step.2 in
        subst (λ (p : Begun × List ℕ). 1 + length after ≤ reach signals p.0 + length p.1) same (omega (arith, one))

begun_short : (signals : ℕ) (before : List (List ℕ)) → signals ≤ 1024 → IsShort 1026 (begun_at signals before)
begun_short signals before few bytes (inl row) rest e = let s = begun_reaches signals before bytes (inl row) rest e in omega (arith, s, few)
begun_short signals before few bytes (inr count) rest e = let s = begun_reaches signals before bytes (inr count) rest e in omega (arith, s, few)

finished_local : (signals : ℕ) (last : List ℕ) (k : Begun) → IsLocal (λ bytes. finished signals last (k, bytes))
finished_local signals last (inl row) = done_local row
finished_local signals last (inr count) = changed_local signals last count

formed_local : (signals : ℕ) (before : List (List ℕ)) → signals ≤ 1024 → IsLocal (formed_row_at signals before)
formed_local signals before few =
    alike (λ bytes. checked (begun_at signals before) (suits signals before) bytes >>= finished signals (last_row before))
    (formed_row_at signals before) (formed_is signals before)
    (then_local (checked (begun_at signals before) (suits signals before)) (finished signals (last_row before))
    (checked_local (begun_at signals before) (suits signals before) (begun_short signals before few) (begun_local signals before))
    (finished_local signals (last_row before)))

formed_short : (signals : ℕ) (before : List (List ℕ)) → signals ≤ 1024 → IsShort 1026 (formed_row_at signals before)
formed_short signals before few bytes row rest e =
    let step = bind_ok (checked (begun_at signals before) (suits signals before) bytes) (finished signals (last_row before)) (row, rest)
    (sym (formed_is signals before bytes) ∙ e) in
    let g = judged_is (begun_at signals before) (suits signals before) bytes (length bytes) step.0.0 step.0.1 step.1 in
    by_kind step.0.0 step.0.1 (begun_reaches signals before bytes step.0.0 step.0.1 g.0) g.1 step.2
  where
    by_kind : (k : Begun) (after : List ℕ) → length bytes ≤ reach signals k + length after → suits signals before k ≡ true
        → finished signals (last_row before) (k, after) ≡ Ok (row, rest) → length bytes ≤ 1026 + length rest
    by_kind (inl characters) after one test e =
        let same : after ≡ rest = ap (λ p. p.1) (ok_is (characters, after) (row, rest) e) in
        omega (arith, one, few, ap length same)
    by_kind (inr count) after one test e =
        let two = changed_short signals (last_row before) count after row rest e in
        let shorter : 3 * count + 2 < signals = ltb-true (3 * count + 2) signals test in
        omega (arith, one, two, few, shorter)

-- ---- rows by the number of a version

abbrev pub row_by : ℕ → ℕ → List (List ℕ) → List ℕ → Read (List ℕ)
row_by n signals before bytes = known_version (version_of n) bytes >>= λ v. row_at v.0 signals before v.1

pub first_row_local : (signals : ℕ) (before : List (List ℕ)) → signals ≤ 1024 → IsLocal (row_by 1 signals before)
unfolding row_at
first_row_local signals before few =
    checked_local (characters_at signals) (λ row. not (is_row_of before row))
    (shorter signals 1026 (characters_at signals) (omega (arith, few)) (characters_short signals)) (characters_local signals)

pub second_row_local : (signals : ℕ) (before : List (List ℕ)) → signals ≤ 1024 → IsLocal (row_by 2 signals before)
unfolding row_at
second_row_local signals before few =
    checked_local (formed_row_at signals before) (λ row. not (is_row_of before row)) (formed_short signals before few)
    (formed_local signals before few)
