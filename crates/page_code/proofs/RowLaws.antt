-- What is read of rows is spelled so, and what is spelled so is read: in both versions.
use Rattle.std.proofs.Common.{◌≡◌, ℕ, ◌+◌, ◌-◌, ◌*◌, ◌^◌, ◌<◌, ◌≤◌, Bool, true, false, not, cond, eqb, ltb, leb, ◌&&◌, ◌||◌, List, [], ◌∷◌, ◌++◌, length, take, Ok, refl, sym, ap, subst, ◌∙◌, arith, inl, inr, nat_eq, slice_index}
use Rattle.std.specs.Int.{w16}
use Rattle.std.specs.List.{flat_map, list_all, AllByRecursion}
use Rattle.std.specs.Cmp.Lexicographic.{pointwise, bytes_decides}
use Rattle.std.proofs.lemmas.Bool.{cases_Bool, cases_lt, and_parts, and_from, or_cases, not-true, not_from_false, ltb-true, leb-true, eqb-true, lt-ltb, le-leb}
use Rattle.std.proofs.lemmas.List.{take_at, nil_from_length}
use Rattle.std.proofs.lemmas.List.Folds.{list_any_at}
use Rattle.text_bytes.specs.Bytes.{is_character}
use Rattle.text_bytes.proofs.ListLemmas.{all_append}
use Rattle.page_code.specs.declared.version.Version.{Version}
use Rattle.page_code.specs.declared.version.Version.TheVariants.{One, Two}
use Rattle.packed_code.specs.RowBytes.{is_place}
use Rattle.packed_code.specs.Conditions.{IsRow}
use Rattle.packed_code.specs.Rows.{is_row_of}
use Rattle.page_code.specs.Changes.{last_row, changes, with_changes, is_shorter, is_difference, least_behind}
use Rattle.page_code.specs.Fields.{◌>>=◌, byte_at, piece_at, number_at, judged, checked, items_at}
use Rattle.packed_code.specs.Packed.{number}
use Rattle.page_code.specs.Spelling.{behind, change, difference, row}
use Rattle.page_code.specs.Reading.{characters_at, change_from, change_at, changed_at, difference_at, whole_row_at, formed_row_at, spelled_row_at, row_at}
use Rattle.packed_code.proofs.Lists.{all_at}
use Rattle.page_code.proofs.ChangesLemmas.{IsChange, read_again, changes_read, made_again, length-with_changes, places_stay}
use Rattle.page_code.proofs.ReaderLaws.{IsReader, IsBytes, bind_ok, adapted, done_reader, then_reader, judged_reader, judged_then, mapped_reader, checked_reader, byte_reader, wide16, number_reader, plain_reader, items_reader, behind_reader}
use Rattle.page_code.proofs.PartLaws.{IsBelow, IsNumber, AreItems, taken, character_small}

-- ---- whole rows

-- a character or 0 for each signal
abbrev pub AreCharacters : ℕ → List ℕ → Type 0
AreCharacters signals r = (length r ≡ signals) × (list_all is_place r ≡ true)

characters_reader : (signals : ℕ) → IsReader (characters_at signals) (λ r. r) (AreCharacters signals)
unfolding characters_at
characters_reader signals = record {
  takes = λ bytes r rest fits e.
      let c = taken (list_all is_place (take signals bytes)) _ (piece_at signals bytes) (r, rest) e in
      let t = (plain_reader signals).takes bytes r rest fits c.1 in
      let front : take signals bytes ≡ r = ap (take signals) t.0 ∙ take_at r rest signals t.2 in
      (t.0, t.1, (t.2, subst (λ (x : List ℕ). list_all is_place x ≡ true) front c.0));
  again = λ r rest fits.
      let front : list_all is_place (take signals (r ++ rest)) ≡ true = ap (list_all is_place) (take_at r rest signals fits.0) ∙ fits.1 in
      rw front ((plain_reader signals).again r rest fits.0);
}

-- ---- changes of the last row

place_small : (c : ℕ) → is_place c ≡ true → c < 256
place_small c is = elim (or_cases (eqb c 0) (is_character c) is) [
  | inl none ↦ let zero_is : c ≡ 0 = eqb-true c 0 none in omega arith
  | inr some ↦ character_small c some
]

-- whether a signal may come next
abbrev may_come : ℕ → ℕ → ℕ → Bool
may_come least signals signal = leb least signal && ltb signal signals

-- whether a character differs from that of a signal
abbrev is_new : List ℕ → ℕ → ℕ → Bool
is_new last signal character = is_place character && not (eqb character (slice_index last signal))

change_raw : (least signals : ℕ) (last : List ℕ)
    → IsReader (change_from least signals last) (λ (c : ℕ × ℕ). number w16 c.0 ++ ((c.1 ∷ []) ++ []))
    (λ (c : ℕ × ℕ). IsNumber (2 ^ 16) (may_come least signals) c.0 × (IsNumber 256 (is_new last c.0) c.1 × (c ≡ (c.0, c.1))))
unfolding change_from
change_raw least signals last =
    then_reader (checked (number_at w16) (may_come least signals)) (number w16) (IsNumber (2 ^ 16) (may_come least signals))
    (λ x. checked byte_at (is_new last x.0) x.1 >>= λ y. Ok ((x.0, y.0), y.1))
    (λ (c : ℕ × ℕ). (c.1 ∷ []) ++ [])
    (λ (s : ℕ) (c : ℕ × ℕ). IsNumber 256 (is_new last s) c.1 × (c ≡ (s, c.1)))
    (λ (c : ℕ × ℕ). c.0)
    (checked_reader (number_at w16) (number w16) (IsBelow (2 ^ 16)) (may_come least signals) (number_reader w16 (2 ^ 16) wide16))
    (λ s h. then_reader (checked byte_at (is_new last s)) (λ (l : ℕ). l ∷ []) (IsNumber 256 (is_new last s))
    (λ y. Ok ((s, y.0), y.1))
    (λ (c : ℕ × ℕ). [])
    (λ (l : ℕ) (c : ℕ × ℕ). c ≡ (s, l))
    (λ (c : ℕ × ℕ). c.1) (checked_reader byte_at (λ l. l ∷ []) (IsBelow 256) (is_new last s) byte_reader)
    (λ l g. done_reader (s, l))
    (λ (l : ℕ) (c : ℕ × ℕ) g. ap (λ (m : ℕ × ℕ). m.1) g))
    (λ (s : ℕ) (c : ℕ × ℕ) g. ap (λ (m : ℕ × ℕ). m.0) g.1)

change_reader : (signals : ℕ) (last : List ℕ) (before : List (ℕ × ℕ)) → signals ≤ 1024 → length last ≡ signals
    → IsReader (change_at signals last before) change (IsChange last before)
change_reader signals last before few wide =
    adapted (change_at signals last before) _ change _ (IsChange last before) (change_raw (least_behind before) signals last)
    (λ c f.
    let p = and_parts (leb (least_behind before) c.0) (ltb c.0 signals) f.0.1 in
    let q = and_parts (is_place c.1) (not (eqb c.1 (slice_index last c.0))) f.1.0.1 in
    let inside : c.0 < signals = ltb-true c.0 signals p.1 in
    record {
      order = leb-true (least_behind before) c.0 p.0;
      inside = omega (arith, wide);
      place = q.0;
      other = not-true (eqb c.1 (slice_index last c.0)) q.1;
    })
    (λ c f.
    let low : c.0 < length last = f.inside in
    let inside : c.0 < signals = omega (arith, wide) in (
      (omega arith, and_from (leb (least_behind before) c.0) (ltb c.0 signals) (le-leb (least_behind before) c.0 f.order) (lt-ltb c.0 signals inside)),
      (
        (place_small c.1 f.place, and_from (is_place c.1) (not (eqb c.1 (slice_index last c.0))) f.place (not_from_false _ f.other)),
        refl,
      ),
    ))
    (λ c f. refl)

-- ---- rows that are spelled as differences

-- a row that so many changes of the last row make
record IsMade (signals : ℕ) (last : List ℕ) (count : ℕ) (r : List ℕ) : Type 0 where
  characters : AreCharacters signals r
  count_is : length (changes 0 last r) ≡ count

made_reader : (signals : ℕ) (last : List ℕ) (count : ℕ) → signals ≤ 1024 → AreCharacters signals last
    → IsReader (changed_at signals last count) (λ r. flat_map change (changes 0 last r)) (IsMade signals last count)
made_reader signals last count few characters =
    mapped_reader (items_at (change_at signals last) count []) (flat_map change) (AreItems (IsChange last) count)
    (with_changes last) (changes 0 last) (IsMade signals last count)
    (items_reader (change_at signals last) change (IsChange last) (λ before. change_reader signals last before few characters.0) count)
    (λ cs f. (
      read_again last cs f.1,
      record {
        characters = (length-with_changes last cs ∙ characters.0, places_stay last [] cs last characters.1 f.1);
        count_is = ap length (read_again last cs f.1) ∙ f.0;
      },
    ))
    (λ r f.
    let size : length r ≡ length last = f.characters.0 ∙ sym characters.0 in
    ((f.count_is, changes_read last r size f.characters.1), made_again last r size f.characters.1))

-- whether so many changes may be counted
abbrev may_count : ℕ → ℕ → Bool
may_count signals count = ltb 0 count && leb count signals

-- a row whose changes are some, and shorter than it
record IsChanged (signals : ℕ) (last r : List ℕ) : Type 0 where
  characters : AreCharacters signals r
  some : 0 < length (changes 0 last r)
  shorter : is_shorter (length (changes 0 last r)) signals ≡ true

difference_reader : (left signals : ℕ) (last : List ℕ) → signals ≤ 1024 → AreCharacters signals last
    → IsReader (difference_at left signals last) (λ r. difference (changes 0 last r)) (IsChanged signals last)
unfolding difference_at
difference_reader left signals last few characters =
    adapted (difference_at left signals last) _ (λ r. difference (changes 0 last r)) _ (IsChanged signals last)
    (then_reader (checked (number_at w16) (may_count signals)) (number w16) (IsNumber (2 ^ 16) (may_count signals))
    (λ x. judged left (λ n. is_shorter n signals) x >>= λ y. changed_at signals last y.0 y.1)
    (λ r. flat_map change (changes 0 last r))
    (λ n r. (is_shorter n signals ≡ true) × IsMade signals last n r)
    (λ r. length (changes 0 last r))
    (checked_reader (number_at w16) (number w16) (IsBelow (2 ^ 16)) (may_count signals) (number_reader w16 (2 ^ 16) wide16))
    (λ n h. judged_then n (λ n. is_shorter n signals) left
    (λ y. changed_at signals last y.0 y.1)
    (λ r. flat_map change (changes 0 last r)) (IsMade signals last n) (λ short. made_reader signals last n few characters))
    (λ n r g. g.1.count_is))
    (λ r f. record {
      characters = f.1.1.characters;
      some = ltb-true 0 (length (changes 0 last r)) (and_parts (ltb 0 (length (changes 0 last r))) (leb (length (changes 0 last r)) signals) f.0.1).0;
      shorter = f.1.0;
    })
    (λ r f.
    let short : 3 * length (changes 0 last r) + 2 < signals = ltb-true _ signals f.shorter in (
      (omega arith, and_from (ltb 0 (length (changes 0 last r))) (leb (length (changes 0 last r)) signals) (lt-ltb 0 _ f.some) (le-leb _ signals (omega arith))),
      (f.shorter, record { characters = f.characters; count_is = refl }),
    ))
    (λ r f. refl)

-- ---- rows of version 2

-- whether a form may begin a row
abbrev may_form : List (List ℕ) → ℕ → Bool
may_form before form = eqb form 0 || eqb form 1 && ltb 0 (length before)

whole_row_reader : (left signals : ℕ) (before : List (List ℕ))
    → IsReader (whole_row_at left signals before) (λ r. r) (λ r. AreCharacters signals r × (not (is_difference before r) ≡ true))
unfolding whole_row_at
whole_row_reader left signals before =
    judged_reader (characters_at signals) (λ r. r) (AreCharacters signals) (λ r. not (is_difference before r)) (λ bytes. left) (characters_reader signals)

last_characters : (signals : ℕ) (before : List (List ℕ)) → AllByRecursion (AreCharacters signals) before → 0 < length before
    → AreCharacters signals (last_row before)
last_characters signals before good some = all_at (AreCharacters signals) before (length before - 1) [] good (omega arith)

-- a row that no row before equals changes something
some_changed : (signals : ℕ) (before : List (List ℕ)) (r : List ℕ) → AllByRecursion (AreCharacters signals) before → 0 < length before
    → AreCharacters signals r → is_row_of before r ≡ false → 0 < length (changes 0 (last_row before) r)
some_changed signals before r good some characters fresh =
    elim (cases_lt 0 (length (changes 0 (last_row before) r))) [
      | inl many ↦ many
      | inr none ↦
          let last = last_characters signals before good some in
          let nothing : changes 0 (last_row before) r ≡ [] = nil_from_length _ (omega arith) in
          let same : last_row before ≡ r =
          ap (with_changes (last_row before)) (sym nothing) ∙ made_again (last_row before) r (characters.0 ∙ sym last.0) characters.1 in
          let there : is_row_of before r ≡ true =
          list_any_at (pointwise nat_eq r) before (length before - 1) [] (omega arith) ((bytes_decides r (last_row before)).1 (sym same)) in
          absurd cc
    ]

-- a row as it may be spelled in version 2
record IsFormed (signals : ℕ) (before : List (List ℕ)) (r : List ℕ) : Type 0 where
  characters : AreCharacters signals r
  some : is_difference before r ≡ true → 0 < length (changes 0 (last_row before) r)

-- a row, as it was read behind its form
form_takes : (left signals : ℕ) (before : List (List ℕ)) (form : ℕ) (bytes r rest : List ℕ) → signals ≤ 1024
    → AllByRecursion (AreCharacters signals) before → may_form before form ≡ true → IsBytes bytes
    → cond (eqb form 0) (whole_row_at left signals before bytes) (difference_at left signals (last_row before) bytes) ≡ Ok (r, rest)
    → (form ∷ bytes ≡ row Two before r ++ rest) × IsBytes rest × IsFormed signals before r
form_takes left signals before form bytes r rest few good may fits e =
    elim (cases_Bool (eqb form 0)) [
      | inl whole ↦
          let read : whole_row_at left signals before bytes ≡ Ok (r, rest) = rw whole at e in
          let t = (whole_row_reader left signals before).takes bytes r rest fits read in
          let no_difference : is_difference before r ≡ false = not-true _ t.2.1 in (
            ap (λ (n : ℕ). n ∷ bytes) (eqb-true form 0 whole) ∙ rw no_difference (ap (λ (x : List ℕ). 0 ∷ x) t.0),
            t.1,
            record { characters = t.2.0; some = λ is. absurd cc },
          )
      | inr other ↦
          let read : difference_at left signals (last_row before) bytes ≡ Ok (r, rest) = rw other at e in
          let formed : (eqb form 1 && ltb 0 (length before)) ≡ true = rw other at may in
          let both = and_parts (eqb form 1) (ltb 0 (length before)) formed in
          let last = last_characters signals before good (ltb-true 0 (length before) both.1) in
          let t = (difference_reader left signals (last_row before) few last).takes bytes r rest fits read in
          let changed : IsChanged signals (last_row before) r = t.2 in
          let is : is_difference before r ≡ true =
          and_from (ltb 0 (length before)) _ both.1 (ap (is_shorter (length (changes 0 (last_row before) r))) changed.characters.0 ∙ changed.shorter) in (
            ap (λ (n : ℕ). n ∷ bytes) (eqb-true form 1 both.0) ∙ rw is (ap (λ (x : List ℕ). 1 ∷ x) t.0),
            t.1,
            record { characters = changed.characters; some = λ is. changed.some },
          )
    ]

formed_takes : (signals : ℕ) (before : List (List ℕ)) → signals ≤ 1024 → AllByRecursion (AreCharacters signals) before
    → (bytes r rest : List ℕ) → IsBytes bytes → formed_row_at signals before bytes ≡ Ok (r, rest)
    → (bytes ≡ row Two before r ++ rest) × IsBytes rest × IsFormed signals before r
unfolding formed_row_at
formed_takes signals before few good bytes r rest fits e =
    let a = bind_ok (checked byte_at (may_form before) bytes) _ (r, rest) e in
    let f = (checked_reader byte_at (λ b. b ∷ []) (IsBelow 256) (may_form before) byte_reader).takes bytes a.0.0 a.0.1 fits a.1 in
    let t = form_takes (length bytes) signals before a.0.0 a.0.1 r rest few good f.2.1 f.1 a.2 in
    (f.0 ∙ t.0, t.1, t.2)

formed_again : (signals : ℕ) (before : List (List ℕ)) → signals ≤ 1024 → AllByRecursion (AreCharacters signals) before
    → (r rest : List ℕ) → IsFormed signals before r → formed_row_at signals before (row Two before r ++ rest) ≡ Ok (r, rest)
unfolding formed_row_at
formed_again signals before few good r rest is =
    elim (cases_Bool (is_difference before r)) [
      | inl changed ↦
          let both = and_parts (ltb 0 (length before)) (is_shorter (length (changes 0 (last_row before) r)) (length r)) changed in
          let last = last_characters signals before good (ltb-true 0 (length before) both.0) in
          let text = difference (changes 0 (last_row before) r) ++ rest in
          let read = (difference_reader (length (1 ∷ text)) signals (last_row before) few last).again r rest
          (record {
            characters = is.characters;
            some = is.some changed;
            shorter = ap (is_shorter (length (changes 0 (last_row before) r))) (sym is.characters.0) ∙ both.1;
          }) in
          rw (changed, both.0, read) refl
      | inr whole ↦
          let read = (whole_row_reader (length (0 ∷ r ++ rest)) signals before).again r rest (is.characters, not_from_false _ whole) in
          rw (whole, read) refl
    ]

formed_reader : (signals : ℕ) (before : List (List ℕ)) → signals ≤ 1024 → AllByRecursion (AreCharacters signals) before
    → IsReader (formed_row_at signals before) (row Two before) (IsFormed signals before)
formed_reader signals before few good = record {
  takes = formed_takes signals before few good;
  again = formed_again signals before few good;
}

-- ---- rows of either version

-- a row that is spelled as it may be, and that no row before equals
fresh_reader : (version : Version) (signals : ℕ) (before : List (List ℕ)) (Fits : List ℕ → Type 0)
    → IsReader (spelled_row_at version signals before) (row version before) Fits
    → ((r : List ℕ) → Fits r → AreCharacters signals r) → ((r : List ℕ) → AreCharacters signals r → is_row_of before r ≡ false → Fits r)
    → IsReader (row_at version signals before) (row version before) (IsRow signals before)
unfolding row_at
fresh_reader version signals before Fits spelled characters fits =
    adapted (row_at version signals before) (row version before) (row version before) _ (IsRow signals before)
    (checked_reader (spelled_row_at version signals before) (row version before) Fits (λ r. not (is_row_of before r)) spelled)
    (λ r f.
    let are = characters r f.0 in record { places = are.0; characters = are.1; fresh = not-true (is_row_of before r) f.1 })
    (λ r f. (fits r (f.places, f.characters) f.fresh, not_from_false _ f.fresh))
    (λ r f. refl)

row_reader : (version : Version) (signals : ℕ) (before : List (List ℕ)) → signals ≤ 1024 → AllByRecursion (AreCharacters signals) before
    → IsReader (row_at version signals before) (row version before) (IsRow signals before)
row_reader One signals before few good =
    fresh_reader One signals before (AreCharacters signals) (characters_reader signals) (λ r are. are) (λ r are fresh. are)
row_reader Two signals before few good =
    fresh_reader Two signals before (IsFormed signals before) (formed_reader signals before few good) (λ r is. is.characters)
    (λ r are fresh. record {
      characters = are;
      some = λ is.
          let begun = ltb-true 0 (length before) (and_parts (ltb 0 (length before)) _ is).0 in
          some_changed signals before r good begun are fresh;
    })

-- so many rows
pub rows_reader : (version : Version) (signals count : ℕ) → signals ≤ 1024
    → IsReader (items_at (row_at version signals) count []) (behind (row version) []) (AreItems (IsRow signals) count)
rows_reader version signals count few =
    behind_reader (row_at version signals) (row version) (IsRow signals) (AllByRecursion (AreCharacters signals)) tt
    (λ before good. row_reader version signals before few good)
    (λ before r good is. all_append (AreCharacters signals) before (r ∷ []) good ((is.places, is.characters), tt)) count
