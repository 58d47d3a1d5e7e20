-- A cycle's mark stands in its fails alone: `fails_bare`, `sensed_bare`.
use Rattle.std.proofs.Common.{◌≡◌, ℕ, ◌+◌, Bool, true, false, not, ◌&&◌, ◌||◌, cond, List, [], ◌∷◌, ◌++◌, map, length, Option, Some, None, refl, sym, ap, ◌∙◌}
use Rattle.std.specs.Prelude.{◌==◌, slice_index_or}
use Rattle.std.specs.List.{cons_option, find, filter, filter_map, flat_map, list_any, list_all, enumerate_from, range_with_len}
use Rattle.std.specs.Option.{option_map}
use Rattle.std.proofs.lemmas.List.{length-map}
use Rattle.tester_types.specs.declared.wave.Look.{Look}
use Rattle.tester_types.specs.declared.cycle.Moment.{Moment}
use Rattle.tester_types.specs.declared.record.Fail.{Fail}
use Rattle.strobe_check.specs.Look.{is_edge, is_window}
use Rattle.strobe_check.specs.Entry.{Entry, looks_at, fail_at}
use Rattle.strobe_check.specs.Extent.{Extent, if_none, until_look, inside_followed, extents_here, extents}
use Rattle.strobe_check.specs.Fails.{meets, fail_of, fails_of, at_place, bound_signals, fails}
use Rattle.strobe_check.specs.Sensed.{is_watching, unsensed, is_sensed}
use Rattle.flat_lots.specs.Unmarked.{unmarked}

-- an entry without its mark
abbrev pub bare : Entry → Entry
bare e = record e { mark = 0 }

abbrev bare_at : ℕ × Entry → ℕ × Entry
bare_at here = (here.0, bare here.1)

abbrev extent_of : Look → List (ℕ × Entry) → Extent
extent_of look inside = record { look = look; inside = inside }

abbrev bare_in : Extent → Extent
bare_in x = extent_of x.look (map bare_at x.inside)

abbrev unmarked_at : ℕ × Fail → ℕ × Fail
unmarked_at f = (f.0, unmarked f.1)

-- ---- lists

pub maps_append : {X Y : Type 0} (f : X → Y) (xs ys : List X) → map f (xs ++ ys) ≡ map f xs ++ map f ys
maps_append f [] ys = refl
maps_append f (x ∷ xs) ys = ap (λ l. f x ∷ l) (maps_append f xs ys)

numbered_bare : (n : ℕ) (es : List Entry) → enumerate_from n (map bare es) ≡ map bare_at (enumerate_from n es)
numbered_bare n [] = refl
numbered_bare n (e ∷ es) = ap (λ (l : List (ℕ × Entry)). (n, bare e) ∷ l) (numbered_bare (n + 1) es)

-- ---- extents

none_bare : (looks : List Look) (xs : List (ℕ × Entry)) → if_none looks (map bare_at xs) ≡ map bare_at (if_none looks xs)
none_bare [] xs = refl
none_bare (l ∷ looks) xs = refl

until_bare : (signal : ℕ) (xs : List (ℕ × Entry)) → until_look signal (map bare_at xs) ≡ map bare_at (until_look signal xs)
until_bare signal [] = refl
until_bare signal (x ∷ xs) =
    ap (λ (l : List (ℕ × Entry)). if_none (looks_at signal x.1.moment) (bare_at x ∷ l)) (until_bare signal xs)
    ∙ none_bare (looks_at signal x.1.moment) (x ∷ until_look signal xs)

last_bare : (edge window : Bool) (here : ℕ × Entry) (later : List (ℕ × Entry))
    → cond edge (bare_at here ∷ []) (cond window (bare_at here ∷ map bare_at later) [])
    ≡ map bare_at (cond edge (here ∷ []) (cond window (here ∷ later) []))
last_bare true window here later = refl
last_bare false true here later = refl
last_bare false false here later = refl

followed_bare : (edge : Bool) (here : ℕ × Entry) → cond edge (bare_at here ∷ []) [] ≡ map bare_at (cond edge (here ∷ []) [])
followed_bare true here = refl
followed_bare false here = refl

here_bare : (looks : List Look) (here : ℕ × Entry) (later : List (ℕ × Entry))
    → extents_here looks (bare_at here) (map bare_at later) ≡ map bare_in (extents_here looks here later)
here_bare [] here later = refl
here_bare (l ∷ []) here later =
    ap (λ (inside : List (ℕ × Entry)). extent_of l inside ∷ []) (last_bare (is_edge l) (is_window l) here later)
here_bare (l ∷ next ∷ looks) here later =
    ap (λ (inside : List (ℕ × Entry)). extent_of l inside ∷ extents_here (next ∷ looks) (bare_at here) (map bare_at later))
    (followed_bare (is_edge l) here)
    ∙ ap (λ (xs : List Extent). extent_of l (map bare_at (inside_followed l here)) ∷ xs) (here_bare (next ∷ looks) here later)

extents_bare : (signal : ℕ) (xs : List (ℕ × Entry)) → extents signal (map bare_at xs) ≡ map bare_in (extents signal xs)
extents_bare signal [] = refl
extents_bare signal (x ∷ xs) =
    let looks = looks_at signal x.1.moment in
    ap (λ (l : List (ℕ × Entry)). extents_here looks (bare_at x) l ++ extents signal (map bare_at xs)) (until_bare signal xs)
    ∙ ap (λ (l : List Extent). l ++ extents signal (map bare_at xs)) (here_bare looks x (until_look signal xs))
    ∙ ap (λ (l : List Extent). map bare_in (extents_here looks x (until_look signal xs)) ++ l) (extents_bare signal xs)
    ∙ sym (maps_append bare_in (extents_here looks x (until_look signal xs)) (extents signal xs))

-- ---- fails

found_bare : (signal : ℕ) (look : Look) (xs : List (ℕ × Entry))
    → find (λ entry. not (meets signal look entry)) (map bare_at xs) ≡ option_map bare_at (find (λ entry. not (meets signal look entry)) xs)
found_bare signal look [] = refl
found_bare signal look (x ∷ xs) = step (not (meets signal look x)) (found_bare signal look xs)
  where
    step : (b : Bool) → find (λ entry. not (meets signal look entry)) (map bare_at xs)
        ≡ option_map bare_at (find (λ entry. not (meets signal look entry)) xs)
        → cond b (Some (bare_at x)) (find (λ entry. not (meets signal look entry)) (map bare_at xs))
        ≡ option_map bare_at (cond b (Some x) (find (λ entry. not (meets signal look entry)) xs))
    step true rest = refl
    step false rest = rest

fail_bare : (signal : ℕ) (x : Extent) → fail_of signal (bare_in x) ≡ option_map unmarked_at (fail_of signal x)
fail_bare signal x =
    ap (option_map (λ (entry : ℕ × Entry). (entry.0, fail_at signal x.look entry.1))) (found_bare signal x.look x.inside)
    ∙ by (find (λ entry. not (meets signal x.look entry)) x.inside)
  where
    by : (o : Option (ℕ × Entry)) → option_map (λ entry. (entry.0, fail_at signal x.look entry.1)) (option_map bare_at o)
        ≡ option_map unmarked_at (option_map (λ entry. (entry.0, fail_at signal x.look entry.1)) o)
    by None = refl
    by (Some entry) = refl

some_bare : (signal : ℕ) (xs : List Extent) → filter_map (fail_of signal) (map bare_in xs) ≡ map unmarked_at (filter_map (fail_of signal) xs)
some_bare signal [] = refl
some_bare signal (x ∷ xs) =
    ap (λ (o : Option (ℕ × Fail)). cons_option o (filter_map (fail_of signal) (map bare_in xs))) (fail_bare signal x)
    ∙ ap (cons_option (option_map unmarked_at (fail_of signal x))) (some_bare signal xs) ∙ by (fail_of signal x)
  where
    by : (o : Option (ℕ × Fail)) → cons_option (option_map unmarked_at o) (map unmarked_at (filter_map (fail_of signal) xs))
        ≡ map unmarked_at (cons_option o (filter_map (fail_of signal) xs))
    by None = refl
    by (Some f) = refl

fails_of_bare : (signal : ℕ) (es : List Entry) → fails_of signal (map bare es) ≡ map unmarked_at (fails_of signal es)
fails_of_bare signal es =
    ap (λ (xs : List (ℕ × Entry)). filter_map (fail_of signal) (extents signal xs)) (numbered_bare 0 es)
    ∙ ap (filter_map (fail_of signal)) (extents_bare signal (enumerate_from 0 es))
    ∙ some_bare signal (extents signal (enumerate_from 0 es))

place_bare : (place : ℕ) (fs : List (ℕ × Fail)) → at_place place (map unmarked_at fs) ≡ map unmarked (at_place place fs)
place_bare place [] = refl
place_bare place (f ∷ fs) = step (f.0 == place) (place_bare place fs)
  where
    step : (b : Bool) → at_place place (map unmarked_at fs) ≡ map unmarked (at_place place fs)
        → map (λ (x : ℕ × Fail). x.1) (cond b (unmarked_at f ∷ filter (λ (x : ℕ × Fail). x.0 == place) (map unmarked_at fs))
        (filter (λ (x : ℕ × Fail). x.0 == place) (map unmarked_at fs)))
        ≡ map unmarked (map (λ (x : ℕ × Fail). x.1) (cond b (f ∷ filter (λ (x : ℕ × Fail). x.0 == place) fs)
        (filter (λ (x : ℕ × Fail). x.0 == place) fs)))
    step true rest = ap (λ (l : List Fail). unmarked f.1 ∷ l) rest
    step false rest = rest

signals_bare : (es : List Entry) (place : ℕ) (signals : List ℕ)
    → flat_map (λ signal. at_place place (fails_of signal (map bare es))) signals
    ≡ map unmarked (flat_map (λ signal. at_place place (fails_of signal es)) signals)
signals_bare es place [] = refl
signals_bare es place (s ∷ signals) =
    ap (λ (l : List (ℕ × Fail)). at_place place l ++ flat_map (λ signal. at_place place (fails_of signal (map bare es))) signals)
    (fails_of_bare s es)
    ∙ ap (λ (l : List Fail). l ++ flat_map (λ signal. at_place place (fails_of signal (map bare es))) signals)
    (place_bare place (fails_of s es))
    ∙ ap (λ (l : List Fail). map unmarked (at_place place (fails_of s es)) ++ l) (signals_bare es place signals)
    ∙ sym (maps_append unmarked (at_place place (fails_of s es)) (flat_map (λ signal. at_place place (fails_of signal es)) signals))

places_bare : (es : List Entry) (signals places : List ℕ)
    → flat_map (λ place. flat_map (λ signal. at_place place (fails_of signal (map bare es))) signals) places
    ≡ map unmarked (flat_map (λ place. flat_map (λ signal. at_place place (fails_of signal es)) signals) places)
places_bare es signals [] = refl
places_bare es signals (p ∷ places) =
    let all = λ (place : ℕ). flat_map (λ signal. at_place place (fails_of signal (map bare es))) signals in
    let own = λ (place : ℕ). flat_map (λ signal. at_place place (fails_of signal es)) signals in
    ap (λ (l : List Fail). l ++ flat_map all places) (signals_bare es p signals)
    ∙ ap (λ (l : List Fail). map unmarked (own p) ++ l) (places_bare es signals places)
    ∙ sym (maps_append unmarked (own p) (flat_map own places))

-- the fails of entries without their marks
pub fails_bare : (bound : List Bool) (es : List Entry) → fails bound (map bare es) ≡ map unmarked (fails bound es)
unfolding fails
fails_bare bound es =
    ap (λ (n : ℕ). flat_map (λ place. flat_map (λ signal. at_place place (fails_of signal (map bare es))) (bound_signals bound))
    (range_with_len 0 n)) (length-map es bare)
    ∙ places_bare es (bound_signals bound) (range_with_len 0 (length es))

-- ---- what is sensed

has_bare : (place : ℕ) (xs : List (ℕ × Entry)) → list_any (λ entry. entry.0 == place) (map bare_at xs) ≡ list_any (λ entry. entry.0 == place) xs
has_bare place [] = refl
has_bare place (x ∷ xs) = ap (λ (b : Bool). (x.0 == place) || b) (has_bare place xs)

other_bare : (place signal : ℕ) (look : Look) (xs : List (ℕ × Entry))
    → list_all (λ entry. entry.0 == place || meets signal look entry) (map bare_at xs)
    ≡ list_all (λ entry. entry.0 == place || meets signal look entry) xs
other_bare place signal look [] = refl
other_bare place signal look (x ∷ xs) = ap (λ (b : Bool). (x.0 == place || meets signal look x) && b) (other_bare place signal look xs)

watching_bare : (place signal : ℕ) (xs : List Extent) → list_any (is_watching place signal) (map bare_in xs) ≡ list_any (is_watching place signal) xs
watching_bare place signal [] = refl
watching_bare place signal (x ∷ xs) =
    ap (λ (b : Bool). (b && list_all (λ entry. entry.0 == place || meets signal x.look entry) (map bare_at x.inside))
    || list_any (is_watching place signal) (map bare_in xs)) (has_bare place x.inside)
    ∙ ap (λ (b : Bool). (list_any (λ entry. entry.0 == place) x.inside && b) || list_any (is_watching place signal) (map bare_in xs))
    (other_bare place signal x.look x.inside)
    ∙ ap (λ (b : Bool). is_watching place signal x || b) (watching_bare place signal xs)

pub sensed_bare : (bound : List Bool) (es : List Entry) (m : Moment) (signal : ℕ)
    → is_sensed bound (map bare es) m signal ≡ is_sensed bound es m signal
unfolding is_sensed
sensed_bare bound es m signal =
    let there = slice_index_or bound signal false in
    let more = es ++ unsensed m ∷ [] in
    ap (λ (n : ℕ). there && list_any (is_watching n signal) (extents signal (enumerate_from 0 (map bare es ++ unsensed m ∷ []))))
    (length-map es bare)
    ∙ ap (λ (l : List Entry). there && list_any (is_watching (length es) signal) (extents signal (enumerate_from 0 l)))
    (sym (maps_append bare es (unsensed m ∷ [])))
    ∙ ap (λ (l : List (ℕ × Entry)). there && list_any (is_watching (length es) signal) (extents signal l)) (numbered_bare 0 more)
    ∙ ap (λ (l : List Extent). there && list_any (is_watching (length es) signal) l) (extents_bare signal (enumerate_from 0 more))
    ∙ ap (λ (b : Bool). there && b) (watching_bare (length es) signal (extents signal (enumerate_from 0 more)))
