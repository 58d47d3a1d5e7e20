-- A signal is sensed where it has an edge look, or a window that is open after the moment's looks.
use Rattle.std.proofs.Common.{◌≡◌, ℕ, ◌<◌, Bool, true, false, cond, eqb, ◌&&◌, ◌||◌, List, [], ◌∷◌, ◌++◌, length, Option, Some, None, is_some, refl, sym, ap, subst, ◌∙◌, arith, zero-add}
use Rattle.std.proofs.Math.Bool.{or_assoc, or-false, or-true}
use Rattle.std.proofs.lemmas.Bool.{eq-eqb, ne_eqb}
use Rattle.std.proofs.lemmas.List.Folds.{list_any-append, list_all-append}
use Rattle.std.specs.List.{AllByRecursion, enumerate_from, list_all, list_any, slice_index_or}
use Rattle.tester_types.specs.declared.wave.Look.{Look}
use Rattle.tester_types.specs.declared.wave.Look.TheVariants.{Low, High, Off, LowWindow, HighWindow, OffWindow, Close}
use Rattle.tester_types.specs.declared.cycle.Moment.{Moment}
use Rattle.strobe_check.specs.Look.{is_edge, is_window}
use Rattle.strobe_check.specs.Entry.{Entry}
use Rattle.strobe_check.specs.Extent.{Extent, inside_last, inside_followed, extents_here, extents}
use Rattle.strobe_check.specs.Fails.{meets}
use Rattle.strobe_check.specs.Sensed.{is_watching, unsensed, is_sensed}
use Rattle.strobe_check.specs.History.{open_in, last_open, open_window}
use Rattle.strobe_check.specs.Step.{opened, window_after, looks_of, is_watched}
use Rattle.strobe_check.proofs.LookLemmas.{list_any-looks_of}
use Rattle.strobe_check.proofs.ExtentLemmas.{looks, extent, grow, grow_last, extents-looked, extents-quiet}
use Rattle.strobe_check.proofs.FailLemmas.{numbered-push}
use Rattle.strobe_check.proofs.PlaceLemmas.{AreInside, inside-extents, places-below}

-- the places of these entries are below a number
abbrev AreBelow : ℕ → List (ℕ × Entry) → Type 0
AreBelow n entries = AllByRecursion (λ entry. entry.0 < n) entries

-- ---- extents that end before the place

place-missing : (n : ℕ) (inside : List (ℕ × Entry)) → AreBelow n inside
    → list_any (λ entry. eqb entry.0 n) inside ≡ false
place-missing n [] below = refl
place-missing n (entry ∷ inside) below =
    ap (λ b. b || list_any (λ e. eqb e.0 n) inside) (ne_eqb entry.0 n (λ e. omega (arith, below.0)))
    ∙ place-missing n inside below.1

all-met : (n signal : ℕ) (look : Look) (inside : List (ℕ × Entry)) → AreBelow n inside
    → list_all (λ entry. eqb entry.0 n || meets signal look entry) inside
    ≡ list_all (meets signal look) inside
all-met n signal look [] below = refl
all-met n signal look (entry ∷ inside) below =
    ap (λ b. (b || meets signal look entry) && list_all (λ e. eqb e.0 n || meets signal look e) inside)
    (ne_eqb entry.0 n (λ e. omega (arith, below.0)))
    ∙ ap (λ b. meets signal look entry && b) (all-met n signal look inside below.1)

watching-before : (n signal : ℕ) (x : Extent) → AreBelow n x.inside → is_watching n signal x ≡ false
watching-before n signal x below =
    ap (λ b. b && list_all (λ e. eqb e.0 n || meets signal x.look e) x.inside)
    (place-missing n x.inside below)

none_watching : (n signal : ℕ) (xs : List Extent) → AreInside (λ entry. entry.0 < n) xs
    → list_any (is_watching n signal) xs ≡ false
none_watching n signal [] below = refl
none_watching n signal (x ∷ xs) below =
    ap (λ b. b || list_any (is_watching n signal) xs) (watching-before n signal x below.0)
    ∙ none_watching n signal xs below.1

-- ---- a moment without looks at the signal

-- true takes nothing away, twice
and_true : (b : Bool) → (b && (true && true)) ≡ b
and_true true = refl
and_true false = refl

-- something is there where the test passes
some_if : (b : Bool) (look : Look) → b ≡ is_some (cond b (Some look) None)
some_if true look = refl
some_if false look = refl

watching-grow : (n signal : ℕ) (entry : Entry) (x : Extent) → AreBelow n x.inside
    → is_watching n signal (grow (n, entry) x) ≡ is_some (open_in signal x)
watching-grow n signal entry x below = by (is_window x.look)
  where
    here : eqb n n ≡ true
    here = eq-eqb n n refl

    any : list_any (λ e. eqb e.0 n) (x.inside ++ (n, entry) ∷ []) ≡ true
    any =
        list_any-append (λ e. eqb e.0 n) x.inside ((n, entry) ∷ [])
        ∙ ap (λ b. list_any (λ e. eqb e.0 n) x.inside || (b || false)) (eq-eqb n n refl)
        ∙ or-true (list_any (λ e. eqb e.0 n) x.inside)

    all : list_all (λ e. eqb e.0 n || meets signal x.look e) (x.inside ++ (n, entry) ∷ []) ≡ list_all (meets signal x.look) x.inside
    all =
        list_all-append (λ e. eqb e.0 n || meets signal x.look e) x.inside ((n, entry) ∷ [])
        ∙ ap (λ b. list_all (λ e. eqb e.0 n || meets signal x.look e) x.inside && ((b || meets signal x.look (n, entry)) && true))
        (eq-eqb n n refl)
        ∙ and_true (list_all (λ e. eqb e.0 n || meets signal x.look e) x.inside)
        ∙ all-met n signal x.look x.inside below

    by : (b : Bool)
        → is_watching n signal (extent x.look (cond b (x.inside ++ (n, entry) ∷ []) x.inside))
        ≡ is_some (cond (b && list_all (meets signal x.look) x.inside) (Some x.look) None)
    by true =
        ap (λ b. b && list_all (λ e. eqb e.0 n || meets signal x.look e) (x.inside ++ (n, entry) ∷ [])) any
        ∙ all ∙ some_if (list_all (meets signal x.look) x.inside) x.look
    by false = watching-before n signal x below

watching-grow_last : (n signal : ℕ) (entry : Entry) (xs : List Extent) → AreInside (λ e. e.0 < n) xs
    → list_any (is_watching n signal) (grow_last (n, entry) xs) ≡ is_some (last_open signal xs)
watching-grow_last n signal entry [] below = refl
watching-grow_last n signal entry (x ∷ []) below =
    or-false _ ∙ watching-grow n signal entry x below.0
watching-grow_last n signal entry (x ∷ y ∷ xs) below =
    ap (λ b. b || list_any (is_watching n signal) (grow_last (n, entry) (y ∷ xs)))
    (watching-before n signal x below.0)
    ∙ watching-grow_last n signal entry (y ∷ xs) below.1

-- ---- a moment with looks at the signal

one_inside : (n signal : ℕ) (entry : Entry) (look : Look)
    → is_watching n signal (extent look ((n, entry) ∷ [])) ≡ true
one_inside n signal entry look =
    ap (λ b. (b || false) && ((b || meets signal look (n, entry)) && true)) (eq-eqb n n refl)

watching-last : (n signal : ℕ) (entry : Entry) (look : Look)
    → is_watching n signal (extent look (inside_last look (n, entry) []))
    ≡ (is_edge look || is_some (opened look))
watching-last n signal entry Low = one_inside n signal entry Low
watching-last n signal entry High = one_inside n signal entry High
watching-last n signal entry Off = one_inside n signal entry Off
watching-last n signal entry LowWindow = one_inside n signal entry LowWindow
watching-last n signal entry HighWindow = one_inside n signal entry HighWindow
watching-last n signal entry OffWindow = one_inside n signal entry OffWindow
watching-last n signal entry Close = refl

watching-followed : (n signal : ℕ) (entry : Entry) (look : Look)
    → is_watching n signal (extent look (inside_followed look (n, entry))) ≡ is_edge look
watching-followed n signal entry Low = one_inside n signal entry Low
watching-followed n signal entry High = one_inside n signal entry High
watching-followed n signal entry Off = one_inside n signal entry Off
watching-followed n signal entry LowWindow = refl
watching-followed n signal entry HighWindow = refl
watching-followed n signal entry OffWindow = refl
watching-followed n signal entry Close = refl

watching-here : (n signal : ℕ) (entry : Entry) (window : Option Look) (look : Look) (ls : List Look)
    → list_any (is_watching n signal) (extents_here (look ∷ ls) (n, entry) [])
    ≡ (list_any is_edge (look ∷ ls) || is_some (window_after window (look ∷ ls)))
watching-here n signal entry window look [] =
    or-false _ ∙ watching-last n signal entry look
    ∙ ap (λ b. b || is_some (opened look)) (sym (or-false (is_edge look)))
watching-here n signal entry window look (next ∷ ls) =
    ap (λ b. b || list_any (is_watching n signal) (extents_here (next ∷ ls) (n, entry) []))
    (watching-followed n signal entry look)
    ∙ ap (λ b. is_edge look || b) (watching-here n signal entry window next ls)
    ∙ sym
    (or_assoc (is_edge look) (list_any is_edge (next ∷ ls)) (is_some (window_after window (next ∷ ls))))

-- ---- any moment

watching : (n signal : ℕ) (entries : List (ℕ × Entry)) (entry : Entry) (ls : List Look)
    → looks signal (n, entry) ≡ ls → AreBelow n entries
    → list_any (is_watching n signal) (extents signal (entries ++ (n, entry) ∷ []))
    ≡ (list_any is_edge ls || is_some (window_after (last_open signal (extents signal entries)) ls))
watching n signal entries entry [] is below =
    ap (list_any (is_watching n signal)) (extents-quiet signal entries (n, entry) is)
    ∙ watching-grow_last n signal entry (extents signal entries)
    (inside-extents (λ e. e.0 < n) signal entries below)
watching n signal entries entry (look ∷ ls) is below =
    let before = extents signal entries in
    let here = extents_here (look ∷ ls) (n, entry) [] in
    ap (list_any (is_watching n signal)) (extents-looked signal entries (n, entry) look ls is)
    ∙ list_any-append (is_watching n signal) before here
    ∙ ap (λ b. b || list_any (is_watching n signal) here)
    (none_watching n signal before (inside-extents (λ e. e.0 < n) signal entries below))
    ∙ watching-here n signal entry (last_open signal before) look ls

-- whether a signal is sensed, by its open window and the moment's looks
pub is_sensed-watched : (bound : List Bool) (entries : List Entry) (moment : Moment) (signal : ℕ)
    → is_sensed bound entries moment signal
    ≡ (slice_index_or bound signal false && is_watched (open_window signal entries) signal moment.looks)
unfolding is_sensed open_window
is_sensed-watched bound entries moment signal =
    let n = length entries in
    let entry = unsensed moment in
    let window = last_open signal (extents signal (enumerate_from 0 entries)) in
    let places = subst (λ k. AreBelow k (enumerate_from 0 entries)) (zero-add n) (places-below 0 entries) in
    let watched = ap (λ l. list_any (is_watching n signal) (extents signal l)) (numbered-push entries entry)
    ∙ watching n signal (enumerate_from 0 entries) entry _ refl places in
    ap (λ b. slice_index_or bound signal false && b)
    (watched ∙ ap (λ b. b || is_some (window_after window (looks_of signal moment.looks))) (sym (list_any-looks_of is_edge signal moment.looks)))
