-- A moment's fails in a cycle that has none so far are the looks that are checked there and not met.
use Rattle.std.proofs.Common.{◌≡◌, ℕ, zero, suc, ◌+◌, ◌<◌, ◌≤◌, ◌++◌, Bool, true, false, not, ◌&&◌, cond, List, [], ◌∷◌, length, get_or, take, map, filter, Option, Some, None, refl, sym, ap, ◌∙◌, subst, arith, zero-add}
use Rattle.std.specs.List.{flat_map}
use Rattle.std.proofs.lemmas.List.{take_more, take_all}
use Rattle.std.proofs.lemmas.List.Elements.{filter-append}
use Rattle.std.proofs.lemmas.List.Sums.{fold_push}
use Rattle.tester_types.specs.declared.wave.Look.{Look}
use Rattle.tester_types.specs.declared.level.Level.{Level}
use Rattle.tester_types.specs.declared.record.Fail.{Fail}
use Rattle.tester_types.specs.declared.cycle.Moment.{Moment}
use Rattle.strobe_check.specs.Look.{is_edge, is_met}
use Rattle.strobe_check.specs.Entry.{Entry, looks_at, level_of, fail_at}
use Rattle.strobe_check.specs.Fails.{bound_from, bound_signals, fails}
use Rattle.strobe_check.specs.History.{open_window}
use Rattle.strobe_check.specs.Step.{window_after, failed, failed_edges, failed_window, left_open}
use Rattle.strobe_check.proofs.CycleLemmas.{new_fails, fails-push}
use Rattle.strobe_check.proofs.FailLemmas.{open_window-push}
use Rattle.word_run.specs.Checks.{if_open, checked, unmet, window_on, window_behind}

-- ---- the looks at one signal

twice_more : (p q : Look → Bool) (x : Look) (kept all : List Look) (a b : Bool) → p x ≡ a → q x ≡ b → filter q kept ≡ all
    → filter q (cond a (x ∷ kept) kept) ≡ cond (a && b) (x ∷ all) all
twice_more p q x kept all true true e f h =
    ap (λ (c : Bool). cond c (x ∷ filter q kept) (filter q kept)) f ∙ ap (λ (l : List Look). x ∷ l) h
twice_more p q x kept all true false e f h = ap (λ (c : Bool). cond c (x ∷ filter q kept) (filter q kept)) f ∙ h
twice_more p q x kept all false b e f h = h

unmet-edges : (level : Level) (looks : List Look) → unmet level (filter is_edge looks) ≡ failed_edges level looks
unmet-edges level [] = refl
unmet-edges level (look ∷ looks) =
    twice_more is_edge (λ l. not (is_met l level)) look (filter is_edge looks) (failed_edges level looks) (is_edge look)
    (not (is_met look level)) refl refl (unmet-edges level looks)

unmet-window : (level : Level) (window : Option Look) → unmet level (if_open window) ≡ failed_window level window
unmet-window level None = refl
unmet-window level (Some look) = by (is_met look level)
  where
    by : (b : Bool) → cond (not b) (look ∷ []) [] ≡ cond b [] (look ∷ [])
    by true = refl
    by false = refl

-- those that fail are those that are checked and not met
pub failed-checked : (level : Level) (window : Option Look) (looks : List Look)
    → failed level window looks ≡ unmet level (checked window looks)
failed-checked level window looks =
    sym (filter-append (λ look. not (is_met look level)) (filter is_edge looks) (if_open (window_after window looks))
    ∙ ap (λ (l : List Look). l ++ unmet level (if_open (window_after window looks))) (unmet-edges level looks)
    ∙ ap (λ (l : List Look). failed_edges level looks ++ l) (unmet-window level (window_after window looks)))

-- both parts of nothing are nothing
front_none : {X : Type 0} (xs ys : List X) → xs ++ ys ≡ [] → xs ≡ []
front_none [] ys e = refl
front_none (x ∷ xs) ys e = cc

back_none : {X : Type 0} (xs ys : List X) → xs ++ ys ≡ [] → ys ≡ []
back_none [] ys e = e
back_none (x ∷ xs) ys e = cc

map_none : {X Y : Type 0} (f : X → Y) (xs : List X) → map f xs ≡ [] → xs ≡ []
map_none f [] e = refl
map_none f (x ∷ xs) e = cc

-- where none fails the window goes on
unfailed-window : (level : Level) (window : Option Look) → failed_window level window ≡ [] → left_open level window ≡ window
unfailed-window level None e = refl
unfailed-window level (Some look) e = by (is_met look level) e
  where
    by : (b : Bool) → cond b [] (look ∷ []) ≡ [] → cond b (Some look) None ≡ Some look
    by true e = refl
    by false e = cc

-- ---- all signals

-- no bound signal has a fail where there is none
signal_none : (f : ℕ → List Fail) (bound : List Bool) (n s : ℕ) → flat_map f (bound_from n bound) ≡ []
    → get_or bound s false ≡ true → f (n + s) ≡ []
signal_none f [] n s e b = cc
signal_none f (false ∷ bound) n zero e b = cc
signal_none f (true ∷ bound) n zero e b = subst (λ (k : ℕ). f k ≡ []) (sym (omega arith)) (front_none (f n) _ e)
signal_none f (false ∷ bound) n (suc s) e b =
    let next : (n + 1) + s ≡ n + suc s = omega arith in
    subst (λ (k : ℕ). f k ≡ []) next (signal_none f bound (n + 1) s e b)
signal_none f (true ∷ bound) n (suc s) e b =
    let next : (n + 1) + s ≡ n + suc s = omega arith in
    subst (λ (k : ℕ). f k ≡ []) next (signal_none f bound (n + 1) s (back_none (f n) _ e) b)

-- what is said of the bound signals alone says the same of all of them
flat_map-bound : (f g : ℕ → List Fail) (bound : List Bool) (n : ℕ)
    → ((s : ℕ) → get_or bound s false ≡ true → f (n + s) ≡ g (n + s)) → flat_map f (bound_from n bound) ≡ flat_map g (bound_from n bound)
flat_map-bound f g [] n same = refl
flat_map-bound f g (false ∷ bound) n same = flat_map-bound f g bound (n + 1) (λ s b. later s (same (suc s) b))
  where
    later : (s : ℕ) → f (n + suc s) ≡ g (n + suc s) → f ((n + 1) + s) ≡ g ((n + 1) + s)
    later s e = let next : n + suc s ≡ (n + 1) + s = omega arith in subst (λ (k : ℕ). f k ≡ g k) next e
flat_map-bound f g (true ∷ bound) n same =
    let here : n + 0 ≡ n = omega arith in
    ap (λ (l : List Fail). l ++ flat_map f (bound_from (n + 1) bound)) (subst (λ (k : ℕ). f k ≡ g k) here (same 0 refl))
    ∙ ap (λ (l : List Fail). g n ++ l) (flat_map-bound f g bound (n + 1) (λ s b. later s (same (suc s) b)))
  where
    later : (s : ℕ) → f (n + suc s) ≡ g (n + suc s) → f ((n + 1) + s) ≡ g ((n + 1) + s)
    later s e = let next : n + suc s ≡ (n + 1) + s = omega arith in subst (λ (k : ℕ). f k ≡ g k) next e

-- ---- the windows of a cycle without a fail

window_behind-more : (signal : ℕ) (entries : List Entry) (entry : Entry)
    → window_behind signal (entries ++ entry ∷ []) ≡ window_after (window_behind signal entries) (looks_at signal entry.moment)
unfolding window_behind
window_behind-more signal entries entry = fold_push (window_on signal) None entries entry

-- one entry more, at which nothing fails
window_step : (bound : List Bool) (entries : List Entry) (entry : Entry) (signal : ℕ)
    → fails bound (entries ++ entry ∷ []) ≡ [] → get_or bound signal false ≡ true
    → open_window signal entries ≡ window_behind signal entries
    → open_window signal (entries ++ entry ∷ []) ≡ window_behind signal (entries ++ entry ∷ [])
window_step bound entries entry signal none is_bound was =
    let level = level_of signal entry in
    let looks = looks_at signal entry.moment in
    let window = open_window signal entries in
    let split = sym (fails-push bound entries entry) ∙ none in
    let new = signal_none (new_fails entries entry) bound 0 signal (back_none (fails bound entries) _ split) is_bound in
    let here : new_fails entries entry signal ≡ [] = subst (λ (k : ℕ). new_fails entries entry k ≡ []) (zero-add signal) new in
    let failed_none = map_none (λ look. fail_at signal look entry) (failed level window looks) here in
    let open_none = back_none (failed_edges level looks) (failed_window level (window_after window looks)) failed_none in
    open_window-push signal entries entry
    ∙ unfailed-window level (window_after window looks) open_none
    ∙ ap (λ (w : Option Look). window_after w looks) was
    ∙ sym (window_behind-more signal entries entry)

no_moment : Moment
no_moment = record { at = 0; drives = []; looks = [] }

no_entry : Entry
no_entry = record { exec = 0; cycle = 0; mark = 0; moment = no_moment; levels = [] }

windows_none : (signal : ℕ) → open_window signal [] ≡ window_behind signal []
unfolding open_window window_behind
windows_none signal = refl

windows_to : (bound : List Bool) (entries : List Entry) (signal : ℕ) → get_or bound signal false ≡ true → (i : ℕ)
    → i ≤ length entries → fails bound (take i entries) ≡ []
    → open_window signal (take i entries) ≡ window_behind signal (take i entries)
windows_to bound entries signal is_bound zero l none = windows_none signal
windows_to bound entries signal is_bound (suc i) l none =
    let within : i < length entries = omega (arith, l) in
    let suc_is : suc i ≡ i + 1 = omega arith in
    let more : take (suc i) entries ≡ take i entries ++ get_or entries i no_entry ∷ [] =
    ap (λ (k : ℕ). take k entries) suc_is ∙ take_more entries i no_entry within in
    let none_more = subst (λ (l : List Entry). fails bound l ≡ []) more none in
    let before : fails bound (take i entries) ≡ [] =
    front_none (fails bound (take i entries)) _ (sym (fails-push bound (take i entries) (get_or entries i no_entry)) ∙ none_more) in
    subst (λ (l : List Entry). open_window signal l ≡ window_behind signal l) (sym more)
    (window_step bound (take i entries) (get_or entries i no_entry) signal none_more is_bound
    (windows_to bound entries signal is_bound i (omega (arith, within)) before))

-- while nothing fails in a cycle the windows depend on no level
pub windows_are : (bound : List Bool) (entries : List Entry) (signal : ℕ) → get_or bound signal false ≡ true
    → fails bound entries ≡ [] → open_window signal entries ≡ window_behind signal entries
windows_are bound entries signal is_bound none =
    let all : take (length entries) entries ≡ entries = take_all (length entries) entries (omega arith) in
    subst (λ (l : List Entry). open_window signal l ≡ window_behind signal l) all
    (windows_to bound entries signal is_bound (length entries) (omega arith)
    (subst (λ (l : List Entry). fails bound l ≡ []) (sym all) none))

-- ---- a moment of a cycle without a fail

-- the fails of an entry are the looks that are checked there and not met
pub moment_fails : (bound : List Bool) (entries : List Entry) (entry : Entry) → fails bound entries ≡ []
    → fails bound (entries ++ entry ∷ [])
    ≡ flat_map (λ signal. map (λ look. fail_at signal look entry)
    (unmet (level_of signal entry) (checked (window_behind signal entries) (looks_at signal entry.moment)))) (bound_signals bound)
moment_fails bound entries entry none =
    let new = λ (signal : ℕ). map (λ look. fail_at signal look entry)
    (unmet (level_of signal entry) (checked (window_behind signal entries) (looks_at signal entry.moment))) in
    fails-push bound entries entry
    ∙ ap (λ (l : List Fail). l ++ flat_map (new_fails entries entry) (bound_signals bound)) none
    ∙ flat_map-bound (new_fails entries entry) new bound 0
    (λ signal b.
    let is : new_fails entries entry signal ≡ new signal =
    ap (λ (w : Option Look). map (λ look. fail_at signal look entry) (failed (level_of signal entry) w (looks_at signal entry.moment))) (windows_are bound entries signal b none)
    ∙ ap (λ (l : List Look). map (λ look. fail_at signal look entry) l)
    (failed-checked (level_of signal entry) (window_behind signal entries) (looks_at signal entry.moment)) in
    subst (λ (k : ℕ). new_fails entries entry k ≡ new k) (sym (zero-add signal)) is)
