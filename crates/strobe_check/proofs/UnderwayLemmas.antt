-- One more entry, signal after signal.
use Rattle.std.proofs.Common.{◌≡◌, ℕ, zero, suc, ◌+◌, ◌-◌, ◌<◌, ◌≤◌, Bool, true, false, cond, List, [], ◌∷◌, ◌++◌, length, get_or, set, take, drop, map, filter, Option, None, refl, sym, ap, subst, ◌∙◌, arith, zero-add}
use Rattle.std.proofs.lemmas.List.{append-nil, append_assoc, map-append, take_more, take_all, drop_all, set-get_or}
use Rattle.std.proofs.lemmas.List.Concat.{flat_map-append}
use Rattle.std.proofs.lemmas.List.Elements.{filter-append}
use Rattle.std.specs.List.{enumerate_from, flat_map}
use Rattle.text_bytes.proofs.ListLemmas.{enumerate_from-push}
use Rattle.tester_types.specs.declared.wave.Look.{Look}
use Rattle.tester_types.specs.declared.level.Level.{Level}
use Rattle.strobe_check.specs.declared.judge.Sight.{Sight}
use Rattle.strobe_check.specs.Entry.{Entry, looks_at, level_of}
use Rattle.strobe_check.specs.Fails.{bound_signals, fails}
use Rattle.strobe_check.specs.Count.{Count, HasCounted, Counts}
use Rattle.strobe_check.specs.History.{History, all_fails, with_entry, open_window, open_windows, Held, HasSeen}
use Rattle.strobe_check.specs.Step.{window_after, left_open, failed, fail_in}
use Rattle.strobe_check.specs.Windows.{Passes}
use Rattle.strobe_check.specs.Ahead.{HasLeft}
use Rattle.strobe_check.proofs.ListLemmas.{front_len, get_or-seam, set-seam, kept-seam}
use Rattle.strobe_check.proofs.CycleLemmas.{new_fails, fails-push}
use Rattle.strobe_check.proofs.FailLemmas.{open_window-push}
use Rattle.strobe_check.proofs.HistoryLemmas.{length-open_windows, get_or-open_windows}

-- ---- the bound signals of a longer front

bound_signals-more : (bound : List Bool) (i : ℕ) → i < length bound
    → bound_signals (take (i + 1) bound)
    ≡ bound_signals (take i bound) ++ cond (get_or bound i false) (i ∷ []) []
bound_signals-more bound i within =
    let test = λ (signal : ℕ × Bool). signal.1 in
    let number = λ (signal : ℕ × Bool). signal.0 in
    let front = enumerate_from 0 (take i bound) in
    let numbered = ap (enumerate_from 0) (take_more bound i false within)
    ∙ enumerate_from-push 0 (take i bound) (get_or bound i false)
    ∙ ap (λ k. front ++ (k, get_or bound i false) ∷ [])
    (zero-add (length (take i bound)) ∙ front_len bound i within) in
    ap (λ l. map number (filter test l)) numbered
    ∙ ap (map number) (filter-append test front ((i, get_or bound i false) ∷ []))
    ∙ map-append number (filter test front) (filter test ((i, get_or bound i false) ∷ []))
    ∙ ap (λ l. map number (filter test front) ++ l) (one i (get_or bound i false))
  where
    one : (k : ℕ) (b : Bool)
        → map (λ (signal : ℕ × Bool). signal.0) (filter (λ (signal : ℕ × Bool). signal.1) ((k, b) ∷ []))
        ≡ cond b (k ∷ []) []
    one k true = refl
    one k false = refl

-- ---- an entry up to a signal

-- the signals below i have been judged at the entry, and the others haven't
pub record IsUnderway (history : History) (entry : Entry) (i : ℕ) (bound : List Bool)
    (windows : List (Option Look)) (count : Count) : Type 0 where
  pub same : bound ≡ history.bound
  pub opened : windows
      ≡ take i (open_windows history.bound (history.entries ++ entry ∷ []))
      ++ drop i (open_windows history.bound history.entries)
  pub counted : HasCounted history.keep
      (all_fails history ++ flat_map (new_fails history.entries entry) (bound_signals (take i history.bound))) count

-- a signal's level at an entry
abbrev pub sight_of : ℕ → Level → Entry → Sight
sight_of signal level entry = record {
  exec = entry.exec;
  cycle = entry.cycle;
  mark = entry.mark;
  at = entry.moment.at;
  signal = signal;
  level = level;
}

-- the windows after the entry, and before it
abbrev after_entry : History → Entry → List (Option Look)
after_entry history entry = open_windows history.bound (history.entries ++ entry ∷ [])

-- the windows before it
abbrev before_entry : History → List (Option Look)
before_entry history = open_windows history.bound history.entries

same_long : (history : History) (entry : Entry)
    → length (before_entry history) ≡ length (after_entry history entry)
same_long history entry =
    length-open_windows history.bound _ ∙ sym (length-open_windows history.bound _)

within_after : (history : History) (entry : Entry) (i : ℕ) → i < length history.bound
    → i < length (after_entry history entry)
within_after history entry i within =
    omega (arith, length-open_windows history.bound (history.entries ++ entry ∷ []))

-- the fails of the signals up to i, with those of signal i
fails-more : (history : History) (entry : Entry) (i : ℕ) (b : Bool) → i < length history.bound
    → get_or history.bound i false ≡ b
    → flat_map (new_fails history.entries entry) (bound_signals (take (i + 1) history.bound))
    ≡ flat_map (new_fails history.entries entry) (bound_signals (take i history.bound))
    ++ cond b (new_fails history.entries entry i) []
fails-more history entry i b within is =
    let news = new_fails history.entries entry in
    let front = bound_signals (take i history.bound) in
    ap (flat_map news)
    (bound_signals-more history.bound i within ∙ ap (λ c. front ++ cond c (i ∷ []) []) is)
    ∙ flat_map-append news front (cond b (i ∷ []) []) ∙ ap (λ l. flat_map news front ++ l) (one b)
  where
    one : (c : Bool)
        → flat_map (new_fails history.entries entry) (cond c (i ∷ []) [])
        ≡ cond c (new_fails history.entries entry i) []
    one true = append-nil (new_fails history.entries entry i)
    one false = refl

pub IsUnderway-judged : (history : History) (entry : Entry) (i : ℕ) (bound : List Bool)
    (windows : List (Option Look)) (count after : Count)
    (window next : Option Look) (level : Level) → IsUnderway history entry i bound windows count
    → i < length bound → get_or bound i false ≡ true → window ≡ get_or windows i None → level ≡ level_of i entry
    → next ≡ left_open level (window_after window (looks_at i entry.moment))
    → Counts (map (fail_in (sight_of i level entry)) (failed level window (looks_at i entry.moment))) count after
    → IsUnderway history entry (i + 1) bound (set windows i next) after
IsUnderway-judged history entry i bound windows count after window next level before within is_bound read is left counts =
    let entries = history.entries in
    let looks = looks_at i entry.moment in
    let place = subst (λ l. i < length l) before.same within in
    let here = ap (λ l. get_or l i false) (sym before.same) ∙ is_bound in
    let inside = within_after history entry i place in
    let long = same_long history entry in
    let was : window ≡ open_window i entries =
    read ∙ ap (λ l. get_or l i None) before.opened
    ∙ get_or-seam (after_entry history entry) (before_entry history) i None inside long
    ∙ get_or-open_windows history.bound entries i None place
    ∙ ap (λ b. cond b (open_window i entries) None) here in
    let becomes : next ≡ get_or (after_entry history entry) i next =
    left ∙ ap (λ l. left_open l (window_after window looks)) is
    ∙ ap (λ w. left_open (level_of i entry) (window_after w looks)) was
    ∙ sym (get_or-open_windows history.bound (entries ++ entry ∷ []) i next place
    ∙ ap (λ b. cond b (open_window i (entries ++ entry ∷ [])) None) here
    ∙ open_window-push i entries entry) in
    let news : map (fail_in (sight_of i level entry)) (failed level window looks) ≡ new_fails entries entry i =
    ap (λ l. map (fail_in (sight_of i l entry)) (failed l window looks)) is
    ∙ ap (λ w. map (fail_in (sight_of i (level_of i entry) entry)) (failed (level_of i entry) w looks)) was in
    let sofar = flat_map (new_fails entries entry) (bound_signals (take i history.bound)) in
    let all = append_assoc (all_fails history) sofar _
    ∙ ap (λ l. all_fails history ++ l)
    (ap (λ l. sofar ++ l) news ∙ sym (fails-more history entry i true place here)) in
    record {
      same = before.same;
      opened =
          ap (λ l. set l i next) before.opened
          ∙ ap (λ w. set (take i (after_entry history entry) ++ drop i (before_entry history)) i w) becomes
          ∙ set-seam (after_entry history entry) (before_entry history) i next inside long;
      counted = subst (λ l. HasCounted history.keep l after) all (counts history.keep _ before.counted);
    }

pub IsUnderway-unbound : (history : History) (entry : Entry) (i : ℕ) (bound : List Bool)
    (windows : List (Option Look)) (count : Count)
    → IsUnderway history entry i bound windows count → i < length bound
    → get_or bound i false ≡ false
    → IsUnderway history entry (i + 1) bound windows count
IsUnderway-unbound history entry i bound windows count before within is_bound =
    let entries = history.entries in
    let place = subst (λ l. i < length l) before.same within in
    let here = ap (λ l. get_or l i false) (sym before.same) ∙ is_bound in
    let none_before = get_or-open_windows history.bound entries i None place
    ∙ ap (λ b. cond b (open_window i entries) None) here in
    let none_after = get_or-open_windows history.bound (entries ++ entry ∷ []) i None place
    ∙ ap (λ b. cond b (open_window i (entries ++ entry ∷ [])) None) here in
    let all = fails-more history entry i false place here ∙ append-nil _ in
    record {
      same = before.same;
      opened = before.opened
          ∙ kept-seam (after_entry history entry) (before_entry history) i None (within_after history entry i place)
          (same_long history entry)
          (none_before ∙ sym none_after);
      counted = subst (λ l. HasCounted history.keep (all_fails history ++ l) count) (sym all) before.counted;
    }

-- none has been judged
pub IsUnderway-none : (history : History) (entry : Entry) (held : Held) → HasSeen history held
    → IsUnderway history entry 0 held.bound held.windows held.count
IsUnderway-none history entry held seen = record {
  same = seen.bound;
  opened = seen.windows;
  counted = subst (λ l. HasCounted history.keep l held.count) (sym (append-nil (all_fails history))) seen.count;
}

-- ---- signals at which nothing is to be judged

counts_none : (count : Count) → Counts [] count count
counts_none count keep before counted = subst (λ l. HasCounted keep l count) (sym (append-nil before)) counted

-- a signal without a look and without a window
IsUnderway-idle : (history : History) (entry : Entry) (i : ℕ) (bound : List Bool)
    (windows : List (Option Look)) (count : Count)
    → IsUnderway history entry i bound windows count → i < length bound
    → looks_at i entry.moment ≡ [] → get_or windows i None ≡ None
    → IsUnderway history entry (i + 1) bound windows count
IsUnderway-idle history entry i bound windows count before within none closed = by (get_or bound i false) refl
  where
    level : Level
    level = level_of i entry

    counts : Counts (map (fail_in (sight_of i level entry)) (failed level None (looks_at i entry.moment))) count count
    counts =
        subst (λ (l : List Look). Counts (map (fail_in (sight_of i level entry)) (failed level None l)) count count)
        (sym none) (counts_none count)

    by : (b : Bool) → get_or bound i false ≡ b → IsUnderway history entry (i + 1) bound windows count
    by false e = IsUnderway-unbound history entry i bound windows count before within e
    by true e =
        subst (λ (w : List (Option Look)). IsUnderway history entry (i + 1) bound w count)
        (ap (set windows i) (sym closed) ∙ set-get_or windows i None)
        (IsUnderway-judged history entry i bound windows count count None None level before within e (sym closed) refl
        (sym (ap (λ (l : List Look). left_open level (window_after None l)) none)) counts)

-- so many of them
IsUnderway-passes : (history : History) (entry : Entry) (n i upto : ℕ) (bound : List Bool)
    (windows : List (Option Look)) (count : Count) → i + n ≡ upto → upto ≤ length bound
    → ((k : ℕ) → i ≤ k → k < upto → looks_at k entry.moment ≡ [])
    → ((k : ℕ) → i ≤ k → k < upto → get_or windows k None ≡ None)
    → IsUnderway history entry i bound windows count → IsUnderway history entry upto bound windows count
IsUnderway-passes history entry zero i upto bound windows count sum within none closed before =
    let same : i ≡ upto = omega (arith, sum) in
    subst (λ (k : ℕ). IsUnderway history entry k bound windows count) same before
IsUnderway-passes history entry (suc n) i upto bound windows count sum within none closed before =
    IsUnderway-passes history entry n (i + 1) upto bound windows count (omega (arith, sum)) within
    (λ k a b. none k (omega arith) b) (λ k a b. closed k (omega arith) b)
    (IsUnderway-idle history entry i bound windows count before (omega (arith, sum, within))
    (none i (omega arith) (omega (arith, sum))) (closed i (omega arith) (omega (arith, sum))))

-- all that a search passes
pub IsUnderway-on : (history : History) (entry : Entry) (sorted : Bool) (rest : List (ℕ × Look)) (i upto : ℕ)
    (bound : List Bool) (windows : List (Option Look)) (count : Count) → Passes sorted rest windows i upto
    → HasLeft entry.moment sorted i rest → upto ≤ length bound
    → IsUnderway history entry i bound windows count → IsUnderway history entry upto bound windows count
IsUnderway-on history entry sorted rest i upto bound windows count passes left within before =
    IsUnderway-passes history entry (upto - i) i upto bound windows count (omega (arith, passes.onward)) within
    (λ k a b. sym (left.all k a) ∙ passes.no_look left.ascends k a b) passes.no_window before

-- all signals have been judged
pub HasSeen-entry : (history : History) (entry : Entry) (i : ℕ) (held : Held)
    → IsUnderway history entry i held.bound held.windows held.count
    → length held.bound ≤ i → HasSeen (with_entry history entry) held
HasSeen-entry history entry i held done all =
    let past = subst (λ l. length l ≤ i) done.same all in
    let news = flat_map (new_fails history.entries entry) (bound_signals history.bound) in
    let whole : all_fails history ++ flat_map (new_fails history.entries entry) (bound_signals (take i history.bound))
    ≡ all_fails (with_entry history entry) =
    ap (λ l. all_fails history ++ flat_map (new_fails history.entries entry) (bound_signals l))
    (take_all i history.bound past)
    ∙ append_assoc history.closed (fails history.bound history.entries) news
    ∙ ap (λ l. history.closed ++ l) (sym (fails-push history.bound history.entries entry)) in
    record {
      bound = done.same;
      windows = done.opened
          ∙ ap (λ l. l ++ drop i (before_entry history))
          (take_all i (after_entry history entry) (omega (arith, length-open_windows history.bound (history.entries ++ entry ∷ []))))
          ∙ ap (λ l. after_entry history entry ++ l)
          (drop_all i (before_entry history) (omega (arith, length-open_windows history.bound history.entries)))
          ∙ append-nil _;
      count = subst (λ l. HasCounted history.keep l held.count) whole done.counted;
    }
