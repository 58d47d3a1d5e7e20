-- Entries that agree in all that is sensed are judged alike.
use Rattle.std.proofs.Common.{◌≡◌, ℕ, zero, suc, ◌+◌, ◌<◌, ◌≤◌, Bool, true, false, cond, not, ◌&&◌, ◌||◌, List, [], ◌∷◌, ◌++◌, length, get_or, take, map, Option, None, is_some, refl, sym, ap, subst, ◌∙◌, arith, inl, inr, zero-add}
use Rattle.std.specs.List.{enumerate_from, flat_map, list_any}
use Rattle.std.proofs.lemmas.Bool.{cases_lt, or_parts}
use Rattle.std.proofs.lemmas.List.{append-nil, get_or_past, take_more, take_all}
use Rattle.tester_types.specs.declared.wave.Look.{Look}
use Rattle.tester_types.specs.declared.level.Level.{Level}
use Rattle.text_bytes.proofs.ListLemmas.{plus-suc}
use Rattle.strobe_check.specs.Look.{is_edge, is_met}
use Rattle.strobe_check.specs.Entry.{Entry, looks_at, level_of, fail_at}
use Rattle.strobe_check.specs.Fails.{bound_from, bound_signals, fails}
use Rattle.strobe_check.specs.History.{open_window}
use Rattle.strobe_check.specs.Step.{looks_of, is_watched, window_after, failed_edges, failed_window, failed, left_open}
use Rattle.strobe_check.specs.Agree.{AreOfOneMoment, AgreeBehind, Agree, JudgedAlike}
use Rattle.strobe_check.proofs.LookLemmas.{list_any-looks_of}
use Rattle.strobe_check.proofs.FailLemmas.{open_window-push}
use Rattle.strobe_check.proofs.CycleLemmas.{new_fails, fails-push}
use Rattle.strobe_check.proofs.SensedLemmas.{is_sensed-watched}
use Rattle.strobe_check.proofs.HistoryLemmas.{get_or-open_windows}

-- ---- bound signals

-- for each signal what a function gives where it is bound, else another thing
abbrev where_bound : {Y : Type 0} → (ℕ → Y) → Y → ℕ → List Bool → List Y
where_bound f d n bound = map (λ (s : ℕ × Bool). cond s.1 (f s.0) d) (enumerate_from n bound)

-- functions that agree at the bound signals
flat_map-bound_from : {Y : Type 0} (f g : ℕ → List Y) (n : ℕ) (bound : List Bool)
    → ((k : ℕ) → get_or bound k false ≡ true → f (n + k) ≡ g (n + k))
    → flat_map f (bound_from n bound) ≡ flat_map g (bound_from n bound)
flat_map-bound_from f g n [] same = refl
flat_map-bound_from f g n (true ∷ bound) same =
    ap (λ l. l ++ flat_map f (bound_from (n + 1) bound)) (subst (λ (m : ℕ). f m ≡ g m) (add_none n) (same 0 refl))
    ∙ ap (λ l. g n ++ l) (flat_map-bound_from f g (n + 1) bound (λ k is. subst (λ (m : ℕ). f m ≡ g m) (sym (plus-suc n k)) (same (suc k) is)))
  where
    add_none : (m : ℕ) → m + 0 ≡ m
    add_none m = omega arith
flat_map-bound_from f g n (false ∷ bound) same =
    flat_map-bound_from f g (n + 1) bound (λ k is. subst (λ (m : ℕ). f m ≡ g m) (sym (plus-suc n k)) (same (suc k) is))

-- the same from the first signal on
flat_map-bound : {Y : Type 0} (f g : ℕ → List Y) (bound : List Bool)
    → ((k : ℕ) → get_or bound k false ≡ true → f k ≡ g k)
    → flat_map f (bound_signals bound) ≡ flat_map g (bound_signals bound)
flat_map-bound f g bound same =
    flat_map-bound_from f g 0 bound (λ k is. subst (λ (m : ℕ). f m ≡ g m) (sym (zero-add k)) (same k is))

-- the same of what stands for each signal
map-bound_from : {Y : Type 0} (f g : ℕ → Y) (d : Y) (n : ℕ) (bound : List Bool)
    → ((k : ℕ) → get_or bound k false ≡ true → f (n + k) ≡ g (n + k))
    → where_bound f d n bound ≡ where_bound g d n bound
map-bound_from f g d n [] same = refl
map-bound_from f g d n (true ∷ bound) same =
    ap (λ y. y ∷ where_bound f d (n + 1) bound) (subst (λ (m : ℕ). f m ≡ g m) (add_none n) (same 0 refl))
    ∙ ap (λ l. g n ∷ l) (map-bound_from f g d (n + 1) bound (λ k is. subst (λ (m : ℕ). f m ≡ g m) (sym (plus-suc n k)) (same (suc k) is)))
  where
    add_none : (m : ℕ) → m + 0 ≡ m
    add_none m = omega arith
map-bound_from f g d n (false ∷ bound) same =
    ap (λ l. d ∷ l) (map-bound_from f g d (n + 1) bound (λ k is. subst (λ (m : ℕ). f m ≡ g m) (sym (plus-suc n k)) (same (suc k) is)))

-- ---- a signal that isn't sensed

-- no edge look fails where there is none
no_edges : (level : Level) (looks : List Look) → list_any is_edge looks ≡ false → failed_edges level looks ≡ []
no_edges level [] e = refl
no_edges level (look ∷ looks) e =
    let parts = or_parts (is_edge look) (list_any is_edge looks) e in
    ap (λ b. cond (b && not (is_met look level)) (look ∷ failed_edges level looks) (failed_edges level looks)) parts.0
    ∙ no_edges level looks parts.1

no_window : (window : Option Look) → is_some window ≡ false → window ≡ None
no_window None e = refl
no_window (Option.Some look) e = cc

-- where nothing is watched, no level fails and no window is left
unwatched : (level : Level) (window : Option Look) (looks : List Look)
    → (list_any is_edge looks || is_some (window_after window looks)) ≡ false
    → (failed level window looks ≡ []) × (left_open level (window_after window looks) ≡ None)
unwatched level window looks e =
    let parts = or_parts (list_any is_edge looks) (is_some (window_after window looks)) e in
    let none = no_window (window_after window looks) parts.1 in (
      ap (λ w. failed_edges level looks ++ failed_window level w) none
          ∙ append-nil (failed_edges level looks) ∙ no_edges level looks parts.0,
      ap (left_open level) none,
    )

-- ---- a bound signal at one more entry

module _ (bound : List Bool) (ones others : List Entry) (one other : Entry) (alike : JudgedAlike bound ones others)
    (moment : AreOfOneMoment one other) (agree : AgreeBehind bound ones one other) where
  within : (signal : ℕ) → get_or bound signal false ≡ true → signal < length bound
  within signal is =
      elim (cases_lt signal (length bound)) [
        | inl l ↦ l
        | inr l ↦ absurd (let past = get_or_past bound signal false l in cc (past, is))
      ]

  -- it has the same open window before
  same_window : (signal : ℕ) → get_or bound signal false ≡ true → open_window signal ones ≡ open_window signal others
  same_window signal is =
      let there = within signal is in
      let mine = get_or-open_windows bound ones signal None there in
      let its = get_or-open_windows bound others signal None there in
      let a = mine ∙ ap (λ b. cond b (open_window signal ones) None) is in
      let b = its ∙ ap (λ b. cond b (open_window signal others) None) is in
      sym a ∙ ap (λ l. get_or l signal None) alike.windows ∙ b

  same_looks : (signal : ℕ) → looks_at signal one.moment ≡ looks_at signal other.moment
  same_looks signal = ap (looks_at signal) moment.moment

  -- whether it is watched
  watched : ℕ → Bool
  watched signal =
      list_any is_edge (looks_at signal one.moment) || is_some (window_after (open_window signal ones) (looks_at signal one.moment))

  sensed : (signal : ℕ) → get_or bound signal false ≡ true → watched signal ≡ true → level_of signal one ≡ level_of signal other
  unfolding watched
  sensed signal is so =
      agree signal
      (is_sensed-watched bound ones one.moment signal
      ∙ ap (λ b. b && is_watched (open_window signal ones) signal one.moment.looks) is
      ∙ ap (λ b. b || is_some (window_after (open_window signal ones) (looks_of signal one.moment.looks))) (list_any-looks_of is_edge signal one.moment.looks)
      ∙ so)

  fail_same : (signal : ℕ) → level_of signal one ≡ level_of signal other
      → (looks : List Look) → map (λ look. fail_at signal look one) looks ≡ map (λ look. fail_at signal look other) looks
  fail_same signal level [] = refl
  fail_same signal level (look ∷ looks) =
      let at = ap (λ m. m.at) moment.moment in
      let rest = fail_same signal level looks in
      let here : fail_at signal look one ≡ fail_at signal look other = cc (moment.exec, moment.cycle, moment.mark, at, level) in
      ap (λ l. fail_at signal look one ∷ l) rest ∙ ap (λ f. f ∷ map (λ l. fail_at signal l other) looks) here

  -- it has the same fails at the entry
  same_fails : (signal : ℕ) → get_or bound signal false ≡ true → new_fails ones one signal ≡ new_fails others other signal
  unfolding watched
  same_fails signal is = by (watched signal) refl
    where
      by : (b : Bool) → watched signal ≡ b → new_fails ones one signal ≡ new_fails others other signal
      by true so =
          let level = sensed signal is so in
          fail_same signal level (failed (level_of signal one) (open_window signal ones) (looks_at signal one.moment))
          ∙ ap (map (λ look. fail_at signal look other))
          (ap (λ l. failed l (open_window signal ones) (looks_at signal one.moment)) level
          ∙ ap (λ w. failed (level_of signal other) w (looks_at signal one.moment)) (same_window signal is)
          ∙ ap (λ ls. failed (level_of signal other) (open_window signal others) ls) (same_looks signal))
      by false so =
          let mine = unwatched (level_of signal one) (open_window signal ones) (looks_at signal one.moment) so in
          let its = unwatched (level_of signal other) (open_window signal ones) (looks_at signal one.moment) so in
          ap (map (λ look. fail_at signal look one)) mine.0
          ∙ sym (ap (map (λ look. fail_at signal look other))
          (ap (λ w. failed (level_of signal other) w (looks_at signal other.moment)) (sym (same_window signal is))
          ∙ ap (λ ls. failed (level_of signal other) (open_window signal ones) ls) (sym (same_looks signal)) ∙ its.0))

  -- and the same open window behind it
  same_left : (signal : ℕ) → get_or bound signal false ≡ true
      → open_window signal (ones ++ one ∷ []) ≡ open_window signal (others ++ other ∷ [])
  unfolding watched
  same_left signal is =
      open_window-push signal ones one ∙ by (watched signal) refl
      ∙ ap (λ w. left_open (level_of signal other) (window_after w (looks_at signal one.moment))) (same_window signal is)
      ∙ ap (λ ls. left_open (level_of signal other) (window_after (open_window signal others) ls)) (same_looks signal)
      ∙ sym (open_window-push signal others other)
    where
      by : (b : Bool) → watched signal ≡ b
          → left_open (level_of signal one) (window_after (open_window signal ones) (looks_at signal one.moment))
          ≡ left_open (level_of signal other) (window_after (open_window signal ones) (looks_at signal one.moment))
      by true so =
          ap (λ l. left_open l (window_after (open_window signal ones) (looks_at signal one.moment))) (sensed signal is so)
      by false so =
          (unwatched (level_of signal one) (open_window signal ones) (looks_at signal one.moment) so).1
          ∙ sym (unwatched (level_of signal other) (open_window signal ones) (looks_at signal one.moment) so).1

  -- one more entry on each side
  pub alike-push : JudgedAlike bound (ones ++ one ∷ []) (others ++ other ∷ [])
  alike-push = record {
    fails =
        fails-push bound ones one
        ∙ ap (λ l. fails bound ones ++ l) (flat_map-bound (new_fails ones one) (new_fails others other) bound same_fails)
        ∙ ap (λ l. l ++ flat_map (new_fails others other) (bound_signals bound)) alike.fails
        ∙ sym (fails-push bound others other);
    windows = map-bound_from (λ signal. open_window signal (ones ++ one ∷ [])) (λ signal. open_window signal (others ++ other ∷ [])) None 0 bound
        (λ k is. subst (λ (m : ℕ). open_window m (ones ++ one ∷ []) ≡ open_window m (others ++ other ∷ [])) (sym (zero-add k)) (same_left k is));
  }

-- ---- whole lists

alike-take : (bound : List Bool) (ones others : List Entry) → Agree bound ones others → (d : Entry) → (n : ℕ) → n ≤ length ones
    → JudgedAlike bound (take n ones) (take n others)
alike-take bound ones others agree d zero upto = record { fails = refl; windows = refl }
alike-take bound ones others agree d (suc n) upto =
    let here : n < length ones = omega arith in
    let there : n < length others = omega (arith, agree.count) in
    let step = alike-push bound (take n ones) (take n others) (get_or ones n d) (get_or others n d)
    (alike-take bound ones others agree d n (omega arith)) (agree.moments n d here) (agree.levels n d here) in
    let one = sym (take_more ones n d here) in
    let other = sym (take_more others n d there) in
    let more : n + 1 ≡ suc n = omega arith in
    subst (λ (m : ℕ). JudgedAlike bound (take m ones) (take m others)) more
    (subst (λ (l : List Entry). JudgedAlike bound (take (n + 1) ones) l) other
    (subst (λ (l : List Entry). JudgedAlike bound l (take n others ++ get_or others n d ∷ [])) one step))

-- lists that agree in all that is sensed are judged alike
pub agree-alike : (bound : List Bool) (ones others : List Entry) → Agree bound ones others → JudgedAlike bound ones others
agree-alike bound [] [] agree = record { fails = refl; windows = refl }
agree-alike bound [] (other ∷ others) agree = absurd (let e : length {A = Entry} [] ≡ length (other ∷ others) = agree.count in omega (arith, e))
agree-alike bound (one ∷ ones) others agree =
    let all = take_all (length (one ∷ ones)) (one ∷ ones) (omega arith) in
    let rest = take_all (length (one ∷ ones)) others (omega (arith, agree.count)) in
    subst (λ (l : List Entry). JudgedAlike bound (one ∷ ones) l) rest
    (subst (λ (l : List Entry). JudgedAlike bound l (take (length (one ∷ ones)) others)) all
    (alike-take bound (one ∷ ones) others agree one (length (one ∷ ones)) (omega arith)))
