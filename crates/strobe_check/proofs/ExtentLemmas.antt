-- One more entry: where it has looks at the signal it begins new extents, and where it has none it
-- lengthens an open window.
use Rattle.std.proofs.Common.{◌≡◌, ℕ, cond, List, [], ◌∷◌, ◌++◌, refl, sym, ap, ◌∙◌, inl, inr, ◌⊎◌}
use Rattle.std.proofs.lemmas.List.{append-nil, append_assoc}
use Rattle.tester_types.specs.declared.wave.Look.{Look}
use Rattle.tester_types.specs.declared.wave.Look.TheVariants.{Low, High, Off, LowWindow, HighWindow, OffWindow, Close}
use Rattle.strobe_check.specs.Look.{is_window}
use Rattle.strobe_check.specs.Entry.{Entry, looks_at}
use Rattle.strobe_check.specs.Extent.{Extent, if_none, until_look, inside_last, inside_followed, extents_here, extents}

-- the looks at a signal in an entry
abbrev pub looks : ℕ → ℕ × Entry → List Look
looks signal entry = looks_at signal entry.1.moment

-- a window with one more entry inside
abbrev pub grow : ℕ × Entry → Extent → Extent
grow entry extent =
    record { look = extent.look; inside = cond (is_window extent.look) (extent.inside ++ entry ∷ []) extent.inside }

-- the last extent has one more entry inside
abbrev pub grow_last : ℕ × Entry → List Extent → List Extent
grow_last entry [] = []
grow_last entry (x ∷ []) = grow entry x ∷ []
grow_last entry (x ∷ y ∷ xs) = x ∷ grow_last entry (y ∷ xs)

grow_last-append : (entry : ℕ × Entry) (xs : List Extent) (y : Extent) (ys : List Extent)
    → grow_last entry (xs ++ y ∷ ys) ≡ xs ++ grow_last entry (y ∷ ys)
grow_last-append entry [] y ys = refl
grow_last-append entry (x ∷ []) y ys = refl
grow_last-append entry (x ∷ x' ∷ xs) y ys = ap (λ l. x ∷ l) (grow_last-append entry (x' ∷ xs) y ys)

-- ---- an entry with looks at the signal

until_look-looked : (signal : ℕ) (later : List (ℕ × Entry)) (entry : ℕ × Entry) (look : Look)
    (ls : List Look)
    → looks signal entry ≡ look ∷ ls
    → until_look signal (later ++ entry ∷ []) ≡ until_look signal later
until_look-looked signal [] entry look ls is = ap (λ l. if_none l (entry ∷ [])) is
until_look-looked signal (here ∷ later) entry look ls is =
    ap (λ l. if_none (looks signal here) (here ∷ l))
    (until_look-looked signal later entry look ls is)

pub extents-looked : (signal : ℕ) (entries : List (ℕ × Entry)) (entry : ℕ × Entry) (look : Look)
    (ls : List Look)
    → looks signal entry ≡ look ∷ ls
    → extents signal (entries ++ entry ∷ [])
    ≡ extents signal entries ++ extents_here (look ∷ ls) entry []
extents-looked signal [] entry look ls is = append-nil _ ∙ ap (λ l. extents_here l entry []) is
extents-looked signal (here ∷ later) entry look ls is =
    ap (λ l. extents_here (looks signal here) here l ++ extents signal (later ++ entry ∷ []))
    (until_look-looked signal later entry look ls is)
    ∙ ap (λ l. extents_here (looks signal here) here (until_look signal later) ++ l)
    (extents-looked signal later entry look ls is)
    ∙ sym
    (append_assoc (extents_here (looks signal here) here (until_look signal later)) (extents signal later) (extents_here (look ∷ ls) entry []))

-- ---- an entry without

-- no entry has a look at the signal
record IsQuiet (signal : ℕ) (entries : List (ℕ × Entry)) (entry : ℕ × Entry) : Type 0 where
  until : until_look signal entries ≡ entries
  none : extents signal entries ≡ []
  until_more : until_look signal (entries ++ entry ∷ []) ≡ entries ++ entry ∷ []
  none_more : extents signal (entries ++ entry ∷ []) ≡ []

-- some entry has one
record IsLooked (signal : ℕ) (entries : List (ℕ × Entry)) (entry : ℕ × Entry) : Type 0 where
  until : until_look signal (entries ++ entry ∷ []) ≡ until_look signal entries
  first : Extent
  rest : List Extent
  some : extents signal entries ≡ first ∷ rest

extents_here-some : (look : Look) (ls : List Look) (here : ℕ × Entry) (later : List (ℕ × Entry))
    → (x : Extent) × (xs : List Extent) × (extents_here (look ∷ ls) here later ≡ x ∷ xs)
extents_here-some look [] here later = (_, _, refl)
extents_here-some look (next ∷ ls) here later = (_, _, refl)

quiet_or_looked : (signal : ℕ) (entries : List (ℕ × Entry)) (entry : ℕ × Entry)
    → looks signal entry ≡ [] → IsQuiet signal entries entry ⊎ IsLooked signal entries entry
quiet_or_looked signal [] entry is = inl (record {
  until = refl;
  none = refl;
  until_more = ap (λ l. if_none l (entry ∷ [])) is;
  none_more = append-nil _ ∙ ap (λ l. extents_here l entry []) is;
})
quiet_or_looked signal (here ∷ later) entry is =
    by (looks signal here) refl (quiet_or_looked signal later entry is)
  where
    by : (ls : List Look) → looks signal here ≡ ls
        → IsQuiet signal later entry ⊎ IsLooked signal later entry
        → IsQuiet signal (here ∷ later) entry ⊎ IsLooked signal (here ∷ later) entry
    by [] own (inl quiet) = inl (record {
      until = ap (λ l. if_none l (here ∷ until_look signal later)) own
          ∙ ap (λ l. here ∷ l) quiet.until;
      none = ap (λ l. extents_here l here (until_look signal later) ++ extents signal later) own
          ∙ quiet.none;
      until_more = ap (λ l. if_none l (here ∷ until_look signal (later ++ entry ∷ []))) own
          ∙ ap (λ l. here ∷ l) quiet.until_more;
      none_more = ap (λ l. extents_here l here (until_look signal (later ++ entry ∷ [])) ++ extents signal (later ++ entry ∷ [])) own
          ∙ quiet.none_more;
    })
    by [] own (inr looked) = inr (record {
      until = ap (λ l. if_none (looks signal here) (here ∷ l)) looked.until;
      first = looked.first;
      rest = looked.rest;
      some = ap (λ l. extents_here l here (until_look signal later) ++ extents signal later) own
          ∙ looked.some;
    })
    by (look ∷ ls) own rest =
        let some = extents_here-some look ls here (until_look signal later) in
        inr (record {
          until = ap (λ l. if_none l (here ∷ until_look signal (later ++ entry ∷ []))) own
              ∙ sym (ap (λ l. if_none l (here ∷ until_look signal later)) own);
          first = some.0;
          rest = some.1 ++ extents signal later;
          some = ap (λ l. extents_here l here (until_look signal later) ++ extents signal later) own
              ∙ ap (λ l. l ++ extents signal later) some.2;
        })

inside_last-more : (look : Look) (here entry : ℕ × Entry) (later : List (ℕ × Entry))
    → inside_last look here (later ++ entry ∷ [])
    ≡ cond (is_window look) (inside_last look here later ++ entry ∷ []) (inside_last look here later)
inside_last-more Low here entry later = refl
inside_last-more High here entry later = refl
inside_last-more Off here entry later = refl
inside_last-more LowWindow here entry later = refl
inside_last-more HighWindow here entry later = refl
inside_last-more OffWindow here entry later = refl
inside_last-more Close here entry later = refl

-- a look with the entries inside its extent
abbrev pub extent : Look → List (ℕ × Entry) → Extent
extent look inside = record { look = look; inside = inside }

extents_here-more : (ls : List Look) (here entry : ℕ × Entry) (later : List (ℕ × Entry))
    → extents_here ls here (later ++ entry ∷ []) ≡ grow_last entry (extents_here ls here later)
extents_here-more [] here entry later = refl
extents_here-more (look ∷ []) here entry later =
    ap (λ l. extent look l ∷ []) (inside_last-more look here entry later)
extents_here-more (look ∷ next ∷ ls) here entry later =
    let front = extent look (inside_followed look here) in
    let some = (extents_here-some next ls here later).2 in
    ap (λ l. front ∷ l) (extents_here-more (next ∷ ls) here entry later)
    ∙ ap (λ l. front ∷ grow_last entry l) some ∙ ap (λ l. grow_last entry (front ∷ l)) (sym some)

pub extents-quiet : (signal : ℕ) (entries : List (ℕ × Entry)) (entry : ℕ × Entry)
    → looks signal entry ≡ []
    → extents signal (entries ++ entry ∷ []) ≡ grow_last entry (extents signal entries)
extents-quiet signal [] entry is = append-nil _ ∙ ap (λ l. extents_here l entry []) is
extents-quiet signal (here ∷ later) entry is =
    by (quiet_or_looked signal later entry is) (extents-quiet signal later entry is)
  where
    by : IsQuiet signal later entry ⊎ IsLooked signal later entry
        → extents signal (later ++ entry ∷ []) ≡ grow_last entry (extents signal later)
        → extents signal (here ∷ later ++ entry ∷ [])
        ≡ grow_last entry (extents signal (here ∷ later))
    by (inl quiet) later_too =
        let ls = looks signal here in
        let before = ap (λ l. extents_here ls here l ++ extents signal later) quiet.until
        ∙ ap (λ l. extents_here ls here later ++ l) quiet.none ∙ append-nil _ in
        ap (λ l. extents_here ls here l ++ extents signal (later ++ entry ∷ [])) quiet.until_more
        ∙ ap (λ l. extents_here ls here (later ++ entry ∷ []) ++ l) quiet.none_more ∙ append-nil _
        ∙ extents_here-more ls here entry later ∙ ap (grow_last entry) (sym before)
    by (inr looked) later_too =
        let front = extents_here (looks signal here) here (until_look signal later) in
        ap (λ l. extents_here (looks signal here) here l ++ extents signal (later ++ entry ∷ [])) looked.until
        ∙ ap (λ l. front ++ l) (later_too ∙ ap (grow_last entry) looked.some)
        ∙ sym (grow_last-append entry front looked.first looked.rest)
        ∙ ap (λ l. grow_last entry (front ++ l)) (sym looked.some)
