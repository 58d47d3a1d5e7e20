-- What a lane stands for, once entries are taken or padding is laid, and once more characters are there.
use Rattle.std.proofs.Common.{◌≡◌, ℕ, zero, suc, ◌+◌, ◌-◌, ◌<◌, ◌≤◌, ◌^◌, Bool, true, false, List, [], ◌∷◌, ◌++◌, refl, sym, ap, subst, ◌∙◌, inl, inr, arith, length, get_or, take, drop, replicate, set, append_assoc, append-nil, drop-cons}
use Rattle.std.specs.Prelude.{min}
use Rattle.std.specs.Int.{div_ceil}
use Rattle.std.specs.List.{All}
use Rattle.std.proofs.Math.ListN.{get_or-map}
use Rattle.std.proofs.Math.Seq.{take-length, take-append_seam, drop-append_seam}
use Rattle.std.proofs.lemmas.Bool.{cases_lt}
use Rattle.std.proofs.lemmas.List.{length-append, length-replicate, length-take, take-take, replicate-append-replicate, get_or_past, map-set}
use Rattle.std.proofs.lemmas.List.Elements.{All-get_or, All-nil, All-cons, All-head, All-tail}
use Rattle.stil_ast.specs.Meaning.Arguments.{Entry, padding, Argument, no_argument, argument_of, one_taken, next_taken, every, dealt_out}
use Rattle.stil_ast.specs.Meaning.Shift.{column, with_column}
use Rattle.macro_expand.specs.Lanes.{left_of, argument_in, arguments_in, given_left, lane_len, Fits, no_lane}
use Rattle.macro_expand.specs.declared.lane.Lane.{Lane}
use Rattle.macro_expand.proofs.EveryLemmas.{every-past, every-capped, every-next, every-drop, every-short, length-every}

-- the characters of a lane that are left
abbrev given_of : List Entry → Lane → List Entry
given_of xs lane = every lane.width lane.place (take lane.end xs)

-- what stands behind the padding in front
abbrev behind : List Entry → Lane → List Entry
behind xs lane = given_of xs lane ++ replicate lane.back padding

length-within : (xs : List Entry) (lane : Lane) → Fits xs lane → length (take lane.end xs) ≡ lane.end
length-within xs lane fits =
    let size = length-take lane.end xs in
    let within = fits.within in
    omega (arith, size, within)

length-given : (xs : List Entry) (lane : Lane) → Fits xs lane → length (given_of xs lane) ≡ given_left lane
length-given xs lane fits =
    length-every lane.width lane.place (take lane.end xs) fits.sound.is_wide
    ∙ ap (λ (n : ℕ). div_ceil (n - lane.place) lane.width) (length-within xs lane fits)

-- how much is left
pub length-left_of : (xs : List Entry) (lane : Lane) → Fits xs lane → length (left_of xs lane) ≡ lane_len lane
length-left_of xs lane fits =
    let all = length-append (replicate lane.front padding) (behind xs lane) in
    let rest = length-append (given_of xs lane) (replicate lane.back padding) in
    let front = length-replicate lane.front padding in
    let back = length-replicate lane.back padding in
    let data' = length-given xs lane fits in
    omega (arith, all, rest, front, back, data')

-- past the characters there are none
no_given : (xs : List Entry) (lane : Lane) → lane.end ≤ lane.place → given_of xs lane ≡ []
no_given xs lane past =
    let size = length-take lane.end xs in
    every-past lane.width lane.place (take lane.end xs) (omega (arith, size))

no_front : (xs : List Entry) (lane : Lane) → lane.front ≡ 0 → left_of xs lane ≡ behind xs lane
no_front xs lane none = ap (λ (n : ℕ). replicate n padding ++ behind xs lane) none

-- a character stands first, and the next one is a width behind it
pub given-first : (xs : List Entry) (lane : Lane) (top : ℕ) → Fits xs lane → lane.front ≡ 0 → lane.place < lane.end
    → lane.end ≤ top
    → left_of xs lane ≡ get_or (take lane.end xs) lane.place padding
    ∷ left_of xs (record lane { place = min (lane.place + lane.width) top })
given-first xs lane top fits none some below =
    let size = length-within xs lane fits in
    let here = get_or (take lane.end xs) lane.place padding in
    let next = record lane { place = min (lane.place + lane.width) top } in
    let those = take lane.end xs in
    let split = every-next lane.width lane.place those padding fits.sound.is_wide (omega (arith, size)) in
    let capped = every-capped lane.width (lane.place + lane.width) top those (omega (arith, size)) in
    no_front xs lane none
    ∙ (ap (λ (ys : List Entry). ys ++ replicate lane.back padding) split
    ∙ (ap (λ (ys : List Entry). here ∷ (ys ++ replicate lane.back padding)) (sym capped)
    ∙ ap (λ (ys : List Entry). here ∷ ys) (sym (no_front xs next none))))

-- padding stands first behind the characters
pub back-first : (xs : List Entry) (lane : Lane) → lane.front ≡ 0 → lane.end ≤ lane.place → 0 < lane.back
    → left_of xs lane ≡ padding ∷ left_of xs (record lane { back = lane.back - 1 })
back-first xs lane none past some =
    let next = record lane { back = lane.back - 1 } in
    no_front xs lane none
    ∙ (ap (λ (ys : List Entry). ys ++ replicate lane.back padding) (no_given xs lane past)
    ∙ (ap (λ (n : ℕ). replicate n padding) (let e : lane.back ≡ suc (lane.back - 1) = omega arith in e)
    ∙ ap (λ (ys : List Entry). padding ∷ ys) (sym (no_front xs next none
    ∙ ap (λ (ys : List Entry). ys ++ replicate (lane.back - 1) padding) (no_given xs lane past)))))

-- nothing is left
pub none-left : (xs : List Entry) (lane : Lane) → lane.front ≡ 0 → lane.end ≤ lane.place → lane.back ≡ 0
    → left_of xs lane ≡ []
none-left xs lane none past few =
    no_front xs lane none
    ∙ (ap (λ (ys : List Entry). ys ++ replicate lane.back padding) (no_given xs lane past)
    ∙ ap (λ (n : ℕ). replicate n padding) few)

-- a lane in which one entry less is left and one more was taken
pub taken_once : (xs : List Entry) (lane next : Lane) (entry : Entry)
    → left_of xs lane ≡ entry ∷ left_of xs next → next.taken ≡ lane.taken + 1
    → argument_in xs next ≡ one_taken (argument_in xs lane) (left_of xs lane)
taken_once xs lane next entry first count =
    sym (ap (one_taken (argument_in xs lane)) first
    ∙ ap (λ (n : ℕ). record { left = left_of xs next; taken = n })
    (let e : suc lane.taken ≡ next.taken = omega arith in e))

-- and one in which nothing was left
pub none_taken : (xs : List Entry) (lane : Lane) → left_of xs lane ≡ []
    → argument_in xs lane ≡ one_taken (argument_in xs lane) (left_of xs lane)
none_taken xs lane none = sym (ap (one_taken (argument_in xs lane)) none)

-- padding at the end
pub padded-back : (xs : List Entry) (lane : Lane) (count missing : ℕ) → Fits xs lane → missing ≡ count - lane_len lane
    → left_of xs (record lane { back = lane.back + missing }) ≡ column true count (left_of xs lane)
padded-back xs lane count missing fits short =
    let front = replicate lane.front padding in
    let pads = λ (n : ℕ). replicate n padding in
    let size = length-left_of xs lane fits in
    ap (λ (ys : List Entry). front ++ (given_of xs lane ++ ys))
    (sym (replicate-append-replicate lane.back missing padding))
    ∙ (ap (λ (ys : List Entry). front ++ ys) (sym (append_assoc (given_of xs lane) (pads lane.back) (pads missing)))
    ∙ (sym (append_assoc front (behind xs lane) (pads missing))
    ∙ ap (λ (n : ℕ). left_of xs lane ++ replicate n padding)
    (let e : missing ≡ count - length (left_of xs lane) = omega (arith, size, short) in e)))

-- padding in front
pub padded-front : (xs : List Entry) (lane : Lane) (count missing : ℕ) → Fits xs lane → missing ≡ count - lane_len lane
    → left_of xs (record lane { front = lane.front + missing }) ≡ column false count (left_of xs lane)
padded-front xs lane count missing fits short =
    let pads = λ (n : ℕ). replicate n padding in
    let size = length-left_of xs lane fits in
    ap (λ (n : ℕ). replicate n padding ++ behind xs lane)
    (let e : lane.front + missing ≡ missing + lane.front = omega arith in e)
    ∙ (ap (λ (ys : List Entry). ys ++ behind xs lane) (sym (replicate-append-replicate missing lane.front padding))
    ∙ (append_assoc (pads missing) (pads lane.front) (behind xs lane)
    ∙ ap (λ (n : ℕ). replicate n padding ++ left_of xs lane)
    (let e : missing ≡ count - length (left_of xs lane) = omega (arith, size, short) in e)))

-- a signal without an argument
pub no_lane-fits : (xs : List Entry) → Fits xs no_lane
no_lane-fits xs = record { sound = record { is_wide = omega arith; counted = omega arith }; within = omega arith }

-- the lane of a signal is one of the lanes, or that of a signal without an argument
pub lane-fits : (xs : List Entry) (lanes : List Lane) (signal : ℕ) → All (Fits xs) lanes
    → Fits xs (get_or lanes signal no_lane)
lane-fits xs lanes signal each =
    elim (cases_lt signal (length lanes)) [
      | inl inside ↦ All-get_or (Fits xs) lanes signal no_lane inside each
      | inr past ↦ subst (Fits xs) (sym (get_or_past lanes signal no_lane past)) (no_lane-fits xs)
    ]

-- the argument of a signal is that of its lane
pub argument_of-is : (xs : List Entry) (lanes : List Lane) (signal : ℕ)
    → argument_of (arguments_in xs lanes) signal ≡ argument_in xs (get_or lanes signal no_lane)
argument_of-is xs lanes signal = get_or-map (argument_in xs) lanes signal no_lane

-- a lane that is put stands for the argument that is put
pub arguments-set : (xs : List Entry) (lanes : List Lane) (signal : ℕ) (lane : Lane)
    → arguments_in xs (set lanes signal lane) ≡ set (arguments_in xs lanes) signal (argument_in xs lane)
arguments-set xs lanes signal lane = map-set (argument_in xs) lanes signal lane

-- more characters change no lane
lane-grown : (xs ys : List Entry) (lane : Lane) → take (length xs) ys ≡ xs → Fits xs lane
    → Fits ys lane × (left_of ys lane ≡ left_of xs lane)
lane-grown xs ys lane same fits =
    let within = fits.within in
    let size = length-take (length xs) ys in
    let kept = ap length same in
    let front = replicate lane.front padding in (
      record { sound = fits.sound; within = omega (arith, within, size, kept) },
      ap (λ (zs : List Entry). front ++ (every lane.width lane.place zs ++ replicate lane.back padding))
          (sym (take-take lane.end (length xs) ys within) ∙ ap (take lane.end) same),
    )

pub lanes-grown : (xs ys : List Entry) (lanes : List Lane) → take (length xs) ys ≡ xs → All (Fits xs) lanes
    → All (Fits ys) lanes × (arguments_in ys lanes ≡ arguments_in xs lanes)
lanes-grown xs ys [] same each = (All-nil (Fits ys), refl)
lanes-grown xs ys (lane ∷ lanes) same each =
    let here = lane-grown xs ys lane same (All-head (Fits xs) lane lanes each) in
    let later = lanes-grown xs ys lanes same (All-tail (Fits xs) lane lanes each) in (
      All-cons (Fits ys) lane lanes here.0 later.0,
      ap (λ (left : List Entry). record { left = left; taken = lane.taken } ∷ arguments_in ys lanes) here.1
          ∙ ap (λ (args : List Argument). argument_in xs lane ∷ args) later.1,
    )

-- the lane of what is dealt to a signal
abbrev pub dealt_lane : ℕ → ℕ → ℕ → Lane
dealt_lane width place end = record { width = width; place = place; end = end; front = 0; back = 0; taken = 0 }

-- and its argument
pub dealt-lane : (xs : List Entry) (width from place end top : ℕ) → length xs ≡ end → end ≤ top
    → argument_in xs (dealt_lane width (min (from + place) top) end)
    ≡ record { left = every width place (drop from xs); taken = 0 }
dealt-lane xs width from place end top size fits =
    ap (λ (left : List Entry). record { left = left; taken = 0 })
    (append-nil (every width (min (from + place) top) (take end xs))
    ∙ (ap (λ (n : ℕ). every width (min (from + place) top) (take n xs)) (sym size)
    ∙ (ap (every width (min (from + place) top)) (take-length xs)
    ∙ (every-capped width (from + place) top xs (omega arith) ∙ every-drop width from place xs))))

-- how much is left of a signal's argument
pub left-is : (xs : List Entry) (lanes : List Lane) (signal : ℕ) (lane : Lane) → All (Fits xs) lanes
    → lane ≡ get_or lanes signal no_lane → lane_len lane ≡ length (argument_of (arguments_in xs lanes) signal).left
left-is xs lanes signal lane each same =
    ap lane_len same
    ∙ (sym (length-left_of xs (get_or lanes signal no_lane) (lane-fits xs lanes signal each))
    ∙ ap (λ (a : Argument). length a.left) (sym (argument_of-is xs lanes signal)))

-- the argument of a signal, by its lane
argument-of-lane : (xs : List Entry) (lanes : List Lane) (signal : ℕ) (lane : Lane) → lane ≡ get_or lanes signal no_lane
    → argument_in xs lane ≡ argument_of (arguments_in xs lanes) signal
argument-of-lane xs lanes signal lane same = ap (argument_in xs) same ∙ sym (argument_of-is xs lanes signal)

-- a lane of which one entry is taken is put back
pub taken-put : (xs : List Entry) (lanes : List Lane) (signal : ℕ) (lane next : Lane)
    → lane ≡ get_or lanes signal no_lane
    → argument_in xs next ≡ one_taken (argument_in xs lane) (left_of xs lane)
    → arguments_in xs (set lanes signal next) ≡ next_taken (arguments_in xs lanes) signal
taken-put xs lanes signal lane next same taken =
    arguments-set xs lanes signal next
    ∙ ap (set (arguments_in xs lanes) signal)
    (taken ∙ ap (λ (a : Argument). one_taken a a.left) (argument-of-lane xs lanes signal lane same))

-- a lane that is padded is put back
pub column-put : (outs : List Bool) (count : ℕ) (xs : List Entry) (lanes : List Lane) (signal : ℕ)
    → (lane next : Lane) (is_out : Bool) → lane ≡ get_or lanes signal no_lane → is_out ≡ get_or outs signal false
    → left_of xs next ≡ column is_out count (left_of xs lane) → next.taken ≡ lane.taken
    → arguments_in xs (set lanes signal next) ≡ with_column outs count signal (arguments_in xs lanes)
column-put outs count xs lanes signal lane next is_out same direction laid kept =
    let write = λ (a : Argument). set (arguments_in xs lanes) signal a in
    arguments-set xs lanes signal next
    ∙ (ap (λ (left : List Entry). write (record { left = left; taken = next.taken })) laid
    ∙ (ap (λ (n : ℕ). write (record { left = column is_out count (left_of xs lane); taken = n })) kept
    ∙ (ap (λ (out : Bool). write (record { left = column out count (left_of xs lane); taken = lane.taken })) direction
    ∙ ap (λ (a : Argument). write (record { left = column (get_or outs signal false) count a.left; taken = a.taken }))
    (argument-of-lane xs lanes signal lane same))))

-- signals without an argument
pub none-given : (xs : List Entry) (n : ℕ) (lanes : List Lane) → lanes ≡ replicate n no_lane
    → arguments_in xs lanes ≡ replicate n no_argument
none-given xs n lanes same = ap (arguments_in xs) same ∙ empty n where
  empty : (n : ℕ) → arguments_in xs (replicate n no_lane) ≡ replicate n no_argument
  empty zero = refl
  empty (suc n) = ap (λ (args : List Argument). no_argument ∷ args) (empty n)

-- the lane that is dealt to a signal fits
pub dealt-fits : (xs : List Entry) (width place end : ℕ) → 0 < width → length xs ≡ end → end < 2 ^ 64
    → Fits xs (dealt_lane width place end)
dealt-fits xs width place end wide size small =
    let many = length-every width place xs wide in
    let few = every-short width place xs in
    let same = ap (λ (n : ℕ). div_ceil (n - place) width) size in
    record {
      sound = record { is_wide = wide; counted = omega (arith, many, few, same, size, small) };
      within = omega (arith, size);
    }

-- one signal more has what is dealt to it
pub dealt-more : (xs : List Entry) (width from place end top : ℕ) (signals : List ℕ) (d : ℕ) (lanes after : List Lane)
    → length xs ≡ end → end ≤ top → place < length signals
    → after ≡ set lanes (get_or signals place d) (dealt_lane width (min (from + place) top) end)
    → dealt_out (drop from xs) width (place + 1) (drop (place + 1) signals) (arguments_in xs after)
    ≡ dealt_out (drop from xs) width place (drop place signals) (arguments_in xs lanes)
dealt-more xs width from place end top signals d lanes after size fits inside put =
    let signal = get_or signals place d in
    let next = λ (p : ℕ) (args : List Argument). dealt_out (drop from xs) width p (drop p signals) args in
    let more : place + 1 ≡ suc place = omega arith in
    let lane = dealt_lane width (min (from + place) top) end in
    let dealt = set (arguments_in xs lanes) signal (record { left = every width place (drop from xs); taken = 0 }) in
    ap (λ (ls : List Lane). next (place + 1) (arguments_in xs ls)) put
    ∙ (ap (next (place + 1)) (arguments-set xs lanes signal lane
    ∙ ap (set (arguments_in xs lanes) signal) (dealt-lane xs width from place end top size fits))
    ∙ (ap (λ (p : ℕ). next p dealt) more
    ∙ ap (λ (rest : List ℕ). dealt_out (drop from xs) width place rest (arguments_in xs lanes))
    (sym (drop-cons signals place d inside))))

-- what is dealt of the characters that came last
pub dealt-last : (xs more ys : List Entry) (width : ℕ) (signals : List ℕ) (lanes after : List Lane)
    → ys ≡ xs ++ more → All (Fits xs) lanes
    → arguments_in ys after ≡ dealt_out (drop (length xs) ys) width 0 signals (arguments_in ys lanes)
    → arguments_in ys after ≡ dealt_out more width 0 signals (arguments_in xs lanes)
dealt-last xs more ys width signals lanes after grown each dealt =
    let kept : take (length xs) ys ≡ xs = ap (take (length xs)) grown ∙ take-append_seam xs more in
    dealt
    ∙ (ap (λ (es : List Entry). dealt_out es width 0 signals (arguments_in ys lanes))
    (ap (drop (length xs)) grown ∙ drop-append_seam xs more)
    ∙ ap (λ (args : List Argument). dealt_out more width 0 signals args) (lanes-grown xs ys lanes kept each).1)

-- the lane that was found for a signal fits
pub lane-at-fits : (xs : List Entry) (lanes : List Lane) (signal : ℕ) (lane : Lane) → lane ≡ get_or lanes signal no_lane
    → All (Fits xs) lanes → Fits xs lane
lane-at-fits xs lanes signal lane same each = subst (Fits xs) (sym same) (lane-fits xs lanes signal each)
