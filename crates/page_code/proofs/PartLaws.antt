-- What is read is spelled so, and what is spelled so is read: for each part of a code.
use Rattle.std.proofs.Common.{◌≡◌, ℕ, ◌-◌, ◌^◌, ◌<◌, ◌≤◌, Bool, true, false, not, cond, eqb, ltb, leb, ◌&&◌, List, [], ◌∷◌, ◌++◌, length, Option, Some, Result, Ok, Err, refl, sym, ap, subst, ◌∙◌, append_assoc, arith}
use Rattle.std.specs.Int.{w8, w16, w32, w64}
use Rattle.std.specs.List.{flat_map, list_all, list_any, find}
use Rattle.std.specs.Option.{option_map_or}
use Rattle.std.proofs.lemmas.Bool.{and_parts, and_from, not-true, not_from_false, ltb-true, leb-true, eqb-true, lt-ltb, le-leb}
use Rattle.std.proofs.lemmas.List.{append-nil}
use Rattle.page_code.specs.declared.fault.Refusal.{Refusal}
use Rattle.tester_types.specs.declared.wave.Act.{Act}
use Rattle.tester_types.specs.declared.wave.Act.TheVariants.{Push, Look}
use Rattle.tester_types.specs.declared.wave.Push.TheVariants as push
use Rattle.tester_types.specs.declared.wave.Look.TheVariants as look
use Rattle.tester_types.specs.declared.wave.Event.{Event}
use Rattle.tester_types.specs.declared.wave.Wave.{Wave}
use Rattle.tester_types.specs.declared.wave.Table.{Table}
use Rattle.tester_types.specs.declared.signal.Direction.{Direction}
use Rattle.tester_types.specs.declared.signal.Direction.TheVariants.{In, Out, InOut, Supply, Pseudo}
use Rattle.packed_code.specs.declared.parts.CodeSignal.{CodeSignal}
use Rattle.packed_code.specs.declared.parts.CodeChain.{CodeChain}
use Rattle.tester_types.specs.Acts.{act_code, acts, act_of}
use Rattle.tester_types.specs.Directions.{direction_code, direction_of}
use Rattle.text_bytes.specs.Bytes.{is_printable, is_character}
use Rattle.text_bytes.proofs.ByteLemmas.{is_character-ascii}
use Rattle.packed_code.specs.Conditions.{EachBehind, last_of, IsText, IsName, is_named, IsSignal, latest, IsEvent, is_behind, IsWave, wave_count, IsTable, IsChain}
use Rattle.page_code.specs.Fields.{◌>>=◌, byte_at, piece_at, number_at, checked, known, meant, items_at}
use Rattle.packed_code.specs.Packed.{number}
use Rattle.page_code.specs.Spelling.{text, signal, event, wave, table, chain}
use Rattle.page_code.specs.Reading.{raw_text_at, text_at, name_at, signal_at, event_at, pair_at, may_stand, wave_at, table_with, table_at, chain_at}
use Rattle.page_code.proofs.ReaderLaws.{IsReader, adapted, done_reader, then_reader, checked_reader, byte_reader, wide16, wide32, wide64, number_reader, plain_reader, known_takes, items_reader}

-- a number below a limit
abbrev pub IsBelow : ℕ → ℕ → Type 0
IsBelow limit n = n < limit

-- a number with a condition
abbrev pub IsNumber : ℕ → (ℕ → Bool) → ℕ → Type 0
IsNumber limit test n = (n < limit) × (test n ≡ true)

-- so many items
abbrev pub AreItems : {A : Type 0} → (List A → A → Type 0) → ℕ → List A → Type 0
AreItems Fits count items = (length items ≡ count) × EachBehind Fits [] items

-- ---- texts

raw_text_reader : IsReader raw_text_at text (λ t. leb (length t) 1024 ≡ true)
unfolding raw_text_at
raw_text_reader =
    adapted raw_text_at (λ t. number w16 (length t) ++ t) text (λ t. IsNumber (2 ^ 16) (λ n. leb n 1024) (length t) × (length t ≡ length t)) (λ t. leb (length t) 1024 ≡ true)
    (then_reader (checked (number_at w16) (λ n. leb n 1024)) (number w16) (IsNumber (2 ^ 16) (λ n. leb n 1024)) (λ x. piece_at x.0 x.1) (λ t. t) (λ n t. length t ≡ n) length
    (checked_reader (number_at w16) (number w16) (IsBelow (2 ^ 16)) (λ n. leb n 1024) (number_reader w16 (2 ^ 16) wide16)) (λ n h. plain_reader n) (λ n t g. g))
    (λ t f. f.0.1)
    (λ t f. let few : length t ≤ 1024 = leb-true (length t) 1024 f in ((omega arith, f), refl))
    (λ t f. refl)

-- a text with a condition
abbrev pub IsTextWith : (List ℕ → Bool) → List ℕ → Type 0
IsTextWith test t = IsText t × (test t ≡ true)

pub text_reader : (test : List ℕ → Bool) → IsReader (text_at test) text (IsTextWith test)
unfolding text_at
text_reader test =
    adapted (text_at test) text text (λ t. (leb (length t) 1024 ≡ true) × ((list_all is_printable t && test t) ≡ true)) (IsTextWith test)
    (checked_reader raw_text_at text (λ t. leb (length t) 1024 ≡ true) (λ t. list_all is_printable t && test t) raw_text_reader)
    (λ t f. let p = and_parts (list_all is_printable t) (test t) f.1 in (record { short = leb-true (length t) 1024 f.0; printable = p.0 }, p.1))
    (λ t f. (le-leb (length t) 1024 f.0.short, and_from (list_all is_printable t) (test t) f.0.printable f.1))
    (λ t f. refl)

pub name_reader : IsReader name_at text IsName
name_reader =
    adapted name_at text text (IsTextWith (λ t. ltb 0 (length t))) IsName (text_reader (λ t. ltb 0 (length t)))
    (λ t f. record { text = f.0; some = f.1 }) (λ t f. (f.text, f.some)) (λ t f. refl)

-- ---- directions and acts

pub find_passes : {A : Type 0} (test : A → Bool) (xs : List A) (a : A) → find test xs ≡ Some a → test a ≡ true
find_passes test [] a e = absurd cc
find_passes {A} test (x ∷ xs) a e = by_test (test x) refl (λ found. find_passes test xs a found) e
  where
    by_test : (b : Bool) → test x ≡ b → (find test xs ≡ Some a → test a ≡ true) → cond b (Some x) (find test xs) ≡ Some a → test a ≡ true
    by_test true is more found = let same : x ≡ a = cc in subst (λ (y : A). test y ≡ true) same is
    by_test false is more found = more found

direction_again : (d : Direction) → direction_of (direction_code d) ≡ Some d
direction_again In = refl
direction_again Out = refl
direction_again InOut = refl
direction_again Supply = refl
direction_again Pseudo = refl

act_again : (a : Act) → act_of (act_code a) ≡ Some a
act_again (Push push.Down) = refl
act_again (Push push.Up) = refl
act_again (Push push.Off) = refl
act_again (Push push.Unknown) = refl
act_again (Push push.Prior) = refl
act_again (Look look.Low) = refl
act_again (Look look.High) = refl
act_again (Look look.Close) = refl
act_again (Look look.Off) = refl
act_again (Look look.LowWindow) = refl
act_again (Look look.HighWindow) = refl
act_again (Look look.OffWindow) = refl

-- a byte that stands for a value
known_byte_reader : {B : Type 0} (meaning : ℕ → Option B) (code : B → ℕ) → ((n : ℕ) (b : B) → meaning n ≡ Some b → code b ≡ n) → ((b : B)
    → meaning (code b) ≡ Some b)
    → IsReader (known byte_at meaning) (λ b. code b ∷ []) (λ b. Unit {0})
known_byte_reader meaning code is back = record {
  takes = λ bytes b rest fits e.
      let t = known_takes byte_at (λ n. n ∷ []) (λ n. n < 256) meaning byte_reader bytes b rest fits e in
      (t.1 ∙ ap (λ (n : ℕ). n ∷ rest) (sym (is t.0 b t.4)), t.2, tt);
  again = λ b rest fits. ap (λ o. meant (length (code b ∷ rest)) o rest) (back b);
}

pub direction_reader : IsReader (known byte_at direction_of) (λ d. direction_code d ∷ []) (λ d. Unit {0})
direction_reader = known_byte_reader direction_of direction_code
    (λ n d e. eqb-true (direction_code d) n (find_passes (λ d. eqb (direction_code d) n) (In ∷ Out ∷ InOut ∷ Supply ∷ Pseudo ∷ []) d e)) direction_again

pub act_reader : IsReader (known byte_at act_of) (λ a. act_code a ∷ []) (λ a. Unit {0})
act_reader = known_byte_reader act_of act_code (λ n a e. eqb-true (act_code a) n (find_passes (λ act. eqb (act_code act) n) acts a e)) act_again

-- ---- signals

signal_raw : (before : List CodeSignal) → IsReader (signal_at before) (λ (b : CodeSignal). (λ (d : Direction). direction_code d ∷ []) b.direction
    ++ (text b.name ++ ([])))
    (λ (b : CodeSignal). (λ (d : Direction). Unit {0}) b.direction × ((IsTextWith
    (λ text. ltb 0 (length text) && not (list_any (is_named text) before))) b.name × (b ≡ record { name = b.name; direction = b.direction })))
unfolding signal_at
signal_raw before =
    then_reader (known byte_at direction_of) (λ (d : Direction). direction_code d ∷ []) (λ (d : Direction). Unit {0})
    (λ x0. text_at (λ text. ltb 0 (length text) && not (list_any (is_named text) before)) x0.1 >>= λ x1. Ok (record { name = x1.0; direction = x0.0 }, x1.1))
    (λ (b : CodeSignal). text b.name ++ ([]))
    (λ (d : Direction) (b : CodeSignal). (IsTextWith (λ text. ltb 0 (length text) && not (list_any (is_named text) before))) b.name × (b ≡ record { name = b.name; direction = d }))
    (λ (b : CodeSignal). b.direction) (direction_reader)
    (λ d h0. then_reader (text_at (λ text. ltb 0 (length text) && not (list_any (is_named text) before))) text (IsTextWith (λ text. ltb 0 (length text) && not (list_any (is_named text) before)))
    (λ x1. Ok (record { name = x1.0; direction = d }, x1.1))
    (λ (b : CodeSignal). [])
    (λ (n : List ℕ) (b : CodeSignal). b ≡ record { name = n; direction = d })
    (λ (b : CodeSignal). b.name) (text_reader (λ text. ltb 0 (length text) && not (list_any (is_named text) before)))
    (λ n h1. done_reader (record { name = n; direction = d }))
    (λ (n : List ℕ) (b : CodeSignal) g. ap (λ (m : CodeSignal). m.name) g))
    (λ (d : Direction) (b : CodeSignal) g. ap (λ (m : CodeSignal). m.direction) g.1)

pub signal_reader : (before : List CodeSignal) → IsReader (signal_at before) signal (IsSignal before)
signal_reader before =
    adapted (signal_at before) _ signal _ (IsSignal before) (signal_raw before)
    (λ s f. let p = and_parts (ltb 0 (length s.name)) (not (list_any (is_named s.name) before)) f.1.0.1 in
    record { name = record { text = f.1.0.0; some = p.0 }; fresh = not-true (list_any (is_named s.name) before) p.1 })
    (λ s f. (tt, ((f.name.text, and_from (ltb 0 (length s.name)) (not (list_any (is_named s.name) before)) f.name.some (not_from_false _ f.fresh)), refl)))
    (λ s f. ap (λ (x : List ℕ). direction_code s.direction ∷ x) (append-nil (text s.name)))

-- ---- tables

short_period : {p : ℕ} → IsNumber (2 ^ 64) (λ period. ltb 0 period && leb period 1000000000000) p → p ≤ 1000000000000
short_period {p} f = leb-true p 1000000000000 (and_parts (ltb 0 p) (leb p 1000000000000) f.1).1

event_raw : (period : ℕ) (before : List Event) → IsReader (event_at period before) (λ (b : Event). (number w64) b.time
    ++ ((λ (a : Act). act_code a ∷ []) b.act ++ ([])))
    (λ (b : Event). (IsNumber (2 ^ 64) (λ time. leb (latest before) time && ltb time period)) b.time × ((λ (a : Act). Unit {0}) b.act
    × (b ≡ record { time = b.time; act = b.act })))
unfolding event_at
event_raw period before =
    then_reader (checked (number_at w64) (λ time. leb (latest before) time && ltb time period)) (number w64) (IsNumber (2 ^ 64) (λ time. leb (latest before) time && ltb time period))
    (λ x0. known byte_at act_of x0.1 >>= λ x1. Ok (record { time = x0.0; act = x1.0 }, x1.1))
    (λ (b : Event). (λ (a : Act). act_code a ∷ []) b.act ++ ([]))
    (λ (t : ℕ) (b : Event). (λ (a : Act). Unit {0}) b.act × (b ≡ record { time = t; act = b.act }))
    (λ (b : Event). b.time) (checked_reader (number_at w64) (number w64) (IsBelow (2 ^ 64)) (λ time. leb (latest before) time && ltb time period) (number_reader w64 (2 ^ 64) wide64))
    (λ t h0. then_reader (known byte_at act_of) (λ (a : Act). act_code a ∷ []) (λ (a : Act). Unit {0})
    (λ x1. Ok (record { time = t; act = x1.0 }, x1.1))
    (λ (b : Event). [])
    (λ (a : Act) (b : Event). b ≡ record { time = t; act = a })
    (λ (b : Event). b.act) (act_reader)
    (λ a h1. done_reader (record { time = t; act = a }))
    (λ (a : Act) (b : Event) g. ap (λ (m : Event). m.act) g))
    (λ (t : ℕ) (b : Event) g. ap (λ (m : Event). m.time) g.1)

pub event_reader : (period : ℕ) → period ≤ 1000000000000 → (before : List Event) → IsReader (event_at period before) event (IsEvent period before)
event_reader period few before =
    adapted (event_at period before) _ event _ (IsEvent period before) (event_raw period before)
    (λ e f. let p = and_parts (leb (latest before) e.time) (ltb e.time period) f.0.1 in
    record { order = leb-true (latest before) e.time p.0; inside = ltb-true e.time period p.1 })
    (λ e f. let below : e.time < period = f.inside in
    ((omega arith, and_from (leb (latest before) e.time) (ltb e.time period) (le-leb (latest before) e.time f.order) (lt-ltb e.time period f.inside)), (tt, refl)))
    (λ e f. refl)

pair_raw : (signals : ℕ) → IsReader (pair_at signals) (λ (b : (ℕ × ℕ)). (number w16) b.0 ++ ((λ (l : ℕ). l ∷ []) b.1 ++ ([])))
    (λ (b : (ℕ × ℕ)). (IsNumber (2 ^ 16) (λ signal. ltb signal signals)) b.0 × ((IsNumber 256 is_character) b.1 × (b ≡ (b.0, b.1))))
unfolding pair_at
pair_raw signals =
    then_reader (checked (number_at w16) (λ signal. ltb signal signals)) (number w16) (IsNumber (2 ^ 16) (λ signal. ltb signal signals))
    (λ x0. checked byte_at is_character x0.1 >>= λ x1. Ok ((x0.0, x1.0), x1.1))
    (λ (b : (ℕ × ℕ)). (λ (l : ℕ). l ∷ []) b.1 ++ ([]))
    (λ (s : ℕ) (b : (ℕ × ℕ)). (IsNumber 256 is_character) b.1 × (b ≡ (s, b.1)))
    (λ (b : (ℕ × ℕ)). b.0) (checked_reader (number_at w16) (number w16) (IsBelow (2 ^ 16)) (λ signal. ltb signal signals) (number_reader w16 (2 ^ 16) wide16))
    (λ s h0. then_reader (checked byte_at is_character) (λ (l : ℕ). l ∷ []) (IsNumber 256 is_character)
    (λ x1. Ok ((s, x1.0), x1.1))
    (λ (b : (ℕ × ℕ)). [])
    (λ (l : ℕ) (b : (ℕ × ℕ)). b ≡ (s, l))
    (λ (b : (ℕ × ℕ)). b.1) (checked_reader byte_at (λ b. b ∷ []) (IsBelow 256) is_character byte_reader)
    (λ l h1. done_reader ((s, l)))
    (λ (l : ℕ) (b : (ℕ × ℕ)) g. ap (λ (m : (ℕ × ℕ)). m.1) g))
    (λ (s : ℕ) (b : (ℕ × ℕ)) g. ap (λ (m : (ℕ × ℕ)). m.0) g.1)

-- a signal and a character
abbrev pair_text : ℕ × ℕ → List ℕ
pair_text p = number w16 p.0 ++ p.1 ∷ []

abbrev IsPair : ℕ → ℕ × ℕ → Type 0
IsPair signals p = (p.0 < signals) × (is_character p.1 ≡ true)

pub character_small : (c : ℕ) → is_character c ≡ true → c < 256
character_small c is =
    omega (arith, is_character-ascii c is)

pair_reader : (signals : ℕ) → signals ≤ 1024 → IsReader (pair_at signals) pair_text (IsPair signals)
pair_reader signals few =
    adapted (pair_at signals) _ pair_text _ (IsPair signals) (pair_raw signals)
    (λ p f. (ltb-true p.0 signals f.0.1, f.1.0.1))
    (λ p f. let low : p.0 < signals = f.0 in ((omega arith, lt-ltb p.0 signals low), ((character_small p.1 f.1, f.1), refl)))
    (λ p f. refl)

-- the wave of a signal and a character
abbrev made_wave : ℕ × ℕ → List Event → Wave
made_wave p events = record { signal = p.0; character = p.1; events = events }

wave_raw : (signals period most : ℕ) (few : signals ≤ 1024) (short : period ≤ 1000000000000) (before : List Wave)
    → IsReader (wave_at signals period most before) (λ (b : Wave). pair_text ((b.signal, b.character)) ++ ((λ (c : ℕ). c ∷ []) (length b.events)
    ++ ((flat_map event) b.events ++ ([]))))
    (λ (b : Wave). (λ (p : ℕ × ℕ). IsPair signals p × (may_stand most before p ≡ true)) ((b.signal, b.character)) × ((IsNumber 256
    (λ count. leb count 16)) (length b.events) × ((AreItems (IsEvent period) (length b.events)) b.events × (b ≡ made_wave (b.signal, b.character) b.events))))
unfolding wave_at
wave_raw signals period most few short before =
    then_reader (checked (pair_at signals) (may_stand most before)) pair_text (λ (p : ℕ × ℕ). IsPair signals p × (may_stand most before p ≡ true))
    (λ x0. checked byte_at (λ count. leb count 16) x0.1 >>= λ x1. items_at (event_at period) x1.0 [] x1.1 >>= λ x2. Ok (made_wave x0.0 x2.0, x2.1))
    (λ (b : Wave). (λ (c : ℕ). c ∷ []) (length b.events) ++ ((flat_map event) b.events ++ ([])))
    (λ (p : (ℕ × ℕ)) (b : Wave). (IsNumber 256 (λ count. leb count 16)) (length b.events) × ((AreItems (IsEvent period) (length b.events)) b.events × (b ≡ made_wave p b.events)))
    (λ (b : Wave). (b.signal, b.character)) (checked_reader (pair_at signals) pair_text (IsPair signals) (may_stand most before) (pair_reader signals few))
    (λ p h0. then_reader (checked byte_at (λ count. leb count 16)) (λ (c : ℕ). c ∷ []) (IsNumber 256 (λ count. leb count 16))
    (λ x1. items_at (event_at period) x1.0 [] x1.1 >>= λ x2. Ok (made_wave p x2.0, x2.1))
    (λ (b : Wave). (flat_map event) b.events ++ ([]))
    (λ (c : ℕ) (b : Wave). (AreItems (IsEvent period) (c)) b.events × (b ≡ made_wave p b.events))
    (λ (b : Wave). length b.events) (checked_reader byte_at (λ b. b ∷ []) (IsBelow 256) (λ count. leb count 16) byte_reader)
    (λ c h1. then_reader (items_at (event_at period) c []) (flat_map event) (AreItems (IsEvent period) (c))
    (λ x2. Ok (made_wave p x2.0, x2.1))
    (λ (b : Wave). [])
    (λ (e : List Event) (b : Wave). b ≡ made_wave p e)
    (λ (b : Wave). b.events) (items_reader (event_at period) event (IsEvent period) (event_reader period short) (c))
    (λ e h2. done_reader (made_wave p e))
    (λ (e : List Event) (b : Wave) g. ap (λ (m : Wave). m.events) g))
    (λ c b g. g.0.0))
    (λ (p : (ℕ × ℕ)) (b : Wave) g. ap (λ (m : Wave). (m.signal, m.character)) g.1.1)

number_8 : (n : ℕ) → n < 256 → number w8 n ≡ n ∷ []
unfolding number
number_8 n small = ap (λ (x : ℕ). x ∷ []) (omega arith)

pub wave_reader : (signals period most : ℕ) → signals ≤ 1024 → period ≤ 1000000000000 → (before : List Wave)
    → IsReader (wave_at signals period most before) wave (IsWave signals period most before)
wave_reader signals period most few short before =
    adapted (wave_at signals period most before) _ wave _ (IsWave signals period most before) (wave_raw signals period most few short before)
    (λ w f. let p = and_parts (option_map_or (is_behind w.signal w.character) (last_of before) true) (ltb (length before) most) f.0.1 in
    record { signal = f.0.0.0; character = f.0.0.1; order = p.0; room = ltb-true (length before) most p.1; few = leb-true (length w.events) 16 f.1.0.1; events = f.1.1.0.1 })
    (λ w f. let some : length w.events ≤ 16 = f.few in (
      ((f.signal, f.character), and_from (option_map_or (is_behind w.signal w.character) (last_of before) true) (ltb (length before) most) f.order (lt-ltb (length before) most f.room)),
      ((omega arith, le-leb (length w.events) 16 some), ((refl, f.events), refl)),
    ))
    (λ w f. let some : length w.events ≤ 16 = f.few in
    append_assoc (number w16 w.signal) (w.character ∷ []) ((length w.events ∷ []) ++ (flat_map event w.events ++ []))
    ∙ ap (λ (x : List ℕ). number w16 w.signal ++ (w.character ∷ (length w.events ∷ x))) (append-nil (flat_map event w.events))
    ∙ ap (λ (x : List ℕ). number w16 w.signal ++ (w.character ∷ (x ++ flat_map event w.events))) (sym (number_8 (length w.events) (omega arith))))

table_raw : (signals most : ℕ) (few : signals ≤ 1024) → IsReader (table_with signals most) (λ (b : Table). text b.name ++ ((number w64) b.period
    ++ ((number w32) (length b.waves) ++ ((flat_map wave) b.waves ++ ([])))))
    (λ (b : Table). IsName b.name × ((IsNumber (2 ^ 64) (λ period. ltb 0 period && leb period 1000000000000)) b.period
    × ((IsBelow (2 ^ 32)) (length b.waves) × ((AreItems (IsWave signals b.period most) (length b.waves)) b.waves
    × (b ≡ record { name = b.name; period = b.period; waves = b.waves })))))
unfolding table_with
table_raw signals most few =
    then_reader (name_at) text IsName
    (λ x0. checked (number_at w64) (λ period. ltb 0 period && leb period 1000000000000) x0.1 >>= λ x1. number_at w32 x1.1 >>= λ x2. items_at (wave_at signals x1.0 most) x2.0 [] x2.1 >>= λ x3. Ok (record { name = x0.0; period = x1.0; waves = x3.0 }, x3.1))
    (λ (b : Table). (number w64) b.period ++ ((number w32) (length b.waves) ++ ((flat_map wave) b.waves ++ ([]))))
    (λ (n : List ℕ) (b : Table). (IsNumber (2 ^ 64) (λ period. ltb 0 period && leb period 1000000000000)) b.period × ((IsBelow (2 ^ 32)) (length b.waves) × ((AreItems (IsWave signals b.period most) (length b.waves)) b.waves × (b ≡ record { name = n; period = b.period; waves = b.waves }))))
    (λ (b : Table). b.name) (name_reader)
    (λ n h0. then_reader (checked (number_at w64) (λ period. ltb 0 period && leb period 1000000000000)) (number w64) (IsNumber (2 ^ 64) (λ period. ltb 0 period && leb period 1000000000000))
    (λ x1. number_at w32 x1.1 >>= λ x2. items_at (wave_at signals x1.0 most) x2.0 [] x2.1 >>= λ x3. Ok (record { name = n; period = x1.0; waves = x3.0 }, x3.1))
    (λ (b : Table). (number w32) (length b.waves) ++ ((flat_map wave) b.waves ++ ([])))
    (λ (p : ℕ) (b : Table). (IsBelow (2 ^ 32)) (length b.waves) × ((AreItems (IsWave signals p most) (length b.waves)) b.waves × (b ≡ record { name = n; period = p; waves = b.waves })))
    (λ (b : Table). b.period) (checked_reader (number_at w64) (number w64) (IsBelow (2 ^ 64)) (λ period. ltb 0 period && leb period 1000000000000) (number_reader w64 (2 ^ 64) wide64))
    (λ p h1. then_reader (number_at w32) (number w32) (IsBelow (2 ^ 32))
    (λ x2. items_at (wave_at signals p most) x2.0 [] x2.1 >>= λ x3. Ok (record { name = n; period = p; waves = x3.0 }, x3.1))
    (λ (b : Table). (flat_map wave) b.waves ++ ([]))
    (λ (c : ℕ) (b : Table). (AreItems (IsWave signals p most) (c)) b.waves × (b ≡ record { name = n; period = p; waves = b.waves }))
    (λ (b : Table). length b.waves) (number_reader w32 (2 ^ 32) wide32)
    (λ c h2. then_reader (items_at (wave_at signals p most) c []) (flat_map wave) (AreItems (IsWave signals p most) (c))
    (λ x3. Ok (record { name = n; period = p; waves = x3.0 }, x3.1))
    (λ (b : Table). [])
    (λ (w : List Wave) (b : Table). b ≡ record { name = n; period = p; waves = w })
    (λ (b : Table). b.waves) (items_reader (wave_at signals p most) wave (IsWave signals p most) (wave_reader signals p most few (short_period h1)) (c))
    (λ w h3. done_reader (record { name = n; period = p; waves = w }))
    (λ (w : List Wave) (b : Table) g. ap (λ (m : Table). m.waves) g))
    (λ c b g. g.0.0))
    (λ (p : ℕ) (b : Table) g. ap (λ (m : Table). m.period) g.1.1))
    (λ (n : List ℕ) (b : Table) g. ap (λ (m : Table). m.name) g.1.1.1)

pub table_reader : (signals : ℕ) → signals ≤ 1024 → (before : List Table) → IsReader (table_at signals before) table (IsTable signals before)
table_reader signals few before =
    adapted (table_at signals before) _ table _ (IsTable signals before) (table_raw signals (2 ^ 20 - wave_count before) few)
    (λ t f. let p = and_parts (ltb 0 t.period) (leb t.period 1000000000000) f.1.0.1 in
    record { name = f.0; some = ltb-true 0 t.period p.0; period = leb-true t.period 1000000000000 p.1; count = f.1.1.0; waves = f.1.1.1.0.1 })
    (λ t f. let few_period : t.period ≤ 1000000000000 = f.period in
    (f.name, ((omega arith, and_from (ltb 0 t.period) (leb t.period 1000000000000) (lt-ltb 0 t.period f.some) (le-leb t.period 1000000000000 few_period)), (f.count, ((refl, f.waves), refl)))))
    (λ t f. ap (λ (x : List ℕ). text t.name ++ (number w64 t.period ++ (number w32 (length t.waves) ++ x))) (append-nil (flat_map wave t.waves)))

-- ---- what is not refused

-- what is not refused was taken
pub taken : {A : Type 0} (b : Bool) (d : Refusal) (x : Result A Refusal) (y : A) → cond b x (Err d) ≡ Ok y → (b ≡ true) × (x ≡ Ok y)
taken true d x y e = (refl, e)
taken false d x y e = absurd cc

-- ---- chains

chain_raw : (signals : ℕ) → IsReader (chain_at signals) (λ (b : CodeChain). text b.name ++ ((number w16) b.out ++ ((number w32) b.length
    ++ ((number w32) (length b.cells) ++ ((flat_map text) b.cells ++ ([]))))))
    (λ (b : CodeChain). IsName b.name × ((IsNumber (2 ^ 16) (λ out. ltb out signals)) b.out × ((IsNumber (2 ^ 32)
    (λ size. leb size (2 ^ 20))) b.length × ((IsNumber (2 ^ 32) (λ count. leb count (2 ^ 20))) (length b.cells) × ((AreItems
    (λ (before : List (List ℕ)) (t : List ℕ). IsName t) (length b.cells)) b.cells
    × (b ≡ record { name = b.name; out = b.out; length = b.length; cells = b.cells }))))))
unfolding chain_at
chain_raw signals =
    then_reader (name_at) text IsName
    (λ x0. checked (number_at w16) (λ out. ltb out signals) x0.1 >>= λ x1. checked (number_at w32) (λ size. leb size (2 ^ 20)) x1.1 >>= λ x2. checked (number_at w32) (λ count. leb count (2 ^ 20)) x2.1 >>= λ x3. items_at (λ before. name_at) x3.0 [] x3.1 >>= λ x4. Ok (record { name = x0.0; out = x1.0; length = x2.0; cells = x4.0 }, x4.1))
    (λ (b : CodeChain). (number w16) b.out ++ ((number w32) b.length ++ ((number w32) (length b.cells) ++ ((flat_map text) b.cells ++ ([])))))
    (λ (n : List ℕ) (b : CodeChain). (IsNumber (2 ^ 16) (λ out. ltb out signals)) b.out × ((IsNumber (2 ^ 32) (λ size. leb size (2 ^ 20))) b.length × ((IsNumber (2 ^ 32) (λ count. leb count (2 ^ 20))) (length b.cells) × ((AreItems (λ (before : List (List ℕ)) (t : List ℕ). IsName t) (length b.cells)) b.cells × (b ≡ record { name = n; out = b.out; length = b.length; cells = b.cells })))))
    (λ (b : CodeChain). b.name) (name_reader)
    (λ n h0. then_reader (checked (number_at w16) (λ out. ltb out signals)) (number w16) (IsNumber (2 ^ 16) (λ out. ltb out signals))
    (λ x1. checked (number_at w32) (λ size. leb size (2 ^ 20)) x1.1 >>= λ x2. checked (number_at w32) (λ count. leb count (2 ^ 20)) x2.1 >>= λ x3. items_at (λ before. name_at) x3.0 [] x3.1 >>= λ x4. Ok (record { name = n; out = x1.0; length = x2.0; cells = x4.0 }, x4.1))
    (λ (b : CodeChain). (number w32) b.length ++ ((number w32) (length b.cells) ++ ((flat_map text) b.cells ++ ([]))))
    (λ (o : ℕ) (b : CodeChain). (IsNumber (2 ^ 32) (λ size. leb size (2 ^ 20))) b.length × ((IsNumber (2 ^ 32) (λ count. leb count (2 ^ 20))) (length b.cells) × ((AreItems (λ (before : List (List ℕ)) (t : List ℕ). IsName t) (length b.cells)) b.cells × (b ≡ record { name = n; out = o; length = b.length; cells = b.cells }))))
    (λ (b : CodeChain). b.out) (checked_reader (number_at w16) (number w16) (IsBelow (2 ^ 16)) (λ out. ltb out signals) (number_reader w16 (2 ^ 16) wide16))
    (λ o h1. then_reader (checked (number_at w32) (λ size. leb size (2 ^ 20))) (number w32) (IsNumber (2 ^ 32) (λ size. leb size (2 ^ 20)))
    (λ x2. checked (number_at w32) (λ count. leb count (2 ^ 20)) x2.1 >>= λ x3. items_at (λ before. name_at) x3.0 [] x3.1 >>= λ x4. Ok (record { name = n; out = o; length = x2.0; cells = x4.0 }, x4.1))
    (λ (b : CodeChain). (number w32) (length b.cells) ++ ((flat_map text) b.cells ++ ([])))
    (λ (s : ℕ) (b : CodeChain). (IsNumber (2 ^ 32) (λ count. leb count (2 ^ 20))) (length b.cells) × ((AreItems (λ (before : List (List ℕ)) (t : List ℕ). IsName t) (length b.cells)) b.cells × (b ≡ record { name = n; out = o; length = s; cells = b.cells })))
    (λ (b : CodeChain). b.length) (checked_reader (number_at w32) (number w32) (IsBelow (2 ^ 32)) (λ size. leb size (2 ^ 20)) (number_reader w32 (2 ^ 32) wide32))
    (λ s h2. then_reader (checked (number_at w32) (λ count. leb count (2 ^ 20))) (number w32) (IsNumber (2 ^ 32) (λ count. leb count (2 ^ 20)))
    (λ x3. items_at (λ before. name_at) x3.0 [] x3.1 >>= λ x4. Ok (record { name = n; out = o; length = s; cells = x4.0 }, x4.1))
    (λ (b : CodeChain). (flat_map text) b.cells ++ ([]))
    (λ (c : ℕ) (b : CodeChain). (AreItems (λ (before : List (List ℕ)) (t : List ℕ). IsName t) (c)) b.cells × (b ≡ record { name = n; out = o; length = s; cells = b.cells }))
    (λ (b : CodeChain). length b.cells) (checked_reader (number_at w32) (number w32) (IsBelow (2 ^ 32)) (λ count. leb count (2 ^ 20)) (number_reader w32 (2 ^ 32) wide32))
    (λ c h3. then_reader (items_at (λ before. name_at) c []) (flat_map text) (AreItems (λ (before : List (List ℕ)) (t : List ℕ). IsName t) (c))
    (λ x4. Ok (record { name = n; out = o; length = s; cells = x4.0 }, x4.1))
    (λ (b : CodeChain). [])
    (λ (l : List (List ℕ)) (b : CodeChain). b ≡ record { name = n; out = o; length = s; cells = l })
    (λ (b : CodeChain). b.cells) (items_reader (λ before. name_at) text (λ (before : List (List ℕ)) (t : List ℕ). IsName t) (λ before. name_reader) (c))
    (λ l h4. done_reader (record { name = n; out = o; length = s; cells = l }))
    (λ (l : List (List ℕ)) (b : CodeChain) g. ap (λ (m : CodeChain). m.cells) g))
    (λ c b g. g.0.0))
    (λ (s : ℕ) (b : CodeChain) g. ap (λ (m : CodeChain). m.length) g.1.1))
    (λ (o : ℕ) (b : CodeChain) g. ap (λ (m : CodeChain). m.out) g.1.1.1))
    (λ (n : List ℕ) (b : CodeChain) g. ap (λ (m : CodeChain). m.name) g.1.1.1.1)

pub chain_reader : (signals : ℕ) → signals ≤ 1024 → IsReader (chain_at signals) chain (IsChain signals)
chain_reader signals few =
    adapted (chain_at signals) _ chain _ (IsChain signals) (chain_raw signals)
    (λ c f. record { name = f.0; out = ltb-true c.out signals f.1.0.1; size = leb-true c.length (2 ^ 20) f.1.1.0.1; count = leb-true (length c.cells) (2 ^ 20) f.1.1.1.0.1; cells = f.1.1.1.1.0.1 })
    (λ c f. let out : c.out < signals = f.out in let size : c.length ≤ 2 ^ 20 = f.size in let count : length c.cells ≤ 2 ^ 20 = f.count in
    (f.name, ((omega arith, lt-ltb c.out signals out), ((omega arith, le-leb c.length (2 ^ 20) size), ((omega arith, le-leb (length c.cells) (2 ^ 20) count), ((refl, f.cells), refl))))))
    (λ c f. ap (λ (x : List ℕ). text c.name ++ (number w16 c.out ++ (number w32 c.length ++ (number w32 (length c.cells) ++ x)))) (append-nil (flat_map text c.cells)))
