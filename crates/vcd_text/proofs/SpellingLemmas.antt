-- Each line has one spelling, and no two lines have the same.
use Rattle.std.proofs.Common.{◌≡◌, ℕ, ◌+◌, ◌-◌, ◌*◌, ◌/◌, ◌%◌, ◌<◌, ◌≤◌, ◌==◌, false, if◌then◌else◌, List, [], ◌∷◌, ◌++◌, length, take, drop, refl, sym, ap, ◌∙◌, inl, inr, arith, rules, length-append}
use Rattle.std.specs.Prelude.{codes, slice_index, nat_lt}
use Rattle.std.proofs.lemmas.Bool.{cases_Bool, cond-true, cond-false}
use Rattle.std.proofs.lemmas.List.{take_at}
use Rattle.text_bytes.specs.Limits.{most_signals}
use Rattle.tester_types.specs.declared.level.Drive.{Drive}
use Rattle.tester_types.specs.declared.level.Drive.TheVariants.{Down, Up, Off, Unknown}
use Rattle.vcd_text.specs.Dump.{Line, timescale, scope, named, upscope, definitions, at, change, id_of, value_of, spelled}
use Rattle.vcd_text.specs.Standing.{FitsLine}
use Rattle.vcd_text.specs.Digits.{number_by}
use Rattle.vcd_text.proofs.DigitLemmas.{number_by-decimal}

-- a short name has one digit or two
pub data IdCase (n : ℕ) : Type 0 where
  one : n < 94 → id_of n ≡ (33 + n) ∷ [] → IdCase n
  two : 94 ≤ n → id_of n ≡ (33 + n % 94) ∷ (33 + n / 94) ∷ [] → IdCase n

pub id_case : (n : ℕ) → IdCase n
id_case n = elim (cases_Bool (nat_lt n 94)) [
  | inl small ↦ one (search rules) (cond-true (nat_lt n 94) _ _ small)
  | inr large ↦ two (search rules) (cond-false (nat_lt n 94) _ _ large)
]

-- the number of a short name
abbrev read_id : List ℕ → ℕ
read_id [] = 0
read_id (a ∷ []) = a - 33
read_id (a ∷ b ∷ bytes) = a - 33 + 94 * (b - 33)

-- what stands in front of the first space, and behind it
abbrev until_space : List ℕ → List ℕ
until_space [] = []
until_space (b ∷ bytes) = if b == 32 then [] else b ∷ until_space bytes

abbrev after_space : List ℕ → List ℕ
after_space [] = []
after_space (b ∷ bytes) = if b == 32 then bytes else after_space bytes

-- the value of a byte
abbrev read_drive : ℕ → Drive
read_drive b = if b == 48 then Down else (if b == 49 then Up else (if b == 122 then Off else Unknown))

-- what stands in front of the end of a line
abbrev without_end : List ℕ → List ℕ
without_end bytes = take (length bytes - 5) bytes

-- a line from its spelling
abbrev read_head : ℕ → List ℕ → Line
read_head b bytes =
    if b == 116 then timescale else (if b == 115 then scope else (if b == 117 then upscope else (if b == 101 then definitions
    else named (read_id (until_space (drop 12 bytes))) (without_end (after_space (drop 12 bytes))))))

abbrev read_line : List ℕ → Line
read_line [] = timescale
read_line (b ∷ bytes) =
    if b == 35 then at (number_by bytes) else (if b == 36 then read_head (slice_index bytes 0) (b ∷ bytes)
    else change (read_id bytes) (read_drive b))

read_id-id_of : (n : ℕ) → n < most_signals → read_id (id_of n) ≡ n
read_id-id_of n small = elim (id_case n) [
  | one low is ↦ ap read_id is ∙ omega arith
  | two high is ↦ ap read_id is ∙ omega arith
]

not_space : (n : ℕ) → ((33 + n) == 32) ≡ false
not_space n = grind arith

until_space-id_of : (n : ℕ) (rest : List ℕ) → until_space (id_of n ++ 32 ∷ rest) ≡ id_of n
until_space-id_of n rest = elim (id_case n) [
  | one low is ↦ rw is (cond-false _ _ _ (not_space n))
  | two high is ↦ rw is (cond-false _ _ _ (not_space (n % 94)) ∙ ap (λ xs. (33 + n % 94) ∷ xs) (cond-false _ _ _ (not_space (n / 94))))
]

after_space-id_of : (n : ℕ) (rest : List ℕ) → after_space (id_of n ++ 32 ∷ rest) ≡ rest
after_space-id_of n rest = elim (id_case n) [
  | one low is ↦ rw is (cond-false _ _ _ (not_space n))
  | two high is ↦ rw is (cond-false _ _ _ (not_space (n % 94)) ∙ cond-false _ _ _ (not_space (n / 94)))
]

without_end-name : (name : List ℕ) → without_end (name ++ codes " $end") ≡ name
without_end-name name = take_at name (codes " $end") _ (omega (arith, length-append name (codes " $end")))

read_change : (n : ℕ) (drive : Drive) → n < most_signals → read_line (value_of drive ∷ id_of n) ≡ change n drive
read_change n Down small = ap (λ (k : ℕ). change k Down) (read_id-id_of n small)
read_change n Up small = ap (λ (k : ℕ). change k Up) (read_id-id_of n small)
read_change n Off small = ap (λ (k : ℕ). change k Off) (read_id-id_of n small)
read_change n Unknown small = ap (λ (k : ℕ). change k Unknown) (read_id-id_of n small)

read_named : (n : ℕ) (name : List ℕ) → n < most_signals → read_line (spelled (named n name)) ≡ named n name
read_named n name small =
    let rest = id_of n ++ (codes " " ++ (name ++ codes " $end")) in
    ap (λ (k : ℕ). named k (without_end (after_space rest))) (ap read_id (until_space-id_of n (name ++ codes " $end")) ∙ read_id-id_of n small)
    ∙ ap (named n) (ap without_end (after_space-id_of n (name ++ codes " $end")) ∙ without_end-name name)

-- what a line is read as
read_spelled : (line : Line) → FitsLine line → read_line (spelled line) ≡ line
read_spelled timescale fits = refl
read_spelled scope fits = refl
read_spelled (named n name) fits = read_named n name fits.0
read_spelled upscope fits = refl
read_spelled definitions fits = refl
read_spelled (at n) fits = ap at (number_by-decimal n fits)
read_spelled (change n drive) fits = read_change n drive fits

-- no two lines are spelled alike
pub one_line : (a b : Line) → FitsLine a → FitsLine b → spelled a ≡ spelled b → a ≡ b
one_line a b fa fb same = sym (read_spelled a fa) ∙ ap read_line same ∙ read_spelled b fb
