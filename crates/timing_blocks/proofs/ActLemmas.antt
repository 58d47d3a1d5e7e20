-- The acts of an event are those that the machine reads.
use Rattle.std.proofs.Common.{◌≡◌, ℕ, suc, ◌+◌, ◌%◌, ◌&&◌, ◌||◌, not, Bool, true, false, cond, List, [], ◌∷◌, ◌++◌, length, map, filter, Option, Some, None, is_some, Result, Ok, Err, refl, ap, sym, ◌∙◌, arith, append-nil, append_assoc}
use Rattle.std.specs.Prelude.{◌==◌, zip}
use Rattle.std.specs.List.{list_all, list_any, enumerate_from, filter_map, cons_option}
use Rattle.answers.specs.Reading.{and_then}
use Rattle.tester_types.specs.declared.wave.Act.{Act}
use Rattle.stil_form.specs.declared.fault.FormKind.{FormKind}
use Rattle.stil_form.specs.declared.fault.FormKind.TheVariants.{Shape, LeftOut}
use Rattle.stil_form.specs.declared.part.SignKind.TheVariants.{Slash}
use Rattle.stil_form.specs.Lexeme.{Lexeme, word, name, text, sign}
use Rattle.timing_blocks.specs.Waveforms.{act_of, is_slash, lacks_act, fits_index, alternate, acts_of}
use Rattle.timing_blocks.specs.Working.{with_act, acts_from}
use Rattle.timing_blocks.specs.Working as machine

-- the number behind an even one is odd, and the other way round
next_parity : (n : ℕ) → ((n + 1) % 2 == 0) ≡ not (n % 2 == 0)
next_parity n = grind arith

odd_parity : (n : ℕ) → ((n + 0) % 2 == 1) ≡ not (n % 2 == 0)
odd_parity n = grind arith

-- a `/` is no act
slash_is_none : (one : Lexeme) → is_slash one ≡ true → act_of one ≡ None
slash_is_none (word bytes) is = cc
slash_is_none (name bytes) is = cc
slash_is_none (text bytes) is = cc
slash_is_none (sign kind) is = refl

act_is_none : (one : Lexeme) (a : Act) (b : Bool) → act_of one ≡ Some a → is_slash one ≡ b → b ≡ false
act_is_none one a true found is = let none = slash_is_none one is in cc
act_is_none one a false found is = refl

-- ---- what is no act at its place

abbrev no_act : Lexeme → Bool
no_act one = not (is_some (act_of one))

abbrev behind_slash : Lexeme × Lexeme → Bool
behind_slash pair = is_slash pair.0

-- one token more
lacks_one : (b : Bool) (one before : Lexeme) (others : List (Lexeme × Lexeme)) (rest : Bool)
    → list_any no_act (map (λ (pair : Lexeme × Lexeme). pair.1) others) ≡ rest
    → list_any no_act (map (λ (pair : Lexeme × Lexeme). pair.1) (cond b ((before, one) ∷ others) others)) ≡ (b && no_act one || rest)
lacks_one true one before others rest later = ap (λ r. no_act one || r) later
lacks_one false one before others rest later = later

lacks-behind : (before : Lexeme) (parts : List Lexeme)
    → list_any no_act (map (λ (pair : Lexeme × Lexeme). pair.1) (filter behind_slash (zip (before ∷ parts) parts)))
    ≡ machine.lacks_act (is_slash before) parts
lacks-behind before [] = refl
lacks-behind before (one ∷ rest) =
    lacks_one (is_slash before) one before (filter behind_slash (zip (one ∷ rest) rest)) (machine.lacks_act (is_slash one) rest)
    (lacks-behind one rest)

-- a place lacks an act where the machine finds one that does
pub lacks_computed : (parts : List Lexeme) → lacks_act parts ≡ machine.lacks_act true parts
lacks_computed parts = lacks-behind (sign Slash) parts

-- ---- acts with a `/` between each two

abbrev all_from : ℕ → List Lexeme → Bool
all_from n parts = list_all fits_index (enumerate_from n parts)

-- what is read of the tokens from this index on
abbrev read_from : ℕ → List Act → List Lexeme → Result (List Act) FormKind
read_from n before parts =
    cond (all_from n parts && (n + length parts) % 2 == 1) (Ok (before ++ filter_map act_of parts)) (Err Shape)

-- the machine reads that too
abbrev IsReadFrom : Bool → ℕ → List Act → List Lexeme → Type 0
IsReadFrom slash_next n before parts =
    machine.lacks_act (not slash_next) parts ≡ false → acts_from slash_next before parts ≡ read_from n before parts

-- one token further on
read_more : (n : ℕ) (acts : List Act) (rest : List Lexeme)
    → cond {A = Result (List Act) FormKind} (all_from (n + 1) rest && (n + 1 + length rest) % 2 == 1) (Ok acts) (Err Shape)
    ≡ cond (all_from (n + 1) rest && (n + suc (length rest)) % 2 == 1) (Ok acts) (Err Shape)
read_more n acts rest =
    let same : n + 1 + length rest ≡ n + suc (length rest) = omega arith in
    ap (λ (m : ℕ). cond {A = Result (List Act) FormKind} (all_from (n + 1) rest && m % 2 == 1) (Ok acts) (Err Shape)) same

-- an act at its place
act_next : (n : ℕ) (before : List Act) (one : Lexeme) (rest : List Lexeme) (o : Option Act) → act_of one ≡ o
    → (not (is_some o) || machine.lacks_act (is_slash one) rest) ≡ false
    → ((a : Act) → IsReadFrom true (n + 1) (before ++ a ∷ []) rest)
    → and_then (with_act before o) (λ read. acts_from true read rest)
    ≡ cond (is_some o && all_from (n + 1) rest && (n + suc (length rest)) % 2 == 1)
    (Ok (before ++ cons_option o (filter_map act_of rest))) (Err Shape)
act_next n before one rest None found lacks later = cc
act_next n before one rest (Some a) found lacks later =
    later a (ap (λ at_act. machine.lacks_act at_act rest) (sym (act_is_none one a (is_slash one) found refl)) ∙ lacks)
    ∙ read_more n ((before ++ a ∷ []) ++ filter_map act_of rest) rest
    ∙ ap (λ acts. cond (all_from (n + 1) rest && (n + suc (length rest)) % 2 == 1) (Ok acts) (Err Shape))
    (append_assoc before (a ∷ []) (filter_map act_of rest))

-- a `/` at its place, or anything else
slash_next : (n : ℕ) (before : List Act) (one : Lexeme) (rest : List Lexeme) (b : Bool) → is_slash one ≡ b
    → machine.lacks_act b rest ≡ false → IsReadFrom false (n + 1) before rest
    → and_then (cond b (Ok before) (Err Shape)) (λ read. acts_from false read rest)
    ≡ cond (b && all_from (n + 1) rest && (n + suc (length rest)) % 2 == 1)
    (Ok (before ++ cons_option (act_of one) (filter_map act_of rest))) (Err Shape)
slash_next n before one rest true is lacks later =
    later lacks ∙ read_more n (before ++ filter_map act_of rest) rest
    ∙ ap (λ (o : Option Act). cond (all_from (n + 1) rest && (n + suc (length rest)) % 2 == 1)
    (Ok (before ++ cons_option o (filter_map act_of rest))) (Err Shape)) (sym (slash_is_none one is))
slash_next n before one rest false is lacks later = refl

-- from each index on
read_behind : (b : Bool) (n : ℕ) → (n % 2 == 0) ≡ not b → (before : List Act) (parts : List Lexeme) → IsReadFrom b n before parts
read_behind true n odd before [] lacks =
    ap (λ acts. Ok acts) (sym (append-nil before))
    ∙ ap (λ (c : Bool). cond c (Ok (before ++ [])) (Err Shape)) (sym (odd_parity n ∙ ap not odd))
read_behind false n even before [] lacks =
    ap (λ (c : Bool). cond c (Ok (before ++ [])) (Err Shape)) (sym (odd_parity n ∙ ap not even))
read_behind true n odd before (one ∷ rest) lacks =
    rw odd (slash_next n before one rest (is_slash one) refl lacks
    (read_behind false (n + 1) (next_parity n ∙ ap not odd) before rest))
read_behind false n even before (one ∷ rest) lacks =
    rw even (act_next n before one rest (act_of one) refl lacks
    (λ a. read_behind true (n + 1) (next_parity n ∙ ap not even) (before ++ a ∷ []) rest))

-- where no place lacks an act
alternate_computed : (parts : List Lexeme) (b : Bool) → machine.lacks_act true parts ≡ b
    → cond b (Err LeftOut) (cond (alternate parts) (Ok (filter_map act_of parts)) (Err Shape))
    ≡ cond b (Err LeftOut) (acts_from false [] parts)
alternate_computed parts true lacks = refl
alternate_computed parts false lacks =
    let all : 0 + length parts ≡ length parts = omega arith in
    ap (λ (m : ℕ). cond {A = Result (List Act) FormKind} (all_from 0 parts && m % 2 == 1) (Ok (filter_map act_of parts)) (Err Shape)) (sym all)
    ∙ sym (read_behind false 0 refl [] parts lacks)

-- what a list of tokens says is what the machine reads
pub acts_computed : (parts : List Lexeme) → acts_of parts ≡ machine.acts_of parts
acts_computed parts =
    ap (λ (b : Bool). cond b (Err LeftOut) (cond (alternate parts) (Ok (filter_map act_of parts)) (Err Shape))) (lacks_computed parts)
    ∙ alternate_computed parts (machine.lacks_act true parts) refl

-- by whether a place lacks an act
pub acts_by : (parts : List Lexeme) (b : Bool) → b ≡ machine.lacks_act true parts
    → acts_of parts ≡ cond b (Err LeftOut) (acts_from false [] parts)
acts_by parts b is = acts_computed parts ∙ ap (λ (lacks : Bool). cond lacks (Err LeftOut) (acts_from false [] parts)) (sym is)
