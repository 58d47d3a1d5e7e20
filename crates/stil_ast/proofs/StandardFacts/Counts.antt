-- The limits on counts: cycles of an executive, waves of all executives, signals. Nothing is spread out; lemmas count.
use Rattle.std.proofs.Common.{◌≡◌, ℕ, zero, suc, ◌+◌, ◌-◌, ◌^◌, ◌<◌, ◌≤◌, Bool, true, false, List, [], ◌∷◌, ◌++◌, Option, Some, None, refl, sym, ap, ◌∙◌, arith, length, replicate, get_or, append_assoc, append-nil, codes}
use Rattle.std.specs.Prelude.{nat_le, nat_lt}
use Rattle.std.specs.List.{All, list_any}
use Rattle.std.specs.Cmp.Lexicographic.{bytes_decides}
use Rattle.std.proofs.lemmas.Bool.{false_from_ne_true, lt-leb, le-leb}
use Rattle.std.proofs.lemmas.List.{length-append, length-replicate, length-map}
use Rattle.std.proofs.lemmas.List.Elements.{All-nil, All-push}
use Rattle.std.proofs.lemmas.List.Folds.{list_any_none}
use Rattle.text_bytes.specs.Bytes.{is_digit}
use Rattle.text_bytes.specs.Limits.{longest_name, most_cycles, most_signals}
use Rattle.stil_ast.specs.Data.Texts.{same}
use Rattle.stil_ast.specs.Meaning.State.{State, Vector, start_of}
use Rattle.stil_ast.specs.Data.Places.{of_pattern, Origin}
use Rattle.stil_ast.specs.Meaning.Running.{Ran, Made, times, outside}
use Rattle.stil_ast.specs.Meaning.Flat.{done, table, character, cycle, repeat, flat_run}
use Rattle.stil_ast.specs.Meaning.ExecutiveData.{Executive, vectors_of}
use Rattle.stil_ast.specs.Meaning.Signals.{Signal, signals_place}
use Rattle.stil_ast.specs.Faults.Found.{fault_at, unless, refuse_if}
use Rattle.stil_ast.specs.Faults.BurstFaults.{exec_place}
use Rattle.stil_ast.specs.Faults.SignalFaults.{signals_fault}
use Rattle.stil_ast.specs.Faults.TableFaults.{tables_fault}
use Rattle.stil_ast.specs.Faults.ExecutiveFaults.{timed_of}
use Rattle.stil_ast.specs.Faults.CodeFaults.{compile_fault}
use Rattle.stil_ast.proofs.StandardFacts.Texts.{nanoseconds, signal, by_name, driven, text_of, table as table_named}
use Rattle.stil_ast.proofs.StandardFacts.Lines.{refused}
use Rattle.stil_ast.specs.declared.executive.ExecDecl.{ExecDecl}
use Rattle.stil_ast.specs.declared.blocks.Blocks.{Blocks}
use Rattle.stil_ast.specs.declared.fault.StilFault.{StilFault}
use Rattle.stil_ast.specs.declared.fault.StilKind.TheVariants.{Twice, OutOfRange, TooLarge, TooManyCycles}
use Rattle.tester_types.specs.declared.signal.Direction.TheVariants.{In}
use Rattle.stil_ast.specs.Data.Written.{no_more}

-- Cycles.

-- passes that make one vector each make as many as they are
length-times : {P : Type 0} (f : P → Ran P) → ((p : P) → length (f p).made ≡ 1) → (n : ℕ) (p : P)
    → length (times n f p).made ≡ n
length-times f one zero p = refl
length-times f one (suc n) p =
    length-append (f p).made (times n f (f p).here).made
    ∙ ap (λ m. m + length (times n f (f p).here).made) (one p) ∙ ap (λ m. 1 + m) (length-times f one n (f p).here)
    ∙ (let e : 1 + n ≡ suc n = omega arith in e)

-- the place of a line in a pattern
abbrev at : ℕ → Origin
at n = record { body = of_pattern; line = n }

-- a vector, and behind it a Loop of one vector that runs so often
pub behind_one : ℕ → Executive
behind_one n = record {
  name = codes "e";
  line = 16;
  tables = record {
    name = codes "w";
    period = 10 ^ 6;
    waves = record { signal = 0; character = 49; events = [] } ∷ [];
  } ∷ [];
  chains = [];
  trees = record {
    titles = record { pattern = codes "p"; macros = []; procedures = [] };
    flat = table 0 (character 0 49 (cycle 0 (at 9) (repeat n (cycle 0 (at 10) done) done)));
  } ∷ [];
}

-- the state in front of the Loop
abbrev one_set : State
one_set = record { table = Some 0; characters = Some 49 ∷ [] }

-- its vectors are one more than the Loop's passes
length-behind_one : (n : ℕ) → length (vectors_of 1 (behind_one n)) ≡ suc n
unfolding behind_one
length-behind_one n =
    let passes = times n (flat_run (cycle 0 (at 10) done) (outside (start_of 1)).held) one_set in
    let vector_in : Made → Vector = λ m. m.vector in
    let first : Made = record { vector = record { table = Some 0; characters = Some 49 ∷ []; mark = 0 }; place = at 9 } in
    length-map (first ∷ ((passes.made ++ []) ++ [])) vector_in
    ∙ ap (λ ms. suc (length ms)) (append-nil (passes.made ++ []) ∙ append-nil passes.made)
    ∙ ap suc (length-times (flat_run (cycle 0 (at 10) done) (outside (start_of 1)).held) (λ s. refl) n one_set)

-- a test that fails refuses
refuses : (b : Bool) (fault : StilFault) (rest : Option StilFault) → b ≡ false → unless b fault rest ≡ Some fault
refuses b fault rest e = ap (λ t. unless t fault rest) e

-- an executive with more vectors than there may be cycles
too_many : (n : ℕ) → most_cycles < suc n
    → compile_fault 1 [] (behind_one n) ≡ refused TooManyCycles (codes "PatternExec") (codes "e") 16
unfolding behind_one
too_many n more =
    refuses _ (fault_at (exec_place (codes "e") 16) TooManyCycles) _
    (ap (λ count. nat_le count most_cycles) (length-behind_one n) ∙ lt-leb (suc n) most_cycles more)

-- 2^48 passes behind a vector are one too many
pub cycle_too_many : compile_fault 1 [] (behind_one (2 ^ 48)) ≡ refused TooManyCycles (codes "PatternExec") (codes "e") 16
cycle_too_many = too_many (2 ^ 48) (omega arith)

-- and 2^48 - 1 are as many as may be
pub most_cycles_pass : nat_le (length (vectors_of 1 (behind_one (2 ^ 48 - 1)))) most_cycles ≡ true
most_cycles_pass = ap (λ count. nat_le count most_cycles) (length-behind_one (2 ^ 48 - 1))

-- Waves.

-- signal a with a table of two waves
abbrev two_waves : Blocks
two_waves =
    text_of (signal (codes "a") In ∷ []) []
    (table_named (codes "w") (codes "100ns") (driven (by_name (codes "a")) ∷ []) ∷ []) [] [] no_more

-- its executive
abbrev executive : ExecDecl
executive = record {
  name = [];
  categories = [];
  selector = None;
  timing = Some (record { name = codes "t"; line = 16 });
  burst = record { name = codes "b"; line = 16 };
  line = 16;
}

-- 2^20 waves of all executives are not too many, and one more is
pub most_waves_pass : tables_fault (timed_of nanoseconds two_waves executive) (2 ^ 20 - 2) ≡ None
unfolding is_digit
most_waves_pass = refl

pub wave_too_many : tables_fault (timed_of nanoseconds two_waves executive) (2 ^ 20 - 1)
    ≡ refused TooLarge (codes "Timing") (codes "t") 3
unfolding is_digit
wave_too_many = refl

-- Signals.

-- a signal of this text
abbrev named : List ℕ → Signal
named text = record { text = text; base = None; direction = In; place = signals_place 2 }

-- signals whose texts are so many letters a, one more from each to the next
pub lettered : ℕ → ℕ → List Signal
lettered from zero = []
lettered from (suc count) = named (replicate (suc from) 97) ∷ lettered (suc from) count

length-lettered : (from count : ℕ) → length (lettered from count) ≡ count
unfolding lettered
length-lettered from zero = refl
length-lettered from (suc count) = ap suc (length-lettered (suc from) count)

-- texts of different lengths are not the same
differ : (a b : List ℕ) → length a < length b → same a b ≡ false
differ a b shorter =
    false_from_ne_true (same a b) (λ e. let both = ap length ((bytes_decides a b).0 e) in omega (arith, both, shorter))

-- each text is at most so long
abbrev AreWithin : ℕ → List Signal → Type 0
AreWithin most signals = All (λ (s : Signal). length s.text ≤ most) signals

-- signals each with a text one letter longer than the one before are fine, as long as they are not too many
all_fine : (before : List Signal) (from count : ℕ) (more : List Signal) → length before ≡ from
    → AreWithin from before → from + count ≤ most_signals
    → signals_fault before (lettered from count ++ more) ≡ signals_fault (before ++ lettered from count) more
unfolding lettered
all_fine before from zero more long within fits = ap (λ (b : List Signal). signals_fault b more) (sym (append-nil before))
all_fine before from (suc count) more long within fits =
    let text : List ℕ = replicate (suc from) 97 in
    let rest = signals_fault (before ++ named text ∷ []) (lettered (suc from) count ++ more) in
    let counted = unless (nat_lt (length before) most_signals) (fault_at (signals_place 2) OutOfRange) rest in
    let fresh : list_any (λ (b : Signal). same b.text text) before ≡ false =
    list_any_none (λ (b : Signal). same b.text text) before
    (λ k d inside.
    differ (get_or before k d).text text (omega (arith, within k d inside, length-replicate {A = ℕ} (suc from) 97))) in
    let short : nat_le (length text) longest_name ≡ true =
    ap (λ n. nat_le n longest_name) (length-replicate {A = ℕ} (suc from) 97)
    ∙ le-leb (suc from) longest_name (omega (arith, fits)) in
    let room : nat_lt (length before) most_signals ≡ true =
    le-leb (suc (length before)) most_signals (omega (arith, long, fits)) in
    ap (λ b. refuse_if b (fault_at (signals_place 2) Twice)
    (unless (nat_le (length text) longest_name) (fault_at (signals_place 2) OutOfRange) counted)) fresh
    ∙ ap (λ b. unless b (fault_at (signals_place 2) OutOfRange) counted) short
    ∙ ap (λ b. unless b (fault_at (signals_place 2) OutOfRange) rest) room
    ∙ all_fine (before ++ named text ∷ []) (suc from) count more
    (omega (arith, length-append before (named text ∷ []), long))
    (All-push (λ (s : Signal). length s.text ≤ suc from) before (named text)
    (λ k d inside. omega (arith, within k d inside)) (omega (arith, length-replicate {A = ℕ} (suc from) 97)))
    (omega (arith, fits))
    ∙ ap (λ (b : List Signal). signals_fault b more) (append_assoc before (named text ∷ []) (lettered (suc from) count))

-- none of them is called b
none_is_b : (from count : ℕ) → list_any (λ (s : Signal). same s.text (codes "b")) (lettered from count) ≡ false
unfolding lettered
none_is_b from zero = refl
none_is_b from (suc count) = none_is_b (suc from) count

-- behind as many signals as may be one more has no place
no_room : (most : ℕ) → most ≡ most_signals
    → signals_fault [] (lettered 0 most ++ named (codes "b") ∷ []) ≡ Some (fault_at (signals_place 2) OutOfRange)
no_room most is =
    all_fine [] 0 most (named (codes "b") ∷ []) refl (All-nil (λ (s : Signal). length s.text ≤ 0)) (omega (arith, is))
    ∙ ap (λ b. refuse_if b (fault_at (signals_place 2) Twice)
    (unless (nat_lt (length (lettered 0 most)) most_signals) (fault_at (signals_place 2) OutOfRange) None))
    (none_is_b 0 most)
    ∙ ap (λ b. unless b (fault_at (signals_place 2) OutOfRange) None)
    (lt-leb (suc (length (lettered 0 most))) most_signals (omega (arith, is, length-lettered 0 most)))

-- 1,024 signals are fine, and the 1,025th is one too many
pub most_signals_pass : signals_fault [] (lettered 0 1024 ++ []) ≡ None
most_signals_pass = all_fine [] 0 1024 [] refl (All-nil (λ (s : Signal). length s.text ≤ 0)) (omega arith)

pub signal_too_many : signals_fault [] (lettered 0 1024 ++ named (codes "b") ∷ [])
    ≡ Some (fault_at (signals_place 2) OutOfRange)
signal_too_many = no_room 1024 refl
