-- What the readers of the parts of a code see.
use Rattle.std.proofs.Common.{◌≡◌, ℕ, ◌+◌, ◌≤◌, Bool, true, not, eqb, ltb, leb, ◌&&◌, List, [], length, Option, Some, None, Ok, ap, arith}
use Rattle.std.specs.Int.{w16, w32, w64}
use Rattle.std.specs.List.{list_all, list_any}
use Rattle.std.proofs.lemmas.Bool.{leb-true}
use Rattle.text_bytes.specs.Limits.{most_cells}
use Rattle.text_bytes.specs.Bytes.{is_printable, is_character}
use Rattle.tester_types.specs.declared.wave.Event.{Event}
use Rattle.tester_types.specs.declared.wave.Wave.{Wave}
use Rattle.tester_types.specs.declared.wave.Table.{Table}
use Rattle.packed_code.specs.declared.instr.Instr.{Instr}
use Rattle.packed_code.specs.declared.parts.CodeSignal.{CodeSignal}
use Rattle.tester_types.specs.Acts.{act_of}
use Rattle.tester_types.specs.Directions.{direction_of}
use Rattle.packed_code.specs.Conditions.{is_named, latest}
use Rattle.page_code.specs.Fields.{◌>>=◌, Read, byte_at, piece_at, number_at, checked, meant, known, items_at}
use Rattle.page_code.specs.Reading.{raw_text_at, text_at, name_at, signal_at, event_at, pair_at, may_stand, wave_at, table_with, table_at, chain_at, may_follow, instr_with, instr_at, exec_at}
use Rattle.packed_code.specs.Packed.{instr_of}
use Rattle.page_code.proofs.ReaderLaws.{bind_ok, ok_is, checked_test}
use Rattle.saved_laws.proofs.Sights.{IsLocal, IsShort, then_local, done_local, checked_local, known_local, items_local}
use Rattle.saved_laws.proofs.FieldSights.{byte_local, piece_local, number_local, byte_short, piece_short, shorter, then_short, number_short, done_short, checked_short}

-- ---- fields with conditions

-- what was read, as something else
pub made_local : {A B : Type 0} (read : List ℕ → Read A) (made : A → B) → IsLocal read → IsLocal (λ bytes. read bytes >>= λ x. Ok (made x.0, x.1))
made_local read made local = then_local read (λ x. Ok (made x.0, x.1)) local (λ a. done_local (made a))

-- a number with a condition
pub small16 : (test : ℕ → Bool) → IsLocal (checked (number_at w16) test)
small16 test = checked_local (number_at w16) test (number_short w16 1026 (let le : 2 ≤ 1026 = omega arith in le)) (number_local w16)

pub small32 : (test : ℕ → Bool) → IsLocal (checked (number_at w32) test)
small32 test = checked_local (number_at w32) test (number_short w32 1026 (let le : 4 ≤ 1026 = omega arith in le)) (number_local w32)

pub small64 : (test : ℕ → Bool) → IsLocal (checked (number_at w64) test)
small64 test = checked_local (number_at w64) test (number_short w64 1026 (let le : 8 ≤ 1026 = omega arith in le)) (number_local w64)

pub small8 : (test : ℕ → Bool) → IsLocal (checked byte_at test)
small8 test = checked_local byte_at test (byte_short 1026 (omega arith)) byte_local

pub short16 : (test : ℕ → Bool) → IsShort 2 (checked (number_at w16) test)
short16 test = checked_short 2 (number_at w16) test (number_short w16 2 (let le : 2 ≤ 2 = omega arith in le))

pub short8 : (test : ℕ → Bool) → IsShort 1 (checked byte_at test)
short8 test = checked_short 1 byte_at test (byte_short 1 (omega arith))

-- ---- texts

raw_text_local : IsLocal raw_text_at
unfolding raw_text_at
raw_text_local =
    then_local (checked (number_at w16) (λ n. leb n 1024)) (λ n. piece_at n.0 n.1) (small16 (λ n. leb n 1024)) (λ n. piece_local n)

raw_text_short : IsShort 1026 raw_text_at
unfolding raw_text_at
raw_text_short =
    then_short 2 1024 (checked (number_at w16) (λ n. leb n 1024)) (λ n. piece_at n.0 n.1) (short16 (λ n. leb n 1024))
    (λ bytes n rest e.
    let few : n ≤ 1024 = leb-true n 1024 (checked_test (number_at w16) (λ n. leb n 1024) bytes n rest e) in
    shorter n 1024 (piece_at n) few (piece_short n))

pub text_local : (fits : List ℕ → Bool) → IsLocal (text_at fits)
unfolding text_at
text_local fits = checked_local raw_text_at (λ text. list_all is_printable text && fits text) raw_text_short raw_text_local

pub name_local : IsLocal name_at
name_local = text_local (λ text. ltb 0 (length text))

-- ---- signals and tables

pub signal_local : (before : List CodeSignal) → IsLocal (signal_at before)
unfolding signal_at
signal_local before =
    then_local (known byte_at direction_of)
    (λ direction. text_at (λ text. ltb 0 (length text) && not (list_any (is_named text) before)) direction.1 >>=
    λ name. Ok (record { name = name.0; direction = direction.0 }, name.1))
    (known_local byte_at direction_of (byte_short 1026 (omega arith)) byte_local)
    (λ direction. made_local (text_at (λ text. ltb 0 (length text) && not (list_any (is_named text) before)))
    (λ name. record { name = name; direction = direction })
    (text_local (λ text. ltb 0 (length text) && not (list_any (is_named text) before))))

event_local : (period : ℕ) (before : List Event) → IsLocal (event_at period before)
unfolding event_at
event_local period before =
    then_local (checked (number_at w64) (λ time. leb (latest before) time && ltb time period))
    (λ time. known byte_at act_of time.1 >>= λ act. Ok (record { time = time.0; act = act.0 }, act.1))
    (small64 (λ time. leb (latest before) time && ltb time period))
    (λ time. made_local (known byte_at act_of) (λ act. record { time = time; act = act })
    (known_local byte_at act_of (byte_short 1026 (omega arith)) byte_local))

pair_local : (signals : ℕ) → IsLocal (pair_at signals)
unfolding pair_at
pair_local signals =
    then_local (checked (number_at w16) (λ signal. ltb signal signals))
    (λ signal. checked byte_at is_character signal.1 >>= λ character. Ok ((signal.0, character.0), character.1))
    (small16 (λ signal. ltb signal signals))
    (λ signal. made_local (checked byte_at is_character) (λ character. (signal, character)) (small8 is_character))

pair_short : (signals : ℕ) → IsShort 3 (pair_at signals)
unfolding pair_at
pair_short signals =
    then_short 2 1 (checked (number_at w16) (λ signal. ltb signal signals))
    (λ signal. checked byte_at is_character signal.1 >>= λ character. Ok ((signal.0, character.0), character.1))
    (short16 (λ signal. ltb signal signals))
    (λ bytes signal rest e. then_short 1 0 (checked byte_at is_character) (λ character. Ok ((signal, character.0), character.1)) (short8 is_character)
    (λ bytes character rest e. done_short (signal, character)))

pub wave_local : (signals period most : ℕ) (before : List Wave) → IsLocal (wave_at signals period most before)
unfolding wave_at
wave_local signals period most before =
    then_local (checked (pair_at signals) (may_stand most before))
    (λ pair. checked byte_at (λ count. leb count 16) pair.1 >>= λ count. items_at (event_at period) count.0 [] count.1 >>=
    λ events. Ok (record { signal = pair.0.0; character = pair.0.1; events = events.0 }, events.1))
    (checked_local (pair_at signals) (may_stand most before) (shorter 3 1026 (pair_at signals) (omega arith) (pair_short signals))
    (pair_local signals))
    (λ pair. then_local (checked byte_at (λ count. leb count 16))
    (λ count. items_at (event_at period) count.0 [] count.1 >>=
    λ events. Ok (record { signal = pair.0; character = pair.1; events = events.0 }, events.1))
    (small8 (λ count. leb count 16))
    (λ count. made_local (items_at (event_at period) count []) (λ events. record { signal = pair.0; character = pair.1; events = events })
    (items_local (event_at period) (event_local period) count [])))

table_local : (signals most : ℕ) → IsLocal (table_with signals most)
unfolding table_with
table_local signals most =
    then_local name_at
    (λ name. checked (number_at w64) (λ period. ltb 0 period && leb period 1000000000000) name.1 >>=
    λ period. number_at w32 period.1 >>=
    λ count. items_at (wave_at signals period.0 most) count.0 [] count.1 >>=
    λ waves. Ok (record { name = name.0; period = period.0; waves = waves.0 }, waves.1))
    name_local
    (λ name. then_local (checked (number_at w64) (λ period. ltb 0 period && leb period 1000000000000))
    (λ period. number_at w32 period.1 >>=
    λ count. items_at (wave_at signals period.0 most) count.0 [] count.1 >>=
    λ waves. Ok (record { name = name; period = period.0; waves = waves.0 }, waves.1))
    (small64 (λ period. ltb 0 period && leb period 1000000000000))
    (λ period. then_local (number_at w32)
    (λ count. items_at (wave_at signals period most) count.0 [] count.1 >>=
    λ waves. Ok (record { name = name; period = period; waves = waves.0 }, waves.1))
    (number_local w32)
    (λ count. made_local (items_at (wave_at signals period most) count []) (λ waves. record { name = name; period = period; waves = waves })
    (items_local (wave_at signals period most) (wave_local signals period most) count []))))

pub tables_local : (signals : ℕ) (before : List Table) → IsLocal (table_at signals before)
tables_local signals before = table_local signals _

-- ---- chains, instructions and executives

chain_local : (signals : ℕ) → IsLocal (chain_at signals)
unfolding chain_at
chain_local signals =
    then_local name_at
    (λ name. checked (number_at w16) (λ out. ltb out signals) name.1 >>=
    λ out. checked (number_at w32) (λ size. leb size most_cells) out.1 >>=
    λ size. checked (number_at w32) (λ count. leb count most_cells) size.1 >>=
    λ count. items_at (λ before. name_at) count.0 [] count.1 >>=
    λ cells. Ok (record { name = name.0; out = out.0; length = size.0; cells = cells.0 }, cells.1))
    name_local
    (λ name. then_local (checked (number_at w16) (λ out. ltb out signals))
    (λ out. checked (number_at w32) (λ size. leb size most_cells) out.1 >>=
    λ size. checked (number_at w32) (λ count. leb count most_cells) size.1 >>=
    λ count. items_at (λ before. name_at) count.0 [] count.1 >>=
    λ cells. Ok (record { name = name; out = out.0; length = size.0; cells = cells.0 }, cells.1))
    (small16 (λ out. ltb out signals))
    (λ out. then_local (checked (number_at w32) (λ size. leb size most_cells))
    (λ size. checked (number_at w32) (λ count. leb count most_cells) size.1 >>=
    λ count. items_at (λ before. name_at) count.0 [] count.1 >>=
    λ cells. Ok (record { name = name; out = out; length = size.0; cells = cells.0 }, cells.1))
    (small32 (λ size. leb size most_cells))
    (λ size. then_local (checked (number_at w32) (λ count. leb count most_cells))
    (λ count. items_at (λ before. name_at) count.0 [] count.1 >>=
    λ cells. Ok (record { name = name; out = out; length = size; cells = cells.0 }, cells.1))
    (small32 (λ count. leb count most_cells))
    (λ count. made_local (items_at (λ before. name_at) count [])
    (λ cells. record { name = name; out = out; length = size; cells = cells })
    (items_local (λ before. name_at) (λ before. name_local) count [])))))

known_short : {A B : Type 0} (most : ℕ) (read : List ℕ → Read A) (meaning : A → Option B) → IsShort most read → IsShort most (known read meaning)
known_short {A} {B} most read meaning short bytes b rest e =
    let step = bind_ok (read bytes) (λ x. meant (length bytes) (meaning x.0) x.1) (b, rest) e in
    let one = short bytes step.0.0 step.0.1 step.1 in
    let same = rest_is (meaning step.0.0) (length bytes) step.0.1 b rest step.2 in
    omega (arith, one, ap length same)
  where
    rest_is : (o : Option B) (left : ℕ) (after : List ℕ) (b : B) (rest : List ℕ) → meant left o after ≡ Ok (b, rest) → after ≡ rest
    rest_is None left after b rest e = absurd cc
    rest_is (Some x) left after b rest e = ap (λ p. p.1) (ok_is (x, after) (b, rest) e)

instr_local : (tables : List Table) (rows : List (List ℕ)) (is_last : Bool) (before : List Instr) → IsLocal (instr_with tables rows is_last before)
unfolding instr_with
instr_local tables rows is_last before =
    let sixteen : IsShort 1026 (piece_at 16) = shorter 16 1026 (piece_at 16) (omega arith) (piece_short 16) in
    checked_local (known (piece_at 16) instr_of) (may_follow tables rows is_last before) (known_short 1026 (piece_at 16) instr_of sixteen)
    (known_local (piece_at 16) instr_of sixteen (piece_local 16))

pub exec_local : (signals : ℕ) (tables : List Table) (rows : List (List ℕ)) → IsLocal (exec_at signals tables rows)
unfolding exec_at
exec_local signals tables rows =
    then_local (text_at (λ text. true))
    (λ name. checked (number_at w16) (λ count. leb count 256) name.1 >>=
    λ chain_count. items_at (λ before. chain_at signals) chain_count.0 [] chain_count.1 >>=
    λ chains. checked (number_at w32) (λ count. ltb 0 count && leb count 4194305) chains.1 >>=
    λ count. items_at (instr_at tables rows count.0) count.0 [] count.1 >>=
    λ instrs. Ok (record { name = name.0; chains = chains.0; instrs = instrs.0 }, instrs.1))
    (text_local (λ text. true))
    (λ name. then_local (checked (number_at w16) (λ count. leb count 256))
    (λ chain_count. items_at (λ before. chain_at signals) chain_count.0 [] chain_count.1 >>=
    λ chains. checked (number_at w32) (λ count. ltb 0 count && leb count 4194305) chains.1 >>=
    λ count. items_at (instr_at tables rows count.0) count.0 [] count.1 >>=
    λ instrs. Ok (record { name = name; chains = chains.0; instrs = instrs.0 }, instrs.1))
    (small16 (λ count. leb count 256))
    (λ chain_count. then_local (items_at (λ before. chain_at signals) chain_count [])
    (λ chains. checked (number_at w32) (λ count. ltb 0 count && leb count 4194305) chains.1 >>=
    λ count. items_at (instr_at tables rows count.0) count.0 [] count.1 >>=
    λ instrs. Ok (record { name = name; chains = chains.0; instrs = instrs.0 }, instrs.1))
    (items_local (λ before. chain_at signals) (λ before. chain_local signals) chain_count [])
    (λ chains. then_local (checked (number_at w32) (λ count. ltb 0 count && leb count 4194305))
    (λ count. items_at (instr_at tables rows count.0) count.0 [] count.1 >>=
    λ instrs. Ok (record { name = name; chains = chains; instrs = instrs.0 }, instrs.1))
    (small32 (λ count. ltb 0 count && leb count 4194305))
    (λ count. made_local (items_at (instr_at tables rows count) count []) (λ instrs. record { name = name; chains = chains; instrs = instrs })
    (items_local (instr_at tables rows count) (λ before. instr_local tables rows (eqb (length before + 1) count) before) count [])))))
