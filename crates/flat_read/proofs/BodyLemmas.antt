-- The statements of a pattern are read as its instructions say.
use Rattle.std.proofs.Common.{◌≡◌, ℕ, suc, ◌+◌, ◌-◌, ◌^◌, ◌≤◌, ◌<◌, Bool, true, false, ◌&&◌, List, [], ◌∷◌, ◌++◌, take, drop, Some, None, Result, Ok, refl, sym, ap, subst, ◌∙◌, append_assoc, append-nil, arith, cond}
use Rattle.std.specs.Prelude.{codes, decimal, nat_lt, nat_le, if◌then◌else◌}
use Rattle.std.proofs.lemmas.Bool.{le-leb, and_from}
use Rattle.text_bytes.specs.Limits.{most_passes}
use Rattle.text_bytes.specs.Numbers.{number_by}
use Rattle.stil_lex.specs.declared.token.Token.{Token}
use Rattle.stil_tree.specs.Trees.{Trees, Entry, entries}
use Rattle.answers.specs.Reading.{and_then}
use Rattle.stil_form.specs.declared.fault.FormFault.{FormFault}
use Rattle.stil_form.specs.Lexeme.{word, name, lexemes_of}
use Rattle.stil_form.specs.Words.{fits_name}
use Rattle.stil_form.specs.Setting.{setting, lexemes_at, line_at}
use Rattle.stil_ast.specs.Data.Bodies.{written_front, written_of}
use Rattle.stil_ast.specs.Data.Written as written
use Rattle.stil_ast.specs.Data.Written.{Written}
use Rattle.stil_ast.specs.declared.body.Assignment.{Assignment}
use Rattle.stil_ast.specs.declared.body.Step.TheVariants as step
use Rattle.stil_ast.specs.declared.body.PatAction.TheVariants as action
use Rattle.stil_ast.specs.declared.body.PatStmt.{PatStmt}
use Rattle.pat_read.specs.Body.{on_line, assignments_of, judge_statement, one_more, body_from}
use Rattle.packed_code.specs.declared.instr.Instr.{Instr}
use Rattle.packed_code.specs.declared.instr.Instr.TheVariants.{Run, Loop, End}
use Rattle.packed_code.specs.Whole.{IsRest}
use Rattle.packed_code.specs.Program.{Program}
use Rattle.line_texts.specs.Said.{Said, no_more, braced, pieces_of, count_of, trees_at, spaced, next_line}
use Rattle.line_texts.proofs.SettingLemmas.{not_skipped}
use Rattle.line_texts.proofs.StandingLemmas.{Stands, unspaced, statement_head, behind_statement, braced_head, inside_braced, behind_braced}
use Rattle.flat_parts.specs.Nests.{Nest, nothing, run, loop, instrs_in, table_name, row_name, written_in}
use Rattle.flat_said.specs.FlatSaid.{call_said, loop_head, nest_said}
use Rattle.flat_read.proofs.HeadLemmas.{named_head, worded_head}
use Rattle.flat_read.proofs.NameLemmas.{number_by-decimal}

-- ---- what the statements are

-- a W
abbrev pub wave_stmt : List Token → ℕ → List ℕ → PatStmt
wave_stmt tokens at called = on_line (line_at tokens at) (action.Step (step.Wave called))

-- a Call
abbrev pub call_stmt : List Token → ℕ → List ℕ → PatStmt
call_stmt tokens at called = on_line (line_at tokens at) (action.Step (step.Call called []))

-- a Loop over statements
abbrev pub loop_stmt : List Token → ℕ → ℕ → List PatStmt → PatStmt
loop_stmt tokens at times inner = on_line (line_at tokens at) (action.Loop times (written_of inner))

-- a call, several times or once
abbrev pub calls_stmt : Bool → List Token → ℕ → List ℕ → ℕ → PatStmt
calls_stmt true tokens at called times = loop_stmt tokens at times (call_stmt tokens (at + 2 + 1) called ∷ [])
calls_stmt false tokens at called times = call_stmt tokens at called

-- where what is behind it begins
abbrev pub behind_calls : Bool → ℕ → ℕ
behind_calls true at = at + 2 + 1 + 3 + 1
behind_calls false at = at + 2 + 1

-- the call itself
abbrev pub call_at : Bool → ℕ → ℕ
call_at true at = at + 2 + 1
call_at false at = at

-- where what is behind a loop over a body begins
abbrev pub behind_loop : Program → Nest → ℕ → ℕ
behind_loop code body at = at + 2 + 1 + count_of (pieces_of (nest_said code body no_more)) + 1

-- the statements of instructions, of which the first begins with the token `at`
abbrev pub stmts_of : Program → List Token → ℕ → Nest → List PatStmt
stmts_of code tokens at nothing = []
stmts_of code tokens at (run lines table row mark times rest) =
    wave_stmt tokens at (table_name code table) ∷ calls_stmt (nat_lt 1 times) tokens (at + 2 + 1) (row_name code row) times
    ∷ stmts_of code tokens (behind_calls (nat_lt 1 times) (at + 2 + 1)) rest
stmts_of code tokens at (loop line times body rest) =
    loop_stmt tokens at times (stmts_of code tokens (at + 2 + 1) body) ∷ stmts_of code tokens (behind_loop code body at) rest

-- the same instructions on the lines of these tokens
abbrev pub lined : Program → List Token → ℕ → Nest → Nest
lined code tokens at nothing = nothing
lined code tokens at (run lines table row mark times rest) =
    run (record {
      wave = line_at tokens at;
      loop = line_at tokens (at + 2 + 1);
      call = line_at tokens (call_at (nat_lt 1 times) (at + 2 + 1));
    }) table row mark times (lined code tokens (behind_calls (nat_lt 1 times) (at + 2 + 1)) rest)
lined code tokens at (loop line times body rest) =
    loop (line_at tokens at) times (lined code tokens (at + 2 + 1) body) (lined code tokens (behind_loop code body at) rest)

-- they are the same
pub lined_same : (code : Program) (tokens : List Token) (nest : Nest) (at : ℕ) → instrs_in (lined code tokens at nest) ≡ instrs_in nest
lined_same code tokens nothing at = refl
lined_same code tokens (run lines table row mark times rest) at =
    ap (λ (is : List Instr). Run table row mark times ∷ is) (lined_same code tokens rest (behind_calls (nat_lt 1 times) (at + 2 + 1)))
lined_same code tokens (loop line times body rest) at =
    ap (λ (is : List Instr). Loop times ∷ (is ++ End ∷ instrs_in (lined code tokens (behind_loop code body at) rest)))
    (lined_same code tokens body (at + 2 + 1))
    ∙ ap (λ (is : List Instr). Loop times ∷ (instrs_in body ++ End ∷ is)) (lined_same code tokens rest (behind_loop code body at))

-- calls, as they are written
calls_written : (several : Bool) (tokens : List Token) (at : ℕ) (row : List ℕ) (times : ℕ) (rest : Written)
    → written_front (calls_stmt several tokens at row times).line (calls_stmt several tokens at row times).action rest
    ≡ cond several (written.looped (line_at tokens at) times
    (written.single (line_at tokens (call_at several at)) (step.Call row []) written.no_more) rest)
    (written.single (line_at tokens (call_at several at)) (step.Call row []) rest)
calls_written true tokens at row times rest = refl
calls_written false tokens at row times rest = refl

-- the statements are what a flat text has for the instructions
pub stmts_written : (code : Program) (tokens : List Token) (nest : Nest) (at : ℕ)
    → written_of (stmts_of code tokens at nest) ≡ written_in code (lined code tokens at nest)
stmts_written code tokens nothing at = refl
stmts_written code tokens (run lines table row mark times rest) at =
    let several = nat_lt 1 times in
    let next = behind_calls several (at + 2 + 1) in
    ap (written.single (line_at tokens at) (step.Wave (table_name code table)))
    (calls_written several tokens (at + 2 + 1) (row_name code row) times (written_of (stmts_of code tokens next rest))
    ∙ ap (λ (w : Written). cond several (written.looped (line_at tokens (at + 2 + 1)) times
    (written.single (line_at tokens (call_at several (at + 2 + 1))) (step.Call (row_name code row) []) written.no_more) w)
    (written.single (line_at tokens (call_at several (at + 2 + 1))) (step.Call (row_name code row) []) w))
    (stmts_written code tokens rest next))
stmts_written code tokens (loop line times body rest) at =
    ap (λ (w : Written). written.looped (line_at tokens at) times w (written_of (stmts_of code tokens (behind_loop code body at) rest)))
    (stmts_written code tokens body (at + 2 + 1))
    ∙ ap (written.looped (line_at tokens at) times (written_in code (lined code tokens (at + 2 + 1) body)))
    (stmts_written code tokens rest (behind_loop code body at))

-- ---- how often

-- each Run and each Loop runs once at least, and not too often
abbrev pub IsFew : Nest → Type 0
IsFew nothing = Unit {0}
IsFew (run lines table row mark times rest) = (0 < times) × (times < 2 ^ 32) × IsFew rest
IsFew (loop line times body rest) = (0 < times) × (times ≤ most_passes) × IsFew body × IsFew rest

-- what stands behind instructions, somewhere
abbrev pub HasRest : List Instr → Type 0
HasRest code = (depth : ℕ) × (begun : Bool) × IsRest depth begun code

-- so it is where an executive may have the instructions
pub few_in : (nest : Nest) (depth : ℕ) (begun : Bool) (tail : List Instr) → IsRest depth begun (instrs_in nest ++ tail)
    → IsFew nest × HasRest tail
few_in nothing depth begun tail h = (tt, (depth, begun, h))
few_in (run lines table row mark times rest) depth begun tail h =
    let behind = few_in rest depth false tail h.2 in
    ((h.0, h.1, behind.0), behind.1)
few_in (loop line times body rest) depth begun tail h =
    let placed : IsRest (suc depth) true (instrs_in body ++ (End ∷ (instrs_in rest ++ tail))) =
    subst (IsRest (suc depth) true) (append_assoc (instrs_in body) (End ∷ instrs_in rest) tail) h.3 in
    let inside = few_in body (suc depth) true (End ∷ (instrs_in rest ++ tail)) placed in
    let behind = few_in rest (inside.1.0 - 1) false tail inside.1.2.2 in
    ((h.0, h.1, inside.0, behind.0), behind.1)

-- ---- how they are read

-- one statement behind others
pub one_read : (bytes : List ℕ) (tokens : List Token) (top : Bool) (before : List PatStmt) (e : Entry)
    (inner : Result (List PatStmt) FormFault) (rest : List PatStmt → Result (List PatStmt) FormFault) (stmt : PatStmt)
    → judge_statement (setting bytes tokens []) top e inner ≡ Ok stmt
    → one_more (setting bytes tokens []) top before e inner rest ≡ rest (before ++ stmt ∷ [])
one_read bytes tokens top before e inner rest stmt h =
    let s = setting bytes tokens [] in
    ap (λ (b : Bool). cond b (rest before) (and_then (judge_statement s top e inner) (λ stmt. rest (before ++ stmt ∷ []))))
    (not_skipped (lexemes_at s e))
    ∙ ap (λ (r : Result PatStmt FormFault). and_then r (λ stmt. rest (before ++ stmt ∷ []))) h

-- `W name`
pub wave_read : (bytes : List ℕ) (tokens : List Token) (top : Bool) (at : ℕ) (inner : Result (List PatStmt) FormFault) (called : List ℕ)
    → fits_name called ≡ true → take 2 (drop at (lexemes_of bytes tokens)) ≡ word (codes "W") ∷ name called ∷ []
    → judge_statement (setting bytes tokens []) top (record { first = at; count = 2; body = None }) inner ≡ Ok (wave_stmt tokens at called)
wave_read bytes tokens top at inner called fits head = rw head (rw fits refl)

-- `Call name`
pub call_read : (bytes : List ℕ) (tokens : List Token) (top : Bool) (at : ℕ) (inner : Result (List PatStmt) FormFault) (called : List ℕ)
    → fits_name called ≡ true → take 2 (drop at (lexemes_of bytes tokens)) ≡ word (codes "Call") ∷ name called ∷ []
    → judge_statement (setting bytes tokens []) top (record { first = at; count = 2; body = None }) inner ≡ Ok (call_stmt tokens at called)
call_read bytes tokens top at inner called fits head = rw head (rw fits refl)

-- `Loop times`
pub loop_read : (bytes : List ℕ) (tokens : List Token) (top : Bool) (at times : ℕ) (inside : Trees)
    (inner : Result (List PatStmt) FormFault) (stmts : List PatStmt) → 0 < times → times ≤ most_passes
    → take 2 (drop at (lexemes_of bytes tokens)) ≡ word (codes "Loop") ∷ word (decimal times) ∷ [] → inner ≡ Ok stmts
    → judge_statement (setting bytes tokens []) top (record { first = at; count = 2; body = Some inside }) inner
    ≡ Ok (loop_stmt tokens at times stmts)
loop_read bytes tokens top at times inside inner stmts some few head is =
    let number : number_by (decimal times) ≡ Some times = number_by-decimal times (omega (arith, few)) in
    let within : (nat_le 1 times && nat_le times most_passes) ≡ true =
    and_from (nat_le 1 times) (nat_le times most_passes) (le-leb 1 times some) (le-leb times most_passes few) in
    rw (head, is) (rw number (rw within refl))

-- a vector
pub vector_read : (bytes : List ℕ) (tokens : List Token) (top : Bool) (at : ℕ) (inside : Trees) (inner : Result (List PatStmt) FormFault)
    (gifts : List Assignment) → take 1 (drop at (lexemes_of bytes tokens)) ≡ word (codes "V") ∷ []
    → assignments_of (setting bytes tokens []) (entries inside) ≡ Ok gifts
    → judge_statement (setting bytes tokens []) top (record { first = at; count = 1; body = Some inside }) inner
    ≡ Ok (on_line (line_at tokens at) (action.Step (step.Vector gifts)))
vector_read bytes tokens top at inside inner gifts head read = rw head (rw read refl)

-- ---- the statements one after another

-- a call, with or without a Loop round it
abbrev pub calls_for : Bool → List ℕ → ℕ → Said → Said
calls_for several row times more =
    if several then braced (loop_head times) (spaced (call_said row (spaced no_more))) (next_line more)
    else call_said row (next_line more)

-- what is behind it
pub behind_of_calls : (several : Bool) (bytes : List ℕ) (tokens : List Token) (at : ℕ) (row : List ℕ) (times : ℕ) (more : Said)
    → Stands bytes tokens at (calls_for several row times more) → Stands bytes tokens (behind_calls several at) more
behind_of_calls true bytes tokens at row times more stands = unspaced (behind_braced stands)
behind_of_calls false bytes tokens at row times more stands = unspaced (behind_statement stands)

-- it is read
pub calls_read : (several : Bool) (bytes : List ℕ) (tokens : List Token) (top : Bool) (before : List PatStmt) (at : ℕ) (row : List ℕ)
    (times : ℕ) (more : Said) → fits_name row ≡ true → 0 < times → times < 2 ^ 32
    → Stands bytes tokens at (calls_for several row times more)
    → body_from (setting bytes tokens []) top before (trees_at at (calls_for several row times more))
    ≡ body_from (setting bytes tokens []) top (before ++ calls_stmt several tokens at row times ∷ [])
    (trees_at (behind_calls several at) more)
calls_read true bytes tokens top before at row times more fits some few stands =
    let s = setting bytes tokens [] in
    let inside : Stands bytes tokens (at + 2 + 1) (call_said row (spaced no_more)) = unspaced (inside_braced stands) in
    let body = trees_at (at + 2 + 1) (call_said row (spaced no_more)) in
    let call = call_stmt tokens (at + 2 + 1) row in
    let inner : body_from s false [] body ≡ Ok (call ∷ []) =
    one_read bytes tokens false [] (record { first = at + 2 + 1; count = 2; body = None }) (Ok []) (λ read. Ok read) call
    (call_read bytes tokens false (at + 2 + 1) (Ok []) row fits (statement_head inside ∙ named_head (codes "Call") row)) in
    one_read bytes tokens top before (record { first = at; count = 2; body = Some body }) (body_from s false [] body)
    (λ read. body_from s top read (trees_at (at + 2 + 1 + 3 + 1) more)) (loop_stmt tokens at times (call ∷ []))
    (loop_read bytes tokens top at times body (body_from s false [] body) (call ∷ []) some (omega (arith, few))
    (braced_head stands ∙ worded_head (codes "Loop") (decimal times)) inner)
calls_read false bytes tokens top before at row times more fits some few stands =
    let s = setting bytes tokens [] in
    one_read bytes tokens top before (record { first = at; count = 2; body = None }) (Ok [])
    (λ read. body_from s top read (trees_at (at + 2 + 1) more)) (call_stmt tokens at row)
    (call_read bytes tokens top at (Ok []) row fits (statement_head stands ∙ named_head (codes "Call") row))

-- the names that a pattern has are names
pub record NamesFit (code : Program) : Type 0 where
  pub tables : (table : ℕ) → fits_name (table_name code table) ≡ true
  pub rows : (row : ℕ) → fits_name (row_name code row) ≡ true

-- the statements of instructions are read behind others
pub nest_read : (code : Program) (bytes : List ℕ) (tokens : List Token) → NamesFit code → (nest : Nest) (top : Bool) (before : List PatStmt)
    (at : ℕ) → IsFew nest → Stands bytes tokens at (nest_said code nest no_more)
    → body_from (setting bytes tokens []) top before (trees_at at (nest_said code nest no_more))
    ≡ Ok (before ++ stmts_of code tokens at nest)
nest_read code bytes tokens fit nothing top before at few stands = ap (λ (done : List PatStmt). Ok done) (sym (append-nil before))
nest_read code bytes tokens fit (run lines table row mark times rest) top before at few stands =
    let s = setting bytes tokens [] in
    let several = nat_lt 1 times in
    let more = nest_said code rest no_more in
    let wave = wave_stmt tokens at (table_name code table) in
    let calls = calls_stmt several tokens (at + 2 + 1) (row_name code row) times in
    let next = behind_calls several (at + 2 + 1) in
    let behind : Stands bytes tokens (at + 2 + 1) (calls_for several (row_name code row) times more) = unspaced (behind_statement stands) in
    one_read bytes tokens top before (record { first = at; count = 2; body = None }) (Ok [])
    (λ read. body_from s top read (trees_at (at + 2 + 1) (calls_for several (row_name code row) times more))) wave
    (wave_read bytes tokens top at (Ok []) (table_name code table) (fit.tables table)
    (statement_head stands ∙ named_head (codes "W") (table_name code table)))
    ∙ calls_read several bytes tokens top (before ++ wave ∷ []) (at + 2 + 1) (row_name code row) times more
    (fit.rows row) few.0 few.1 behind
    ∙ nest_read code bytes tokens fit rest top ((before ++ wave ∷ []) ++ calls ∷ []) next few.2
    (behind_of_calls several bytes tokens (at + 2 + 1) (row_name code row) times more behind)
    ∙ ap (λ (done : List PatStmt). Ok done) (append_assoc (before ++ wave ∷ []) (calls ∷ []) (stmts_of code tokens next rest)
    ∙ append_assoc before (wave ∷ []) (calls ∷ stmts_of code tokens next rest))
nest_read code bytes tokens fit (loop line times body rest) top before at few stands =
    let s = setting bytes tokens [] in
    let inside = trees_at (at + 2 + 1) (nest_said code body no_more) in
    let more = nest_said code rest no_more in
    let next = behind_loop code body at in
    let inner = stmts_of code tokens (at + 2 + 1) body in
    let stmt = loop_stmt tokens at times inner in
    one_read bytes tokens top before (record { first = at; count = 2; body = Some inside }) (body_from s false [] inside)
    (λ read. body_from s top read (trees_at next more)) stmt
    (loop_read bytes tokens top at times inside (body_from s false [] inside) inner few.0 few.1
    (braced_head stands ∙ worded_head (codes "Loop") (decimal times))
    (nest_read code bytes tokens fit body false [] (at + 2 + 1) few.2 (unspaced (inside_braced stands))))
    ∙ nest_read code bytes tokens fit rest top (before ++ stmt ∷ []) next few.3 (unspaced (behind_braced stands))
    ∙ ap (λ (done : List PatStmt). Ok done) (append_assoc before (stmt ∷ []) (stmts_of code tokens next rest))
