-- What a call of a row's procedure makes: one vector, with the row's characters.
use Rattle.std.proofs.Common.{◌≡◌, ℕ, ◌+◌, ◌<◌, ◌≤◌, Bool, true, false, cond, ◌==◌, List, [], ◌∷◌, ◌++◌, map, length, replicate, slice_set, Option, Some, None, unwrap_or, refl, sym, ap, ◌∙◌, arith, append_assoc, length-append}
use Rattle.std.specs.List.{AllZip}
use Rattle.std.proofs.lemmas.Bool.{eqb-true}
use Rattle.std.proofs.Math.Seq.{set-append_seam}
use Rattle.packed_code.specs.Program.{Program}
use Rattle.stil_ast.specs.Data.Written as written
use Rattle.stil_ast.specs.Data.Places.{of_procedure}
use Rattle.stil_ast.specs.declared.body.Assignment.{Assignment}
use Rattle.stil_ast.specs.declared.body.Step.TheVariants.{Vector as VectorStep}
use Rattle.stil_ast.specs.Meaning.State.{State, Vector}
use Rattle.stil_ast.specs.Meaning.Statements.{Item, Statements, a_character}
use Rattle.stil_ast.specs.Meaning.Arguments.{Argument}
use Rattle.stil_ast.specs.Meaning.Dealing.{Gift, Dealt, deal, deal_pairs, then_deal, spread, received, takers, mark_of}
use Rattle.stil_ast.specs.Meaning.Signals.{Names}
use Rattle.stil_ast.specs.Meaning.Members.{members}
use Rattle.stil_ast.specs.Meaning.Resolved.{Scope, resolved, resolved_assigns}
use Rattle.stil_ast.specs.Meaning.Running.{Setting, Made, Ran, Here, run_list}
use Rattle.flat_parts.specs.FlatText.{name_of}
use Rattle.flat_parts.specs.FlatBlocks.{signal_called, given_from, IsGift}

-- a character of a row, or none
abbrev pub character_or_none : ℕ → Option ℕ
character_or_none c = cond (c == 0) None (Some c)

-- the characters of a row
abbrev pub characters_or_none : List ℕ → List (Option ℕ)
characters_or_none row = map character_or_none row

-- they are a row's
back_by : (b : Bool) (c : ℕ) → (c == 0) ≡ b → unwrap_or (cond b None (Some c)) 0 ≡ c
back_by true c e = sym (eqb-true c 0 e)
back_by false c e = refl

pub characters_back : (row : List ℕ) → map (λ (c : Option ℕ). unwrap_or c 0) (characters_or_none row) ≡ row
characters_back [] = refl
characters_back (c ∷ row) =
    ap (λ (n : ℕ). n ∷ map (λ (c : Option ℕ). unwrap_or c 0) (characters_or_none row)) (back_by (c == 0) c refl)
    ∙ ap (λ (l : List ℕ). c ∷ l) (characters_back row)

-- a state of this table and these characters
abbrev state_of : Option ℕ → List (Option ℕ) → State
state_of table characters = record { table = table; characters = characters }

-- no characters, so many
abbrev nones : List ℕ → List (Option ℕ)
nones row = replicate (length row) None

-- the name of each signal of a code stands for that signal
abbrev pub AreKnown : Program → Names → Type 0
AreKnown code names =
    (signal : ℕ) → signal < length code.signals → members names (signal_called (name_of code signal)) ≡ signal ∷ []

module _ (code : Program) (names : Names) (known : AreKnown code names) (held : State) (args : List Argument) where
  -- what assignments give
  abbrev gifts_of : List Assignment → List Gift
  gifts_of gifts = (deal (resolved_assigns names gifts) args).gifts

  -- the same where the first one is of these signals and items
  abbrev dealt_first : List ℕ → List Item → List Assignment → List Gift
  dealt_first signals items gifts =
      (then_deal (deal_pairs signals (spread signals items) args) (deal (resolved_assigns names gifts))).gifts

  -- the characters of a row behind others, as they are received one after another
  abbrev pub RowGives : List (Option ℕ) → List ℕ → List Assignment → Type 0
  RowGives before row gifts =
      (table : Option ℕ)
      → received held (gifts_of gifts) (state_of table (before ++ nones row)) ≡ state_of table (before ++ characters_or_none row)

  -- behind one character more
  row_behind : (before : List (Option ℕ)) (x : Option ℕ) (row : List ℕ) (gifts : List Assignment)
      → RowGives (before ++ x ∷ []) row gifts → (table : Option ℕ)
      → received held (gifts_of gifts) (state_of table (before ++ x ∷ nones row)) ≡ state_of table (before ++ x ∷ characters_or_none row)
  row_behind before x row gifts later table =
      ap (λ (l : List (Option ℕ)). received held (gifts_of gifts) (state_of table l)) (sym (append_assoc before (x ∷ []) (nones row)))
      ∙ later table ∙ ap (state_of table) (append_assoc before (x ∷ []) (characters_or_none row))

  row_step : (b : Bool) (before : List (Option ℕ)) (signal c : ℕ) (row : List ℕ) (gifts : List Assignment) → (c == 0) ≡ b
      → length before ≡ signal → signal < length code.signals
      → ((more : List Assignment) → AllZip IsGift (given_from code (signal + 1) row) more
      → RowGives (before ++ cond b None (Some c) ∷ []) row more)
      → AllZip IsGift (given_from code signal (c ∷ row)) gifts → RowGives before (c ∷ row) gifts
  row_step true before signal c row gifts e at within later all table =
      let rest : AllZip IsGift (given_from code (signal + 1) row) gifts = rw e at all in
      row_behind before None row gifts (later gifts rest) table
      ∙ ap (λ (b : Bool). state_of table (before ++ cond b None (Some c) ∷ characters_or_none row)) (sym e)
  row_step false before signal c row [] e at within later all table = absurd (rw e at all)
  row_step false before signal c row (g ∷ gifts) e at within later all table =
      let rest = rw e at all in
      let begun = state_of table (before ++ None ∷ nones row) in
      ap (λ (items : List Item). received held (dealt_first (members names g.reference) items gifts) begun)
      (ap (λ (a : Assignment). a.items) rest.0)
      ∙ ap (λ (signals : List ℕ). received held (dealt_first signals (a_character c ∷ []) gifts) begun)
      (ap (λ (a : Assignment). members names a.reference) rest.0 ∙ known signal within)
      ∙ ap (λ (l : List (Option ℕ)). received held (gifts_of gifts) (state_of table l))
      (ap (λ (n : ℕ). slice_set (before ++ None ∷ nones row) n (Some c)) (sym at) ∙ set-append_seam before None (nones row) (Some c))
      ∙ row_behind before (Some c) row gifts (later gifts rest.1) table
      ∙ ap (λ (b : Bool). state_of table (before ++ cond b None (Some c) ∷ characters_or_none row)) (sym e)

  pub row_gives : (before : List (Option ℕ)) (signal : ℕ) (row : List ℕ) (gifts : List Assignment) → length before ≡ signal
      → signal + length row ≤ length code.signals → AllZip IsGift (given_from code signal row) gifts → RowGives before row gifts
  row_gives before signal [] [] at within all = λ table. refl
  row_gives before signal [] (g ∷ gifts) at within all = absurd all
  row_gives before signal (c ∷ row) gifts at within all =
      row_step (c == 0) before signal c row gifts refl at (omega arith)
      (λ more rest. row_gives (before ++ character_or_none c ∷ []) (signal + 1) row more
      (omega (arith, at, length-append before (character_or_none c ∷ []))) (omega arith) rest)
      all

-- the vector of a table and of these characters
abbrev pub row_vector : Option ℕ → List ℕ → Vector
row_vector table row = record { table = table; characters = characters_or_none row; mark = 0 }

module _ (code : Program) (scope : Scope) (t : Setting) (unmarked : t.scan_outs ≡ []) (known : AreKnown code scope.names) where
  -- the statements of a row's procedure
  abbrev pub row_statements : ℕ → List Assignment → Statements
  row_statements line gifts = resolved scope of_procedure (written.single line (VectorStep gifts) written.no_more)

  -- what assignments deal
  abbrev dealt : List Assignment → Here → Dealt
  dealt gifts h = deal (resolved_assigns scope.names gifts) h.args

  -- the vector of a state, where chains end at these signals
  abbrev made_of : List Assignment → Here → State → List ℕ → List Vector
  made_of gifts h s outs =
      record {
        table = s.table;
        characters = s.characters;
        mark = mark_of outs (takers (resolved_assigns scope.names gifts)) (dealt gifts h).args;
      } ∷ []

  -- a body of one vector makes it
  pub body_makes : (inner : Option Statements → Here → Ran Here) (line : ℕ) (row : List ℕ) (gifts : List Assignment) (h : Here)
      → length row ≡ length code.signals → AllZip IsGift (given_from code 0 row) gifts
      → h.state.characters ≡ replicate (length code.signals) None
      → map (λ (m : Made). m.vector) (run_list t inner (row_statements line gifts) h).made ≡ row_vector h.state.table row ∷ []
  body_makes inner line row gifts h long all blank =
      let given = (dealt gifts h).gifts in
      let same : h.state ≡ state_of h.state.table (nones row) =
      ap (state_of h.state.table) (blank ∙ ap (λ (n : ℕ). replicate n None) (sym long)) in
      ap (λ (outs : List ℕ). made_of gifts h (received h.held given h.state) outs) unmarked
      ∙ ap (λ (s : State). made_of gifts h (received h.held given s) []) same
      ∙ ap (λ (s : State). made_of gifts h s [])
      (row_gives code scope.names known h.held h.args [] 0 row gifts refl (omega (arith, long)) all h.state.table)
