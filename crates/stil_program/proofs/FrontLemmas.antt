-- Of one text reading answers one thing.
use Rattle.std.proofs.Common.{◌≡◌, ◌⊎◌, ℕ, ◌+◌, List, [], Result, Ok, Err, MatchResult, refl, sym, ap, subst, ◌∙◌, inl, inr}
use Rattle.std.specs.Prelude.{slice_get}
use Rattle.pat_read.proofs.ToldLemmas.{same_fault}
use Rattle.stil_lex.specs.declared.token.Token.{Token}
use Rattle.stil_lex.specs.declared.fault.LexFault.{LexFault}
use Rattle.stil_lex.specs.declared.fault.LexFault.TheVariants as lexical
use Rattle.stil_lex.specs.Tokens.{tokens_of, Reads}
use Rattle.stil_lex.specs.Faults.{IsFault}
use Rattle.stil_lex.proofs.Readings as readings
use Rattle.stil_tree.specs.Trees.{Trees, entries}
use Rattle.stil_tree.specs.Grammar.{Parses}
use Rattle.stil_tree.specs.Blocks.{keyword_at, name_if}
use Rattle.stil_tree.specs.declared.fault.TreeFault.{TreeFault}
use Rattle.stil_tree.specs.declared.fault.TreeFault.TheVariants as tree
use Rattle.stil_tree.proofs.Reached.{forest_is_found, fault_is_found}
use Rattle.stil_tree.proofs.Spots.{one_start}
use Rattle.stil_ast.specs.declared.blocks.Blocks.{Blocks}
use Rattle.stil_ast.specs.declared.fault.StilKind.{StilKind}
use Rattle.stil_ast.specs.declared.fault.StilFault.{StilFault}
use Rattle.stil_ast.specs.Data.Refusal.{StilRefusal}
use Rattle.answers.specs.declared.short.Short.TheVariants.{NoMemory, Fault}
use Rattle.stil_ast.specs.Faults.FrontFaults.{Front, refused_by, read_as}
use Rattle.pat_read.specs.Refusal.{text_at}
use Rattle.stil_read.specs.Top.{blocks_of}
use Rattle.stil_read.specs.Text.{IsFaultOf}
use Rattle.stil_read.proofs.TextLemmas.{refused_once}
use Rattle.stil_program.specs.Places.{IsToldBehind}
use Rattle.stil_program.specs.TokenFaults as tokens
use Rattle.stil_program.specs.TokenFaults.{IsTokenFault}
use Rattle.stil_program.specs.StatementFaults as statements
use Rattle.stil_program.specs.StatementFaults.{IsStatementFault}
use Rattle.stil_program.specs.Front.{IsReadAs, IsFirstFault, of_tokens, of_statements, of_blocks, IsFront, FrontAnswers}

-- a fault of these parts
abbrev fault_by : StilKind → List ℕ → List ℕ → ℕ → StilFault
fault_by kind block name line = record { kind = kind; block = block; name = name; line = line }

-- of one fault one thing is told
told_once : (bytes : List ℕ) (read : List Token) (kind : StilKind) (line : ℕ) (f g : StilFault)
    → IsToldBehind bytes read kind line f → IsToldBehind bytes read kind line g → f ≡ g
told_once bytes read kind line f g p q =
    let start = one_start read p.is_block.start q.is_block.start p.is_block.begins q.is_block.begins in
    let keyword : p.found.0 ≡ q.found.0 = p.is_block.keyword ∙ (ap (keyword_at read) start ∙ sym q.is_block.keyword) in
    let name : p.found.1 ≡ q.found.1 =
    p.is_block.name ∙ (ap (λ n. name_if (slice_get read (n + 1)) (n + 1)) start ∙ sym q.is_block.name) in
    same_fault f.kind g.kind f.block g.block f.name g.name f.line g.line (p.is_kind ∙ sym q.is_kind)
    (p.is_keyword ∙ (ap (text_at bytes read) keyword ∙ sym q.is_keyword))
    (p.is_name ∙ (ap (text_at bytes read) name ∙ sym q.is_name))
    (p.is_line ∙ sym q.is_line)

-- of one fault of tokens
token_told_once : (bytes : List ℕ) (read : List Token) (which : LexFault) (f g : StilFault)
    → tokens.IsToldOf bytes read which f → tokens.IsToldOf bytes read which g → f ≡ g
token_told_once bytes read lexical.NoMemory f g p q = absurd p
token_told_once bytes read (lexical.BadByte at) f g p q = told_once bytes read _ _ f g p q
token_told_once bytes read (lexical.OpenQuote at) f g p q = told_once bytes read _ _ f g p q
token_told_once bytes read (lexical.OpenComment at) f g p q = told_once bytes read _ _ f g p q

-- of one fault of statements
statement_told_once : (bytes : List ℕ) (read : List Token) (which : TreeFault) (f g : StilFault)
    → statements.IsToldOf bytes read which f → statements.IsToldOf bytes read which g → f ≡ g
statement_told_once bytes read tree.NoMemory f g p q = absurd p
statement_told_once bytes read (tree.OpenBlock at) f g p q = told_once bytes _ _ _ f g p q
statement_told_once bytes read (tree.OpenStatement at) f g p q = told_once bytes _ _ _ f g p q
statement_told_once bytes read (tree.StrayClose at) f g p q = told_once bytes _ _ _ f g p q
statement_told_once bytes read (tree.TooDeep at) f g p q = told_once bytes _ _ _ f g p q

-- before a fault of a text stand the same pieces
same_pieces : (bytes : List ℕ) (fault other : LexFault) (f : IsFault bytes fault) (g : IsFault bytes other)
    → f.here.pieces ≡ g.here.pieces
same_pieces bytes fault other f g =
    let h = f.here in
    let k = g.here in
    (readings.one_reading h.pieces k.pieces h.rest k.rest h.each k.each (readings.refusal_stops h.rest _ fault h.refusal)
    (readings.refusal_stops k.rest _ other k.refusal) (sym h.whole ∙ k.whole)).0

-- a text has one fault of its tokens
one_token_fault : (bytes : List ℕ) (f g : StilFault) → IsTokenFault bytes f → IsTokenFault bytes g → f ≡ g
one_token_fault bytes f g p q =
    let same = readings.one_fault bytes p.which q.which p.refused q.refused in
    let read = ap (tokens_of []) (same_pieces bytes p.which q.which p.refused q.refused) in
    token_told_once bytes (tokens_of [] q.refused.here.pieces) q.which f g
    (subst (λ (w : LexFault). tokens.IsToldOf bytes (tokens_of [] q.refused.here.pieces) w f) same
    (subst (λ (ts : List Token). tokens.IsToldOf bytes ts p.which f) read p.told)) q.told

-- tokens have one fault of their statements
one_statement_fault : (bytes : List ℕ) (ts : List Token) (f g : StilFault)
    → IsStatementFault bytes ts f → IsStatementFault bytes ts g → f ≡ g
one_statement_fault bytes ts f g p q =
    let both : ◌≡◌ {A = Result Trees TreeFault} (Err p.which) (Err q.which) =
    sym (fault_is_found ts p.which p.refused) ∙ fault_is_found ts q.which q.refused in
    let same : p.which ≡ q.which = cc in
    statement_told_once bytes ts q.which f g (subst (λ (w : TreeFault). statements.IsToldOf bytes ts w f) same p.told) q.told

-- the statements of tokens are one forest
one_forest : (ts : List Token) (forest other : Trees) → Parses ts forest → Parses ts other → forest ≡ other
one_forest ts forest other p q =
    let same : ◌≡◌ {A = Result Trees TreeFault} (Ok forest) (Ok other) = sym (forest_is_found ts forest p) ∙ forest_is_found ts other q in
    cc

-- a text with tokens has no fault of tokens
pub no_token_fault : (bytes : List ℕ) (ts : List Token) (f : StilFault) → Reads bytes ts → IsTokenFault bytes f → ⊥
no_token_fault bytes ts f reads p = readings.tokens_or_refusal bytes ts p.which reads p.refused.here

-- one with statements has no fault of statements
pub no_statement_fault : (bytes : List ℕ) (ts us : List Token) (forest : Trees) (f : StilFault)
    → Reads bytes ts → Reads bytes us → Parses ts forest → IsStatementFault bytes us f → ⊥
no_statement_fault bytes ts us forest f reads others parses p =
    let same : us ≡ ts = readings.one_token_list bytes us ts others reads in
    let parsed : Parses us forest = subst (λ (xs : List Token). Parses xs forest) (sym same) parses in
    let clash : ◌≡◌ {A = Result Trees TreeFault} (Ok forest) (Err p.which) =
    sym (forest_is_found us forest parsed) ∙ fault_is_found us p.which p.refused in
    cc

-- what holds of one reading of a text holds of the other
pub moved : (Is : List Token → Trees → Type 0) (bytes : List ℕ) (ts us : List Token) (forest other : Trees)
    → Reads bytes ts → Reads bytes us → Parses ts forest → Parses us other → Is ts forest → Is us other
moved Is bytes ts us forest other reads others parses parsed is =
    let same : ts ≡ us = readings.one_token_list bytes ts us reads others in
    let here : Parses us forest = subst (λ (xs : List Token). Parses xs forest) same parses in
    subst (Is us) (one_forest us forest other here parsed) (subst (λ (xs : List Token). Is xs forest) same is)

-- statements have one fault of their blocks
one_block_fault : (bytes : List ℕ) (ts : List Token) (forest : Trees) (f g : StilFault)
    → IsFaultOf bytes ts (entries forest) f → IsFaultOf bytes ts (entries forest) g → f ≡ g
one_block_fault bytes ts forest f g p q =
    elim (refused_once bytes ts (entries forest) (Err (Fault f)) (Fault g) p q) [
      | inl none ↦ cc
      | inr same ↦ cc
    ]

-- a text has one first fault
one_first_fault : (bytes : List ℕ) (f g : StilFault) → IsFirstFault bytes f → IsFirstFault bytes g → f ≡ g
one_first_fault bytes f g (of_tokens p) (of_tokens q) = one_token_fault bytes f g p q
one_first_fault bytes f g (of_tokens p) (of_statements us others q) = absurd (no_token_fault bytes us f others p)
one_first_fault bytes f g (of_tokens p) (of_blocks us other others parsed q) = absurd (no_token_fault bytes us f others p)
one_first_fault bytes f g (of_statements ts reads p) (of_tokens q) = absurd (no_token_fault bytes ts g reads q)
one_first_fault bytes f g (of_statements ts reads p) (of_statements us others q) =
    let same = readings.one_token_list bytes ts us reads others in
    one_statement_fault bytes us f g (subst (λ (xs : List Token). IsStatementFault bytes xs f) same p) q
one_first_fault bytes f g (of_statements ts reads p) (of_blocks us other others parsed q) =
    absurd (no_statement_fault bytes us ts other f others reads parsed p)
one_first_fault bytes f g (of_blocks ts forest reads parses p) (of_tokens q) = absurd (no_token_fault bytes ts g reads q)
one_first_fault bytes f g (of_blocks ts forest reads parses p) (of_statements us others q) =
    absurd (no_statement_fault bytes ts us forest g reads others parses q)
one_first_fault bytes f g (of_blocks ts forest reads parses p) (of_blocks us other others parsed q) =
    one_block_fault bytes us other f g
    (moved (λ xs trees. IsFaultOf bytes xs (entries trees) f) bytes ts us forest other reads others parses parsed p) q

-- a text with blocks has no fault
no_first_fault : (bytes : List ℕ) (blocks : Blocks) (f : StilFault) → IsReadAs bytes blocks → IsFirstFault bytes f → ⊥
no_first_fault bytes blocks f r (of_tokens p) = no_token_fault bytes r.tokens f r.reads p
no_first_fault bytes blocks f r (of_statements ts reads p) =
    no_statement_fault bytes r.tokens ts r.forest f r.reads reads r.parses p
no_first_fault bytes blocks f r (of_blocks ts forest reads parses p) =
    refused_once bytes ts (entries forest) (Ok blocks) (Fault f)
    (moved (λ xs trees. blocks_of bytes xs (entries trees) ≡ Ok blocks) bytes r.tokens ts r.forest forest r.reads reads r.parses parses r.are) p

-- its blocks are one
pub one_read : (bytes : List ℕ) (blocks other : Blocks) → IsReadAs bytes blocks → IsReadAs bytes other → blocks ≡ other
one_read bytes blocks other r s =
    let here : blocks_of bytes s.tokens (entries s.forest) ≡ Ok blocks =
    moved (λ xs trees. blocks_of bytes xs (entries trees) ≡ Ok blocks) bytes r.tokens s.tokens r.forest s.forest r.reads s.reads r.parses s.parses r.are in
    let both = sym here ∙ s.are in
    cc

-- a text has one front
pub one_front : (bytes : List ℕ) (front other : Front) → IsFront bytes front → IsFront bytes other → front ≡ other
one_front bytes (refused_by f) (refused_by g) p q = ap refused_by (one_first_fault bytes f g p q)
one_front bytes (refused_by f) (read_as blocks) p q = absurd (no_first_fault bytes blocks f q p)
one_front bytes (read_as blocks) (refused_by f) p q = absurd (no_first_fault bytes blocks f p q)
one_front bytes (read_as blocks) (read_as other) p q = ap read_as (one_read bytes blocks other p q)

-- blocks of the text are the answer, or there is no memory
pub read_once : (bytes : List ℕ) (result : Result Blocks StilRefusal) (blocks : Blocks)
    → FrontAnswers bytes result → IsReadAs bytes blocks
    → MatchResult result (λ read. read ≡ blocks) (λ e. e ≡ NoMemory)
read_once bytes (Ok read) blocks answer is = one_read bytes read blocks answer is
read_once bytes (Err NoMemory) blocks answer is = refl
read_once bytes (Err (Fault fault)) blocks answer is = absurd (no_first_fault bytes blocks fault is answer)

-- a fault of the text is the answer, or there is no memory
pub refused_text : (bytes : List ℕ) (result : Result Blocks StilRefusal) (fault : StilFault)
    → FrontAnswers bytes result → IsFirstFault bytes fault
    → MatchResult result (λ _. ⊥) (λ e. (e ≡ NoMemory) ⊎ (e ≡ Fault fault))
refused_text bytes (Ok read) fault answer is = no_first_fault bytes read fault answer is
refused_text bytes (Err NoMemory) fault answer is = inl refl
refused_text bytes (Err (Fault told)) fault answer is = inr (ap Fault (one_first_fault bytes told fault answer is))
