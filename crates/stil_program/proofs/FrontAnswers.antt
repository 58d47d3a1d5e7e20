-- What the readers answer is told of the text.
use Rattle.std.proofs.Common.{◌≡◌, ◌⊎◌, ◌≤◌, ℕ, List, length, Result, Ok, Err, refl, sym, subst, ◌∙◌, inl, inr}
use Rattle.std.specs.Prelude.{IfOk, IfErr}
use Rattle.text_bytes.specs.Limits.{most_bytes}
use Rattle.stil_lex.specs.declared.token.Token.{Token}
use Rattle.stil_lex.specs.declared.fault.LexFault.{LexFault}
use Rattle.stil_lex.specs.declared.fault.LexFault.TheVariants as lexical
use Rattle.stil_lex.specs.Tokens.{Reads}
use Rattle.stil_lex.specs.Faults as tokens
use Rattle.stil_tree.specs.Trees.{Trees, entries}
use Rattle.stil_tree.specs.Grammar.{Parses}
use Rattle.stil_tree.specs.Faults as statements
use Rattle.stil_tree.specs.declared.fault.TreeFault.{TreeFault}
use Rattle.stil_tree.specs.declared.fault.TreeFault.TheVariants as tree
use Rattle.stil_ast.specs.declared.blocks.Blocks.{Blocks}
use Rattle.stil_ast.specs.Data.Refusal.{StilRefusal}
use Rattle.answers.specs.declared.short.Short.TheVariants.{NoMemory, Fault}
use Rattle.stil_ast.specs.Data.OneText.{AreOfOneText}
use Rattle.stil_ast.specs.Faults.FrontFaults.{read_as}
use Rattle.stil_read.specs.Top.{blocks_of}
use Rattle.stil_read.specs.Text.{IsTextFault}
use Rattle.stil_read.proofs.OneTextLemmas.{blocks_are_of_one_text}
use Rattle.stil_program.specs.Places.{Tells}
use Rattle.stil_program.specs.TokenFaults as lexed
use Rattle.stil_program.specs.StatementFaults.{IsToldOf, IsStatementFault}
use Rattle.stil_program.specs.Front.{of_tokens, of_statements, of_blocks, IsFront, IsRefusedFor, FrontAnswers}

-- a fault of tokens that is told
pub tells_token : (bytes : List ℕ) (read : List Token) (fault which : LexFault) (result : StilRefusal) → fault ≡ which
    → (fault ≡ lexical.NoMemory) ⊎ tokens.IsFaultBehind bytes read fault → (which ≡ lexical.NoMemory → ⊥)
    → Tells (lexed.IsToldOf bytes read which) result → Tells (lexed.IsTokenFault bytes) result
tells_token bytes read fault which result same (inl none) some told = absurd (some (sym same ∙ none))
tells_token bytes read fault which NoMemory same (inr is) some told = tt
tells_token bytes read fault which (Fault f) same (inr is) some told =
    let here = subst (tokens.IsFaultBehind bytes read) same is in
    record { which = which; refused = here.0; told = subst (λ (ts : List Token). lexed.IsToldOf bytes ts which f) here.1 told }

-- a fault of statements that is told
pub tells_statement : (bytes : List ℕ) (ts : List Token) (fault which : TreeFault) (result : StilRefusal)
    → fault ≡ which → (fault ≡ tree.NoMemory) ⊎ statements.IsFault ts fault → (which ≡ tree.NoMemory → ⊥)
    → Tells (λ f. IsToldOf bytes ts which f) result → Tells (IsStatementFault bytes ts) result
tells_statement bytes ts fault which result same (inl none) some told = absurd (some (sym same ∙ none))
tells_statement bytes ts fault which NoMemory same (inr is) some told = tt
tells_statement bytes ts fault which (Fault f) same (inr is) some told =
    record { which = which; refused = subst (statements.IsFault ts) same is; told = told }

-- a text without tokens
pub tokens_answer : (bytes : List ℕ) (refusal : StilRefusal) → Tells (lexed.IsTokenFault bytes) refusal
    → FrontAnswers bytes (Err refusal)
tokens_answer bytes NoMemory told = tt
tokens_answer bytes (Fault f) told = of_tokens told

-- tokens without statements
pub statements_answer : (bytes : List ℕ) (ts : List Token) (refusal : StilRefusal) → Reads bytes ts
    → Tells (IsStatementFault bytes ts) refusal → FrontAnswers bytes (Err refusal)
statements_answer bytes ts NoMemory reads told = tt
statements_answer bytes ts (Fault f) reads told = of_statements ts reads told

-- statements
pub blocks_answer : (bytes : List ℕ) (ts : List Token) (forest : Trees) (result : Result Blocks StilRefusal)
    → Reads bytes ts → Parses ts forest → IfOk result (λ read. blocks_of bytes ts (entries forest) ≡ Ok read)
    → IfErr result (λ e. (e ≡ NoMemory) ⊎ IsTextFault bytes ts (entries forest) e) → FrontAnswers bytes result
blocks_answer bytes ts forest (Ok read) reads parses found fault =
    record { tokens = ts; forest = forest; reads = reads; parses = parses; are = found }
blocks_answer bytes ts forest (Err NoMemory) reads parses found fault = tt
blocks_answer bytes ts forest (Err (Fault f)) reads parses found (inl none) = cc
blocks_answer bytes ts forest (Err (Fault f)) reads parses found (inr is) = of_blocks ts forest reads parses is

-- blocks that are read are of one text
pub are_of_one_text : (bytes : List ℕ) (result : Result Blocks StilRefusal) → length bytes ≤ most_bytes
    → FrontAnswers bytes result → IfOk result (λ blocks. AreOfOneText blocks)
are_of_one_text bytes (Ok blocks) short r =
    blocks_are_of_one_text bytes r.tokens r.forest blocks short r.reads r.parses r.are
are_of_one_text bytes (Err e) short r = tt

-- blocks that are read are those of the text
pub found_text : (bytes : List ℕ) (result : Result Blocks StilRefusal) → FrontAnswers bytes result
    → IfOk result (λ blocks. IsFront bytes (read_as blocks))
found_text bytes (Ok blocks) r = r
found_text bytes (Err e) r = tt

-- a refusal is told, or want of memory
pub fault_text : (bytes : List ℕ) (result : Result Blocks StilRefusal) → FrontAnswers bytes result
    → IfErr result (λ e. (e ≡ NoMemory) ⊎ IsRefusedFor bytes e)
fault_text bytes (Ok blocks) r = tt
fault_text bytes (Err NoMemory) r = inl refl
fault_text bytes (Err (Fault f)) r = inr r
