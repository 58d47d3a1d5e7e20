-- What reading answers of the flat text of a code: the blocks that it says, or a fault of a limit.
use Rattle.std.proofs.Common.{◌≡◌, ◌⊎◌, ℕ, true, false, List, [], Ok, Err, ap, subst, ◌∙◌, inl, inr}
use Rattle.std.proofs.lemmas.Bool.{cases_Bool}
use Rattle.stil_lex.specs.declared.token.Token.{Token}
use Rattle.stil_lex.specs.Tokens.{Reads}
use Rattle.stil_lex.proofs.Readings.{one_token_list}
use Rattle.stil_tree.specs.Trees.{Trees, entries}
use Rattle.stil_tree.specs.Grammar.{Parses}
use Rattle.stil_form.specs.declared.fault.FormFault.TheVariants.{NoMemory, Refused}
use Rattle.stil_ast.specs.Faults.FrontFaults.{Front, refused_by, read_as}
use Rattle.stil_ast.specs.declared.blocks.Blocks.{Blocks}
use Rattle.stil_ast.specs.declared.fault.StilFault.{StilFault}
use Rattle.pat_read.specs.Refusal.{stil_kind}
use Rattle.stil_read.specs.Top.{TextFault, in_statement, nowhere, blocks_of}
use Rattle.stil_read.specs.Text.{IsToldOf}
use Rattle.stil_program.specs.Front.{IsReadAs, IsFirstFault, of_tokens, of_statements, of_blocks, IsFront}
use Rattle.stil_program.specs.StatementFaults.{IsStatementFault}
use Rattle.stil_program.proofs.FrontLemmas.{no_token_fault, no_statement_fault, moved}
use Rattle.packed_code.specs.Program.{Program}
use Rattle.packed_code.specs.Conditions.{IsProgram}
use Rattle.line_texts.specs.Said.{trees_at}
use Rattle.line_texts.specs.Tests.{fits}
use Rattle.line_texts.proofs.TreeLemmas.{said_parses}
use Rattle.flat_parts.specs.FlatText.{flat_text, has_plain_names}
use Rattle.flat_parts.specs.FlatBlocks.{AreFlatBlocks}
use Rattle.flat_parts.specs.Nests.{Nest}
use Rattle.flat_said.specs.FlatSaid.{flat_said}
use Rattle.flat_said.specs.Laws.{AreNests, flat_tokens}
use Rattle.flat_said.proofs.DeepLemmas.{deep_is_no_forest}
use Rattle.flat_said.proofs.FaultLemmas.{flat_refused}
use Rattle.flat_said.proofs.ShapeLemmas.{flat_shaped}
use Rattle.flat_said.proofs.TextLemmas.{nests_of, flat_reads, flat_lexemes}
use Rattle.flat_read.specs.Laws.{IsBeyond, IsReading}
use Rattle.flat_read.proofs.WholeLemmas.{said_is_read}
use Rattle.flat_laws.specs.Laws.{IsLimit}

-- what reading may answer
abbrev pub IsFlatFront : Program → Front → Type 0
IsFlatFront code (refused_by fault) = IsLimit fault.kind
IsFlatFront code (read_as blocks) = AreFlatBlocks code blocks

-- a fault of blocks that is told
told_beyond : (code : Program) (bytes : List ℕ) (tokens : List Token) (which : TextFault) (fault : StilFault)
    → IsBeyond code which → IsToldOf bytes tokens which fault → IsLimit fault.kind
told_beyond code bytes tokens (in_statement (Refused kind first)) fault beyond told =
    inr (inl (told.is_kind ∙ ap stil_kind beyond.0))
told_beyond code bytes tokens (in_statement NoMemory) fault beyond told = absurd beyond
told_beyond code bytes tokens (nowhere kind) fault beyond told = absurd beyond

-- where the nests of a code are known
module _ (code : Program) (nests : ℕ → Nest) (whole : IsProgram code) (plain : has_plain_names code ≡ true) (are : AreNests code nests) where
  abbrev pub text : List ℕ
  text = flat_text code

  abbrev pub tokens : List Token
  tokens = flat_tokens code nests

  abbrev pub forest : Trees
  forest = trees_at 0 (flat_said code nests)

  pub reads : Reads text tokens
  reads = flat_reads code nests whole plain are

  -- what its statements are read as
  pub read : IsReading code (blocks_of text tokens (entries forest))
  read = said_is_read code nests text tokens whole are (flat_lexemes code nests whole plain are)

  pub parses : fits 0 (flat_said code nests) ≡ true → Parses tokens forest
  parses fit = said_parses 0 0 [] (flat_said code nests) fit

  -- the blocks, where it has such
  blocks_are : (blocks : Blocks) → fits 0 (flat_said code nests) ≡ true → IsReadAs text blocks → AreFlatBlocks code blocks
  blocks_are blocks fit r =
      subst (IsReading code)
      (moved (λ ts trees. blocks_of text ts (entries trees) ≡ Ok blocks) text r.tokens tokens r.forest forest r.reads reads r.parses (parses fit) r.are)
      read

  -- the fault, where it has one
  fault_is : (fault : StilFault) → fits 0 (flat_said code nests) ≡ true → IsFirstFault text fault → IsLimit fault.kind
  fault_is fault fit (of_tokens p) = absurd (no_token_fault text tokens fault reads p)
  fault_is fault fit (of_statements ts others p) =
      absurd (no_statement_fault text tokens ts forest fault reads others (parses fit) p)
  fault_is fault fit (of_blocks ts trees others parsed p) =
      let refused = moved (λ us them. blocks_of text us (entries them) ≡ Err p.which) text ts tokens trees forest others reads parsed (parses fit) p.refused in
      told_beyond code text ts p.which fault (subst (IsReading code) refused read) p.told

  -- statements that nest too deep are refused
  deep_is : (fault : StilFault) → fits 0 (flat_said code nests) ≡ false → IsFirstFault text fault → IsLimit fault.kind
  deep_is fault deep (of_tokens p) = absurd (no_token_fault text tokens fault reads p)
  deep_is fault deep (of_statements ts others p) =
      let same : ts ≡ tokens = one_token_list text ts tokens others reads in
      inr (inr (flat_refused code nests deep text fault (subst (λ us. IsStatementFault text us fault) same p)))
  deep_is fault deep (of_blocks ts trees others parsed p) =
      let same : ts ≡ tokens = one_token_list text ts tokens others reads in
      absurd (deep_is_no_forest (flat_said code nests) (flat_shaped code nests) deep trees (subst (λ us. Parses us trees) same parsed))

  no_blocks : (blocks : Blocks) → fits 0 (flat_said code nests) ≡ false → IsReadAs text blocks → ⊥
  no_blocks blocks deep r =
      let same : r.tokens ≡ tokens = one_token_list text r.tokens tokens r.reads reads in
      deep_is_no_forest (flat_said code nests) (flat_shaped code nests) deep r.forest (subst (λ us. Parses us r.forest) same r.parses)

  by_front : (front : Front) → IsFront text front → (fits 0 (flat_said code nests) ≡ true) ⊎ (fits 0 (flat_said code nests) ≡ false)
      → IsFlatFront code front
  by_front (refused_by fault) is (inl fit) = fault_is fault fit is
  by_front (refused_by fault) is (inr deep) = deep_is fault deep is
  by_front (read_as blocks) is (inl fit) = blocks_are blocks fit is
  by_front (read_as blocks) is (inr deep) = absurd (no_blocks blocks deep is)

-- what reading answers
pub front_is : (code : Program) (front : Front) → IsProgram code → has_plain_names code ≡ true → IsFront (flat_text code) front
    → IsFlatFront code front
front_is code front whole plain is =
    let nests = nests_of code whole in
    by_front code nests.0 whole plain nests.1 front is (cases_Bool (fits 0 (flat_said code nests.0)))
