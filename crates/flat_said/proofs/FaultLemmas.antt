-- The fault of a flat text whose statements nest too deep.
use Rattle.std.proofs.Common.{◌≡◌, ℕ, false, List, subst}
use Rattle.stil_lex.specs.declared.token.Token.{Token}
use Rattle.stil_tree.specs.declared.fault.TreeFault.{TreeFault}
use Rattle.stil_tree.specs.declared.fault.TreeFault.TheVariants as tree
use Rattle.stil_ast.specs.declared.fault.StilKind.TheVariants.{TooDeep}
use Rattle.stil_ast.specs.declared.fault.StilFault.{StilFault}
use Rattle.stil_program.specs.StatementFaults.{IsToldOf, IsStatementFault}
use Rattle.packed_code.specs.Program.{Program}
use Rattle.line_texts.specs.Tests.{fits}
use Rattle.flat_parts.specs.Nests.{Nest}
use Rattle.flat_said.specs.FlatSaid.{flat_said}
use Rattle.flat_said.specs.Laws.{flat_tokens}
use Rattle.flat_said.proofs.DeepLemmas.{deep_is_fault}
use Rattle.flat_said.proofs.ShapeLemmas.{flat_shaped}

-- what is told of it
told_deep : (bytes : List ℕ) (tokens : List Token) (fault : StilFault) (which : TreeFault) → (place : ℕ) × (which ≡ tree.TooDeep place)
    → IsToldOf bytes tokens which fault → fault.kind ≡ TooDeep
told_deep bytes tokens fault which (place, is) told = (subst (λ (w : TreeFault). IsToldOf bytes tokens w fault) is told).is_kind

-- the fault of the flat text's tokens
pub flat_refused : (code : Program) (nests : ℕ → Nest) → fits 0 (flat_said code nests) ≡ false → (bytes : List ℕ) (fault : StilFault)
    → IsStatementFault bytes (flat_tokens code nests) fault → fault.kind ≡ TooDeep
flat_refused code nests deep bytes fault is =
    told_deep bytes (flat_tokens code nests) fault is.which
    (deep_is_fault (flat_said code nests) (flat_shaped code nests) deep is.which is.refused) is.told
