use Rattle.std.proofs.Common.{◌≡◌, drop}
use Rattle.std.specs.List.{list_any}
use Rattle.text_bytes.specs.Texts.{behind}
use Rattle.stil_ast.specs.Data.Texts.{same}
use Rattle.stil_ast.specs.declared.scan.ChainDecl.{ChainDecl}
use Rattle.scan_chain.proofs.checking.has_name.Given as goal

abbrev pub invariant-loop-decl : goal.invariant-loop-decl
invariant-loop-decl l =
    list_any (λ (b : ChainDecl). same b.name l.name) (behind (drop l.decl-index l.before))
    ≡ list_any (λ (b : ChainDecl). same b.name l.name) (behind l.before)
