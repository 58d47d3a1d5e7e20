use Rattle.std.proofs.Common.{◌≡◌, ◌⊎◌, List, sym, subst}
use Rattle.stil_lex.specs.Faults.{IsFaultBehind}
use Rattle.stil_lex.specs.declared.token.Token.{Token}
use Rattle.stil_lex.specs.declared.fault.LexFault.TheVariants.{NoMemory}
use Rattle.stil_lex.proofs.lexer.lex_front.Goals as goal

pub returns-in-Err-clause-fault : goal.returns-in-Err-clause-fault
returns-in-Err-clause-fault c =
    subst (λ (read : List Token). (c.in-Err.fault ≡ NoMemory) ⊎ IsFaultBehind c.args.bytes.now read c.in-Err.fault)
    (sym c.from_vec-in-Err.ensures) c.in-Err.ensures
