use Rattle.std.proofs.Common.{◌≡◌, ◌⊎◌, ◌≤◌, List, length, sym, subst, arith}
use Rattle.stil_lex.specs.declared.token.Token.{Token}
use Rattle.stil_lex.specs.Tokens.{Reads}
use Rattle.stil_lex.specs.Faults.{IsFaultBehind}
use Rattle.stil_lex.specs.declared.fault.LexFault.TheVariants.{NoMemory}
use Rattle.text_bytes.specs.Limits.{most_bytes}
use Rattle.stil_program.proofs.TokenLemmas.{few_tokens}
use Rattle.stil_program.proofs.FrontAnswers.{tokens_answer}
use Rattle.stil_program.proofs.reading.read_bytes.Goals as goal

pub read_tokens-requires-clause-reads : goal.read_tokens-requires-clause-reads
read_tokens-requires-clause-reads c =
    subst (λ (ts : List Token). Reads c.args.bytes.now ts) (sym c.as_slice.ensures) c.in-Ok.ensures.found

pub read_tokens-requires-clause-few : goal.read_tokens-requires-clause-few
read_tokens-requires-clause-few c =
    subst (λ (ts : List Token). length ts ≤ most_bytes) (sym c.as_slice.ensures)
    (omega (arith, few_tokens c.args.bytes.now c.in-Ok.tokens c.in-Ok.ensures.found, c.requires))

pub returns-in-Err : goal.returns-in-Err
returns-in-Err c = tokens_answer c.args.bytes.now c.tokens_refused.result c.tokens_refused.ensures

pub tokens_refused-requires-clause-is : goal.tokens_refused-requires-clause-is
tokens_refused-requires-clause-is c =
    subst (λ (ts : List Token). (c.in-Err.stop.fault ≡ NoMemory) ⊎ IsFaultBehind c.args.bytes.now ts c.in-Err.stop.fault)
    (sym c.as_slice-in-Err.ensures) c.in-Err.ensures.fault
