use Rattle.std.proofs.Common.{List, subst}
use Rattle.stil_lex.specs.declared.token.Token.{Token}
use Rattle.stil_tree.specs.declared.fault.TreeFault.TheVariants.{OpenBlock, OpenStatement, StrayClose, TooDeep}
use Rattle.stil_form.specs.Setting.{line_at}
use Rattle.stil_ast.specs.declared.fault.StilKind.TheVariants as stil
use Rattle.stil_program.specs.Places.{IsToldBehind, Tells}
use Rattle.stil_program.proofs.FrontAnswers.{tells_statement}
use Rattle.stil_program.proofs.statements.statements_refused.Goals as goal

pub returns-in-OpenBlock : goal.returns-in-OpenBlock
returns-in-OpenBlock c =
    tells_statement c.args.bytes.now c.args.tokens.now c.args.fault (OpenBlock c.in-OpenBlock.brace) c.told_at.result
    c.in-OpenBlock.is c.requires (λ clash. cc) c.told_at.ensures

pub returns-in-OpenStatement : goal.returns-in-OpenStatement
returns-in-OpenStatement c =
    let told = subst (λ (ts : List Token). Tells (IsToldBehind c.args.bytes.now ts stil.OpenStatement (line_at c.args.tokens.now c.in-OpenStatement.first)) c.told_at-in-OpenStatement.result)
    c.before_close.ensures c.told_at-in-OpenStatement.ensures in
    tells_statement c.args.bytes.now c.args.tokens.now c.args.fault (OpenStatement c.in-OpenStatement.first)
    c.told_at-in-OpenStatement.result c.in-OpenStatement.is c.requires (λ clash. cc) told

pub returns-in-StrayClose : goal.returns-in-StrayClose
returns-in-StrayClose c =
    let told = subst (λ (ts : List Token). Tells (IsToldBehind c.args.bytes.now ts stil.StrayClose (line_at c.args.tokens.now c.in-StrayClose.place)) c.told_at-in-StrayClose.result)
    c.upto.ensures c.told_at-in-StrayClose.ensures in
    tells_statement c.args.bytes.now c.args.tokens.now c.args.fault (StrayClose c.in-StrayClose.place)
    c.told_at-in-StrayClose.result c.in-StrayClose.is c.requires (λ clash. cc) told

pub returns-in-TooDeep : goal.returns-in-TooDeep
returns-in-TooDeep c =
    let told = subst (λ (ts : List Token). Tells (IsToldBehind c.args.bytes.now ts stil.TooDeep (line_at c.args.tokens.now c.in-TooDeep.place)) c.told_at-in-TooDeep.result)
    c.upto-in-TooDeep.ensures c.told_at-in-TooDeep.ensures in
    tells_statement c.args.bytes.now c.args.tokens.now c.args.fault (TooDeep c.in-TooDeep.place)
    c.told_at-in-TooDeep.result c.in-TooDeep.is c.requires (λ clash. cc) told
