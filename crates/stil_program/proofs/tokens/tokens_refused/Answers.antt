use Rattle.stil_lex.specs.declared.fault.LexFault.TheVariants.{BadByte, OpenQuote, OpenComment}
use Rattle.stil_program.proofs.TokenLemmas.{answered_within}
use Rattle.stil_program.proofs.FrontAnswers.{tells_token}
use Rattle.stil_program.proofs.tokens.tokens_refused.Goals as goal

pub returns-in-BadByte : goal.returns-in-BadByte
returns-in-BadByte c =
    tells_token c.args.bytes.now c.args.read.now c.args.fault (BadByte c.in-BadByte.at) c.told_at.result c.in-BadByte.is
    c.requires.is (λ clash. cc) c.told_at.ensures

pub returns-in-OpenQuote : goal.returns-in-OpenQuote
returns-in-OpenQuote c =
    tells_token c.args.bytes.now c.args.read.now c.args.fault (OpenQuote c.in-OpenQuote.at) c.told_at-in-OpenQuote.result
    c.in-OpenQuote.is c.requires.is (λ clash. cc) c.told_at-in-OpenQuote.ensures

pub returns-in-OpenComment : goal.returns-in-OpenComment
returns-in-OpenComment c =
    tells_token c.args.bytes.now c.args.read.now c.args.fault (OpenComment c.in-OpenComment.at)
    c.told_at-in-OpenComment.result c.in-OpenComment.is c.requires.is (λ clash. cc) c.told_at-in-OpenComment.ensures

pub told_at-requires-clause-within : goal.told_at-requires-clause-within
told_at-requires-clause-within c =
    answered_within c.args.bytes.now c.args.read.now c.args.fault (BadByte c.in-BadByte.at) c.in-BadByte.is (λ clash. cc)
    c.requires.is

pub told_at-requires-in-OpenQuote-clause-within : goal.told_at-requires-in-OpenQuote-clause-within
told_at-requires-in-OpenQuote-clause-within c =
    answered_within c.args.bytes.now c.args.read.now c.args.fault (OpenQuote c.in-OpenQuote.at) c.in-OpenQuote.is
    (λ clash. cc) c.requires.is

pub told_at-requires-in-OpenComment-clause-within : goal.told_at-requires-in-OpenComment-clause-within
told_at-requires-in-OpenComment-clause-within c =
    answered_within c.args.bytes.now c.args.read.now c.args.fault (OpenComment c.in-OpenComment.at) c.in-OpenComment.is
    (λ clash. cc) c.requires.is
