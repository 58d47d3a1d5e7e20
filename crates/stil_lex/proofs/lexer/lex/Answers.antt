use Rattle.std.proofs.Common.{◌∙◌, inl, inr}
use Rattle.stil_lex.proofs.Readings.{one_token_list, tokens_or_refusal, one_fault}
use Rattle.stil_lex.proofs.lexer.lex.Goals as goal

pub returns-in-Err-clause-only : goal.returns-in-Err-clause-only
returns-in-Err-clause-only c = λ tokens reads.
    elim (c.in-Err.ensures) [ inl none ↦ none | inr f ↦ absurd (tokens_or_refusal c.args.bytes.now tokens _ reads f.0.here) ]

pub returns-in-Err-clause-fault : goal.returns-in-Err-clause-fault
returns-in-Err-clause-fault c = elim (c.in-Err.ensures) [ inl none ↦ inl none | inr f ↦ inr f.0 ]

pub returns-in-Err-clause-refused : goal.returns-in-Err-clause-refused
returns-in-Err-clause-refused c = λ fault is.
    elim (c.in-Err.ensures) [ inl none ↦ inl none | inr f ↦ inr (one_fault c.args.bytes.now _ fault f.0 is) ]

pub returns-in-Ok-clause-only : goal.returns-in-Ok-clause-only
returns-in-Ok-clause-only c = λ tokens reads.
    c.from_vec.ensures ∙ one_token_list c.args.bytes.now c.read_onto.new.tokens.items tokens c.in-Ok.ensures reads

pub returns-in-Ok-clause-refused : goal.returns-in-Ok-clause-refused
returns-in-Ok-clause-refused c = λ fault is.
    tokens_or_refusal c.args.bytes.now c.read_onto.new.tokens.items fault c.in-Ok.ensures is.here
