use Rattle.std.proofs.Common.{length, get_or, sym, subst, ap}
use Rattle.bench_net.specs.declared.gate.GateKind.{GateKind}
use Rattle.bench_net.specs.Gates.{level_at, zeros, ones, and_of, or_of, xor_of, gate_of, is_single}
use Rattle.die_words.specs.Lane.{Shows}
use Rattle.die_words.proofs.GateLemmas.{shows_read}
use Rattle.die_words.proofs.gates.many_word.Goals as goal

pub returns-in-And : goal.returns-in-And
returns-in-And c = λ k v within shows.
    subst (λ (t : GateKind). Shows c.and_word.result k (gate_of t v c.args.pins.now)) (sym c.in-And.is) (c.and_word.ensures k v within shows)

pub returns-in-Nand : goal.returns-in-Nand
returns-in-Nand c = λ k v within shows.
    let pins = c.args.pins.now in
    subst (λ (t : GateKind). Shows c.negated.result k (gate_of t v pins)) (sym c.in-Nand.is)
    (c.negated.ensures k (and_of (zeros v pins) (ones v pins) (length pins)) (c.and_word-in-Nand.ensures k v within shows))

pub returns-in-Or : goal.returns-in-Or
returns-in-Or c = λ k v within shows.
    subst (λ (t : GateKind). Shows c.or_word.result k (gate_of t v c.args.pins.now)) (sym c.in-Or.is) (c.or_word.ensures k v within shows)

pub returns-in-Nor : goal.returns-in-Nor
returns-in-Nor c = λ k v within shows.
    let pins = c.args.pins.now in
    subst (λ (t : GateKind). Shows c.negated-in-Nor.result k (gate_of t v pins)) (sym c.in-Nor.is)
    (c.negated-in-Nor.ensures k (or_of (zeros v pins) (ones v pins) (length pins)) (c.or_word-in-Nor.ensures k v within shows))

pub returns-in-Xor : goal.returns-in-Xor
returns-in-Xor c = λ k v within shows.
    subst (λ (t : GateKind). Shows c.xor_word.result k (gate_of t v c.args.pins.now)) (sym c.in-Xor.is) (c.xor_word.ensures k v within shows)

pub returns-in-Xnor : goal.returns-in-Xnor
returns-in-Xnor c = λ k v within shows.
    let pins = c.args.pins.now in
    subst (λ (t : GateKind). Shows c.negated-in-Xnor.result k (gate_of t v pins)) (sym c.in-Xnor.is)
    (c.negated-in-Xnor.ensures k (xor_of (zeros v pins) (ones v pins) (length pins)) (c.xor_word-in-Xnor.ensures k v within shows))

pub first_word-requires-clause-some : goal.first_word-requires-clause-some
first_word-requires-clause-some c = c.requires.single (ap is_single c.in-Not.is)

pub returns-in-Not : goal.returns-in-Not
returns-in-Not c = λ k v within shows.
    subst (λ (t : GateKind). Shows c.negated-in-Not.result k (gate_of t v c.args.pins.now)) (sym c.in-Not.is)
    (c.negated-in-Not.ensures k (level_at v (get_or c.args.pins.now 0 0)) (c.first_word.ensures k v shows))

pub returns-in-Buf : goal.returns-in-Buf
returns-in-Buf c = λ k v within shows.
    subst (λ (t : GateKind). Shows c.first_word-in-Buf.result k (gate_of t v c.args.pins.now)) (sym c.in-Buf.is)
    (shows_read c.first_word-in-Buf.result k (level_at v (get_or c.args.pins.now 0 0)) (c.first_word-in-Buf.ensures k v shows))
