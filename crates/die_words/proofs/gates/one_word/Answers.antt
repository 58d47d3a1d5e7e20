use Rattle.std.proofs.Common.{[], ◌∷◌, sym, subst}
use Rattle.bench_net.specs.declared.gate.GateKind.{GateKind}
use Rattle.bench_net.specs.Gates.{level_at, gate_of}
use Rattle.die_words.specs.Lane.{Shows}
use Rattle.die_words.proofs.GateLemmas.{not_and, not_or, not_xor}
use Rattle.die_words.proofs.gates.one_word.Goals as goal

pub returns-in-Nand : goal.returns-in-Nand
returns-in-Nand c = λ k v n h.
    subst (λ (t : GateKind). Shows c.negated.result k (gate_of t v (n ∷ []))) (sym c.in-Nand.is)
    (not_and c.negated.result k (level_at v n) (c.negated.ensures k (level_at v n) h))

pub returns-in-Nor : goal.returns-in-Nor
returns-in-Nor c = λ k v n h.
    subst (λ (t : GateKind). Shows c.negated-in-Nor.result k (gate_of t v (n ∷ []))) (sym c.in-Nor.is)
    (not_or c.negated-in-Nor.result k (level_at v n) (c.negated-in-Nor.ensures k (level_at v n) h))

pub returns-in-Xnor : goal.returns-in-Xnor
returns-in-Xnor c = λ k v n h.
    subst (λ (t : GateKind). Shows c.negated-in-Xnor.result k (gate_of t v (n ∷ []))) (sym c.in-Xnor.is)
    (not_xor c.negated-in-Xnor.result k (level_at v n) (c.negated-in-Xnor.ensures k (level_at v n) h))

pub returns-in-Not : goal.returns-in-Not
returns-in-Not c = λ k v n h.
    subst (λ (t : GateKind). Shows c.negated-in-Not.result k (gate_of t v (n ∷ []))) (sym c.in-Not.is)
    (c.negated-in-Not.ensures k (level_at v n) h)
