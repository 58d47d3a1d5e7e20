use Rattle.std.proofs.Common.{[], ◌∷◌, sym, subst}
use Rattle.bench_net.specs.declared.gate.GateKind.{GateKind}
use Rattle.bench_net.specs.Gates.{level_at, gate_of}
use Rattle.die_words.specs.Lane.{Shows}
use Rattle.die_words.specs.Pairs.{both, either, differ}
use Rattle.die_words.proofs.gates.two_word.Goals as goal

pub returns-in-And : goal.returns-in-And
returns-in-And c = λ k v m n p q.
    subst (λ (t : GateKind). Shows c.both.result k (gate_of t v (m ∷ n ∷ []))) (sym c.in-And.is)
    (c.both.ensures k (level_at v m) (level_at v n) p q)

pub returns-in-Nand : goal.returns-in-Nand
returns-in-Nand c = λ k v m n p q.
    subst (λ (t : GateKind). Shows c.negated.result k (gate_of t v (m ∷ n ∷ []))) (sym c.in-Nand.is)
    (c.negated.ensures k (both (level_at v m) (level_at v n)) (c.both-in-Nand.ensures k (level_at v m) (level_at v n) p q))

pub returns-in-Or : goal.returns-in-Or
returns-in-Or c = λ k v m n p q.
    subst (λ (t : GateKind). Shows c.either.result k (gate_of t v (m ∷ n ∷ []))) (sym c.in-Or.is)
    (c.either.ensures k (level_at v m) (level_at v n) p q)

pub returns-in-Nor : goal.returns-in-Nor
returns-in-Nor c = λ k v m n p q.
    subst (λ (t : GateKind). Shows c.negated-in-Nor.result k (gate_of t v (m ∷ n ∷ []))) (sym c.in-Nor.is)
    (c.negated-in-Nor.ensures k (either (level_at v m) (level_at v n)) (c.either-in-Nor.ensures k (level_at v m) (level_at v n) p q))

pub returns-in-Xor : goal.returns-in-Xor
returns-in-Xor c = λ k v m n p q.
    subst (λ (t : GateKind). Shows c.differ.result k (gate_of t v (m ∷ n ∷ []))) (sym c.in-Xor.is)
    (c.differ.ensures k (level_at v m) (level_at v n) p q)

pub returns-in-Xnor : goal.returns-in-Xnor
returns-in-Xnor c = λ k v m n p q.
    subst (λ (t : GateKind). Shows c.negated-in-Xnor.result k (gate_of t v (m ∷ n ∷ []))) (sym c.in-Xnor.is)
    (c.negated-in-Xnor.ensures k (differ (level_at v m) (level_at v n)) (c.differ-in-Xnor.ensures k (level_at v m) (level_at v n) p q))

pub returns-in-Not : goal.returns-in-Not
returns-in-Not c = λ k v m n p q.
    subst (λ (t : GateKind). Shows c.negated-in-Not.result k (gate_of t v (m ∷ n ∷ []))) (sym c.in-Not.is)
    (c.negated-in-Not.ensures k (level_at v m) p)
