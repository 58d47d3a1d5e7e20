use Rattle.std.proofs.Common.{◌∙◌, ◌++◌, ap, sym, ◌+◌, refl, length}
use Rattle.part_lines.specs.Lines.{ended}
use Rattle.part_lines.specs.Reading.{Reading}
use Rattle.part_lines.proofs.ReadingLemmas.{passes_from}
use Rattle.part_lines.proofs.lines.Lines.pass.Goals as goal

pub invariant_of-self : goal.invariant_of-self
invariant_of-self c =
    let i = c.self.inside in
    let p = passes_from i.text.now c.args.line.now i.at (i.at + (length c.args.line.now + 1)) c.args.self.now c.self.view_is c.self.invariant.0 refl c.requires in
    (p.within, p.lines, ap (λ n. n + 1) (c.self.invariant.2 ∙ sym p.number))

pub returns-clause-front : goal.returns-clause-front
returns-clause-front c =
    let i = c.self.inside in
    let p = passes_from i.text.now c.args.line.now i.at (i.at + (length c.args.line.now + 1)) c.args.self.now c.self.view_is c.self.invariant.0 refl c.requires in
    p.front ∙ ap (λ (r : Reading). r.front ++ ended c.args.line.now) c.self.view_is

pub returns-clause-rest : goal.returns-clause-rest
returns-clause-rest c =
    let i = c.self.inside in
    let p = passes_from i.text.now c.args.line.now i.at (i.at + (length c.args.line.now + 1)) c.args.self.now c.self.view_is c.self.invariant.0 refl c.requires in
    sym (ap (λ (r : Reading). r.rest) c.self.view_is) ∙ p.rest
