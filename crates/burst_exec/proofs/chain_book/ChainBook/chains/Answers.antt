use Rattle.std.proofs.Common.{sym, ◌∙◌}
use Rattle.std.proofs.lemmas.Option.{same_Some}
use Rattle.burst_exec.specs.Booked.{AreChainsOf}
use Rattle.burst_exec.proofs.MadeLemmas.{stands_within}
use Rattle.burst_exec.proofs.chain_book.ChainBook.chains.Goals as goal

pub again-requires : goal.again-requires
again-requires c =
    let s = c.requires.booked.each c.args.title.now c.in-Some.number (sym c.in-Some.ensures) in
    stands_within (AreChainsOf c.args.blocks.now) c.args.self.now.made.items c.args.title.now c.in-Some.number s

pub returns-in-Some-clause-scans : goal.returns-in-Some-clause-scans
returns-in-Some-clause-scans c =
    let s = c.requires.booked.each c.args.title.now c.in-Some.number (sym c.in-Some.ensures) in
    (s.is.0, same_Some c.in_ok-again.field-0 s.item (sym c.in_ok-again.ensures ∙ s.there) ∙ s.is.1)
