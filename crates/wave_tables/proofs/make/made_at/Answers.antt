use Rattle.wave_tables.proofs.make.made_at.Goals as goal

pub made_table-requires-clause-has : goal.made_table-requires-clause-has
made_table-requires-clause-has c =
    c.requires.wholes.have c.args.number c.in-Some.whole.now c.in-Some.ensures c.requires.free
