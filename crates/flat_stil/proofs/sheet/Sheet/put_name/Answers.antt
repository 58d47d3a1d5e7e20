use Rattle.std.proofs.Common.{[], ◌∷◌}
use Rattle.flat_stil.proofs.SheetLemmas.{three_texts}
use Rattle.flat_stil.proofs.sheet.Sheet.put_name.Goals as goal

pub returns : goal.returns
returns c =
    three_texts c.args.self.now c.put.new.self c.put-2.new.self c.put-3.new.self (34 ∷ []) c.args.name.now (34 ∷ []) c.put.ensures c.put-2.ensures c.put-3.ensures
