use Rattle.std.proofs.Common.{◌∙◌, sym, ap}
use Rattle.tester_types.specs.Records.{records_of}
use Rattle.lot_plan.specs.Bound.{Bound}
use Rattle.datalog.specs.DatalogText.{lot_text}
use Rattle.tool_inputs.specs.declared.status.Status.TheVariants.{Done}
use Rattle.stil_tool.proofs.RunLemmas.{sound_so, written_so}
use Rattle.tool_inputs.proofs.EndLemmas.{ends_whole, ends_front}
use Rattle.stil_tool.proofs.lot.run.Goals as goal

pub print_lot-requires-clause-program : goal.print_lot-requires-clause-program
print_lot-requires-clause-program g c =
    ap (λ (b : Bound). b.program) c.in-Ok.ensures.plan ∙ sym (c.code.ensures ∙ c.in-Ok.ensures.program)

pub print_lot-requires-clause-sound : goal.print_lot-requires-clause-sound
print_lot-requires-clause-sound g c =
    sound_so _ c.args.lot.plan _ _ c.in-Ok.tested.book c.in-Ok.tested.plan c.in-Ok.ensures.book c.in-Ok.ensures.plan
    c.requires.enough

pub returns-in-Ok-print_lot : goal.returns-in-Ok-print_lot
returns-in-Ok-print_lot g c = record {
  status = Done;
  text = lot_text c.code.result.now c.in-Ok.tested.plan (records_of c.in-Ok.tested.book);
  wanted = record {
    book = c.in-Ok.tested.book;
    is = c.in-Ok.ensures.book;
    written = written_so c.args.lot.plan c.in-Ok.tested.book c.code.result.now c.in-Ok.tested.plan
        c.in-Ok.ensures.plan (c.code.ensures ∙ c.in-Ok.ensures.program);
  };
  ends = ends_whole c.in-Ok-print_lot.ensures;
}

pub returns : goal.returns
returns g c = record {
  status = Done;
  text = lot_text c.code.result.now c.in-Ok.tested.plan (records_of c.in-Ok.tested.book);
  wanted = record {
    book = c.in-Ok.tested.book;
    is = c.in-Ok.ensures.book;
    written = written_so c.args.lot.plan c.in-Ok.tested.book c.code.result.now c.in-Ok.tested.plan
        c.in-Ok.ensures.plan (c.code.ensures ∙ c.in-Ok.ensures.program);
  };
  ends = ends_front c.in-Err.ensures;
}
