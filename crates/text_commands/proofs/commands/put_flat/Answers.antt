use Rattle.std.proofs.Common.{◌≡◌, ℕ, List, sym, subst}
use Rattle.packed_code.specs.Program.{Program}
use Rattle.flat_stil.specs.FlatFault.{IsFlat, MeansSame}
use Rattle.tool_inputs.specs.declared.status.Status.TheVariants.{Done}
use Rattle.text_commands.specs.FlatWants.{flat_status, flat_line}
use Rattle.text_commands.proofs.CommandLemmas.{want_fault}
use Rattle.tool_inputs.proofs.EndLemmas.{ends_whole, ends_front}
use Rattle.text_commands.proofs.commands.put_flat.Goals as goal

-- what is written is flat, and means the same
written : (code : Program) (text bytes : List ℕ) → text ≡ bytes → IsFlat code text → MeansSame code text
    → IsFlat code bytes × MeansSame code bytes
written code text bytes is flat same = (subst (IsFlat code) is flat, subst (MeansSame code) is same)

pub returns-in-Ok-put_all : goal.returns-in-Ok-put_all
returns-in-Ok-put_all g c = record {
  status = Done;
  text = c.as_slice.result.now;
  wanted = written c.args.code.now _ _ (sym c.as_slice.ensures) c.in-Ok.ensures.found c.in-Ok.ensures.same;
  ends = ends_whole c.in-Ok-put_all.ensures;
}

pub returns-in-Ok : goal.returns-in-Ok
returns-in-Ok g c = record {
  status = Done;
  text = c.as_slice.result.now;
  wanted = written c.args.code.now _ _ (sym c.as_slice.ensures) c.in-Ok.ensures.found c.in-Ok.ensures.same;
  ends = ends_front c.in-Err-put_all.ensures;
}

pub returns : goal.returns
returns g c = record {
  status = flat_status c.in-Err.fault;
  text = flat_line c.args.file.now c.in-Err.fault;
  wanted =
      want_fault c.args.file.now c.args.code.now c.in-Err.fault c.signals-conditions.ensures.conditions c.in-Err.ensures.cause c.in-Err.ensures.limit;
  ends = c.put_flat_fault.ensures;
}
