use Rattle.std.proofs.Common.{refl, ap}
use Rattle.lot_plan.proofs.GroupLemmas.{site-below}
use Rattle.vcd_text.specs.Dump.{dump_of}
use Rattle.vcd_dump.specs.Taken.{vars_of}
use Rattle.tool_inputs.specs.declared.status.Status.TheVariants.{Done}
use Rattle.stil_tool.specs.Dump.DumpRunWants.{is_written}
use Rattle.tool_inputs.proofs.EndLemmas.{ends_whole, ends_front}
use Rattle.stil_tool.proofs.dump.run.Goals as goal

pub tape_of-requires-clause-site : goal.tape_of-requires-clause-site
tape_of-requires-clause-site g c = site-below c.args.lot.now.plan.rows c.args.site 0 c.requires.die

pub write_dump-requires-clause-site : goal.write_dump-requires-clause-site
write_dump-requires-clause-site g c = site-below c.args.lot.now.plan.rows c.args.site 0 c.requires.die

pub returns-in-Ok-write_dump : goal.returns-in-Ok-write_dump
returns-in-Ok-write_dump g c = record {
  status = Done;
  text = dump_of (vars_of c.args.lot.now.plan c.args.site) c.in-Ok.tape.calls;
  wanted = is_written refl c.in-Ok.ensures.few (ap (dump_of (vars_of c.args.lot.now.plan c.args.site)) c.in-Ok.ensures.calls);
  ends = ends_whole c.in-Ok-write_dump.ensures;
}

pub returns : goal.returns
returns g c = record {
  status = Done;
  text = dump_of (vars_of c.args.lot.now.plan c.args.site) c.in-Ok.tape.calls;
  wanted = is_written refl c.in-Ok.ensures.few (ap (dump_of (vars_of c.args.lot.now.plan c.args.site)) c.in-Ok.ensures.calls);
  ends = ends_front c.in-Err.ensures;
}
