use Rattle.std.proofs.Common.{refl}
use mir.Val.{SFits}
use mir.Syntax.{w128}
use Rattle.std.proofs.lemmas.Int.{to_z-of_z}
use Rattle.wave_tables.specs.Scope.{timed}
use Rattle.wave_tables.proofs.ScopeLemmas.{refused_time}
use Rattle.wave_tables.proofs.scope.Scope.time.Goals as goal

pub returns-in-Ok : goal.returns-in-Ok
returns-in-Ok c =
    let inside = rw c.in-Ok.is at c.time_of.type_inv in
    let fits : SFits w128 c.in-Ok.time = record { sfits = inside.1.1.1.1.0.1 } in
    rw (to_z-of_z w128 c.in-Ok.time fits) (record {
      time = c.in-Ok.ensures.found (timed c.args.self.now).vars (timed c.args.self.now).place c.args.self.now.all_vars;
      line = refl;
    })

pub returns-in-Err-Refused : goal.returns-in-Err-Refused
returns-in-Err-Refused c =
    let h = rw c.in-Err-Refused.field-0-is at c.in-Err-Refused.ensures.fault in
    record {
      time = refused_time _ _ _ (timed c.args.self.now).vars (timed c.args.self.now).place h c.args.self.now.all_vars;
      line = refl;
    }
