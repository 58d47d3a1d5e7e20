use Rattle.std.proofs.Common.{◌∙◌, Some, None, ap}
use Rattle.std.proofs.lemmas.List.{append-nil}
use Rattle.edge_gen.specs.Moments.{push_of, look_of}
use Rattle.edge_gen.proofs.GroupLemmas.{drives-more, looks-more}
use Rattle.edge_gen.proofs.moments.moment.Goals as goal
use Rattle.edge_gen.proofs.moments.moment.Goals.{in-Push+in_ok-put_drive-in-Push, in-Look+in_ok-push-in-Look}

pub loop-event-preserved : goal.loop-event-preserved
loop-event-preserved c =
    let events = c.args.events.now in
    let i = c.loop-event.event-index in
    let before = c.loop-event.invariant in
    elim c.match-event.branch [
      | in-Push+in_ok-put_drive-in-Push w ↦
          let put = w.in_ok-put_drive-in-Push.ensures in
          let drives = drives-more events i _ (Some w.in-Push.push) c.loop-event-test.true (ap push_of w.in-Push.is) in
          let looks = looks-more events i _ None c.loop-event-test.true (ap look_of w.in-Push.is)
          ∙ append-nil _ in
          (cc, cc)
      | in-Look+in_ok-push-in-Look w ↦
          let put = w.in_ok-push-in-Look.ensures.items in
          let drives = drives-more events i _ None c.loop-event-test.true (ap push_of w.in-Look.is) in
          let looks = looks-more events i _ (Some w.in-Look.look) c.loop-event-test.true (ap look_of w.in-Look.is) in
          (cc, cc)
    ]
