use Rattle.std.proofs.Common.{◌≡◌, ℕ, ◌==◌, cond, subst, length, arith, sym, ap, ◌∙◌}
use Rattle.std.proofs.lemmas.List.{length-map}
use Rattle.std.specs.Prelude.{slice_set}
use Rattle.pattern_order.specs.Held.{played_by, played_in}
use Rattle.pattern_order.specs.Marks.{fresh_of, Passes}
use Rattle.pattern_order.specs.declared.walk.Mark.{Mark}
use Rattle.pattern_order.specs.declared.walk.Mark.TheVariants.{Fresh, Closed}
use Rattle.pattern_order.proofs.PlayLemmas.{play-closes, play-goes}
use Rattle.pattern_order.proofs.playing.play_next.Goals as goal

pub returns-then-frame-len-clause-plays : goal.returns-then-frame-len-clause-plays
returns-then-frame-len-clause-plays c =
    let count : c.len-then-frame-len.result ≡ length c.args.patterns.now.items = grind (arith, c.len-then-frame-len.ensures) in
    play-closes c.args.walk.now.names.now (played_in c.args.patterns.now.items) c.args.walk.now.marks.items c.args.frame
    c.args.walk.now.frames.items c.close.new.self.marks.items c.close.new.self.frames.items (length c.args.patterns.now.items)
    (sym (length-map c.args.patterns.now.items played_by)) c.requires (grind (arith, c.if-frame-len.true, c.len.ensures))
    (c.close.ensures.marks ∙ ap (λ (m : Mark). slice_set c.args.walk.now.marks.items c.args.frame.number m)
    (c.mark_behind.ensures ∙ ap (λ (n : ℕ). cond (c.args.frame.begun == n) Closed Fresh) count)) c.close.ensures.frames

pub returns-clause-plays : goal.returns-clause-plays
returns-clause-plays c =
    let count : c.len-2.result ≡ length c.play.new.patterns.items = grind (arith, c.len-2.ensures) in
    play-goes c.args.walk.now.names.now (played_in c.args.patterns.now.items) c.args.walk.now.marks.items c.args.frame
    c.args.walk.now.frames.items c.next_in-step.result (played_in c.play.new.patterns.items) c.pass.new.self.marks.items
    c.pass.new.self.frames.items (length c.args.patterns.now.items) (length c.play.new.patterns.items)
    (sym (length-map c.args.patterns.now.items played_by)) (sym (length-map c.play.new.patterns.items played_by)) c.requires
    c.next_in-step.ensures c.in_ok-play.ensures
    (subst (λ (n : ℕ). Passes c.args.walk.now.names.now (fresh_of c.args.walk.now.marks.items c.next_in-step.result.meaning) c.args.frame
    c.next_in-step.result n c.args.walk.now.marks.items c.args.walk.now.frames.items c.pass.new.self.marks.items c.pass.new.self.frames.items)
    count c.in_ok-pass.ensures.passes)
