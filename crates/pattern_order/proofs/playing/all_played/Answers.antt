use Rattle.std.proofs.Common.{◌≡◌, ℕ, ◌<◌, length, reverse, arith, sym, ap, subst, ◌∙◌}
use Rattle.std.specs.List.{flat_map}
use Rattle.std.proofs.lemmas.List.{length-map}
use Rattle.pattern_order.specs.Walk.{met, played_at, ahead_in}
use Rattle.pattern_order.specs.Held.{played_by, played_in}
use Rattle.pattern_order.specs.Walks.{HasPlayed}
use Rattle.pattern_order.proofs.BeginLemmas.{starts, play-begins, begins-whole}
use Rattle.pattern_order.proofs.PlayLemmas.{played-on, beyond, all_ran}
use Rattle.pattern_order.proofs.playing.all_played.Goals as goal
use Rattle.pattern_order.proofs.playing.all_played.Goals.{Else-len-gt-MOST_PATTERNS}

pub loop-frame-init : goal.loop-frame-init
loop-frame-init c =
    let s = starts c.args.names.now c.args.number c.in_ok-walk.walk.marks.items c.in_ok-walk.walk.frames.items c.requires.first
    c.in_ok-walk.ensures.begins in (
      c.in_ok-walk.ensures.names,
      rw c.new-patterns.ensures.items (omega arith),
      rw c.new-patterns.ensures.items
          (play-begins c.args.names.now c.args.number c.in_ok-walk.walk.marks.items (reverse c.in_ok-walk.walk.frames.items) s
          c.requires.first c.requires.forward),
      λ b there. rw c.new-patterns.ensures.items
          (ap (flat_map (played_at c.args.names.now)) (begins-whole c.args.names.now c.args.number c.in_ok-walk.walk.marks.items
          (reverse c.in_ok-walk.walk.frames.items) s b there)),
    )

-- the walk has gone on
gone : (c : Else-len-gt-MOST_PATTERNS)
    → HasPlayed c.args.names.now (played_in c.loop-frame.patterns.items) (reverse c.loop-frame.walk.frames.items)
    (played_in c.play_next.new.patterns.items) c.play_next.new.walk.marks.items (reverse c.play_next.new.walk.frames.items)
gone c =
    played-on c.loop-frame.walk.names.now c.args.names.now (played_in c.loop-frame.patterns.items)
    (played_in c.play_next.new.patterns.items) c.pop.new.self.items c.loop-frame.walk.frames.items
    c.in-Some.frame c.play_next.new.walk.marks.items (reverse c.play_next.new.walk.frames.items) c.loop-frame.invariant.0
    c.in-Some.ensures.items c.in_ok-play_next.ensures.plays

pub loop-frame-smaller : goal.loop-frame-smaller
loop-frame-smaller c = (gone c).less

pub loop-frame-preserved : goal.loop-frame-preserved
loop-frame-preserved c = (
  c.in_ok-play_next.ensures.names ∙ c.loop-frame.invariant.0,
  grind (arith, c.if-len-gt-MOST_PATTERNS.false, c.len.ensures),
  (gone c).plays,
  λ b there. sym (gone c).same ∙ c.loop-frame.invariant.3 b there,
)

pub returns-then-len-gt-MOST_PATTERNS : goal.returns-then-len-gt-MOST_PATTERNS
returns-then-len-gt-MOST_PATTERNS c = λ b there.
    let went =
    played-on c.loop-frame.walk.names.now c.args.names.now (played_in c.loop-frame.patterns.items)
    (played_in c.play_next.new.patterns.items) c.pop.new.self.items c.loop-frame.walk.frames.items
    c.in-Some.frame c.play_next.new.walk.marks.items (reverse c.play_next.new.walk.frames.items) c.loop-frame.invariant.0
    c.in-Some.ensures.items c.in_ok-play_next.ensures.plays in
    let many : 4096 < length c.play_next.new.patterns.items = grind (arith, c.if-len-gt-MOST_PATTERNS.true, c.len.ensures) in
    beyond (played_in c.play_next.new.patterns.items)
    (flat_map (played_at c.args.names.now) (ahead_in c.args.names.now (reverse c.play_next.new.walk.frames.items)))
    (flat_map (played_at c.args.names.now) (met c.args.names.now b)) (sym went.same ∙ c.loop-frame.invariant.3 b there)
    (subst (λ (n : ℕ). 4096 < n) (sym (length-map c.play_next.new.patterns.items played_by)) many)

pub returns : goal.returns
returns c = λ b there.
    let empty : length c.loop-frame.walk.frames.items ≡ 0 = grind (arith, c.in_default.ensures.variant.1) in
    all_ran c.args.names.now c.loop-frame.patterns.items c.loop-frame.walk.frames.items
    (flat_map (played_at c.args.names.now) (met c.args.names.now b)) empty c.loop-frame.invariant.1
    (c.loop-frame.invariant.3 b there)
