use Rattle.std.proofs.Common.{rules, ap, sym, ◌≡◌, ◌∙◌}
use Rattle.pattern_mem.specs.Memory.{basis_in}
use Rattle.pattern_mem.specs.Rule.{opener_view, as_opener}
use Rattle.pattern_mem.specs.declared.view.View.TheVariants.{Opener}
use Rattle.pattern_mem.proofs.RuleLemmas.{make_keeps}
use Rattle.pattern_mem.proofs.memory.PatternMem.passes.Goals as goal

pub split_seat-seat-requires : goal.split_seat-seat-requires
split_seat-seat-requires c =
    let view : c.loop.opener.me.0 ≡ Opener (opener_view c.loop.counter (basis_in c.args.self.now)) = ap (λ m. m.0) c.loop.invariant.opener in
    (search rules, search rules, make_keeps _ _ (view ∙ ap (λ v. Opener (as_opener v)) (sym view)))
