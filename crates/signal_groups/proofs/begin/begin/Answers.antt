use Rattle.std.proofs.Common.{List, ℕ, [], map, sym, ap, ◌∙◌}
use Rattle.std.specs.Prelude.{replicate}
use Rattle.std.specs.List.{flat_map}
use Rattle.std.proofs.lemmas.List.{length-map}
use Rattle.stil_ast.specs.Meaning.Signals.{declared}
use Rattle.signal_groups.specs.Located.{group_at}
use Rattle.signal_groups.proofs.BegunLemmas.{begun_sound}
use Rattle.signal_groups.proofs.begin.begin.Goals as goal

pub invariant_of-result : goal.invariant_of-result
invariant_of-result c = record {
  sound =
      begun_sound (flat_map declared c.as_slice.result.now) (map group_at c.args.groups.now) c.in_ok-texts.texts.keys
      c.in_ok-names.names.keys c.in_ok-texts.declared.items c.in_ok-members.members.items c.in_ok-texts.ensures.0
      c.in_ok-names.ensures.0 c.in_ok-texts.ensures.1 c.in_ok-names.ensures.1
      (c.in_ok-members.ensures ∙ ap (λ (n : ℕ). replicate {A = List ℕ} n []) (sym (length-map c.args.groups.now group_at)));
  apart = c.are_apart-apart.ensures;
}
