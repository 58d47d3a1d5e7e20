use Rattle.std.proofs.Common.{◌∙◌, ◌||◌, Bool, sym, ap, List, ℕ}
use denote.Ref.{Bor}
use Rattle.std.specs.Option.{option_map}
use Rattle.std.specs.Str.{bytes_eq}
use Rattle.grade_parts.specs.Step.{Known, knows_net}
use Rattle.grade_parts.proofs.TurnLemmas.{kept_known}
use Rattle.grade_parts.proofs.told.Told.add.Goals as goal

pub returns : goal.returns
returns c = record {
  has = λ net.
      kept_known c.add_net.new.nets (option_map (λ (n : Bor (List ℕ)). n.now) c.waiting_behind-self-inside.result) net
      ∙ c.in_ok-add_net.ensures net
      ∙ ap (λ (b : Bool). b || bytes_eq c.args.net.now net)
      (sym (kept_known c.self.inside.nets (option_map (λ (n : Bor (List ℕ)). n.now) c.self.inside.waiting) net)
      ∙ ap (λ (k : Known). knows_net k net) c.self.view_is);
  waits = c.waiting_behind-self-inside.ensures;
}
