use Rattle.std.proofs.Common.{◌≡◌, List, ℕ, Option, map, refl, ap, ◌∙◌}
use Rattle.std.proofs.lemmas.List.{map-append}
use Rattle.tester_types.specs.declared.signal.Direction.{Direction}
use Rattle.signal_groups.specs.declared.table.Declared.{Declared}
use Rattle.signal_groups.specs.Begun.{Begun}
use Rattle.signal_groups.proofs.LookupLemmas.{keys-pushed}
use Rattle.signal_groups.proofs.signals.push.Goals as goal

same_begun : (texts texts' : List (List ℕ)) (bases bases' : List (Option (List ℕ))) (directions directions' : List Direction)
    → texts ≡ texts' → bases ≡ bases' → directions ≡ directions'
    → ◌≡◌ {A = Begun} (record { texts = texts; bases = bases; directions = directions })
    (record { texts = texts'; bases = bases'; directions = directions' })
same_begun texts texts' bases bases' directions directions' t b d = λ j. record { texts = t j; bases = b j; directions = d j }

pub returns : goal.returns
returns c =
    same_begun _ _ _ _ _ _
    (keys-pushed c.args.texts.now.keys c.insert.new.self.keys c.args.text c.args.text.items refl c.requires c.in_ok-insert.ensures.keys)
    (ap (map (λ (d : Declared). d.base)) c.in_ok-push.ensures.items
    ∙ map-append (λ (d : Declared). d.base) c.args.kept.now.items _)
    (ap (map (λ (d : Declared). d.direction)) c.in_ok-push.ensures.items
    ∙ map-append (λ (d : Declared). d.direction) c.args.kept.now.items _)
