use Rattle.std.proofs.Common.{◌∙◌, List, ℕ}
use Rattle.std.specs.Borrow.{Bor}
use Rattle.std.specs.Str.{bytes_eq}
use Rattle.text_bytes.proofs.OptionLemmas.{none-from}
use Rattle.indexmap.specs.IndexMap.{get_by}
use Rattle.indexmap.proofs.CallerLemmas.{insert_entry-new}
use Rattle.pattern_order.proofs.PlaceLemmas.{place-added}
use Rattle.pattern_order.proofs.places.add_place.Goals as goal

pub returns : goal.returns
returns c = λ called.
    place-added c.args.places.now c.insert.new.self c.args.name c.args.place called
    (c.in_ok-insert.ensures.entries
    ∙ insert_entry-new (λ (x : Bor (List ℕ)) (y : Bor (List ℕ)). bytes_eq x.now y.now) c.args.places.now c.args.name c.args.place
    (none-from (get_by (λ (k : Bor (List ℕ)). bytes_eq c.args.name.now k.now) c.args.places.now) c.if-contains_key.ensures))
