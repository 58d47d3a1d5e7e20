use Rattle.std.proofs.Common.{◌<◌, ℕ, List, Vec, Global, length, get_or, ap, sym, ◌∙◌, subst}
use Rattle.std.specs.Str.{bytes_eq}
use Rattle.signal_groups.proofs.LookupLemmas.{number_in-keys, position-at}
use Rattle.signal_groups.proofs.places.stands_at.Goals as goal

pub returns-in-Some : goal.returns-in-Some
returns-in-Some c = λ same.
    let keys = c.args.names.now.keys in
    let name = c.args.name.now in
    let place = c.args.place in
    let key = c.in-Some.key.now in
    let found = c.in-Some.ensures.lookup in
    sym (number_in-keys keys name)
    ∙ position-at keys name place key c.as_slice.ensures.unique
    (subst (λ (all : List (Vec ℕ Global)). place < length all) c.as_slice.ensures.keys found.3.0)
    (found.1 ∙ ap (λ (all : List (Vec ℕ Global)). get_or all place key) c.as_slice.ensures.keys)
    (ap (λ (text : List ℕ). bytes_eq text name) (sym c.as_slice-in-Some.ensures.value) ∙ sym c.eq.ensures ∙ same)
