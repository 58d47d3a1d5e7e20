use Rattle.std.proofs.Common.{◌≡◌, ◌∙◌, ◌&&◌, ℕ, List, true, [], eqb, ap, sym}
use Rattle.std.specs.List.{list_any}
use Rattle.std.proofs.lemmas.Option.{get_or_from_slice_get}
use Rattle.packed_code.specs.Conditions.{has_waves, waves_of, characters_of}
use Rattle.page_code.proofs.AcceptedLemmas.{fits_among, one_more_fits}
use Rattle.page_code.proofs.accepted.Accepted.has_waves_for.Goals as goal

pub returns-then-contains-clause-fits : goal.returns-then-contains-clause-fits
returns-then-contains-clause-fits c =
    sym (fits_among c.args.tables.now c.args.rows.now c.args.self.now.pairs.keys c.args.table c.args.row
    c.requires.accepted.pairs (sym c.contains.ensures ∙ c.if-contains.true))

pub returns-clause-accepted : goal.returns-clause-accepted
returns-clause-accepted c =
    let tables = c.args.tables.now in
    let characters : characters_of c.args.rows.now c.args.row ≡ c.row-characters.result.now =
    get_or_from_slice_get c.args.rows.now c.args.row c.row-characters.result.now [] c.row-characters.ensures.found in
    let fits : true ≡ has_waves (waves_of tables c.args.table) 0 (characters_of c.args.rows.now c.args.row) =
    sym c.if-not-has_each.false ∙ c.has_each.ensures tables c.turn_to.ensures.index
    ∙ ap (λ (t : ℕ). has_waves (waves_of tables t) 0 c.row-characters.result.now) c.in_ok-turn_to.ensures.table
    ∙ ap (λ (ls : List ℕ). has_waves (waves_of tables c.args.table) 0 ls) (sym characters) in
    record {
      pairs = one_more_fits tables c.args.rows.now c.args.self.now.pairs.keys c.insert.new.self.keys c.args.table c.args.row
          (list_any (λ (pair : ℕ × ℕ). eqb c.args.table pair.0 && eqb c.args.row pair.1) c.args.self.now.pairs.keys)
          c.in_ok-insert.ensures.keys (sym fits) c.requires.accepted.pairs;
      index = c.turn_to.ensures.index;
    }
