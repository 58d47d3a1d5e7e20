use Rattle.std.proofs.Common.{false, [], refl}
use Rattle.flat_tree.specs.declared.place.BodyKind.TheVariants.{Pattern}
use Rattle.macro_expand.specs.declared.standing.Standing.{Standing}
use Rattle.macro_expand.specs.declared.walk.Walk.{Walk}
use Rattle.macro_expand.proofs.ExpandLemmas.{from_start}
use Rattle.macro_expand.proofs.expanding.walk_pattern.Goals as goal

pub returns-in-Ok : goal.returns-in-Ok
returns-in-Ok c = λ names named.
    let top : Standing = record {
      body = Pattern;
      in_loop = false;
      in_shift = false;
      without_pass = false;
      loops = 0;
      calls = 0;
      running = record { ref_ptr = (0, 0); now = [] };
    } in
    let start : Walk = record {
      args = c.none.result;
      hashes = c.new.result;
      taken = c.new-2.result;
      count = c.args.count;
      out = c.new-3.result;
      pairs = c.new-4.result;
      references = c.new-5.result;
    } in
    from_start names c.args.scope.now c.args.body.now c.args.count top start c.walk_list.new.walk c.none.ensures c.new.ensures c.new-3.ensures
    refl refl (c.in-Ok.ensures names named)
