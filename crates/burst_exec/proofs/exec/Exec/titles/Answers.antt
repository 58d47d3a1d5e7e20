use Rattle.std.proofs.Common.{◌≡◌, length, sym, ap, ◌∙◌, arith}
use Rattle.std.specs.Prelude.{slice_get, option_map}
use Rattle.std.proofs.lemmas.Option.{slice_get_read}
use Rattle.stil_ast.specs.Meaning.ExecutiveData.{Tree, Executive}
use Rattle.burst_exec.proofs.TreeLemmas.{count-in, titles-in}
use Rattle.burst_exec.proofs.exec.Exec.titles.Goals as goal

pub index-requires : goal.index-requires
index-requires c =
    let titles = c.self.inside.titles in
    let many : length c.args.self.now.trees ≡ length titles.items =
    ap (λ (x : Executive). length x.trees) (sym c.self.view_is) ∙ count-in titles.items c.self.inside.flats.items c.self.invariant in
    omega (arith, c.requires, many, titles.ok)

pub returns : goal.returns
returns c =
    let titles = c.self.inside.titles.items in
    let flats = c.self.inside.flats.items in
    let many : length c.args.self.now.trees ≡ length titles =
    ap (λ (x : Executive). length x.trees) (sym c.self.view_is) ∙ count-in titles flats c.self.invariant in
    ap (λ (x : Executive). option_map (λ (t : Tree). t.titles) (slice_get x.trees c.args.tree)) (sym c.self.view_is)
    ∙ titles-in titles flats c.self.invariant c.args.tree c.index.result.now
    (slice_get_read titles (length c.args.self.now.trees) c.args.tree c.index.result.now many c.requires c.index.ensures)
