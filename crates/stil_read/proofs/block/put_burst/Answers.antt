use Rattle.std.proofs.Common.{◌≡◌, ℕ, List, [], ◌∷◌, ◌++◌, refl, sym, ap, ◌∙◌}
use Rattle.stil_tree.specs.Trees.{entry_of}
use Rattle.stil_form.specs.Setting.{setting_of, inner_of}
use Rattle.stil_ast.specs.declared.executive.Burst.{Burst}
use Rattle.block_forms.specs.Heads.{named_block}
use Rattle.pattern_blocks.specs.Bursts.{items_in, burst_called}
use Rattle.stil_read.specs.Top.{burst_names}
use Rattle.stil_read.proofs.NameLemmas.{named-by, untitled-more}
use Rattle.stil_read.proofs.block.put_burst.Goals as goal

pub returns-clause-names : goal.returns-clause-names
returns-clause-names k =
    let called = k.in_ok-called.called.now in
    let is : k.in_ok-one.one.name ≡ called =
    named-by (λ (x : Burst). x.name) burst_called (λ c y. refl) (named_block (setting_of k.args.reader.now) (entry_of k.args.stmt.now))
    (λ (c : List ℕ). items_in (setting_of k.args.reader.now) (inner_of (entry_of k.args.stmt.now).body))
    called k.in_ok-one.one k.in_ok-called.ensures k.in_ok-one.ensures in
    k.in_ok-add_name.ensures
    ∙ ap (λ (ns : List (List ℕ × List ℕ)). ns ++ ([], called) ∷ []) k.requires
    ∙ sym (untitled-more (λ (x : Burst). x.name) k.args.before.now.items k.in_ok-one.one called is)
    ∙ sym (ap burst_names k.in_ok-add.ensures)
