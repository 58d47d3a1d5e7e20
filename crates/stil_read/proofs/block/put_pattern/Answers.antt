use Rattle.std.proofs.Common.{◌≡◌, ℕ, List, [], ◌∷◌, ◌++◌, refl, sym, ap, ◌∙◌}
use Rattle.stil_tree.specs.Trees.{entry_of}
use Rattle.stil_form.specs.Setting.{setting_of}
use Rattle.stil_ast.specs.declared.blocks.Pattern.{Pattern}
use Rattle.pat_read.specs.declared.reader.BodyPlace.TheVariants as place
use Rattle.block_forms.specs.Heads.{named_block}
use Rattle.pattern_blocks.specs.Defs.{body_in, pattern_called}
use Rattle.stil_read.specs.Top.{pattern_names}
use Rattle.stil_read.proofs.NameLemmas.{named-by, untitled-more}
use Rattle.stil_read.proofs.block.put_pattern.Goals as goal

pub returns-clause-names : goal.returns-clause-names
returns-clause-names k =
    let called = k.in_ok-called.called.now in
    let is : k.in_ok-one.one.name ≡ called =
    named-by (λ (x : Pattern). x.name) pattern_called (λ c y. refl) (named_block (setting_of k.args.reader.now) (entry_of k.args.stmt.now))
    (λ (c : List ℕ). body_in (setting_of k.args.reader.now) place.Pattern (entry_of k.args.stmt.now))
    called k.in_ok-one.one k.in_ok-called.ensures k.in_ok-one.ensures in
    k.in_ok-add_name.ensures
    ∙ ap (λ (ns : List (List ℕ × List ℕ)). ns ++ ([], called) ∷ []) k.requires
    ∙ sym (untitled-more (λ (x : Pattern). x.name) k.args.before.now.items k.in_ok-one.one called is)
    ∙ sym (ap pattern_names k.in_ok-add.ensures)
