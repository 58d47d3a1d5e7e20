use Rattle.std.proofs.Common.{◌-◌, ◌+◌, sym, subst, ap, length, map, reverse, arith, ◌∙◌}
use Rattle.std.proofs.lemmas.List.{length-map, length-append}
use Rattle.stil_tree.specs.Trees.{entry_of}
use Rattle.stil_tree.specs.Memory.{Stand, ended_entry}
use Rattle.stil_tree.proofs.Blocks.{ended, stands-more}
use Rattle.stil_tree.proofs.builder.Builder.end_statement.Goals as goal

pub returns-clause-state : goal.returns-clause-state
returns-clause-state c =
    let os = reverse c.args.self.now.blocks.items in
    let old = c.args.self.now.done.items in
    let stand = subst (Stand os) (sym (length-map old entry_of)) c.requires.standing in
    ended os (map entry_of old) _ c.args.self.now.first (c.args.at - c.args.self.now.first) (c.args.at + 1) stand c.in_ok-push_plain.ensures

pub returns-clause-stands : goal.returns-clause-stands
returns-clause-stands c =
    let old = c.args.self.now.done.items in
    let more = ended_entry c.args.self.now.first (c.args.at - c.args.self.now.first) in
    let long = sym (length-map c.push_plain.new.done.items entry_of) ∙ ap length c.in_ok-push_plain.ensures ∙ length-append (map entry_of old) more in
    stands-more (reverse c.args.self.now.blocks.items) _ _ (omega (arith, long, length-map old entry_of)) c.requires.standing
