use Rattle.std.proofs.Common.{rules, ◌≡◌, ℕ, ◌+◌, ◌*◌, List, vec_len, Option, refl, sym, ap, subst, ◌∙◌, arith}
use Rattle.std.proofs.lemmas.Bool.{eqb-true}
use Rattle.stil_ast.specs.Meaning.Dealing.{with_character}
use Rattle.stil_ast.specs.Meaning.Running.{times}
use Rattle.stil_ast.specs.Meaning.Flat.{done, flat_run, measure}
use Rattle.packed_code.specs.declared.instr.Instr.{Instr}
use Rattle.cycle_comp.specs.Known.{Known}
use Rattle.cycle_comp.specs.Writing.{Walked, IsStopped}
use Rattle.cycle_comp.specs.Passes.{with_passes, written, IsExact, WroteAll, Writes}
use Rattle.flat_tree.specs.Items.{item_front}
use Rattle.flat_tree.specs.declared.steps.FlatItem.{FlatItem}
use Rattle.flat_tree.specs.declared.steps.FlatItem.TheVariants.{Table, Character, Back}
use Rattle.flat_tree.proofs.FlatLemmas.{next_bodies}
use Rattle.cycle_comp.proofs.WalkedLemmas.{stopped-first, stopped-second}
use Rattle.cycle_comp.proofs.LoopLemmas.{walked-none, walked-empty, walked-alike, walked-passes, not_nothing, moves-none, moves-then}
use Rattle.cycle_comp.proofs.AnswerLemmas.{written-item_set, written-loop, stopped-loop, writes-once, written-save, stopped-saved}
use Rattle.cycle_comp.proofs.TreeStepLemmas.{writing_starts, writing_goes_on, writing_stops, writing_walked, writing_exact}
use Rattle.cycle_comp.proofs.ExactLemmas.{exact-none, exact-empty, exact-alike, exact-passes}
use Rattle.cycle_comp.proofs.writing.+writing.Goals.{write_save-then-putting, write_save-else-putting}
use Rattle.cycle_comp.proofs.writing.+writing.Goals as goal

pub write_list-write_item-requires : goal.write_list-write_item-requires
write_list-write_item-requires t c =
    let w = c.loop-item.invariant.writing in
    let small = next_bodies w.front c.loop-item.item-iterator c.next.new.self c.args.list.now c.in-Some.item w.whole
    c.in-Some.ensures.steps in
    (omega (arith, small, c.decreases), c.loop-item.invariant.known)

pub write_loop-returns-then-count-eq0 : goal.write_loop-returns-then-count-eq0
write_loop-returns-then-count-eq0 t c =
    let first = c.args.source.now.first in
    let body = c.args.body.now in
    let base = c.args.base.now.told in
    let s = c.args.state.now in
    let code = c.args.code.now.items in
    let rows = c.args.rows.now in
    written-loop c.args.source.now.tables.now first c.args.count body base s s code code rows rows
    (walked-none c.args.source.now.tables.now first c.args.count (2 * measure body + 2) (flat_run body base) code rows s.told
    c.if-count-eq0.true) c.requires.known (moves-none s)
    (exact-none first c.args.count body base s.told code rows c.if-count-eq0.true)

pub write_loop-returns-then-count-eq1 : goal.write_loop-returns-then-count-eq1
write_loop-returns-then-count-eq1 t c =
    writes-once c.args.source.now.tables.now c.args.source.now.first c.args.count c.args.body.now c.args.base.now.told
    c.args.state.now c.write_list.new.state c.args.code.now.items c.write_list.new.code.items c.args.rows.now
    c.write_list.new.rows c.write_list.result c.if-count-eq1.true c.write_list.ensures

pub write_loop-returns-in-Err : goal.write_loop-returns-in-Err
write_loop-returns-in-Err t c =
    let tables = c.args.source.now.tables.now in
    let body = c.args.body.now in
    let base = c.args.base.now.told in
    let s = c.args.state.now.told in
    stopped-loop tables c.args.count body base s c.in-Err.trouble
    (stopped-first tables c.args.count body base s c.in-Err.trouble (omega (arith, c.if-count-eq0.false)) c.in-Err.ensures)

pub write_loop-returns-in-Err-write_list : goal.write_loop-returns-in-Err-write_list
write_loop-returns-in-Err-write_list t c =
    let tables = c.args.source.now.tables.now in
    let body = c.args.body.now in
    let base = c.args.base.now.told in
    let s = c.args.state.now.told in
    stopped-loop tables c.args.count body base s c.in-Err-write_list.trouble
    (stopped-second tables c.args.source.now.first c.args.count _ body c.new-first.result.items
    c.write_list-2.new.code.items c.args.rows.now c.write_list-2.new.rows base s c.write_list-2.new.state.told
    c.in-Err-write_list.trouble (omega (arith, c.if-count-eq0.false, c.if-count-eq1.false)) c.in-Ok.ensures.walked
    c.in-Err-write_list.ensures)

pub write_loop-returns-then-is_empty : goal.write_loop-returns-then-is_empty
write_loop-returns-then-is_empty t c =
    let tables = c.args.source.now.tables.now in
    let first = c.args.source.now.first in
    let body = c.args.body.now in
    let base = c.args.base.now.told in
    let s = c.args.state.now.told in
    let own = subst (λ (none : List Instr). Walked tables first (flat_run body base s) (measure body) none
    c.write_list-2.new.code.items c.args.rows.now c.write_list-2.new.rows c.write_list-2.new.state.told)
    c.new-first.ensures.items c.in-Ok.ensures.walked in
    let exact = subst (λ (none : List Instr). IsExact first (λ entry code. written entry body base s code) none
    c.write_list-2.new.code.items c.write_list-2.new.rows) c.new-first.ensures.items c.in-Ok.ensures.exact in
    written-loop tables first c.args.count body base c.args.state.now c.write_list-2.new.state c.args.code.now.items
    c.args.code.now.items c.args.rows.now c.write_list-2.new.rows
    (walked-empty tables first c.args.count body c.args.code.now.items c.write_list-2.new.code.items c.args.rows.now
    c.write_list-2.new.rows base s c.write_list-2.new.state.told (omega (arith, c.if-count-eq0.false, c.if-count-eq1.false))
    (omega (
      arith,
      c.write_list-2.new.code.ok,
      eqb-true (vec_len c.write_list-2.new.code) 0 (sym c.is_empty.ensures ∙ c.if-is_empty.true),
    )) own) c.in-Ok.ensures.known c.in-Ok.ensures.moves
    (exact-empty first c.args.count body base s c.args.code.now.items c.write_list-2.new.code.items
    c.write_list-2.new.rows (omega (arith, c.if-count-eq0.false, c.if-count-eq1.false))
    (omega (
      arith,
      c.write_list-2.new.code.ok,
      eqb-true (vec_len c.write_list-2.new.code) 0 (sym c.is_empty.ensures ∙ c.if-is_empty.true),
    )) exact)

pub write_loop-returns-then-has_stayed : goal.write_loop-returns-then-has_stayed
write_loop-returns-then-has_stayed t c =
    let tables = c.args.source.now.tables.now in
    let first = c.args.source.now.first in
    let body = c.args.body.now in
    let base = c.args.base.now.told in
    let s = c.args.state.now.told in
    let own = subst (λ (none : List Instr). Walked tables first (flat_run body base s) (measure body) none
    c.write_list-2.new.code.items c.args.rows.now c.write_list-2.new.rows c.write_list-2.new.state.told)
    c.new-first.ensures.items c.in-Ok.ensures.walked in
    let exact = subst (λ (none : List Instr). IsExact first (λ entry code. written entry body base s code) none
    c.write_list-2.new.code.items c.write_list-2.new.rows) c.new-first.ensures.items c.in-Ok.ensures.exact in
    let stayed = c.has_stayed.ensures c.if-has_stayed.true in
    let stays = c.in-Ok.ensures.moves.stays (stayed.0 ∙ c.moves-moves.ensures) stayed.1 in
    written-loop tables first c.args.count body base c.args.state.now c.write_list-2.new.state c.args.code.now.items
    c.put_loop.new.code.items c.args.rows.now c.write_list-2.new.rows
    (subst (λ (code : List Instr). Walked tables first (times c.args.count (flat_run body base) s) (2 * measure body + 2)
    c.args.code.now.items code c.args.rows.now c.write_list-2.new.rows c.write_list-2.new.state.told)
    (sym c.in_ok-put_loop.ensures)
    (walked-alike tables first c.args.count body c.args.code.now.items c.write_list-2.new.code.items c.args.rows.now
    c.write_list-2.new.rows base s c.write_list-2.new.state.told (omega (arith, c.if-count-eq0.false, c.if-count-eq1.false))
    (omega (
      arith,
      c.write_list-2.new.code.ok,
      not_nothing (vec_len c.write_list-2.new.code) c.is_empty.result c.is_empty.ensures c.if-is_empty.false,
    )) stays own)) c.in-Ok.ensures.known c.in-Ok.ensures.moves
    (subst (λ (code : List Instr). IsExact first
    (λ entry old. with_passes c.args.count (written entry body base) (flat_run body base) s old) c.args.code.now.items code
    c.write_list-2.new.rows) (sym c.in_ok-put_loop.ensures)
    (exact-alike first c.args.count body base s c.write_list-2.new.state.told c.args.code.now.items
    c.write_list-2.new.code.items c.write_list-2.new.rows (omega (arith, c.if-count-eq0.false, c.if-count-eq1.false))
    (omega (
      arith,
      c.write_list-2.new.code.ok,
      not_nothing (vec_len c.write_list-2.new.code) c.is_empty.result c.is_empty.ensures c.if-is_empty.false,
    )) stays
    c.in-Ok.ensures.walked.here_is exact))

pub write_loop-returns : goal.write_loop-returns
write_loop-returns t c =
    let tables = c.args.source.now.tables.now in
    let first = c.args.source.now.first in
    let body = c.args.body.now in
    let base = c.args.base.now.told in
    let s = c.args.state.now.told in
    let again = c.write_list-2.new.state.told in
    let own = subst (λ (none : List Instr). Walked tables first (flat_run body base s) (measure body) none
    c.write_list-2.new.code.items c.args.rows.now c.write_list-2.new.rows c.write_list-2.new.state.told)
    c.new-first.ensures.items c.in-Ok.ensures.walked in
    let second = subst (λ (none : List Instr). Walked tables first (flat_run body base c.write_list-2.new.state.told)
    (measure body) none c.write_list-3.new.code.items c.write_list-2.new.rows c.write_list-3.new.rows
    c.write_list-3.new.state.told) c.new-second.ensures.items c.in-Ok-write_list.ensures.walked in
    let exact = subst (λ (none : List Instr). IsExact first (λ entry code. written entry body base s code) none
    c.write_list-2.new.code.items c.write_list-2.new.rows) c.new-first.ensures.items c.in-Ok.ensures.exact in
    let exact_again = subst (λ (none : List Instr). IsExact first (λ entry code. written entry body base again code) none
    c.write_list-3.new.code.items c.write_list-3.new.rows) c.new-second.ensures.items c.in-Ok-write_list.ensures.exact in
    written-loop tables first c.args.count body base c.args.state.now c.write_list-3.new.state c.args.code.now.items
    c.put_passes.new.code.items c.args.rows.now c.write_list-3.new.rows
    (subst (λ (code : List Instr). Walked tables first (times c.args.count (flat_run body base) s) (2 * measure body + 2)
    c.args.code.now.items code c.args.rows.now c.write_list-3.new.rows c.write_list-3.new.state.told)
    (sym c.in_ok-put_passes.ensures)
    (walked-passes tables first c.args.count body c.args.code.now.items c.write_list-2.new.code.items
    c.write_list-3.new.code.items c.args.rows.now c.write_list-2.new.rows c.write_list-3.new.rows base s
    c.write_list-2.new.state.told c.write_list-3.new.state.told (omega (arith, c.if-count-eq0.false, c.if-count-eq1.false))
    (omega (
      arith,
      c.write_list-2.new.code.ok,
      not_nothing (vec_len c.write_list-2.new.code) c.is_empty.result c.is_empty.ensures c.if-is_empty.false,
    )) own second)) c.in-Ok-write_list.ensures.known
    (moves-then c.args.state.now c.write_list-2.new.state c.write_list-3.new.state c.in-Ok.ensures.moves
    c.in-Ok-write_list.ensures.moves)
    (subst (λ (code : List Instr). IsExact first
    (λ entry old. with_passes c.args.count (written entry body base) (flat_run body base) s old) c.args.code.now.items code
    c.write_list-3.new.rows) (sym c.in_ok-put_passes.ensures)
    (exact-passes first c.args.count body base s again c.args.code.now.items c.write_list-2.new.code.items
    c.write_list-3.new.code.items (flat_run body base again).made c.write_list-2.new.rows c.write_list-3.new.rows
    (omega (arith, c.if-count-eq0.false, c.if-count-eq1.false)) c.in-Ok.ensures.walked.here_is
    c.in-Ok-write_list.ensures.walked.wrote.rows exact exact_again))

pub write_list-loop-item-init : goal.write_list-loop-item-init
write_list-loop-item-init t c =
    let begins = c.into_iter-item-iterator.ensures.into_iter_gives in
    let steps = c.steps-item-items.ensures in
    let whole : c.into_iter-item-iterator.result ≡ c.args.list.now = cc in
    record {
      can_go = tt;
      ends = tt;
      writing =
          writing_starts c.args.source.now.tables.now c.args.source.now.first c.args.list.now c.into_iter-item-iterator.result
          c.args.base.now.told c.args.state.now.told c.args.code.now.items c.args.rows.now whole;
      known = c.requires.known;
      moves = moves-none c.args.state.now;
    }

pub write_list-loop-item-preserved : goal.write_list-loop-item-preserved
write_list-loop-item-preserved t c =
    let inv = c.loop-item.invariant in
    record {
      can_go = search rules;
      ends = search rules;
      writing =
          writing_goes_on c.args.source.now.tables.now c.args.source.now.first c.args.list.now c.loop-item.item-iterator
          c.next.new.self c.in-Some.item c.args.base.now.told c.args.state.now.told c.args.code.now.items
          c.loop-item.code.items c.write_item.new.code.items c.args.rows.now c.loop-item.rows c.write_item.new.rows
          c.loop-item.state.told c.write_item.new.state.told c.in-Some.ensures.steps inv.writing c.in-Ok.ensures.walked
          c.in-Ok.ensures.exact;
      known = c.in-Ok.ensures.known;
      moves = moves-then c.args.state.now c.loop-item.state c.write_item.new.state inv.moves c.in-Ok.ensures.moves;
    }

pub write_list-returns : goal.write_list-returns
write_list-returns t c = record {
  walked =
      writing_walked c.args.source.now.tables.now c.args.source.now.first c.args.list.now c.loop-item.item-iterator
      c.args.base.now.told c.args.state.now.told c.args.code.now.items c.loop-item.code.items c.args.rows.now
      c.loop-item.rows c.loop-item.state.told c.in-None.ensures.steps.0 c.loop-item.invariant.writing;
  known = c.loop-item.invariant.known;
  moves = c.loop-item.invariant.moves;
  exact =
      writing_exact c.args.source.now.tables.now c.args.source.now.first c.args.list.now c.loop-item.item-iterator
      c.args.base.now.told c.args.state.now.told c.args.code.now.items c.loop-item.code.items c.args.rows.now
      c.loop-item.rows c.loop-item.state.told c.in-None.ensures.steps.0 c.loop-item.invariant.writing;
}

pub write_list-returns-in-Err : goal.write_list-returns-in-Err
write_list-returns-in-Err t c =
    writing_stops c.args.source.now.tables.now c.args.source.now.first c.args.list.now c.loop-item.item-iterator
    c.next.new.self c.in-Some.item c.args.base.now.told c.args.state.now.told c.args.code.now.items
    c.loop-item.code.items c.args.rows.now c.loop-item.rows c.loop-item.state.told c.in-Err.trouble
    c.in-Some.ensures.steps c.loop-item.invariant.writing c.in-Err.ensures

pub write_item-returns-in-Table : goal.write_item-returns-in-Table
write_item-returns-in-Table t c =
    written-item_set c.args.source.now.tables.now c.args.source.now.first c.args.item (Table c.in-Table.table)
    c.args.base.now.told _ c.args.state.now c.set_table.new.self c.args.code.now.items c.args.rows.now c.in-Table.is refl
    (λ e. refl) c.set_table.ensures.told c.set_table.ensures.known c.set_table.ensures.moves c.requires.known

pub write_item-returns-in-Character : goal.write_item-returns-in-Character
write_item-returns-in-Character t c =
    written-item_set c.args.source.now.tables.now c.args.source.now.first c.args.item
    (Character c.in-Character.signal c.in-Character.character) c.args.base.now.told _ c.args.state.now c.set.new.self
    c.args.code.now.items c.args.rows.now c.in-Character.is refl (λ e. refl) c.set.ensures.told c.set.ensures.known
    c.set.ensures.moves c.requires.known

pub write_item-returns-in-Back : goal.write_item-returns-in-Back
write_item-returns-in-Back t c =
    written-item_set c.args.source.now.tables.now c.args.source.now.first c.args.item (Back c.in-Back.signal)
    c.args.base.now.told _ c.args.state.now c.set-in-Back.new.self c.args.code.now.items c.args.rows.now c.in-Back.is refl
    (λ e. refl)
    (c.set-in-Back.ensures.told
    ∙ ap (λ (character : Option ℕ). with_character c.in-Back.signal character c.args.state.now.told) c.character.ensures)
    c.set-in-Back.ensures.known c.set-in-Back.ensures.moves c.requires.known

pub write_item-returns-in-Cycle : goal.write_item-returns-in-Cycle
write_item-returns-in-Cycle t c =
    subst (λ (item : FlatItem). Writes c.args.source.now.tables.now c.args.source.now.first (item_front item done)
    c.args.base.now.told c.args.state.now c.write_vector.new.state c.args.code.now.items c.write_vector.new.code.items
    c.args.rows.now c.write_vector.new.rows c.write_vector.result) (sym c.in-Cycle.is) c.write_vector.ensures

pub write_item-returns-in-Repeat : goal.write_item-returns-in-Repeat
write_item-returns-in-Repeat t c =
    subst (λ (item : FlatItem). Writes c.args.source.now.tables.now c.args.source.now.first (item_front item done)
    c.args.base.now.told c.args.state.now c.write_loop.new.state c.args.code.now.items c.write_loop.new.code.items
    c.args.rows.now c.write_loop.new.rows c.write_loop.result) (sym c.in-Repeat.is) c.write_loop.ensures

pub write_item-returns-in-Save : goal.write_item-returns-in-Save
write_item-returns-in-Save t c =
    subst (λ (item : FlatItem). Writes c.args.source.now.tables.now c.args.source.now.first (item_front item done)
    c.args.base.now.told c.args.state.now c.write_save.new.state c.args.code.now.items c.write_save.new.code.items
    c.args.rows.now c.write_save.new.rows c.write_save.result) (sym c.in-Save.is) c.write_save.ensures

pub write_save-returns-in-Err : goal.write_save-returns-in-Err
write_save-returns-in-Err t c =
    let tables = c.args.source.now.tables.now in
    let body = c.args.body.now in
    let s = c.args.state.now.told in
    stopped-saved tables c.args.putting body s s c.in-Err.trouble
    (subst (λ (k : Known). IsStopped tables (flat_run body k.told s).made c.in-Err.trouble) c.in_ok-held.ensures
    c.in-Err.ensures)

pub write_save-returns : goal.write_save-returns
write_save-returns t c =
    let tables = c.args.source.now.tables.now in
    let first = c.args.source.now.first in
    let body = c.args.body.now in
    let s = c.args.state.now in
    let behind = c.write_list.new.state in
    let here = c.if-putting.state in
    let old = c.args.code.now.items in
    let new = c.write_list.new.code.items in
    let rows = c.args.rows.now in
    let more = c.write_list.new.rows in
    let own = subst (λ (k : Known). WroteAll tables first (flat_run body k.told s.told) (measure body)
    (λ entry code. written entry body k.told s.told code) s behind old new rows more) c.in_ok-held.ensures c.in-Ok.ensures in
    elim c.if-putting.branch [
      | write_save-then-putting w ↦
          written-save tables first c.args.putting body s.told s behind here old new rows more
          (λ yes. w.state-is ∙ c.in_ok-held.ensures) (λ no. let yes = w.if-putting.true in absurd cc) c.requires.known own
      | write_save-else-putting w ↦
          written-save tables first c.args.putting body s.told s behind here old new rows more
          (λ yes. let no = w.if-putting.false in absurd cc) (λ no. w.state-is) c.requires.known own
    ]
