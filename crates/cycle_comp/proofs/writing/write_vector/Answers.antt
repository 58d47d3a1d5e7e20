use Rattle.std.proofs.Common.{sym, ap, ◌∙◌, arith}
use Rattle.cycle_comp.specs.Known.{Known, known}
use Rattle.cycle_comp.proofs.KnownLemmas.{known-as, known-made}
use Rattle.cycle_comp.proofs.LoopLemmas.{moves-same}
use Rattle.cycle_comp.proofs.ExactLemmas.{exact-vector}
use Rattle.cycle_comp.proofs.OneVector.{no_table_first, no_wave_first, wrote-vector}
use Rattle.cycle_comp.proofs.writing.write_vector.Goals as goal

pub returns-in_default : goal.returns-in_default
returns-in_default c =
    no_table_first c.args.source.now.tables.now c.args.state.now.told c.args.mark c.args.place
    (sym c.table.ensures ∙ c.in_default.is)

pub returns-then-not-has_waves : goal.returns-then-not-has_waves
returns-then-not-has_waves c =
    no_wave_first c.args.source.now.tables.now c.args.state.now.told c.args.mark c.args.place c.in-Some.table
    (sym c.table.ensures ∙ c.in-Some.is) (sym c.has_waves.ensures ∙ c.if-not-has_waves.true)

pub returns : goal.returns
returns c =
    let tables = c.args.source.now.tables.now in
    let first = c.args.source.now.first in
    let s = c.args.state.now in
    let rows = c.number.new.rows in
    let told = ap (λ (k : Known). k.told) c.know.ensures in
    let made = known-as tables rows c.know.new.self (known s c.in-Some.table c.in_ok-row.row) c.know.ensures
    (known-made tables rows s c.in-Some.table c.in_ok-row.row (sym c.has_waves.ensures ∙ c.if-not-has_waves.false)
    c.in_ok-row.ensures.number) in
    record {
      walked = record {
        wrote =
            wrote-vector tables first s.told c.args.mark c.args.place c.in-Some.table c.saturating_add-code_table.result
            c.in_ok-row.row c.args.code.now.items c.put_cycle.new.code.items c.args.rows.now rows
            (sym c.table.ensures ∙ c.in-Some.is) (sym c.has_waves.ensures ∙ c.if-not-has_waves.false)
            c.in_ok-row.ensures.number c.in_ok-row.ensures.rows (omega (arith, c.saturating_add-code_table.ensures))
            c.in_ok-put_cycle.ensures.put;
        here_is = told;
      };
      known = made;
      moves = moves-same s c.know.new.self (ap (λ (k : Known). k.moves) c.know.ensures) told;
      exact =
          exact-vector first s.told c.args.mark c.in-Some.table c.saturating_add-code_table.result c.in_ok-row.row
          c.args.code.now.items c.put_cycle.new.code.items rows (sym c.table.ensures ∙ c.in-Some.is)
          c.in_ok-row.ensures.number (omega (arith, c.saturating_add-code_table.ensures)) c.in_ok-put_cycle.ensures.is;
    }
