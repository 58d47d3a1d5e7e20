use Rattle.std.proofs.Common.{◌≡◌, ◌+◌, ℕ, Bool, true, false, Some, None, length, nat_le, sym, ap, ◌∙◌, arith}
use Rattle.std.proofs.lemmas.Grind.{common_steps}
use Rattle.std.proofs.lemmas.Bool.{le-leb}
use Rattle.std.proofs.lemmas.Bool.Decides.{nat_tests}
use Rattle.text_bytes.specs.Limits.{most_waves}
use Rattle.stil_ast.specs.Faults.Found.{unless, fault_at, on_line}
use Rattle.stil_ast.specs.Meaning.Tables.{waveforms, wave_count}
use Rattle.stil_ast.specs.declared.fault.StilKind.TheVariants.{TooLarge}
use Rattle.wave_tables.specs.declared.trouble.LineFault.{LineFault}
use Rattle.wave_tables.specs.Scope.{timed}
use Rattle.wave_tables.specs.Rows.{slot_count}
use Rattle.wave_tables.proofs.RowLemmas.{counted}
use Rattle.wave_tables.proofs.TableLemmas.{count_is}
use Rattle.wave_tables.proofs.judge.check_count.Goals as goal

pub returns-then-total : goal.returns-then-total
returns-then-total c =
    let t = timed c.args.scope.now in
    let sum : c.in_ok-total.total ≡ c.args.before + c.in_ok-count.count = grind (arith, common_steps) in
    let whole : c.in_ok-total.total
    ≡ c.args.before + wave_count (waveforms t.names t.tables c.args.number) (length t.names.signals) =
    sum ∙ ap (λ (n : ℕ). c.args.before + n)
    (c.in_ok-count.ensures ∙ ap (slot_count c.args.slots.now) c.in_ok-signals.ensures
    ∙ counted t c.args.number c.args.slots.now c.requires.maps) in
    let few : nat_le c.in_ok-total.total most_waves ≡ true = le-leb c.in_ok-total.total most_waves (omega arith) in (
      (λ base at. count_is t base c.args.before c.in_ok-total.total c.args.number c.args.table.now at whole
          ∙ ap (λ (b : Bool). unless b (fault_at (on_line t.place c.args.table.now.line) TooLarge) None) few),
      whole,
    )

pub returns-else-total : goal.returns-else-total
returns-else-total c = λ base at blamed same.
    let t = timed c.args.scope.now in
    let sum : c.in_ok-total.total ≡ c.args.before + c.in_ok-count.count = grind (arith, common_steps) in
    let whole : c.in_ok-total.total
    ≡ c.args.before + wave_count (waveforms t.names t.tables c.args.number) (length t.names.signals) =
    sum ∙ ap (λ (n : ℕ). c.args.before + n)
    (c.in_ok-count.ensures ∙ ap (slot_count c.args.slots.now) c.in_ok-signals.ensures
    ∙ counted t c.args.number c.args.slots.now c.requires.maps) in
    let many : nat_le c.in_ok-total.total most_waves ≡ false = grind (arith, nat_tests) in
    let made = c.fault.ensures in
    let is : blamed ≡ record { kind = TooLarge; line = c.args.table.now.line } = cc in
    count_is t base c.args.before c.in_ok-total.total c.args.number c.args.table.now at whole
    ∙ ap (λ (b : Bool). unless b (fault_at (on_line t.place c.args.table.now.line) TooLarge) None) many
    ∙ ap (λ (f : LineFault). Some (fault_at (on_line t.place f.line) f.kind)) (sym is)
