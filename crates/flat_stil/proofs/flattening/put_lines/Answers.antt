use Rattle.std.proofs.Common.{map}
use Rattle.std.specs.Prelude.{codes}
use Rattle.std.specs.List.{flat_map}
use Rattle.flat_parts.specs.FlatText.{signal_lines, timing_lines, row_lines, pattern_lines, burst_line, exec_line, executives}
use Rattle.flat_stil.proofs.FlatLemmas.{all_lines}
use Rattle.flat_stil.proofs.flattening.put_lines.Goals as goal

pub returns : goal.returns
returns c =
    let code = c.args.code.now in
    all_lines c.args.sheet.now c.put_line.new.self c.put_signals.new.sheet c.put_timings.new.sheet c.put_rows.new.sheet c.put_patterns.new.sheet
    c.put_bursts.new.sheet c.put_execs.new.sheet (codes "STIL 1.0;") (signal_lines code) (flat_map (timing_lines code) (executives code)) (row_lines code)
    (flat_map (pattern_lines code) (executives code)) (map burst_line (executives code)) (map (exec_line code) (executives code))
    c.put_line.ensures c.put_signals.ensures c.in_ok-put_timings.ensures c.put_rows.ensures c.put_patterns.ensures c.put_bursts.ensures c.put_execs.ensures
