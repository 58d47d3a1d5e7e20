use Rattle.std.proofs.Common.{◌∙◌, true, false, take, refl, ap, arith}
use Rattle.packed_code.specs.Cycles.{cycles_of}
use Rattle.cycle_run.proofs.FitLemmas.{few_cycles}
use Rattle.site_run.proofs.RunLemmas.{cycles_told}
use Rattle.cycle_run.specs.Setup.{code_in}
use Rattle.cycle_run.proofs.SeatLemmas.{can_exec}
use Rattle.vcd_dump.specs.Play.{allowed, order_behind}
use Rattle.vcd_dump.specs.Recording.{recording_told}
use Rattle.vcd_dump.proofs.ExecLemmas.{plays_so, comes_over, comes_ordered, comes_failed, comes_on}
use Rattle.vcd_dump.proofs.execs.play_exec.Goals as goal

pub play_some-requires-clause-some : goal.play_some-requires-clause-some
play_some-requires-clause-some c =
    let code = code_in c.args.setup.now in
    let told = cycles_told code code c.args.exec c.cycles-cycles.result refl c.cycles-cycles.ensures in
    omega (arith, c.allowed-many.ensures.few, told)

pub play_some-requires-clause-can : goal.play_some-requires-clause-can
play_some-requires-clause-can c =
    let code = code_in c.args.setup.now in
    let way = c.args.way.now in
    let few = few_cycles code c.args.exec c.signals-conditions.ensures.conditions c.requires.exec in
    let told = cycles_told code code c.args.exec c.cycles-cycles.result refl c.cycles-cycles.ensures in
    can_exec c.args.setup.now 0 c.args.exec c.allowed-many.result way.schedules (recording_told way.recorder) way.at c.requires.exec
    (omega (arith, few, told, c.allowed-many.ensures.few)) c.requires.before

pub order_behind-requires-clause-few : goal.order_behind-requires-clause-few
order_behind-requires-clause-few c =
    let code = code_in c.args.setup.now in
    let few = few_cycles code c.args.exec c.signals-conditions.ensures.conditions c.requires.exec in
    let told = cycles_told code code c.args.exec c.cycles-cycles.result refl c.cycles-cycles.ensures in
    omega (arith, few, told)

pub returns-then-not-branch : goal.returns-then-not-branch
returns-then-not-branch c =
    let setup = c.args.setup.now in
    let xs = cycles_of (code_in setup) c.args.exec in
    let told = cycles_told (code_in setup) (code_in setup) c.args.exec c.cycles-cycles.result refl c.cycles-cycles.ensures in
    let is = c.allowed-many.ensures.exact ∙ ap (allowed c.args.batch c.args.order) told in
    comes_over setup c.args.batch c.args.exec c.args.order xs c.args.way.now c.play_some.new.way c.allowed-many.result is
    (plays_so setup c.args.exec (take c.allowed-many.result xs) c.in_ok-play_some.field-0 false c.args.way.now c.play_some.new.way
    c.if-not-branch.true c.in_ok-play_some.ensures.plays)

pub returns-then-many-cycles : goal.returns-then-many-cycles
returns-then-many-cycles c =
    let setup = c.args.setup.now in
    let xs = cycles_of (code_in setup) c.args.exec in
    let told = cycles_told (code_in setup) (code_in setup) c.args.exec c.cycles-cycles.result refl c.cycles-cycles.ensures in
    let is = c.allowed-many.ensures.exact ∙ ap (allowed c.args.batch c.args.order) told in
    comes_ordered setup c.args.batch c.args.exec c.args.order xs c.args.way.now c.play_some.new.way c.allowed-many.result is
    (omega (arith, c.if-many-cycles.true, told))
    (plays_so setup c.args.exec (take c.allowed-many.result xs) c.in_ok-play_some.field-0 true c.args.way.now c.play_some.new.way
    c.if-not-branch.false c.in_ok-play_some.ensures.plays)

pub returns-then-total-gt0 : goal.returns-then-total-gt0
returns-then-total-gt0 c =
    let setup = c.args.setup.now in
    let xs = cycles_of (code_in setup) c.args.exec in
    let told = cycles_told (code_in setup) (code_in setup) c.args.exec c.cycles-cycles.result refl c.cycles-cycles.ensures in
    let is = c.allowed-many.ensures.exact ∙ ap (allowed c.args.batch c.args.order) told in
    comes_failed setup c.args.batch c.args.exec c.args.order xs c.args.way.now c.play_some.new.way c.allowed-many.result is
    (omega (arith, c.if-many-cycles.false, told))
    (plays_so setup c.args.exec (take c.allowed-many.result xs) c.in_ok-play_some.field-0 true c.args.way.now c.play_some.new.way
    c.if-not-branch.false c.in_ok-play_some.ensures.plays)
    c.requires.before c.total.result c.total.ensures c.if-total-gt0.true

pub returns : goal.returns
returns c =
    let setup = c.args.setup.now in
    let code = code_in setup in
    let xs = cycles_of code c.args.exec in
    let few = few_cycles code c.args.exec c.signals-conditions.ensures.conditions c.requires.exec in
    let told = cycles_told code code c.args.exec c.cycles-cycles.result refl c.cycles-cycles.ensures in
    let is = c.allowed-many.ensures.exact ∙ ap (allowed c.args.batch c.args.order) told in
    comes_on setup c.args.batch c.args.exec c.args.order xs c.args.way.now c.play_some.new.way c.allowed-many.result is
    (omega (arith, c.if-many-cycles.false, told))
    (plays_so setup c.args.exec (take c.allowed-many.result xs) c.in_ok-play_some.field-0 true c.args.way.now c.play_some.new.way
    c.if-not-branch.false c.in_ok-play_some.ensures.plays)
    c.requires.before c.total.result c.total.ensures c.order_behind.result c.if-total-gt0.false
    (c.order_behind.ensures ∙ ap (order_behind c.args.batch c.args.order) told) c.requires.exec
    (omega (arith, few, told, c.allowed-many.ensures.few))
    (c.in_ok-play_some.ensures.goes_on c.if-not-branch.false)
