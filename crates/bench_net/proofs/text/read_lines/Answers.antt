use Rattle.std.proofs.Common.{◌≡◌, ℕ, ◌+◌, inr, arith, subst, length, map}
use Rattle.std.proofs.lemmas.List.{map-append, length-map}
use Rattle.bench_net.specs.Fault.{IsFirstBadLine}
use Rattle.bench_net.specs.Views.{form_of}
use Rattle.bench_net.proofs.TextLemmas.{Reading-goes_on, Reading-stops}
use Rattle.bench_net.proofs.text.read_lines.Goals as goal

pub returns-in-None : goal.returns-in-None
returns-in-None c =
    let silent = rw c.in-None.is at c.in_ok-form.ensures in
    let count : length (map form_of c.loop-rest.read.items) + 1
    ≡ c.len.result + 1 = omega
    (arith, length-map c.loop-rest.read.items form_of, c.loop-rest.read.ok, c.len.ensures) in
    inr (subst (λ (n : ℕ). IsFirstBadLine c.args.bytes.now n) count
    (Reading-stops c.args.bytes.now
    (map form_of c.loop-rest.read.items) c.loop-rest.rest.now c.first_line.result.1.now c.first_line.result.0.now c.first_line.ensures.line silent c.loop-rest.invariant.lines))

pub loop-rest-preserved : goal.loop-rest-preserved
loop-rest-preserved c =
    let says = rw c.in-Some.is at c.in_ok-form.ensures in
    record {
      lines =
          rw (c.in_ok-push-in-Some.ensures.items, map-append)
          (Reading-goes_on _ _ _ _ _ _ c.first_line.ensures.line says c.loop-rest.invariant.lines);
      few = omega (arith, c.in_ok-push-in-Some.ensures.len);
    }
