-- The netlist is whole and the lines', from what the sorted gates and the search for a loop say.
use Rattle.std.proofs.Common.{◌<◌, ℕ, List, length, map, sym, ◌∙◌, subst, inr}
use Rattle.text_bytes.specs.Texts.{key_texts}
use Rattle.bench_net.specs.declared.gate.Driver.{Driver}
use Rattle.bench_net.specs.Wiring.{pins_at, AreReaders}
use Rattle.bench_net.specs.Circuit.{Net, IsWhole}
use Rattle.bench_net.specs.Fault.{IsFirstLoop}
use Rattle.bench_net.specs.Numbers.{IsNetOf}
use Rattle.bench_net.specs.Sorting.{AreWithin}
use Rattle.bench_net.specs.Views.{form_of}
use Rattle.bench_net.proofs.BuildLemmas.{IsTable-sorted, IsWhole-net_of, IsNetOf-net_of, same_net, wired, within-wired, loop-first, loop_fault-same}
use Rattle.bench_net.proofs.netlist.ordered.Goals as goal

pub readers-requires-clause-within : goal.readers-requires-clause-within
readers-requires-clause-within c =
    subst (λ (ds : List Driver). (n : ℕ) → n < length ds → AreWithin (length ds) (pins_at ds n))
    (sym (c.as_slice.ensures.value ∙ c.requires.drivers))
    (within-wired _ (wired _ c.requires.pins c.requires.driven_once.arity))

pub sorted-requires-clause-within : goal.sorted-requires-clause-within
sorted-requires-clause-within c =
    subst (λ (ds : List Driver). (n : ℕ) → n < length ds → AreWithin (length ds) (pins_at ds n))
    (sym (c.as_slice-2.ensures.value ∙ c.requires.drivers))
    (within-wired _ (wired _ c.requires.pins c.requires.driven_once.arity))

pub invariant_of-result : goal.invariant_of-result
invariant_of-result c =
    let forms = map form_of c.args.lines.now in
    let table =
    IsTable-sorted forms _ _ _ c.requires.pins c.requires.driven_once
    (c.as_slice-2.ensures.value ∙ c.requires.drivers) c.in_ok-order.ensures in
    let none =
    loop_fault-same forms
    (key_texts c.args.all.keys) c.as_slice-4.result.now _ _ c.requires.names
    c.as_slice-4.ensures.value c.in-None.ensures in
    let readers =
    subst (λ (ds : List Driver). AreReaders ds c.in_ok-readers.readers.items)
    (c.as_slice.ensures.value ∙ c.requires.drivers) c.in_ok-readers.ensures in
    subst
    (λ (n : Net). IsWhole
    (record { net = n; order = c.in_ok-order.order.items; readers = c.in_ok-readers.readers.items }))
    (sym (same_net forms _ _ _ c.requires.names c.requires.drivers c.requires.outputs))
    (IsWhole-net_of forms _ _ _ table readers none)

pub returns-in-None : goal.returns-in-None
returns-in-None c =
    let forms = map form_of c.args.lines.now in
    let table =
    IsTable-sorted forms _ _ _ c.requires.pins c.requires.driven_once
    (c.as_slice-2.ensures.value ∙ c.requires.drivers) c.in_ok-order.ensures in
    let none =
    loop_fault-same forms
    (key_texts c.args.all.keys) c.as_slice-4.result.now _ _ c.requires.names
    c.as_slice-4.ensures.value c.in-None.ensures in
    subst (λ (n : Net). IsNetOf (map form_of c.args.lines.now) n)
    (sym (same_net forms _ _ _ c.requires.names c.requires.drivers c.requires.outputs))
    (IsNetOf-net_of forms _ _ table none)

pub returns-in_ok-from_slice-in-Some : goal.returns-in_ok-from_slice-in-Some
returns-in_ok-from_slice-in-Some c =
    let forms = map form_of c.args.lines.now in
    let table =
    IsTable-sorted forms _ _ _ c.requires.pins c.requires.driven_once
    (c.as_slice-2.ensures.value ∙ c.requires.drivers) c.in_ok-order.ensures in
    let loop =
    loop_fault-same forms
    (key_texts c.args.all.keys) c.as_slice-4.result.now _ _ c.requires.names
    c.as_slice-4.ensures.value c.in-Some.ensures in
    inr (
      c.requires.driven_once,
      subst (λ (name : List ℕ). IsFirstLoop (map form_of c.args.lines.now) name)
          (sym c.in_ok-from_slice-in-Some.ensures) (loop-first forms _ _ table _ loop),
    )
