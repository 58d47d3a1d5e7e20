use Rattle.std.proofs.Common.{◌+◌, ◌∙◌, length, arith, refl, sym}
use Rattle.std.proofs.lemmas.List.{take_rest, nil_from_length}
use Rattle.grade_parts.proofs.ReadLemmas.{rest_found, rest_next, rest_behind, not_short, short_so}
use Rattle.grade_parts.proofs.reading.read_rest.Goals as goal

pub returns-then-is_short : goal.returns-then-is_short
returns-then-is_short c =
    let front = c.in_ok-front.front in
    λ before said knows same.
    rest_next said before c.args.last c.args.text.now c.args.good.now _ front.end front.count front.found (front.count + 2)
    c.args.told.now c.fault_front.new.told
    (record {
      knows = knows;
      fits = c.requires.good;
      same = same;
      is_first = c.requires.front;
      rest_is = take_rest c.args.text.now (length c.args.good.now + 1);
      front = c.in_ok-front.ensures;
    })
    (λ left e done. short_so c.args.last c.fault_front.new.told.waiting (sym c.is_short.ensures ∙ c.if-is_short.true) done) refl

pub returns-in-Some-empty : goal.returns-in-Some-empty
returns-in-Some-empty c =
    let front = c.in_ok-front.front in
    λ before said knows same.
    rest_found said before c.args.last c.args.text.now c.args.good.now _ c.in-Some-empty.field-0.now front.end front.count front.found
    c.args.told.now c.fault_front.new.told c.of.result
    (record {
      knows = knows;
      fits = c.requires.good;
      same = same;
      is_first = c.requires.front;
      rest_is = take_rest c.args.text.now (length c.args.good.now + 1);
      front = c.in_ok-front.ensures;
    })
    (not_short c.args.last c.fault_front.new.told.waiting (sym c.is_short.ensures ∙ c.if-is_short.false))
    (sym (take_rest _ front.end) ∙ c.in-Some-empty.ensures)
    (nil_from_length c.in-Some-empty.field-0.now (omega (arith, c.in-Some-empty.len_below))) c.of.ensures.line c.of.ensures.faults

pub returns-in-Some : goal.returns-in-Some
returns-in-Some c =
    let front = c.in_ok-front.front in
    λ before said knows same.
    rest_behind said before c.args.last c.args.text.now c.args.good.now _ c.in-Some.field-0.now front.end front.count front.found
    (front.count + 3) c.args.told.now c.fault_front.new.told
    (record {
      knows = knows;
      fits = c.requires.good;
      same = same;
      is_first = c.requires.front;
      rest_is = take_rest c.args.text.now (length c.args.good.now + 1);
      front = c.in_ok-front.ensures;
    })
    (not_short c.args.last c.fault_front.new.told.waiting (sym c.is_short.ensures ∙ c.if-is_short.false))
    (sym (take_rest _ front.end) ∙ c.in-Some.ensures) (omega (arith, c.in-Some.len_at_least)) refl

pub returns-in-None : goal.returns-in-None
returns-in-None c =
    let front = c.in_ok-front.front in
    λ before said knows same.
    rest_next said before c.args.last c.args.text.now c.args.good.now _ front.end front.count front.found (front.count + 2)
    c.args.told.now c.fault_front.new.told
    (record {
      knows = knows;
      fits = c.requires.good;
      same = same;
      is_first = c.requires.front;
      rest_is = take_rest c.args.text.now (length c.args.good.now + 1);
      front = c.in_ok-front.ensures;
    })
    (λ left e done. c.in-None.ensures left (take_rest _ front.end ∙ e)) refl
