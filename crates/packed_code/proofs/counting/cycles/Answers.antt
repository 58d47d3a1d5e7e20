use Rattle.std.proofs.Common.{◌≡◌, ◌+◌, ◌-◌, ◌∷◌, ap, ◌∙◌, sym, subst, arith, refl, List, drop, map, length, ℕ}
use Rattle.std.proofs.lemmas.List.{drop_all, get_or_read_under}
use Rattle.packed_code.specs.declared.instr.Instr.{Instr}
use Rattle.packed_code.specs.declared.instr.Instr.TheVariants.{Run}
use Rattle.packed_code.specs.Meaning.{body_counts}
use Rattle.packed_code.specs.Count.{capped, HasRoom}
use Rattle.packed_code.proofs.CountLemmas.{has_room, put_more, none_put, is_counted}
use Rattle.packed_code.proofs.counting.cycles.Goals as goal

pub loop-at-init : goal.loop-at-init
loop-at-init c =
    (omega arith, c.new-sums.ensures ∙ none_put ∙ ap (λ (xs : List Instr). map capped (body_counts xs)) (sym (drop_all _ c.args.code.now (omega arith))))

pub put-requires : goal.put-requires
put-requires c =
    let e : c.loop-at.at ≡ c.loop-at.at - 1 + 1 = omega arith in
    let read = c.instr.ensures ∙ get_or_read_under c.args.code.now (c.loop-at.at - 1) (length c.args.code.now) c.index-code-at.result (Run 0 0 0 0)
    c.index-code-at.is (omega arith) refl in
    subst (λ (i : Instr). HasRoom i (length c.loop-at.sums)) (sym read)
    (has_room c.args.code.now (c.loop-at.at - 1) c.loop-at.sums c.requires (omega arith)
    (c.loop-at.invariant.1 ∙ ap (λ (k : ℕ). map capped (body_counts (drop k c.args.code.now))) e))

pub loop-at-preserved : goal.loop-at-preserved
loop-at-preserved c =
    let e : c.loop-at.at ≡ c.loop-at.at - 1 + 1 = omega arith in
    let read = c.instr.ensures ∙ get_or_read_under c.args.code.now (c.loop-at.at - 1) (length c.args.code.now) c.index-code-at.result (Run 0 0 0 0)
    c.index-code-at.is (omega arith) refl in (
      omega arith,
      put_more c.args.code.now (c.loop-at.at - 1) c.put.new.self (omega arith)
          (c.put.ensures (drop (c.loop-at.at - 1 + 1) c.args.code.now)
          (c.loop-at.invariant.1 ∙ ap (λ (k : ℕ). map capped (body_counts (drop k c.args.code.now))) e)
          ∙ ap (λ (i : Instr). map capped (body_counts (i ∷ drop (c.loop-at.at - 1 + 1) c.args.code.now))) read),
    )

pub top-requires : goal.top-requires
top-requires c =
    let e : c.loop-at.at ≡ 0 = omega arith in
    (is_counted c.args.code.now c.loop-at.sums c.requires
    (c.loop-at.invariant.1 ∙ ap (λ (k : ℕ). map capped (body_counts (drop k c.args.code.now))) e)).0

pub returns : goal.returns
returns c =
    let e : c.loop-at.at ≡ 0 = omega arith in
    c.top.ensures ∙ (is_counted c.args.code.now c.loop-at.sums c.requires
    (c.loop-at.invariant.1 ∙ ap (λ (k : ℕ). map capped (body_counts (drop k c.args.code.now))) e)).1
