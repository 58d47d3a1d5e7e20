use Rattle.std.proofs.Common.{◌≡◌, Bool, List, ℕ, true, None, Some, length, map, sym, ap, ◌∙◌, subst, inr, arith}
use Rattle.std.specs.List.{find, flat_map, list_all}
use Rattle.std.proofs.lemmas.Result.{err_from_is_err_and}
use Rattle.text_bytes.specs.Texts.{key_texts}
use Rattle.bench_net.specs.Net.{used}
use Rattle.bench_net.specs.Numbers.{lacks}
use Rattle.bench_net.specs.Views.{form_of}
use Rattle.bench_net.proofs.NumberLemmas.{AreLines-small, twice-refused, none-lacks, missing-placed, once-placed}
use Rattle.bench_net.proofs.netlist.checked.Goals as goal

pub returns-in_err-driven : goal.returns-in_err-driven
returns-in_err-driven c =
    let keys = c.args.all.now.keys in
    let forms = map form_of c.args.lines.now in
    let lines =
    AreLines-small (λ k. k.items) keys forms c.args.said.now c.requires.names
    (omega (arith, c.len.ensures.len, c.if-len-gt-MOST_NETS.false)) c.requires.lines in
    let p = err_from_is_err_and c.from_residual-in_err-driven.result c.from_residual-in_err-driven.ensures.1 in
    rw (p.1, p.2)
    (twice-refused forms (length keys) c.args.said.now (key_texts keys) _ lines c.requires.names (sym c.in_default.ensures) c.in_err-driven.ensures)

pub missing-requires : goal.missing-requires
missing-requires c =
    let keys = c.args.all.now.keys in
    let forms = map form_of c.args.lines.now in
    let marks = c.as_slice.result.now in
    let lines =
    AreLines-small (λ k. k.items) keys forms c.args.said.now c.requires.names
    (omega (arith, c.len.ensures.len, c.if-len-gt-MOST_NETS.false)) c.requires.lines in
    subst (λ (all : List (List ℕ)). list_all (λ (b : Bool). b) marks ≡ true → find (lacks all marks) (flat_map used forms) ≡ None)
    (sym c.requires.names)
    (none-lacks forms (length keys) c.args.said.now marks lines (c.as_slice.ensures.value ∙ c.in_ok-driven.ensures.marks_are))

pub returns-in-Some-missing : goal.returns-in-Some-missing
returns-in-Some-missing c =
    let keys = c.args.all.now.keys in
    let forms = map form_of c.args.lines.now in
    let marks = c.as_slice.result.now in
    let lines =
    AreLines-small (λ k. k.items) keys forms c.args.said.now c.requires.names
    (omega (arith, c.len.ensures.len, c.if-len-gt-MOST_NETS.false)) c.requires.lines in
    inr (
      lines.small,
      sym c.in_default.ensures,
      once-placed forms (length keys) c.args.said.now lines c.in_ok-driven.ensures.once,
      sym (missing-placed forms (length keys) c.args.said.now marks lines (c.as_slice.ensures.value ∙ c.in_ok-driven.ensures.marks_are))
          ∙ ap (λ (all : List (List ℕ)). find (lacks all marks) (flat_map used forms)) (sym c.requires.names)
          ∙ sym c.in-Some-missing.ensures ∙ ap (λ n. Some n) (sym c.in_ok-from_slice-2.ensures),
    )

pub returns : goal.returns
returns c =
    let keys = c.args.all.now.keys in
    let forms = map form_of c.args.lines.now in
    let marks = c.as_slice.result.now in
    let lines =
    AreLines-small (λ k. k.items) keys forms c.args.said.now c.requires.names
    (omega (arith, c.len.ensures.len, c.if-len-gt-MOST_NETS.false)) c.requires.lines in
    record {
      in_range = lines.small;
      arity = sym c.in_default.ensures;
      once = once-placed forms (length keys) c.args.said.now lines c.in_ok-driven.ensures.once;
      all = sym (missing-placed forms (length keys) c.args.said.now marks lines (c.as_slice.ensures.value ∙ c.in_ok-driven.ensures.marks_are))
          ∙ ap (λ (all : List (List ℕ)). find (lacks all marks) (flat_map used forms)) (sym c.requires.names)
          ∙ sym c.in_default-missing.ensures;
    }
