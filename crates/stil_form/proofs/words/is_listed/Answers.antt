use Rattle.std.proofs.Common.{ℕ, List, Bor, sym, ◌∙◌}
use Rattle.std.specs.Str.{bytes_eq}
use Rattle.text_bytes.proofs.ListLemmas.{list_any-map}
use Rattle.stil_form.proofs.words.is_listed.Goals as goal

pub returns : goal.returns
returns c =
    c.has_word.ensures
    ∙ sym (list_any-map (λ (w : Bor (List ℕ)). w.now) (λ listed. bytes_eq listed c.args.word.now) c.args.words.now)
