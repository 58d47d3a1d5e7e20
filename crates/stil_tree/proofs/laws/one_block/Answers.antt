use Rattle.std.proofs.Common.{◌≡◌, ◌+◌, ℕ, Option, sym, ap, ◌∙◌}
use Rattle.std.specs.Prelude.{slice_get}
use Rattle.stil_tree.specs.Blocks.{keyword_at, name_if}
use Rattle.stil_tree.proofs.Spots.{one_start}
use Rattle.stil_tree.proofs.laws.one_block.Goals as goal

pub returns : goal.returns
returns c = λ tokens found other p q.
    let same = one_start tokens p.start q.start p.begins q.begins in
    let keyword : found.0 ≡ other.0 = p.keyword ∙ (ap (keyword_at tokens) same ∙ sym q.keyword) in
    let name : found.1 ≡ other.1 = p.name ∙ (ap (λ n. name_if (slice_get tokens (n + 1)) (n + 1)) same ∙ sym q.name) in
    let whole : ◌≡◌ {A = Option ℕ × Option ℕ} (found.0, found.1) (other.0, other.1) = cc in
    whole
