use Rattle.std.proofs.Common.{◌≡◌, ℕ, true, false, List, ◌++◌, take, drop, Option, Some, None, sym, ap, ◌∙◌}
use Rattle.std.specs.Prelude.{MatchOption, IfSome, codes, nat_eq}
use Rattle.std.specs.Borrow.{Bor}
use Rattle.std.specs.Cmp.Lexicographic.{pointwise, bytes_decides}
use Rattle.std.proofs.lemmas.List.{take-append-drop}
use Rattle.vcd_text.proofs.line.front_of_end.Goals as goal

-- a text whose end is as wanted is what stands in front of it, and it
ends : (text end front : List ℕ) (n : ℕ) → pointwise nat_eq (drop n text) end ≡ true → front ≡ take n text → text ≡ front ++ end
ends text end front n same is =
    sym (take-append-drop n text) ∙ ap (λ x. take n text ++ x) ((bytes_decides (drop n text) end).0 same) ∙ ap (λ x. x ++ end) (sym is)

found : (text end : List ℕ) (n : ℕ) (P : Bor (List ℕ) → Type 0) (r : Option (Bor (List ℕ)))
    → MatchOption r (pointwise nat_eq (drop n text) end ≡ false) (λ x. (pointwise nat_eq (drop n text) end ≡ true) × (x.now ≡ take n text) × P x)
    → IfSome r (λ front. text ≡ front.now ++ end)
found text end n P None h = tt
found text end n P (Some x) h = ends text end x.now n h.0 h.1

pub returns-clause-found : goal.returns-clause-found
returns-clause-found c = found c.args.text.now (codes " $end") _ _ _ c.strip_suffix.ensures.cases
