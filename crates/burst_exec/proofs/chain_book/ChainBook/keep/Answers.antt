use Rattle.std.proofs.Common.{◌≡◌, ℕ, List, [], ◌∷◌, ◌++◌, Some, None, cond, length, sym, ap, ◌∙◌, subst, arith}
use Rattle.std.specs.Option.{option_or}
use Rattle.std.specs.Str.{bytes_eq}
use Rattle.stil_ast.specs.Meaning.Chains.{Chain}
use Rattle.pattern_order.specs.Numbers.{place_in}
use Rattle.burst_exec.specs.Booked.{AreChainsOf}
use Rattle.burst_exec.specs.Made.{AreMade}
use Rattle.burst_exec.proofs.MadeLemmas.{made_more}
use Rattle.burst_exec.proofs.chain_book.ChainBook.keep.Goals as goal

pub returns : goal.returns
returns c = λ blocks are is.
    let old = c.args.self.now in
    let title = c.args.title.now in
    let number : c.len-number.result ≡ length old.made.items = omega (arith, c.len-number.ensures, old.made.ok) in
    subst (AreMade (AreChainsOf blocks) c.add_place.new.places)
    (sym (c.in_ok-push.ensures.items ∙ ap (λ (x : List Chain). old.made.items ++ (x ∷ [])) c.in_ok-shared.ensures))
    (made_more (AreChainsOf blocks) old.places old.made.items c.add_place.new.places title c.args.chains.now are is
    (λ called. c.in_ok-add_place.ensures called
    ∙ ap (λ (n : ℕ). option_or (place_in old.places called) (cond (bytes_eq title called) (Some n) None)) number))
