use Rattle.std.proofs.Common.{◌≡◌, ℕ, List, [], ◌∷◌, ◌++◌, Some, None, cond, length, sym, ap, ◌∙◌, subst, arith}
use Rattle.std.specs.Option.{option_or}
use Rattle.std.specs.Str.{bytes_eq}
use Rattle.stil_ast.specs.declared.blocks.BodyDef.{BodyDef}
use Rattle.pattern_order.specs.Numbers.{place_in}
use Rattle.burst_exec.specs.Joined.{HasJoined}
use Rattle.burst_exec.specs.declared.joined.JoinedBodies.{JoinedBodies}
use Rattle.burst_exec.proofs.JoinedLemmas.{joined_there, joined_more}
use Rattle.burst_exec.proofs.joined.JoinedBodies.join.Goals as goal

pub returns-in-Some : goal.returns-in-Some
returns-in-Some c =
    joined_there c.args.blocks.now c.args.self.now c.args.title.now c.in-Some.number c.requires (sym c.in-Some.ensures)

pub returns : goal.returns
returns c =
    let old = c.args.self.now in
    let title = c.args.title.now in
    let new : JoinedBodies = record { places = c.add_place.new.places; made = c.push.new.self } in
    let number : c.len-number.result ≡ length old.made.items = omega (arith, c.len-number.ensures, old.made.ok) in
    subst (λ (n : ℕ). HasJoined c.args.blocks.now title n new) (sym number)
    (joined_more c.args.blocks.now old new title (record {
      are = c.requires;
      made = c.in_ok-push.ensures.items ∙ ap (λ (b : List BodyDef). old.made.items ++ (b ∷ [])) c.in_ok-bodies.ensures;
      places = λ called. c.in_ok-add_place.ensures called
          ∙ ap (λ (n : ℕ). option_or (place_in old.places called) (cond (bytes_eq title called) (Some n) None)) number;
    }))
