use Rattle.std.proofs.Common.{◌<◌, ◌∙◌, ◌∷◌, [], ℕ, Bool, Option, List, length, replicate, get_or, false, refl, sym, ap, subst, arith}
use Rattle.std.proofs.lemmas.List.{length-replicate}
use Rattle.tester_types.specs.declared.level.Level.{Level}
use Rattle.die_sim.specs.Die.{fixed_of}
use Rattle.die_sim.specs.Walk.{AreFaultsWithin}
use Rattle.die_words.specs.declared.word.Word.{Word}
use Rattle.die_words.specs.Lane.{nothing, AreFaults}
use Rattle.die_words.specs.Fits.{word_at, FitsOwn, GatesFit}
use Rattle.die_words.proofs.FitLemmas.{SourcesFit-kept, GatesWait-fit, settled_lane}
use Rattle.die_words.proofs.BoardLemmas.{IsLaneOf-first, OnlyInputs-none}
use Rattle.die_words.proofs.board.load_nets.Goals as goal

pub put_faults-requires-clause-within : goal.put_faults-requires-clause-within
put_faults-requires-clause-within c =
    subst (λ (n : ℕ). AreFaultsWithin n c.args.faults.now) (sym (c.requires.fit.forces ∙ c.requires.board.whole.drivers)) c.requires.within

-- the words are those of a netlist with these faults, as the gates were evaluated
pub returns-clause-fit : goal.returns-clause-fit
returns-clause-fit c =
    let net = c.args.net.now in
    let forces = c.put_faults.new.forces.items in
    let held = c.forget.new.held.items in
    let fits = subst (λ (f : List Word). GatesFit net f c.walk_all.new.words.items) c.as_slice-3.ensures.value c.walk_all.ensures.gates in
    record {
      forces = c.put_faults.ensures.count ∙ c.requires.fit.forces;
      offs = ap (λ (l : List Bool). length l) c.forget.ensures.offs ∙ length-replicate (length c.args.nets.now.offs.items) false ∙ c.requires.fit.offs;
      held = ap (λ (l : List Word). length l) c.forget.ensures.held ∙ length-replicate (length c.args.nets.now.held.items) nothing ∙ c.requires.fit.held;
      words = c.walk_all.ensures.count ∙ c.put_own.ensures.count ∙ c.requires.fit.words;
      inputs = OnlyInputs-none net.net.drivers c.forget.new.offs.items (length c.args.nets.now.offs.items) c.forget.ensures.offs;
      sources = SourcesFit-kept net forces held c.put_own.new.words.items c.walk_all.new.words.items c.walk_all.ensures.kept (record {
        each = λ n l e.
            let inside : n < length c.args.nets.now.words.items = omega (arith, l, c.requires.fit.words) in
            subst (λ (f : List Word). FitsOwn (word_at f n) (word_at held n) (word_at c.put_own.new.words.items n)) c.as_slice.ensures.value
            (subst (λ (h : List Word). FitsOwn (word_at c.as_slice.result.now n) (word_at h n) (word_at c.put_own.new.words.items n)) c.as_slice-2.ensures.value
            (c.put_own.ensures.fit n inside));
      });
      gates = GatesWait-fit net forces c.walk_all.new.words.items c.walk_all.new.pending c.walk_all.ensures.seats fits;
    }

pub returns-clause-lanes : goal.returns-clause-lanes
returns-clause-lanes c = λ k d device l net fixed_is.
    let within : k < 64 = omega (arith, l, c.requires.few) in
    let fit = returns-clause-fit c in
    let gates = subst (λ (f : List Word). GatesFit c.args.net.now f c.walk_all.new.words.items) c.as_slice-3.ensures.value c.walk_all.ensures.gates in
    let count = c.requires.fit.forces ∙ c.requires.board.whole.drivers in
    let each = subst (λ (n : ℕ). AreFaults c.put_faults.new.forces.items k (fixed_of n (get_or c.args.faults.now k d ∷ []))) count (c.put_faults.ensures.each k d l) in
    let faults = subst (λ (f : List (Option Level)). AreFaults c.put_faults.new.forces.items k f) (sym fixed_is) each in
    IsLaneOf-first _ k device c.requires.board.whole net faults refl
    (c.forget.ensures.held ∙ ap (λ (n : ℕ). replicate n nothing) c.requires.fit.held)
    (c.forget.ensures.offs ∙ ap (λ (n : ℕ). replicate n false) c.requires.fit.offs)
    (λ fixed own f h. settled_lane c.args.net.now c.requires.board.whole c.put_faults.new.forces.items c.forget.new.held.items c.walk_all.new.words.items
    fit.forces fit.held fit.words fit.sources gates k within fixed own f h)
