-- What a status answers is answered by the outcome that ends with it.
use Rattle.std.proofs.Common.{◌≡◌, ◌⊎◌, ℕ, List, Option, sym, ap, subst, inl, inr}
use Rattle.tester_types.specs.Outside.{HasRisen, gained, GainsFront}
use Rattle.tool_inputs.specs.declared.status.Status.{Status}
use Rattle.tool_inputs.specs.declared.status.Status.TheVariants.{WriteFault}
use Rattle.tool_inputs.specs.Endings.{Ends, Answers}
use Rattle.lot_parts.specs.declared.outcome.Outcome.{Outcome}
use Rattle.lot_parts.specs.declared.outcome.Outcome.TheVariants.{Ended, RefusedPart}
use Rattle.lot_parts.specs.declared.refusal.PartRefusal.{PartRefusal}
use Rattle.lot_parts.specs.declared.refusal.PartRefusal.TheVariants as refusal
use Rattle.tool_inputs.specs.declared.refusal.Refusal.{Refusal}
use Rattle.tool_inputs.specs.Refusals.{status_of}
use Rattle.tool_inputs.specs.Refusals as refusals
use Rattle.lot_parts.specs.Refusals.{outcome_of, line_of, part_line}
use Rattle.lot_parts.specs.Endings.{EndsAs, AnswersAs}

-- a run that ends with a status
pub ends_as : (held held' : Option (List ℕ)) (faults faults' : ℕ) (status result : Status) (text : List ℕ)
    → Ends held faults status text result held' faults' → EndsAs held faults (Ended status) text (Ended result) held' faults'
ends_as held held' faults faults' status result text e = record { ends = by e.ends; count = e.count }
  where
    by : ((result ≡ status) × (held' ≡ gained held text)) ⊎ ((result ≡ WriteFault) × GainsFront held text held' × HasRisen faults faults')
        → ((Ended result ≡ Ended status) × (held' ≡ gained held text))
        ⊎ ((Ended result ≡ Ended WriteFault) × GainsFront held text held' × HasRisen faults faults')
    by (inl whole) = inl (ap (λ (s : Status). Ended s) whole.0, whole.1)
    by (inr front) = inr (ap (λ (s : Status). Ended s) front.0, front.1, front.2)

-- and its answer
pub answers_as : (wants : Status → List ℕ → Type 0) (wants' : Outcome → List ℕ → Type 0) (held held' : Option (List ℕ))
    (faults faults' : ℕ) (result : Status) → ((status : Status) (text : List ℕ) → wants status text → wants' (Ended status) text)
    → Answers wants held faults result held' faults' → AnswersAs wants' held faults (Ended result) held' faults'
answers_as wants wants' held held' faults faults' result wider a = record {
  outcome = Ended a.status;
  text = a.text;
  wanted = wider a.status a.text a.wanted;
  ends = ends_as held held' faults faults' a.status result a.text a.ends;
}

-- an answer of a wider kind
pub answers_wider : (wants wants' : Outcome → List ℕ → Type 0) (held held' : Option (List ℕ)) (faults faults' : ℕ)
    (result : Outcome) → ((outcome : Outcome) (text : List ℕ) → wants outcome text → wants' outcome text)
    → AnswersAs wants held faults result held' faults' → AnswersAs wants' held faults result held' faults'
answers_wider wants wants' held held' faults faults' result wider a = record {
  outcome = a.outcome;
  text = a.text;
  wanted = wider a.outcome a.text a.wanted;
  ends = a.ends;
}

-- the same by a refusal
pub refusal_ends : (held held' : Option (List ℕ)) (faults faults' : ℕ) (why : Refusal) (r : PartRefusal) (result : Status)
    → r ≡ refusal.Of why → Ends held faults (status_of why) (refusals.line_of why) result held' faults'
    → EndsAs held faults (outcome_of r) (line_of r) (Ended result) held' faults'
refusal_ends held held' faults faults' why r result is ends =
    subst (λ (p : PartRefusal). EndsAs held faults (outcome_of p) (line_of p) (Ended result) held' faults') (sym is)
    (ends_as held held' faults faults' (status_of why) result (refusals.line_of why) ends)

pub part_ends : (held held' : Option (List ℕ)) (faults faults' : ℕ) (file : List ℕ) (line : ℕ) (r : PartRefusal) (result : Outcome)
    → r ≡ refusal.Part file line → EndsAs held faults RefusedPart (part_line file line) result held' faults'
    → EndsAs held faults (outcome_of r) (line_of r) result held' faults'
part_ends held held' faults faults' file line r result is ends =
    subst (λ (p : PartRefusal). EndsAs held faults (outcome_of p) (line_of p) result held' faults') (sym is) ends
