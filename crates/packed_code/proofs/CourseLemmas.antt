-- Each move of a walk keeps what is still to come.
use Rattle.std.proofs.Common.{◌≡◌, ℕ, zero, suc, ◌+◌, ◌-◌, ◌^◌, ◌<◌, ◌≤◌, Bool, true, false, cond, List, [], ◌∷◌, ◌++◌, length, drop, get_or, set, replicate, Some, None, refl, sym, ap, subst, ◌∙◌, append_assoc, arith, ◌⊎◌, inl, inr}
use Rattle.std.proofs.lemmas.List.{drop-drop, drop_more, drop_all, drop_at, length-append, length-replicate, length-set, get_or-replicate, get_or_append_left, get_or-set_same, get_or-set_other}
use Rattle.std.proofs.lemmas.Bool.{cases_lt, eq-eqb, ne_eqb}
use Rattle.std.proofs.lemmas.Option.{get_or_from_slice_get}
use Rattle.packed_code.specs.declared.instr.Entry.{Entry}
use Rattle.packed_code.specs.declared.instr.Instr.{Instr}
use Rattle.packed_code.specs.declared.instr.Instr.TheVariants.{Run, Loop, End, Done}
use Rattle.packed_code.specs.declared.course.OpenLoop.{OpenLoop}
use Rattle.packed_code.specs.declared.course.Course.{Course}
use Rattle.packed_code.specs.declared.course.CourseStep.{CourseStep}
use Rattle.packed_code.specs.declared.course.CourseStep.TheVariants.{Gave, Moved, Over}
use Rattle.packed_code.specs.Meaning.{repeated, top, below, on_top, closed, bodies, Means}
use Rattle.packed_code.specs.Whole.{IsRest}
use Rattle.packed_code.specs.Course.{loop_at, opened, bodies_at, to_come, coming, AreOpen, IsOn, IsSameWalk, run_times, loop_times, at_end, StandsAt, leads_on, most_moves, given_by, Steps}
use Rattle.packed_code.proofs.BodyLemmas.{length-bodies, two_bodies, one_body, end_in_front, loop_in_front, begun_not_end, inside_code}

-- ---- open loops

pub length-opened : (depth : ℕ) (loops : List OpenLoop) → length (opened depth loops) ≡ depth
length-opened zero loops = refl
length-opened (suc depth) loops = ap suc (length-opened depth loops)

pub opened-set : (depth place : ℕ) (loops : List OpenLoop) (loop : OpenLoop) → depth ≤ place
    → opened depth (set loops place loop) ≡ opened depth loops
opened-set zero place loops loop low = refl
opened-set (suc depth) place loops loop low =
    let other : depth ≡ place → ⊥ = λ e. omega arith in
    let inner : opened depth (set loops place loop) ≡ opened depth loops = opened-set depth place loops loop (omega arith) in
    rw (get_or-set_other loops place depth loop (record { start = 0; left = 0 }) other, inner) refl

pub opened_one : (depth : ℕ) (loops : List OpenLoop) → 0 < depth
    → opened depth loops ≡ loop_at loops (depth - 1) ∷ opened (depth - 1) loops
opened_one zero loops some = absurd (omega arith)
opened_one (suc depth) loops some = let e : suc depth - 1 ≡ depth = omega arith in rw e refl

pub opened_more : (depth : ℕ) (loops : List OpenLoop) (loop : OpenLoop) → depth < length loops
    → opened (depth + 1) (set loops depth loop) ≡ loop ∷ opened depth loops
opened_more depth loops loop room =
    let e : depth + 1 ≡ suc depth = omega arith in
    rw (e, get_or-set_same loops depth loop (record { start = 0; left = 0 }) room, opened-set depth depth loops loop (omega arith)) refl

-- ---- what is to come

pub to_come-front : (code : List Instr) (first body : List Entry) (more : List (List Entry)) (loops : List OpenLoop)
    → to_come code ((first ++ body) ∷ more) loops ≡ first ++ to_come code (body ∷ more) loops
unfolding to_come
to_come-front code first body more [] = refl
to_come-front code first body more (loop ∷ loops) = append_assoc first body _

pub AreOpen-below : (code : List Instr) (old new : List (List Entry)) (loops : List OpenLoop) → below new ≡ below old
    → AreOpen code old loops → AreOpen code new loops
unfolding AreOpen
AreOpen-below code old new [] same open' = tt
AreOpen-below code old new (loop ∷ loops) same open' =
    (open'.0 ∙ sym same, open'.1, open'.2, subst (λ (m : List (List Entry)). AreOpen code m loops) (sym same) open'.3)

-- ---- the moves

-- the place behind
pub behind : (code : List Instr) (at : ℕ) → drop 1 (drop at code) ≡ drop (at + 1) code
behind code at = drop-drop 1 at code

-- out of a loop without a further pass
pub goes_out : (code : List Instr) (old : Course) → IsOn code old → at_end (drop old.at code) ≡ true
    → (loop_at old.loops (old.depth - 1)).left ≡ 0
    → IsSameWalk code old (record { at = old.at + 1; taken = old.taken; depth = old.depth - 1; loops = old.loops })
unfolding to_come AreOpen bodies repeated
goes_out code old on end last =
    let inner = drop (old.at + 1) code in
    let shape : drop old.at code ≡ End ∷ inner = end_in_front (drop old.at code) end ∙ ap (λ (xs : List Instr). End ∷ xs) (behind code old.at) in
    let rest : IsRest old.depth on.begun (End ∷ inner) = subst (λ (xs : List Instr). IsRest old.depth on.begun xs) shape on.rest in
    let loops = opened_one old.depth old.loops rest.1 in
    let are : bodies (drop old.at code) ≡ [] ∷ bodies inner = ap bodies shape in
    let open' : AreOpen code ([] ∷ bodies inner) (loop_at old.loops (old.depth - 1) ∷ opened (old.depth - 1) old.loops) =
    subst (λ (x : List (List Entry)). AreOpen code x (loop_at old.loops (old.depth - 1) ∷ opened (old.depth - 1) old.loops)) are
    (subst (λ (x : List OpenLoop). AreOpen code (bodies (drop old.at code)) x) loops on.loops) in
    let none : old.taken ≤ 0 = subst (λ (xs : List Instr). old.taken ≤ run_times xs) shape on.taken in
    record {
      on = record {
        inside = inside_code (old.depth - 1) false code (old.at + 1) rest.2;
        room = on.room;
        depth = (let d : old.depth ≤ 64 = on.depth in omega arith);
        begun = false;
        rest = rest.2;
        loops = open'.3;
        taken = omega arith;
      };
      coming = ap (drop old.taken) (sym (ap (λ (x : List (List Entry)). to_come code x (opened old.depth old.loops)) are
          ∙ ap (λ (x : List OpenLoop). to_come code ([] ∷ bodies inner) x) loops
          ∙ ap (λ (n : ℕ). repeated n (top (bodies_at code (loop_at old.loops (old.depth - 1)).start)) ++ to_come code (bodies inner) (opened (old.depth - 1) old.loops)) last));
    }

-- back to the body of a loop that has a pass left
pub goes_back : (code : List Instr) (old : Course) → IsOn code old → at_end (drop old.at code) ≡ true
    → ((loop_at old.loops (old.depth - 1)).left ≡ 0 → ⊥)
    → IsSameWalk code old (record {
      at = (loop_at old.loops (old.depth - 1)).start;
      taken = old.taken;
      depth = old.depth;
      loops = set old.loops (old.depth - 1) (record {
        start = (loop_at old.loops (old.depth - 1)).start;
        left = (loop_at old.loops (old.depth - 1)).left - 1;
      });
    })
    × (at_end (drop (loop_at old.loops (old.depth - 1)).start code) ≡ false)
unfolding to_come AreOpen bodies repeated
goes_back code old on end more =
    let inner = drop (old.at + 1) code in
    let loop = loop_at old.loops (old.depth - 1) in
    let next : OpenLoop = record { start = loop.start; left = loop.left - 1 } in
    let outer = opened (old.depth - 1) old.loops in
    let shape : drop old.at code ≡ End ∷ inner = end_in_front (drop old.at code) end ∙ ap (λ (xs : List Instr). End ∷ xs) (behind code old.at) in
    let rest : IsRest old.depth on.begun (End ∷ inner) = subst (λ (xs : List Instr). IsRest old.depth on.begun xs) shape on.rest in
    let loops : opened old.depth old.loops ≡ loop ∷ outer = opened_one old.depth old.loops rest.1 in
    let are : bodies (drop old.at code) ≡ [] ∷ bodies inner = ap bodies shape in
    let open' : AreOpen code ([] ∷ bodies inner) (loop ∷ outer) =
    subst (λ (x : List (List Entry)). AreOpen code x (loop ∷ outer)) are
    (subst (λ (x : List OpenLoop). AreOpen code (bodies (drop old.at code)) x) loops on.loops) in
    let none : old.taken ≤ 0 = subst (λ (xs : List Instr). old.taken ≤ run_times xs) shape on.taken in
    let deep : old.depth ≤ 64 = on.depth in
    let some : 0 < old.depth = rest.1 in
    let wide : length old.loops ≡ 64 = on.room in
    let now : opened old.depth (set old.loops (old.depth - 1) next) ≡ next ∷ outer =
    (let e : old.depth ≡ (old.depth - 1) + 1 = omega arith in
    ap (λ (n : ℕ). opened n (set old.loops (old.depth - 1) next)) e ∙ opened_more (old.depth - 1) old.loops next (omega arith)) in
    let height : suc (length outer) ≡ old.depth = omega (arith, length-opened (old.depth - 1) old.loops) in
    let there : IsRest old.depth true (drop loop.start code) = subst (λ (n : ℕ). IsRest n true (drop loop.start code)) height open'.2 in
    let body = top (bodies_at code loop.start) in
    let passes : repeated loop.left body ≡ body ++ repeated (loop.left - 1) body =
    (let e : loop.left ≡ suc (loop.left - 1) = omega arith in ap (λ (n : ℕ). repeated n body) e) in (
      record {
        on = record {
          inside = open'.1;
          room = length-set old.loops (old.depth - 1) next ∙ on.room;
          depth = on.depth;
          begun = true;
          rest = there;
          loops = subst (λ (x : List OpenLoop). AreOpen code (bodies_at code loop.start) x) (sym now)
              (refl, open'.1, open'.2, subst (λ (x : List (List Entry)). AreOpen code x outer) (sym open'.0) open'.3);
          taken = omega arith;
        };
        coming = ap (drop old.taken)
            (ap (λ (x : List OpenLoop). to_come code (bodies_at code loop.start) x) now
            ∙ ap (λ (x : List (List Entry)). body ++ (repeated (loop.left - 1) body ++ to_come code x outer)) open'.0
            ∙ sym (append_assoc body (repeated (loop.left - 1) body) (to_come code (bodies inner) outer))
            ∙ ap (λ (x : List Entry). x ++ to_come code (bodies inner) outer) (sym passes)
            ∙ sym (ap (λ (x : List (List Entry)). to_come code x (opened old.depth old.loops)) are
            ∙ ap (λ (x : List OpenLoop). to_come code ([] ∷ bodies inner) x) loops));
      },
      begun_not_end old.depth (drop loop.start code) there,
    )

-- into a loop
pub goes_in : (code : List Instr) (old : Course) (times : ℕ) → IsOn code old → loop_times (drop old.at code) ≡ Some times
    → IsSameWalk code old (record {
      at = old.at + 1;
      taken = old.taken;
      depth = old.depth + 1;
      loops = set old.loops old.depth (record { start = old.at + 1; left = times - 1 });
    })
    × (at_end (drop (old.at + 1) code) ≡ false) × (0 < times) × (old.depth < 64)
unfolding to_come AreOpen bodies repeated
goes_in code old times on begins =
    let inner = drop (old.at + 1) code in
    let next : OpenLoop = record { start = old.at + 1; left = times - 1 } in
    let outer = opened old.depth old.loops in
    let shape : drop old.at code ≡ Loop times ∷ inner = loop_in_front (drop old.at code) times begins ∙ ap (λ (xs : List Instr). Loop times ∷ xs) (behind code old.at) in
    let rest : IsRest old.depth on.begun (Loop times ∷ inner) = subst (λ (xs : List Instr). IsRest old.depth on.begun xs) shape on.rest in
    let two = two_bodies old.depth (bodies inner) (length-bodies (suc old.depth) true inner rest.3) in
    let are : bodies (drop old.at code) ≡ (repeated times two.body ++ two.after) ∷ two.more = ap bodies shape ∙ ap (closed times) two.are in
    let open' : AreOpen code (two.after ∷ two.more) outer =
    AreOpen-below code (bodies (drop old.at code)) (two.after ∷ two.more) outer (sym (ap below are)) on.loops in
    let none : old.taken ≤ 0 = subst (λ (xs : List Instr). old.taken ≤ run_times xs) shape on.taken in
    let some : 0 < times = rest.0 in
    let deep : old.depth < 64 = rest.2 in
    let wide : length old.loops ≡ 64 = on.room in
    let now : opened (old.depth + 1) (set old.loops old.depth next) ≡ next ∷ outer = opened_more old.depth old.loops next (omega arith) in
    let high : suc (length outer) ≡ old.depth + 1 = omega (arith, length-opened old.depth old.loops) in
    let below_is : below (bodies inner) ≡ two.after ∷ two.more = ap below two.are in
    let top_is : top (bodies inner) ≡ two.body = ap top two.are in
    let passes : repeated times two.body ≡ two.body ++ repeated (times - 1) two.body =
    (let e : times ≡ suc (times - 1) = omega arith in ap (λ (n : ℕ). repeated n two.body) e) in
    let after = to_come code (two.after ∷ two.more) outer in (
      record {
        on = record {
          inside = inside_code (suc old.depth) true code (old.at + 1) rest.3;
          room = length-set old.loops old.depth next ∙ on.room;
          depth = omega arith;
          begun = true;
          rest = (let e : suc old.depth ≡ old.depth + 1 = omega arith in subst (λ (n : ℕ). IsRest n true inner) e rest.3);
          loops = subst (λ (x : List OpenLoop). AreOpen code (bodies inner) x) (sym now) (
            refl,
            inside_code (suc old.depth) true code (old.at + 1) rest.3,
            (let e : suc old.depth ≡ suc (length outer) = omega arith in subst (λ (n : ℕ). IsRest n true inner) e rest.3),
            subst (λ (x : List (List Entry)). AreOpen code x outer) (sym below_is) open',
          );
          taken = omega arith;
        };
        coming = ap (drop old.taken)
            (ap (λ (x : List OpenLoop). to_come code (bodies inner) x) now
            ∙ ap (λ (x : List (List Entry)). top (bodies inner) ++ (repeated (times - 1) (top (bodies inner)) ++ to_come code x outer)) below_is
            ∙ ap (λ (x : List Entry). x ++ (repeated (times - 1) x ++ after)) top_is
            ∙ sym (append_assoc two.body (repeated (times - 1) two.body) after)
            ∙ ap (λ (x : List Entry). x ++ after) (sym passes)
            ∙ sym (to_come-front code (repeated times two.body) two.after two.more outer)
            ∙ ap (λ (x : List (List Entry)). to_come code x outer) (sym are));
      },
      begun_not_end (suc old.depth) inner rest.3,
      some,
      deep,
    )

-- what a Run in front makes of the bodies
pub record IsAtRun (code : List Instr) (old : Course) (table row mark times : ℕ) : Type 0 where
  pub shape : drop old.at code ≡ Run table row mark times ∷ drop (old.at + 1) code
  pub some : 0 < times
  pub fits : times < 2 ^ 32
  pub rest : IsRest old.depth false (drop (old.at + 1) code)
  pub body : List Entry
  pub more : List (List Entry)
  pub behind : bodies (drop (old.at + 1) code) ≡ body ∷ more
  pub are : bodies (drop old.at code) ≡ (replicate times (record { table = table; row = row; mark = mark }) ++ body) ∷ more

pub at_run : (code : List Instr) (old : Course) (table row mark times : ℕ) → IsOn code old
    → get_or code old.at (Run 0 0 0 0) ≡ Run table row mark times → IsAtRun code old table row mark times
unfolding bodies
at_run code old table row mark times on reads =
    let inner = drop (old.at + 1) code in
    let shape : drop old.at code ≡ Run table row mark times ∷ inner = drop_more code old.at (Run 0 0 0 0) on.inside ∙ ap (λ (i : Instr). i ∷ inner) reads in
    let rest : IsRest old.depth on.begun (Run table row mark times ∷ inner) = subst (λ (xs : List Instr). IsRest old.depth on.begun xs) shape on.rest in
    let one = one_body old.depth (bodies inner) (length-bodies old.depth false inner rest.2) in
    record {
      shape = shape;
      some = rest.0;
      fits = rest.1;
      rest = rest.2;
      body = one.body;
      more = one.more;
      behind = one.are;
      are = ap bodies shape ∙ ap (on_top (replicate times (record { table = table; row = row; mark = mark }))) one.are;
    }

-- past a Run that is used up
pub goes_on : (code : List Instr) (old : Course) (table row mark times : ℕ) → IsOn code old
    → get_or code old.at (Run 0 0 0 0) ≡ Run table row mark times → old.taken ≡ times
    → IsSameWalk code old (record { at = old.at + 1; taken = 0; depth = old.depth; loops = old.loops })
goes_on code old table row mark times on reads used =
    let inner = drop (old.at + 1) code in
    let loops = opened old.depth old.loops in
    let run = at_run code old table row mark times on reads in
    let entry : Entry = record { table = table; row = row; mark = mark } in
    let open' : AreOpen code (bodies inner) loops =
    AreOpen-below code (bodies (drop old.at code)) (bodies inner) loops (ap below run.behind ∙ sym (ap below run.are)) on.loops in
    record {
      on = record {
        inside = inside_code old.depth false code (old.at + 1) run.rest;
        room = on.room;
        depth = on.depth;
        begun = false;
        rest = run.rest;
        loops = open';
        taken = omega arith;
      };
      coming = sym (ap (λ (x : List (List Entry)). drop old.taken (to_come code x loops)) run.are
          ∙ ap (drop old.taken) (to_come-front code (replicate times entry) run.body run.more loops)
          ∙ drop_at (replicate times entry) (to_come code (run.body ∷ run.more) loops) old.taken (length-replicate times entry ∙ sym used)
          ∙ ap (λ (x : List (List Entry)). to_come code x loops) (sym run.behind));
    }

-- one cycle of a Run
pub record IsGiven (code : List Instr) (old : Course) (entry : Entry) : Type 0 where
  pub on : IsOn code (record { at = old.at; taken = old.taken + 1; depth = old.depth; loops = old.loops })
  pub given : coming code old ≡ entry ∷ coming code (record { at = old.at; taken = old.taken + 1; depth = old.depth; loops = old.loops })

pub gives_run : (code : List Instr) (old : Course) (table row mark times : ℕ) → IsOn code old
    → get_or code old.at (Run 0 0 0 0) ≡ Run table row mark times → (old.taken ≡ 0) ⊎ (old.taken < run_times (drop old.at code))
    → (old.taken < times) × IsGiven code old (record { table = table; row = row; mark = mark }) × (times < 2 ^ 32)
gives_run code old table row mark times on reads fresh =
    let loops = opened old.depth old.loops in
    let run = at_run code old table row mark times on reads in
    let entry : Entry = record { table = table; row = row; mark = mark } in
    let some : 0 < times = run.some in
    let fewer : old.taken < times =
    elim fresh as (λ _. old.taken < times) [
      | inl none ↦ omega arith
      | inr lt ↦ subst (λ (xs : List Instr). old.taken < run_times xs) run.shape lt
    ] in
    let after = to_come code (run.body ∷ run.more) loops in
    let all = replicate times entry ++ after in
    let is_all : to_come code (bodies_at code old.at) loops ≡ all =
    ap (λ (x : List (List Entry)). to_come code x loops) run.are ∙ to_come-front code (replicate times entry) run.body run.more loops in
    let inside : old.taken < length all = omega (arith, length-append (replicate times entry) after, length-replicate times entry) in
    let first : get_or all old.taken entry ≡ entry =
    get_or_append_left (replicate times entry) after entry old.taken (omega (arith, length-replicate times entry))
    ∙ get_or-replicate times old.taken entry entry fewer in (
      fewer,
      record {
        on = record {
          inside = on.inside;
          room = on.room;
          depth = on.depth;
          begun = on.begun;
          rest = on.rest;
          loops = on.loops;
          taken = subst (λ (xs : List Instr). old.taken + 1 ≤ run_times xs) (sym run.shape) (omega arith);
        };
        given = ap (drop old.taken) is_all ∙ drop_more all old.taken entry inside
            ∙ ap (λ (e : Entry). e ∷ drop (old.taken + 1) all) first
            ∙ ap (λ (xs : List Entry). entry ∷ drop (old.taken + 1) xs) (sym is_all);
      },
      run.fits,
    )

-- only Done is left
done_in_front : (depth : ℕ) (begun : Bool) (code : List Instr) → IsRest depth begun code
    → at_end code ≡ false → loop_times code ≡ None → run_times code ≡ 0
    → (bodies code ≡ [] ∷ []) × (depth ≡ 0)
unfolding bodies
done_in_front depth begun [] rest e l r = absurd rest
done_in_front depth begun (Run table row mark times ∷ code) rest e l r = absurd (let some : 0 < times = rest.0 in omega arith)
done_in_front depth begun (Loop times ∷ code) rest e l r = absurd cc
done_in_front depth begun (End ∷ code) rest e l r = absurd cc
done_in_front depth begun (Done ∷ code) rest e l r = (refl, rest.0)

-- nothing comes at Done
pub gives_none : (code : List Instr) (old : Course) → IsOn code old → at_end (drop old.at code) ≡ false
    → loop_times (drop old.at code) ≡ None → run_times (drop old.at code) ≡ 0 → coming code old ≡ []
unfolding to_come
gives_none code old on past in_body no_run =
    let done = done_in_front old.depth on.begun (drop old.at code) on.rest past in_body no_run in
    ap (λ (x : List (List Entry)). drop old.taken (to_come code x (opened old.depth old.loops))) done.0
    ∙ ap (λ (d : ℕ). drop old.taken (to_come code ([] ∷ []) (opened d old.loops))) done.1
    ∙ drop_all old.taken [] (omega arith)

-- the beginning
pub starts_on : (code : List Instr) (loops : List OpenLoop) → length loops ≡ 64 → IsRest 0 false code
    → IsOn code (record { at = 0; taken = 0; depth = 0; loops = loops })
unfolding AreOpen
starts_on code loops room rest = record {
  inside = inside_code 0 false code 0 rest;
  room = room;
  depth = omega arith;
  begun = false;
  rest = rest;
  loops = tt;
  taken = omega arith;
}

pub starts_with : (code : List Instr) → to_come code (bodies_at code 0) [] ≡ Means code
unfolding to_come
starts_with code = refl

-- ---- steps

-- what stands in front of the rest of the code
front : (code : List Instr) (old : Course) (i : Instr) → StandsAt code old i → drop old.at code ≡ i ∷ drop (old.at + 1) code
front code old i stands =
    drop_more code old.at i stands.on.inside
    ∙ ap (λ (x : Instr). x ∷ drop (old.at + 1) code) (get_or_from_slice_get code old.at i i stands.here)

-- what is read at the place, where a Run stands
reads_run : (code : List Instr) (old : Course) (i : Instr) → StandsAt code old i → get_or code old.at (Run 0 0 0 0) ≡ i
reads_run code old i stands = get_or_from_slice_get code old.at i (Run 0 0 0 0) stands.here

-- a fresh instruction that is no End leads no further
fresh_stays : (depth : ℕ) (begun : Bool) (taken : ℕ) (code : List Instr) → IsRest depth begun code → at_end code ≡ false → taken ≡ 0
    → leads_on taken code ≡ false
fresh_stays depth begun taken [] rest past none = refl
fresh_stays depth begun taken (Run table row mark times ∷ code) rest past none =
    let some : 0 < times = rest.0 in ne_eqb taken times (λ e. omega (arith, e, none))
fresh_stays depth begun taken (Loop times ∷ code) rest past none = refl
fresh_stays depth begun taken (End ∷ code) rest past none = absurd cc
fresh_stays depth begun taken (Done ∷ code) rest past none = refl

-- one place further
nearer_on : (code : List Instr) (old new : Course) → old.at < length code → leads_on old.taken (drop old.at code) ≡ true
    → new.at ≡ old.at + 1 → most_moves code new < most_moves code old
nearer_on code old new inside leads next =
    let more : cond {A = ℕ} (leads_on new.taken (drop new.at code)) (length code) 0 ≤ length code =
    at_most_all (leads_on new.taken (drop new.at code)) (length code) in
    rw leads (omega (arith, more, next))
  where
    at_most_all : (b : Bool) (n : ℕ) → cond {A = ℕ} b n 0 ≤ n
    at_most_all true n = omega arith
    at_most_all false n = omega arith

-- to a place that leads no further
nearer_stay : (code : List Instr) (old new : Course) → old.at < length code → leads_on new.taken (drop new.at code) ≡ false
    → (leads_on old.taken (drop old.at code) ≡ true) ⊎ (new.at ≡ old.at + 1)
    → most_moves code new < most_moves code old
nearer_stay code old new inside stays (inl leads) = rw (stays, leads) (omega arith)
nearer_stay code old new inside stays (inr next) = rw stays (omega (arith, next))

-- a move to the same walk from another place
moved : (code : List Instr) (old new : Course) → IsSameWalk code old new → most_moves code new < most_moves code old → Steps code old Moved new
moved code old new same nearer = record { on = same.on; given = sym same.coming; says = nearer }

-- past a Run of which all cycles were taken
pub leaves_run : (code : List Instr) (old : Course) (table row mark times : ℕ) → StandsAt code old (Run table row mark times)
    → old.taken ≡ times → Steps code old Moved (record { at = old.at + 1; taken = 0; depth = old.depth; loops = old.loops })
leaves_run code old table row mark times stands used =
    let new : Course = record { at = old.at + 1; taken = 0; depth = old.depth; loops = old.loops } in
    let same = goes_on code old table row mark times stands.on (reads_run code old (Run table row mark times) stands) used in
    let leads = ap (leads_on old.taken) (front code old (Run table row mark times) stands) ∙ eq-eqb old.taken times used in
    moved code old new same (nearer_on code old new stands.on.inside leads refl)

-- a cycle of a Run
pub gives_cycle : (code : List Instr) (old : Course) (table row mark times : ℕ) → StandsAt code old (Run table row mark times)
    → (old.taken ≡ times → ⊥)
    → (old.taken + 1 < 2 ^ 32) × Steps code old (Gave (record { table = table; row = row; mark = mark }))
    (record { at = old.at; taken = old.taken + 1; depth = old.depth; loops = old.loops })
gives_cycle code old table row mark times stands left =
    let shape = front code old (Run table row mark times) stands in
    let most : old.taken ≤ times = subst (λ (xs : List Instr). old.taken ≤ run_times xs) shape stands.on.taken in
    let fewer : old.taken < times = below_or_not old.taken times most left in
    let g = gives_run code old table row mark times stands.on (reads_run code old (Run table row mark times) stands)
    (inr (subst (λ (xs : List Instr). old.taken < run_times xs) (sym shape) fewer)) in
    (let fits : times < 2 ^ 32 = g.2 in omega arith, record { on = g.1.on; given = g.1.given; says = tt })
  where
    below_or_not : (a b : ℕ) → a ≤ b → (a ≡ b → ⊥) → a < b
    below_or_not a b le other = elim (cases_lt a b) [
      | inl lt ↦ lt
      | inr ge ↦ absurd (other (omega arith))
    ]

-- into a loop
pub enters : (code : List Instr) (old : Course) (times : ℕ) → StandsAt code old (Loop times)
    → (0 < times) × (old.depth < 64) × Steps code old Moved (record {
      at = old.at + 1;
      taken = old.taken;
      depth = old.depth + 1;
      loops = set old.loops old.depth (record { start = old.at + 1; left = times - 1 });
    })
enters code old times stands =
    let new : Course = record {
      at = old.at + 1;
      taken = old.taken;
      depth = old.depth + 1;
      loops = set old.loops old.depth (record { start = old.at + 1; left = times - 1 });
    } in
    let shape = front code old (Loop times) stands in
    let g = goes_in code old times stands.on (ap loop_times shape) in
    let most : old.taken ≤ 0 = subst (λ (xs : List Instr). old.taken ≤ run_times xs) shape stands.on.taken in
    let stays = fresh_stays new.depth g.0.on.begun new.taken (drop new.at code) g.0.on.rest g.1 (omega arith) in
    (g.2, g.3, moved code old new g.0 (nearer_stay code old new stands.on.inside stays (inr refl)))

-- a loop is open at an End
pub is_open : (code : List Instr) (old : Course) → StandsAt code old End → (0 < old.depth) × (old.depth ≤ 64)
is_open code old stands =
    let rest : IsRest old.depth stands.on.begun (End ∷ drop (old.at + 1) code) =
    subst (λ (xs : List Instr). IsRest old.depth stands.on.begun xs) (front code old End stands) stands.on.rest in
    (rest.1, stands.on.depth)

-- out of a loop
pub leaves_loop : (code : List Instr) (old : Course) → StandsAt code old End → (loop_at old.loops (old.depth - 1)).left ≡ 0
    → Steps code old Moved (record { at = old.at + 1; taken = old.taken; depth = old.depth - 1; loops = old.loops })
leaves_loop code old stands last =
    let new : Course = record { at = old.at + 1; taken = old.taken; depth = old.depth - 1; loops = old.loops } in
    let shape = front code old End stands in
    let same = goes_out code old stands.on (ap at_end shape) last in
    moved code old new same (nearer_on code old new stands.on.inside (ap (leads_on old.taken) shape) refl)

-- back to the body of a loop
pub begins_pass : (code : List Instr) (old : Course) → StandsAt code old End → ((loop_at old.loops (old.depth - 1)).left ≡ 0 → ⊥)
    → Steps code old Moved (record {
      at = (loop_at old.loops (old.depth - 1)).start;
      taken = old.taken;
      depth = old.depth;
      loops = set old.loops (old.depth - 1) (record {
        start = (loop_at old.loops (old.depth - 1)).start;
        left = (loop_at old.loops (old.depth - 1)).left - 1;
      });
    })
begins_pass code old stands more =
    let loop = loop_at old.loops (old.depth - 1) in
    let new : Course = record {
      at = loop.start;
      taken = old.taken;
      depth = old.depth;
      loops = set old.loops (old.depth - 1) (record { start = loop.start; left = loop.left - 1 });
    } in
    let shape = front code old End stands in
    let g = goes_back code old stands.on (ap at_end shape) more in
    let most : old.taken ≤ 0 = subst (λ (xs : List Instr). old.taken ≤ run_times xs) shape stands.on.taken in
    let stays = fresh_stays new.depth g.0.on.begun new.taken (drop new.at code) g.0.on.rest g.1 (omega arith) in
    moved code old new g.0 (nearer_stay code old new stands.on.inside stays (inl (ap (leads_on old.taken) shape)))

-- nothing comes at a Done
pub is_over : (code : List Instr) (old : Course) → StandsAt code old Done → Steps code old Over old
is_over code old stands =
    let shape = front code old Done stands in
    record {
      on = stands.on;
      given = refl;
      says = gives_none code old stands.on (ap at_end shape) (ap loop_times shape) (ap run_times shape);
    }

-- ---- steps up to a cycle

-- whether a step was a move
abbrev pub is_move : CourseStep → Bool
is_move (Gave entry) = false
is_move Moved = true
is_move Over = false

-- moves from this place on, and one step more where the last one was a move
abbrev pub still : List Instr → CourseStep → Course → ℕ
still code step course = cond {A = ℕ} (is_move step) (suc (most_moves code course)) 0

-- what was walked up to here
pub record IsWalked (code : List Instr) (begun : Course) (step : CourseStep) (now : Course) : Type 0 where
  pub on : IsOn code now
  pub so_far : coming code begun ≡ given_by step ++ coming code now
  pub says : step ≡ Over → coming code now ≡ []

pub falls : (code : List Instr) (old : Course) (last step : CourseStep) (new : Course) → is_move last ≡ true → Steps code old step new
    → still code step new < still code last old
falls code old (Gave entry) step new move s = absurd cc
falls code old Moved (Gave entry) new move s = omega arith
falls code old Moved Moved new move s = let nearer : most_moves code new < most_moves code old = s.says in omega arith
falls code old Moved Over new move s = omega arith
falls code old Over step new move s = absurd cc
