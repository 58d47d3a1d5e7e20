-- A try from its load up to its first batch, as a poll has it.
use Rattle.std.proofs.Common.{◌≡◌, ℕ, zero, suc, List, [], length, take, replicate, refl, sym, ap, ◌∙◌, arith}
use Rattle.std.proofs.lemmas.List.{length-replicate}
use Rattle.tester_types.specs.declared.level.Drive.{Drive}
use Rattle.tester_types.specs.declared.level.Drive.TheVariants as drive
use Rattle.tester_types.specs.declared.level.Level.TheVariants.{X}
use Rattle.tester_types.specs.declared.record.Verdict.{Verdict}
use Rattle.bench_net.specs.Circuit.{IsWhole}
use Rattle.die_sim.specs.Die.{Image, Device, device_of}
use Rattle.die_sim.specs.Stepped.{first_state}
use Rattle.die_sim.specs.Socket.{Told, IsLoaded}
use Rattle.die_sim.proofs.SteppedLemmas.{fresh_is_first}
use Rattle.strobe_check.specs.History.{HasSeen}
use Rattle.pattern_mem.specs.declared.cursor.Cursor.{Cursor}
use Rattle.site_meaning.specs.Part.{Part, stand_for}
use Rattle.site_meaning.specs.Polls.{Running, ended_now, fresh_try}
use Rattle.cycle_run.specs.declared.bench.Bench.{Bench}
use Rattle.site_run.specs.declared.run.Run.{Run}
use Rattle.cycle_run.specs.Cycle.{closed_with}
use Rattle.site_run.specs.Seat.{running_of, IsBefore, without_cycles}
use Rattle.site_run.proofs.RunLemmas.{counted}

-- a try before the first executive
abbrev pub before_all : Cursor → Bench → Run
before_all cursor bench = record {
  exec = 0;
  cursor = cursor;
  done = 0;
  batch = 0;
  at = record { number = 0; time = 0; bench = bench };
}

take-none : {X : Type 0} (n : ℕ) → take {A = X} n [] ≡ []
take-none zero = refl
take-none (suc n) = refl

module _ (image : Image) (whole : IsWhole image.circuit) (cursor : Cursor) (bench : Bench) (keep signals : ℕ)
    (seen : HasSeen (closed_with (device_of image) keep []) bench.checker) (last : bench.last.items ≡ replicate signals drive.Unknown)
    (count : signals ≡ length image.binds) (told : Told) (loaded : IsLoaded image told) where
  pub fresh_run : (part : Part) (die number : ℕ) → (stand_for part die number).device ≡ device_of image
      → running_of told (before_all cursor bench) ≡ fresh_try part die number
  fresh_run part die number device =
      let counts = counted (device_of image) keep [] bench.checker seen in
      let die_is : told.state ≡ first_state (stand_for part die number).device =
      (fresh_is_first (device_of image) told.state whole).0 loaded.fresh ∙ ap first_state (sym device) in
      let priors_is : bench.last.items ≡ replicate (length (stand_for part die number).device.binds) drive.Unknown =
      last ∙ ap (λ (n : ℕ). replicate n drive.Unknown) (count ∙ ap (λ (d : Device). length d.binds) (sym device)) in
      let total_is : bench.checker.count.total ≡ 0 = omega (arith, counts.all) in
      let kept_is : bench.checker.count.kept ≡ [] = counts.first ∙ take-none keep in
      λ i. record {
        exec = 0;
        done = 0;
        batch = 0;
        going = record { die = die_is i; priors = priors_is i; time = 0; number = 0 };
        total = total_is i;
        kept = kept_is i;
      }

  pub fresh_before : length bench.levels.items ≡ signals → IsBefore (device_of image) told (before_all cursor bench) 0
  fresh_before levels = record {
    room = record {
      last_count = ap (λ (l : List Drive). length l) last ∙ length-replicate signals drive.Unknown ∙ count;
      levels_count = levels ∙ count;
    };
    loaded = loaded.loaded;
    state = record {
      size = ap length loaded.fresh.held ∙ length-replicate (length image.circuit.net.drivers) X;
      settled = loaded.fresh.settled;
    };
    keep = keep;
    found = [];
    seen = seen;
    number = omega arith;
    time = omega arith;
    batch = omega arith;
  }

-- a try that ended without a batch has found nothing
pub ended_fresh : (part : Part) (die number : ℕ) (told : Told) (old new : Run) (verdict : Verdict)
    → running_of told old ≡ fresh_try part die number → new.at.number ≡ old.at.number → new.at.bench.checker ≡ old.at.bench.checker
    → ended_now number (running_of told new) verdict ≡ without_cycles number verdict
ended_fresh part die number told old new verdict fresh same checker =
    let cycles_is : new.at.number ≡ 0 = same ∙ ap (λ (r : Running). r.going.number) fresh in
    let total_is : new.at.bench.checker.count.total ≡ 0 = ap (λ x. x.count.total) checker ∙ ap (λ (r : Running). r.total) fresh in
    let kept_is : new.at.bench.checker.count.kept ≡ [] = ap (λ x. x.count.kept) checker ∙ ap (λ (r : Running). r.kept) fresh in
    λ i. record { number = number; cycles = cycles_is i; fails = total_is i; kept = kept_is i; verdict = verdict }
