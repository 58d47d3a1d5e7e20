-- Flip-flops capture one after another, in each lane.
use Rattle.std.proofs.Common.{◌≡◌, ◌≢◌, ℕ, ◌+◌, ◌<◌, ◌≤◌, true, false, List, length, get_or, set, refl, sym, ap, ◌∙◌, subst, arith, inl, inr}
use Rattle.std.proofs.lemmas.List.FromFn.{length-map-range_with_len, get_or-map-range_with_len}
use Rattle.std.proofs.lemmas.Bool.{cases_Bool, both_ways}
use Rattle.tester_types.specs.declared.level.Level.{Level}
use Rattle.tester_types.specs.declared.level.Level.TheVariants.{Zero}
use Rattle.bench_net.specs.declared.gate.Driver.{Driver}
use Rattle.bench_net.specs.declared.gate.Driver.TheVariants.{Input, Dff, Gate}
use Rattle.bench_net.specs.Wiring.{driver_at, IsWired}
use Rattle.bench_net.specs.Circuit.{Circuit, IsWhole}
use Rattle.bench_net.specs.Gates.{level_at}
use Rattle.die_sim.specs.Moment.{edge, capture, captured}
use Rattle.die_sim.specs.Stepped.{captured_levels}
use Rattle.die_sim.specs.Walk.{is_flip_flop}
use Rattle.die_sim.proofs.MomentLemmas.{CapturedTo, CapturedTo-more, flip_flop_within}
use Rattle.die_words.specs.declared.word.Word.{Word}
use Rattle.die_words.specs.declared.capture.Rise.{Rise}
use Rattle.die_words.specs.declared.capture.Rise.TheVariants.{Keeps}
use Rattle.die_words.specs.Lane.{nothing, Shows, IsLane}
use Rattle.die_words.specs.Capture.{kept_after, AreRegisters}
use Rattle.die_words.proofs.LaneLemmas.{IsLane-put}

-- in a lane the first of these flip-flops have captured
pub record HasCaptured (drivers : List Driver) (was now : Level) (before own : List Level) (held : List Word)
    (nets : List ℕ) (i lane : ℕ) : Type 0 where
  pub levels : List Level
  pub shows : IsLane held lane levels
  pub captured : CapturedTo drivers (edge was now) before own levels nets i

-- none has
pub HasCaptured-none : (drivers : List Driver) (was now : Level) (before own : List Level) (held : List Word)
    (nets : List ℕ) (lane : ℕ) → IsLane held lane own → HasCaptured drivers was now before own held nets 0 lane
HasCaptured-none drivers was now before own held nets lane h = record {
  levels = own;
  shows = h;
  captured = record { count = refl; either = λ n. inl refl; done = λ k l. absurd (omega arith) };
}

-- one more has
pub HasCaptured-more : (drivers : List Driver) (was now : Level) (before own : List Level) (words held next : List Word)
    (nets sources : List ℕ) (i lane : ℕ) (rise : Rise) → AreRegisters drivers nets sources (length drivers)
    → i < length nets → length words ≡ length drivers → length held ≡ length drivers → length next ≡ length held
    → get_or sources i 0 < length drivers → ((x d : Level) → capture (edge was now) x d ≡ kept_after rise x d)
    → ((x d : Level) → Shows (get_or held (get_or nets i 0) nothing) lane x
    → Shows (get_or words (get_or sources i 0) nothing) lane d
    → Shows (get_or next (get_or nets i 0) nothing) lane (kept_after rise x d))
    → ((m : ℕ) → m ≢ get_or nets i 0 → get_or next m nothing ≡ get_or held m nothing)
    → IsLane words lane before → HasCaptured drivers was now before own held nets i lane
    → HasCaptured drivers was now before own next nets (i + 1) lane
HasCaptured-more drivers was now before own words held next nets sources i lane rise registers within words_count held_count
    next_count source_in means kept others lane_before h =
    let n : ℕ = get_or nets i 0 in
    let p : ℕ = get_or sources i 0 in
    let is : driver_at drivers n ≡ Dff p = registers.each i within in
    let net_in : n < length drivers = flip_flop_within drivers n (ap is_flip_flop is) in
    let net_held : n < length held = omega (arith, net_in, held_count) in
    let source_words : p < length words = omega (arith, source_in, words_count) in
    let x : Level = level_at h.levels n in
    let d : Level = level_at before p in
    let new : Level = kept_after rise x d in
    let new_is : new ≡ captured (driver_at drivers n) (edge was now) x before =
    sym (means x d) ∙ ap (λ (r : Driver). captured r (edge was now) x before) (sym is) in
    record {
      levels = set h.levels n new;
      shows = IsLane-put held next lane n h.levels new next_count net_held (kept x d (h.shows.each n net_held) (lane_before.each p source_words)) others h.shows;
      captured = CapturedTo-more drivers (edge was now) before own h.levels nets i n new refl
          (omega (arith, net_held, h.shows.count)) new_is h.captured;
    }

-- all have
pub HasCaptured-all : (drivers : List Driver) (was now : Level) (before own : List Level) (held : List Word)
    (nets sources : List ℕ) (i lane : ℕ) → AreRegisters drivers nets sources (length drivers) → length nets ≤ i
    → length held ≡ length drivers → HasCaptured drivers was now before own held nets i lane
    → IsLane held lane (captured_levels drivers (edge was now) before own)
unfolding captured_levels
HasCaptured-all drivers was now before own held nets sources i lane registers past held_count h =
    record {
      count = length-map-range_with_len (λ n. captured (driver_at drivers n) (edge was now) (level_at own n) before) 0 (length own)
          ∙ sym h.captured.count ∙ h.shows.count;
      each = λ n l.
          let inside : n < length own = omega (arith, l, h.shows.count, h.captured.count) in
          subst (λ (x : Level). Shows (get_or held n nothing) lane x)
          (is n (omega (arith, l, held_count))
          ∙ sym (get_or-map-range_with_len (λ m. captured (driver_at drivers m) (edge was now) (level_at own m) before) 0 (length own) n n Zero inside (omega arith)))
          (h.shows.each n l);
    }
  where
    own_stays : (r : Driver) (x : Level) → is_flip_flop r ≡ false → captured r (edge was now) x before ≡ x
    own_stays Input x e = refl
    own_stays (Dff p) x e = cc
    own_stays (Gate kind pins) x e = refl

    is : (n : ℕ) → n < length drivers → level_at h.levels n ≡ captured (driver_at drivers n) (edge was now) (level_at own n) before
    is n l = elim (cases_Bool (is_flip_flop (driver_at drivers n))) [
      | inl e ↦
          let s = registers.all n l e in
          let place : s.place < i = omega (arith, s.within, past) in
          subst (λ (m : ℕ). level_at h.levels m ≡ captured (driver_at drivers m) (edge was now) (level_at own m) before) s.is (h.captured.done s.place place)
      | inr e ↦ elim (h.captured.either n) [
        | inl same ↦ same ∙ sym (own_stays (driver_at drivers n) (level_at own n) e)
        | inr other ↦ other
      ]
    ]

-- a flip-flop's D net is a net
pub source_within : (c : Circuit) → IsWhole c → (nets sources : List ℕ) (i : ℕ)
    → AreRegisters c.net.drivers nets sources (length c.net.drivers) → i < length nets
    → (get_or nets i 0 < length c.net.drivers) × (get_or sources i 0 < length c.net.drivers)
source_within c whole nets sources i registers within =
    let n : ℕ = get_or nets i 0 in
    let is : driver_at c.net.drivers n ≡ Dff (get_or sources i 0) = registers.each i within in
    let net_in : n < length c.net.drivers = flip_flop_within c.net.drivers n (ap is_flip_flop is) in
    (net_in, subst (λ (r : Driver). IsWired (length c.net.drivers) r) is (whole.wired n net_in))

-- a net that no flip-flop drives is none of them
pub other_net : (drivers : List Driver) (nets sources : List ℕ) (i n : ℕ) → AreRegisters drivers nets sources (length drivers)
    → i < length nets → is_flip_flop (driver_at drivers n) ≡ false → n ≢ get_or nets i 0
other_net drivers nets sources i n registers within e q =
    both_ways (is_flip_flop (driver_at drivers n)) e
    (subst (λ (m : ℕ). is_flip_flop (driver_at drivers m) ≡ true) (sym q) (ap is_flip_flop (registers.each i within)))

-- where flip-flops keep their own, nothing changes
pub captured_keeps : (drivers : List Driver) (was now : Level) (rise : Rise) (v own : List Level) (held : List Word) (lane : ℕ)
    → rise ≡ Keeps → ((x d : Level) → capture (edge was now) x d ≡ kept_after rise x d) → IsLane held lane own
    → IsLane held lane (captured_levels drivers (edge was now) v own)
unfolding captured_levels
captured_keeps drivers was now rise v own held lane is means h = record {
  count = length-map-range_with_len (λ n. captured (driver_at drivers n) (edge was now) (level_at own n) v) 0 (length own) ∙ h.count;
  each = λ n l.
      let inside : n < length own = omega (arith, l, h.count) in
      subst (λ (x : Level). Shows (get_or held n nothing) lane x)
      (sym (get_or-map-range_with_len (λ m. captured (driver_at drivers m) (edge was now) (level_at own m) v) 0 (length own) n n Zero inside (omega arith)
      ∙ stays (driver_at drivers n) (level_at own n)))
      (h.each n l);
}
  where
    stays : (r : Driver) (x : Level) → captured r (edge was now) x v ≡ x
    stays Input x = refl
    stays (Dff p) x = means x (level_at v p) ∙ ap (λ (r : Rise). kept_after r x (level_at v p)) is
    stays (Gate kind pins) x = refl
