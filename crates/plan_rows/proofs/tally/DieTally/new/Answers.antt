use Rattle.std.proofs.Common.{refl, ap, lit≤}
use Rattle.text_bytes.specs.Texts.{key_texts}
use Rattle.plan_rows.proofs.TallyLemmas.{none_kept}
use Rattle.plan_rows.proofs.tally.DieTally.new.Goals as goal

pub returns : goal.returns
returns c =
    record {
      lot = refl;
      dies = refl;
      few = lit≤ tt;
      sites = c.in_ok-no_names.ensures.sites;
      names = λ site within. none_kept (λ s. key_texts s.keys) c.in_ok-no_names.field-0.items site
          (λ k d lt. ap key_texts (c.in_ok-no_names.ensures.none k d lt));
    }
