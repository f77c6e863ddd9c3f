use Rattle.std.proofs.Common.{arith, ap, ◌∙◌}
use Rattle.ops_forms.specs.Noted.{places_with}
use Rattle.ops_forms.proofs.Noted.{arranged_more, places_arranged}
use Rattle.ops_forms.proofs.classes.arrange_all.Goals as goal

pub loop-place-preserved : goal.loop-place-preserved
loop-place-preserved c =
    record {
      arranged = arranged_more c.args.name c.args.places.now c.loop-place.place-index _ _ _ _ (omega arith) c.loop-place.invariant.arranged c.in_ok-arrange.ensures.ok;
      places = λ n. ap (places_with n) c.in_ok-arrange.ensures.ok ∙ places_arranged n c.args.name _ c.loop-place.classes ∙ c.loop-place.invariant.places n;
    }
