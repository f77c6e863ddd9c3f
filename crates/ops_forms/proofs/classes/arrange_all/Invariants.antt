use Rattle.std.proofs.Common.{◌≡◌, ℕ, drop}
use Rattle.ops_forms.specs.Noted.{arranged_at_all, places_with}
use Rattle.ops_forms.proofs.classes.arrange_all.Given as goal

abbrev pub invariant-loop-place : goal.invariant-loop-place
invariant-loop-place l =
    record {
      arranged : arranged_at_all l.name (drop l.place-index l.places) l.classes ≡ arranged_at_all l.name l.places l.fn.classes;
      places : (n : ℕ) → places_with n l.classes ≡ places_with n l.fn.classes;
    }
