use Rattle.std.proofs.Common.{◌≡◌, ℕ, take}
use Rattle.ops_forms.specs.Noted.{noted, has_number, without_place}
use Rattle.ops_forms.proofs.classes.forget_all.Given as goal

abbrev pub invariant-loop-attr : goal.invariant-loop-attr
invariant-loop-attr l = (n : ℕ) → noted l.having n ≡ without_place (noted l.fn.having n) (has_number n (take l.attr-index l.attrs)) l.place
