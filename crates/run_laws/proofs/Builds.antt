-- What the productions that a firing built leave as it is when they are added.
use Rattle.std.proofs.Common.{◌≡◌, ℕ, List, [], ◌∷◌, Option, Some, None, option_map, unwrap_or, refl, ◌∙◌}
use Rattle.ops_base.specs.declared.rules.Rule.{Rule}
use Rattle.ops_base.specs.declared.values.Sym.{Sym}
use Rattle.ops_meaning.specs.Running.{Session, added, all_added, rule_named, states_kept, taken_out, taken_out_named}
use Rattle.run_laws.proofs.Backing.{none_left}

-- productions that come and go are no firings, and leave the trace level
taken_same : (name : Sym) (k : Session) → ((taken_out_named name k).course.firings ≡ k.course.firings) × ((taken_out_named name k).watch ≡ k.watch)
taken_same name k = by (rule_named k.rules name)
  where
    by : (at : Option ℕ) → (let left : Session = unwrap_or (option_map (λ n. taken_out n k) at) k in (left.course.firings ≡ k.course.firings) × (left.watch ≡ k.watch))
    by None = (refl, refl)
    by (Some n) = (refl, refl)

pub all_count : (built : List Rule) (k : Session) → (all_added built k).course.firings ≡ k.course.firings
all_count [] k = refl
all_count (r ∷ built) k = all_count built (added r k) ∙ (taken_same r.name k).0

pub all_watch : (built : List Rule) (k : Session) → (all_added built k).watch ≡ k.watch
all_watch [] k = refl
all_watch (r ∷ built) k = all_watch built (added r k) ∙ (taken_same r.name k).1

-- no firing before the last production that is added can be undone
added_kept : (r : Rule) (k : Session) → states_kept (added r k) ≡ []
added_kept r k = none_left (taken_out_named r.name k).trail

none_kept : (built : List Rule) (k : Session) → states_kept k ≡ [] → states_kept (all_added built k) ≡ []
none_kept [] k h = h
none_kept (r ∷ built) k h = none_kept built (added r k) (added_kept r k)

pub built_kept : (r : Rule) (built : List Rule) (k : Session) → states_kept (all_added (r ∷ built) k) ≡ []
built_kept r built k = none_kept built (added r k) (added_kept r k)
