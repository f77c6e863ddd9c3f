-- The productions that a firing built, as they are added.
use Rattle.std.proofs.Common.{◌≡◌, ◌∙◌, ap, sym, subst, refl, ℕ, List, [], ◌∷◌, ◌++◌, Option, Some, None, option_map, unwrap_or, Bool}
use Rattle.ops_base.specs.declared.rules.Inst.{Inst}
use Rattle.ops_base.specs.declared.rules.Rule.{Rule}
use Rattle.ops_base.specs.declared.values.Sym.{Sym}
use Rattle.ops_meaning.specs.Running.{Course, Session as Meant, added, all_added, fired_on, place_after, place_beside, rule_named, taken_out, taken_out_named, without_named}
use Rattle.session.specs.Turning.{turn_left}
use Rattle.session.proofs.Changing.{taken_rules}

-- the productions with one more
pub added_rules : (r : Rule) (k : Meant) → (added r k).rules ≡ without_named k.rules r.name ++ r ∷ []
added_rules r k = ap (λ rules. rules ++ r ∷ []) (taken_rules r.name k)

-- productions that come and go leave the trace level
taken_watch : (name : Sym) (k : Meant) → (taken_out_named name k).watch ≡ k.watch
taken_watch name k = by (rule_named k.rules name)
  where
    by : (o : Option ℕ) → (unwrap_or (option_map (λ n. taken_out n k) o) k).watch ≡ k.watch
    by None = refl
    by (Some n) = refl

pub all_watch : (built : List Rule) (k : Meant) → (all_added built k).watch ≡ k.watch
all_watch [] k = refl
all_watch (r ∷ built) k = all_watch built (added r k) ∙ taken_watch r.name k

-- where one stands first of those that are added, the others are added after it
pub place_step : (rules new : List Rule) (r : Rule) (rest all : List Rule) (place next : Option ℕ) → all ≡ r ∷ rest → next ≡ place_beside rules r place → new ≡ without_named rules r.name ++ r ∷ []
    → place_after new rest next ≡ place_after rules all place
place_step rules new r rest all place next is beside more =
    ap (λ rs. place_after rs rest next) more ∙ ap (place_after (without_named rules r.name ++ r ∷ []) rest) beside ∙ ap (λ bs. place_after rules bs place) (sym is)

pub added_step : (r : Rule) (rest all : List Rule) (k next : Meant) → all ≡ r ∷ rest → next ≡ added r k → all_added rest next ≡ all_added all k
added_step r rest all k next is done = ap (all_added rest) done ∙ ap (λ bs. all_added bs k) (sym is)

-- ---- what a turn leaves

module _ (x : Inst) (m : Course) (halted : Bool) (k : Meant) where
  -- nothing was built
  pub left_alone : (built : List Rule) → built ≡ [] → (rule : ℕ) → x.rule ≡ rule → (next : Meant) → next ≡ fired_on m k
      → turn_left x k (record { course = m; halted = halted; built = built }) ≡ record { session = next; last = Some (record { rule = Some rule; halted = halted }) }
  left_alone built none rule is next done =
      ap (λ bs. turn_left x k (record { course = m; halted = halted; built = bs })) none
      ∙ (λ i. record { session = sym done i; last = Some (record { rule = Some (is i); halted = halted }) })

  -- these were built, and were added after it
  pub left_built : (built : List Rule) (rules : List Rule) → k.rules ≡ rules → (rule : ℕ) → x.rule ≡ rule → (after next : Meant) → after ≡ fired_on m k → next ≡ all_added built after → (place : Option ℕ) → place ≡ place_after rules built (Some rule)
      → turn_left x k (record { course = m; halted = halted; built = built }) ≡ record { session = next; last = Some (record { rule = place; halted = halted }) }
  left_built built rules of rule is after next done all place at =
      let session : all_added built (fired_on m k) ≡ next = ap (all_added built) (sym done) ∙ sym all in
      let last : place_after k.rules built (Some x.rule) ≡ place = ap (λ rs. place_after rs built (Some x.rule)) of ∙ ap (λ n. place_after rules built (Some n)) is ∙ sym at in
      λ i. record { session = session i; last = Some (record { rule = last i; halted = halted }) }
