-- A right side over a part of working memory, from one action to the next.
use Rattle.std.proofs.Common.{◌≡◌, ◌∙◌, ℕ, List, [], ◌∷◌, ◌++◌, Bool, true, false, ◌&&◌, ◌||◌, ◌==◌, not, Result, Ok, Err, IfOk, refl, sym, ap, subst}
use Rattle.std.proofs.lemmas.Bool.{false≢true}
use Rattle.std.proofs.lemmas.List.{append-nil}
use Rattle.ops_base.specs.declared.actions.Action.{Action}
use Rattle.ops_base.specs.declared.elements.Change.{Change}
use Rattle.ops_base.specs.declared.elements.Change.TheVariants.{Add, Remove}
use Rattle.ops_base.specs.declared.elements.Element.{Element}
use Rattle.ops_base.specs.WorkingMemory.{Lawful, without_tag}
use Rattle.ops_io.specs.Coming.{preceded_by}
use Rattle.ops_io.proofs.ComingLemmas.{may_end, steady_comes}
use Rattle.ops_meaning.specs.Acting.{Setting, ActState as Meant, Misdeed, has_tag, in_action, action_done}
use Rattle.ops_meaning.specs.Effects.{told_as, outcome_as}
use Rattle.ops_meaning.proofs.Lawful.{has_tag-Contains}
use Rattle.act_phase.specs.Deeds.{Scene, Does}
use Rattle.act_phase.specs.Outcomes.{failure_of, is_read}
use Rattle.act_phase.specs.State.{State, doing_of}
use Rattle.act_phase.specs.declared.outcome.ActFault.{ActFault}
use Rattle.act_phase.proofs.Counts.{found_there, has_tag-added, has_tag-without}
use Rattle.work_store.proofs.Doing.{found_to_remove}
use Rattle.feed_engine.specs.Feeding.{GoesOver}
use Rattle.feed_engine.proofs.Grown.{IsGrown, action_grown}

abbrev Within : List Element → List Element → Type 0
Within part whole = (t : ℕ) → has_tag part t ≡ true → has_tag whole t ≡ true

or_more : (b c d : Bool) → (b ≡ true → d ≡ true) → (b || c) ≡ true → (d || c) ≡ true
or_more true c d f h = ap (λ x. x || c) (f refl)
or_more false c true f h = refl
or_more false c false f h = h

and_more : (b c d : Bool) → (b ≡ true → d ≡ true) → (b && c) ≡ true → (d && c) ≡ true
and_more true c d f h = ap (λ x. x && c) (f refl) ∙ h
and_more false c d f h = absurd (false≢true h)

within_added : (part whole : List Element) (e : Element) → Within part whole → Within (part ++ e ∷ []) (whole ++ e ∷ [])
within_added part whole e within t there =
    has_tag-added whole e t ∙ or_more (has_tag part t) (e.tag == t) (has_tag whole t) (within t) (sym (has_tag-added part e t) ∙ there)

within_without : (part whole : List Element) (tag : ℕ) → Within part whole → Within (without_tag tag part) (without_tag tag whole)
within_without part whole tag within t there =
    has_tag-without whole tag t ∙ and_more (has_tag part t) (not (t == tag)) (has_tag whole t) (within t) (sym (has_tag-without part tag t) ∙ there)

-- changes that are lawful over a part of working memory are lawful over the whole
pub lawful_over : (part whole : List Element) (last : ℕ) (cs : List Change) → ((t : ℕ) → has_tag part t ≡ true → has_tag whole t ≡ true) → Lawful part last cs → Lawful whole last cs
lawful_over part whole last [] within p = tt
lawful_over part whole last (Add e ∷ cs) within p =
    (p.0, lawful_over (part ++ e ∷ []) (whole ++ e ∷ []) e.tag cs (within_added part whole e within) p.1)
lawful_over part whole last (Remove t ∷ cs) within p =
    (has_tag-Contains whole t (within t (sym (found_there part t) ∙ found_to_remove part last t (Remove t) refl (p.0, tt))), lawful_over (without_tag t part) (without_tag t whole) last cs (within_without part whole t within) p.1)

untold : {E F S : Type 0} (end : E → F) (P : S → Type 0) (o : Result S E) → IfOk o P → IfOk (outcome_as (λ d. d) end o) P
untold end P (Ok s) p = p
untold end P (Err e) p = tt

module _ (whole : List Element) (first : ℕ) where
  pub goes_lawful : (now : State) → GoesOver whole first now → Lawful whole first now.working.changes
  goes_lawful now goes = lawful_over goes.part whole first now.working.changes goes.within goes.lawful

  -- An action is done.
  pub goes_on : {X : Type 0} {x : X} (s : Setting) (n : ℕ) (a : Action) (now next : State) (b c : Scene)
      → (let r : Result X ActFault = Ok x in Does (λ _ d. doing_of next c.names d) failure_of is_read r b c (λ d. told_as (λ d. d) (in_action n) (action_done s b.port.out.column a (doing_of now b.names d)))) → GoesOver whole first now
      → GoesOver whole first next × ((more : List Change) × (next.working.changes ≡ now.working.changes ++ more))
  goes_on s n a now next b c p goes =
      let end = may_end c.inlet in
      let all = preceded_by p.performs.taken end.0 in
      let answer = (p.performs.performs end.0 (steady_comes b.inlet c.inlet end.0 p.reads end.1)).0 in
      let before = now.working.changes in
      let P : Meant → Type 0 = IsGrown before goes.part first in
      let Q : Result Meant Misdeed → Type 0 = λ o. IfOk o P in
      let start : IsGrown before goes.part first (doing_of now b.names all) =
      record { lawful = goes.lawful; memory = goes.memory; last_tag = goes.last_tag; more = []; grown = sym (append-nil before) } in
      let q : IsGrown before goes.part first (doing_of next c.names end.0) =
      subst Q answer (untold (in_action n) P (action_done s b.port.out.column a (doing_of now b.names all)).outcome (action_grown before goes.part first s b.port.out.column a (doing_of now b.names all) start)) in
      (record { part = goes.part; within = goes.within; lawful = q.lawful; memory = q.memory; last_tag = q.last_tag }, (q.more, q.grown))
