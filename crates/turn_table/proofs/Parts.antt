-- A split and a join keep the rule.
use Rattle.std.proofs.Common.{◌≡◌, ℕ, ◌+◌, ◌≤◌, ◌≢◌, ◌⊎◌, true, List, [], ◌∷◌, ◌++◌, length, set, refl, sym, ap, ◌∙◌, subst, ⊎_elim, inl, inr, arith, length-append, length-set}
use Rattle.std.specs.Prelude.{Option, None}
use Rattle.std.proofs.lemmas.List.Elements.{All-append}
use mathlib.Core.Option.{some}
use native.Mathlib.Decide.{dec_le}
use lib.ListN.{get_elem?}
use Rattle.atomic_table.specs.Table.{State, Splits, Joins}
use Rattle.atomic_table.proofs.Lists.{at_set, set_here, set_else, at_longer, at_last}
use Rattle.turn_table.specs.declared.views.View.{View}
use Rattle.turn_table.specs.Log.{IsAt, rows_of}
use Rattle.turn_table.specs.Views.{spent, after_split, newborn, after_join}
use Rattle.turn_table.specs.Rule.{IsSeen, IsJoined, KnowsTruly, Keeps}
use Rattle.turn_table.proofs.Lists.{true_ne_false, none_ne_some, is_inside, same_item, is_there, all_one, all_none}
use Rattle.turn_table.proofs.Counting.{one-in_use, count_in_use-set, count_in_use-append, count_in_use-same, some_in_use}
use Rattle.turn_table.proofs.Rests.{IsNew, Rest, IsFirst, rested, still_joined, at_0, first_view, none_ended, is_not_spent, is_no_holder}

module _ {A : Type 0} where
  last_place : (l : List A) (a b : A) (i : ℕ) → length l ≤ i → IsAt (l ++ a ∷ []) i b → i ≡ length l
  last_place l a b i le e = let low = is_inside (l ++ a ∷ []) i b e in let n = length-append l (a ∷ []) in omega arith

  -- an item of a list that got one more is an old one, or it is the new one at the end
  at_append : (l : List A) (a b : A) (i : ℕ) → IsAt (l ++ a ∷ []) i b → IsAt l i b ⊎ ((i ≡ length l) × (a ≡ b))
  at_append l a b i e = elim (dec_le (length l) i) [
    | yes le ↦ inr (last_place l a b i le e, same_item (l ++ a ∷ []) i a b (at_last l a i (sym (last_place l a b i le e))) e)
    | no gt ↦ (let x = is_there l i (omega arith) in inl (x.1 ∙ ap some (same_item (l ++ a ∷ []) i x.0 b (at_longer l (a ∷ []) i x.0 x.1) e)))
  ]

module _ {X E N : Type 0} (entries : X → List E) (name : X → N) (signature : E → Option ℕ) (values : List X) where
  abbrev V : Type 0
  V = View X E

  abbrev Rule : State (Option X) V → Type 0
  Rule = Keeps entries name signature values

  abbrev Knows : (s : State (Option X) V) → Rule s → List V → ℕ → V → Type 0
  Knows s r vs = KnowsTruly entries name values r.log s.words vs

  abbrev New : (s : State (Option X) V) → Rule s → List V → ℕ → V → Type 0
  New s r vs = IsNew s r vs

  -- a view that equals a new one, at the same place, is new
  new_at : (s : State (Option X) V) (r : Rule s) (vs : List V) (p q : ℕ) (v u : V) → New s r vs p v → q ≡ p → v ≡ u → New s r vs q u
  new_at s r vs p q v u new place same = subst (λ (t : ℕ × V). New s r vs t.0 t.1) (λ i. (sym place i, same i)) new

  module _ (s : State (Option X) V) (r : Rule s) (pass : ℕ) (v : V) (sits : IsAt s.views pass v) (is : IsFirst v) where
    abbrev zero_is : 0 ≡ pass
    zero_is = at_0 s r pass v sits is

    abbrev known : Knows s r s.views pass v
    known = r.in_use pass v sits is.in_use

    abbrev is_view : r.first.view ≡ v
    is_view = first_view s r pass v sits is

    abbrev first_kept : List V
    first_kept = set s.views pass (after_split v)

    abbrev split_views : List V
    split_views = first_kept ++ newborn v ∷ []

    spent_stay : (q : ℕ) → IsAt s.views q spent → IsAt split_views q spent
    spent_stay q e = at_longer first_kept (newborn v ∷ []) q spent (set_else s.views pass q (after_split v) (is_not_spent s.views pass q v sits is.in_use e) ∙ e)

    split_knows : Knows s r split_views pass (after_split v)
    split_knows = record {
      same_values = known.same_values;
      same_number = known.same_number;
      own = known.own;
      found = known.found;
      joined = still_joined s r split_views spent_stay v.joined known.joined;
      seen = known.seen;
    }

    as_many_as : length s.views ≡ v.splits + 1
    as_many_as = r.first.splits ∙ ap (λ (u : V). u.splits + 1) is_view

    newborn_knows : Knows s r split_views (length s.views) (newborn v)
    newborn_knows = record {
      same_values = known.same_values;
      same_number = sym as_many_as;
      own = sym (r.unborn (length s.views) (omega arith));
      found = λ cell was h. absurd (none_ne_some record { cell = cell; value = was } h);
      joined = all_none (IsJoined r.log split_views);
      seen = all_none (IsSeen entries values r.log);
    }

    split_each : (q : ℕ) (u : V) → IsAt split_views q u → IsAt s.views q u ⊎ New s r split_views q u
    split_each q u e = ⊎_elim
        (λ (old : IsAt first_kept q u). ⊎_elim
        (λ (p : (q ≡ pass) × (after_split v ≡ u)). inr (new_at s r split_views pass q (after_split v) u record { holds_nothing = is.holds_nothing; known = λ _. split_knows; not_in_use = λ off. absurd (true_ne_false (sym is.in_use ∙ off)) } p.0 p.1))
        (λ (p : (q ≢ pass) × IsAt s.views q u). inl p.1)
        (at_set s.views pass q (after_split v) u old))
        (λ (p : (q ≡ length first_kept) × (newborn v ≡ u)). inr (new_at s r split_views (length s.views) q (newborn v) u
        record { holds_nothing = refl; known = λ _. newborn_knows; not_in_use = λ off. absurd (true_ne_false off) } (p.0 ∙ length-set s.views pass (after_split v)) p.1))
        (at_append first_kept (newborn v) u q e)

    split_ended : (q : ℕ) (u : V) → IsAt split_views q u → u.ended ≡ true → ⊥
    split_ended q u e end = ⊎_elim
        (λ (old : IsAt first_kept q u). ⊎_elim
        (λ (p : (q ≡ pass) × (after_split v ≡ u)). true_ne_false (sym end ∙ (ap (λ (t : V). t.ended) (sym p.1) ∙ is.not_ended)))
        (λ (p : (q ≢ pass) × IsAt s.views q u). none_ended s r pass v sits is q u p.1 end)
        (at_set s.views pass q (after_split v) u old))
        (λ (p : (q ≡ length first_kept) × (newborn v ≡ u)). true_ne_false (sym end ∙ ap (λ (t : V). t.ended) (sym p.1)))
        (at_append first_kept (newborn v) u q e)

    split_rest : Rest s r split_views
    split_rest = record {
      each = split_each;
      holders = λ q u cell was e h. at_longer first_kept (newborn v ∷ []) q u (set_else s.views pass q (after_split v) (is_no_holder s.views pass q v u cell was sits is.holds_nothing e h) ∙ e);
      spent_stay = spent_stay;
      no_fewer = (let a = length-append first_kept (newborn v ∷ []) in let b = length-set s.views pass (after_split v) in omega arith);
      ended = λ q u e end. absurd (split_ended q u e end);
      first = record {
        view = after_split v;
        sits = ap (get_elem? split_views) zero_is
            ∙ at_longer first_kept (newborn v ∷ []) pass (after_split v) (set_here s.views pass (after_split v) (is_inside s.views pass v sits));
        in_use = is.in_use;
        splits = (let a = length-append first_kept (newborn v ∷ []) in let b = length-set s.views pass (after_split v) in let c = as_many_as in omega arith);
        apart = (let a = count_in_use-append first_kept (newborn v) in let b = count_in_use-same s.views pass v (after_split v) sits is.in_use is.in_use in let c = one-in_use (newborn v) refl in let d = r.first.apart in
            let e : r.first.view.apart ≡ v.apart = ap (λ (u : V). u.apart) is_view in omega arith);
      };
    }

    pub split_keeps : Rule record { words = s.words; homes = s.homes; views = split_views }
    split_keeps = rested s r split_views split_rest

    module _ (other : ℕ) (w : V) (ne : other ≢ pass) (other_sits : IsAt (set s.views pass (after_join v w)) other w) (other_in_use : w.in_use ≡ true) (other_idle : w.held ≡ None) where
      abbrev both : V
      both = after_join v w

      abbrev first_joined : List V
      first_joined = set s.views pass both

      abbrev join_views : List V
      join_views = set first_joined other spent

      other_sat : IsAt s.views other w
      other_sat = sym (set_else s.views pass other both ne) ∙ other_sits

      other_known : Knows s r s.views other w
      other_known = r.in_use other w other_sat other_in_use

      other_spent : IsAt join_views other spent
      other_spent = set_here first_joined other spent (is_inside first_joined other w other_sits)

      first_sits : IsAt join_views pass both
      first_sits = set_else first_joined other pass spent (λ z. ne (sym z))
          ∙ set_here s.views pass both (is_inside s.views pass v sits)

      others_sit : (q : ℕ) (u : V) → q ≢ pass → q ≢ other → IsAt s.views q u → IsAt join_views q u
      others_sit q u a b e = set_else first_joined other q spent b ∙ (set_else s.views pass q both a ∙ e)

      spents_stay : (q : ℕ) → IsAt s.views q spent → IsAt join_views q spent
      spents_stay q e = others_sit q spent (is_not_spent s.views pass q v sits is.in_use e) (is_not_spent s.views other q w other_sat other_in_use e) e

      share_joined : IsJoined r.log join_views record { pass = w.number; rows = w.own }
      share_joined = (other_known.own ∙ ap (λ p. rows_of p r.log) (sym other_known.same_number), ap (get_elem? join_views) other_known.same_number ∙ other_spent)

      join_knows : Knows s r join_views pass both
      join_knows = record {
        same_values = known.same_values;
        same_number = known.same_number;
        own = known.own;
        found = known.found;
        joined = All-append (IsJoined r.log join_views) v.joined (record { pass = w.number; rows = w.own } ∷ []) (still_joined s r join_views spents_stay v.joined known.joined) (all_one (IsJoined r.log join_views) record { pass = w.number; rows = w.own } share_joined);
        seen = All-append (IsSeen entries values r.log) v.seen w.seen known.seen other_known.seen;
      }

      -- a view after the join is that of the other, that of the first, or an old one
      join_cases : (q : ℕ) (u : V) → IsAt join_views q u
          → ((q ≡ other) × (spent ≡ u)) ⊎ (((q ≡ pass) × (both ≡ u)) ⊎ IsAt s.views q u)
      join_cases q u e = ⊎_elim
          (λ p. inl p)
          (λ (p : (q ≢ other) × IsAt first_joined q u). inr (⊎_elim (λ i. inl i) (λ (i : (q ≢ pass) × IsAt s.views q u). inr i.1) (at_set s.views pass q both u p.1)))
          (at_set first_joined other q spent u e)

      join_each : (q : ℕ) (u : V) → IsAt join_views q u → IsAt s.views q u ⊎ New s r join_views q u
      join_each q u e = ⊎_elim
          (λ (p : (q ≡ other) × (spent ≡ u)). inr (new_at s r join_views other q spent u record { holds_nothing = refl; known = λ on. absurd (true_ne_false (sym on)); not_in_use = λ _. refl } p.0 p.1))
          (λ rest. ⊎_elim
          (λ (p : (q ≡ pass) × (both ≡ u)). inr (new_at s r join_views pass q both u record { holds_nothing = is.holds_nothing; known = λ _. join_knows; not_in_use = λ off. absurd (true_ne_false (sym is.in_use ∙ off)) } p.0 p.1))
          (λ (old : IsAt s.views q u). inl old)
          rest)
          (join_cases q u e)

      join_ended : (q : ℕ) (u : V) → IsAt join_views q u → u.ended ≡ true → ⊥
      join_ended q u e end = ⊎_elim
          (λ (p : (q ≡ other) × (spent ≡ u)). true_ne_false (sym end ∙ ap (λ (t : V). t.ended) (sym p.1)))
          (λ rest. ⊎_elim
          (λ (p : (q ≡ pass) × (both ≡ u)). true_ne_false (sym end ∙ (ap (λ (t : V). t.ended) (sym p.1) ∙ is.not_ended)))
          (λ (old : IsAt s.views q u). none_ended s r pass v sits is q u old end)
          rest)
          (join_cases q u e)

      join_rest : Rest s r join_views
      join_rest = record {
        each = join_each;
        holders = λ q u cell was e h. others_sit q u (is_no_holder s.views pass q v u cell was sits is.holds_nothing e h) (is_no_holder s.views other q w u cell was other_sat other_idle e h) e;
        spent_stay = spents_stay;
        no_fewer = (let a = length-set first_joined other spent in let b = length-set s.views pass both in omega arith);
        ended = λ q u e end. absurd (join_ended q u e end);
        first = record {
          view = both;
          sits = ap (get_elem? join_views) zero_is ∙ first_sits;
          in_use = is.in_use;
          splits = length-set first_joined other spent ∙ (length-set s.views pass both ∙ as_many_as);
          apart = (let a = count_in_use-set first_joined other w spent other_sits in let b = count_in_use-same s.views pass v both sits is.in_use is.in_use in let c = one-in_use w other_in_use in let d = r.first.apart in
              let e : r.first.view.apart ≡ v.apart = ap (λ (u : V). u.apart) is_view in
              let f = some_in_use join_views pass both first_sits is.in_use in omega arith);
        };
      }

      pub join_keeps : Rule record { words = s.words; homes = s.homes; views = join_views }
      join_keeps = rested s r join_views join_rest

  pub splits : (pass : ℕ) (v : V) → IsFirst v → Splits Rule pass v (after_split v) (newborn v)
  splits pass v is s r sits = split_keeps s r pass v sits is

  pub joins : (pass other : ℕ) (v w : V) → IsFirst v → w.in_use ≡ true → w.held ≡ None
      → Joins Rule pass v other w (after_join v w) spent
  joins pass other v w is other_in_use other_idle s r sits ne other_sits = join_keeps s r pass v sits is other w ne other_sits other_in_use other_idle
