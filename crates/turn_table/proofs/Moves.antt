-- A pass that takes a cell, or lets go of it, keeps the rule.
use Rattle.std.proofs.Common.{◌≡◌, ℕ, ◌+◌, ◌*◌, ◌≢◌, ◌⊎◌, true, false, List, [], ◌∷◌, ◌++◌, length, get_or, set, sym, ap, ap₂, ◌∙◌, subst, ⊎_elim, inl, inr, arith, length-set, get_or-set_other, get_or-set_same}
use Rattle.std.specs.Prelude.{Option, Some}
use Rattle.std.specs.List.{All}
use Rattle.std.proofs.lemmas.List.Elements.{All-append}
use mathlib.Core.Logic.{dite}
use mathlib.Core.Option.{some}
use mathlib.Core.Option as maybe
use native.Mathlib.Decide.{ℕ_discrete}
use lib.ListN.{get_elem?}
use Rattle.atomic_table.specs.Table.{State}
use Rattle.atomic_table.proofs.Lists.{at_set, set_here, set_else}
use Rattle.turn_table.specs.declared.views.Row.{Row}
use Rattle.turn_table.specs.declared.views.Sight.{Sight}
use Rattle.turn_table.specs.declared.views.Share.{Share}
use Rattle.turn_table.specs.declared.views.View.{View}
use Rattle.turn_table.specs.Log.{IsAt, Begins, MaySign, IsRow, as_rows}
use Rattle.turn_table.specs.Views.{spent}
use Rattle.turn_table.specs.Rule.{list_of, IsSeen, IsJoined, count_in_use, IsHome, IsOut, KnowsTruly, HasFirst, Keeps}
use Rattle.turn_table.proofs.Lists.{true_ne_false, begins-refl, begins-append, is_inside, same_item, all_one}
use Rattle.turn_table.proofs.Rows.{rows_of-append, rows_of-as_rows, are_rows, same_rows, same_list, list_begins}
use Rattle.turn_table.proofs.Counting.{count_in_use-same, is_first}

module _ {X E N : Type 0} (entries : X → List E) (name : X → N) (signature : E → Option ℕ) (values : List X) where
  abbrev V : Type 0
  V = View X E

  abbrev St : Type 0
  St = State (Option X) V

  abbrev Rule : St → Type 0
  Rule = Keeps entries name signature values

  -- the pass, whose view was v and is w, gives these entries to the cell, whose list is that of the value then
  pub record Move (s : St) (r : Rule s) (cell word pass : ℕ) (first value : X) (v w : V) (es : List E) (homes' : List (maybe.Option (Option X))) : Type 0 where
    pub begins : IsAt values cell first
    pub sits : IsAt s.views pass v
    pub in_use : v.in_use ≡ true
    pub not_ended : v.ended ≡ false
    pub same : record w { held = v.held; own = v.own; seen = v.seen } ≡ v
    pub own : w.own ≡ v.own ++ as_rows pass cell es
    pub seen : w.seen ≡ v.seen ++ record { cell = cell; list = entries value } ∷ []
    pub list : entries value ≡ list_of entries (r.log ++ as_rows pass cell es) cell first
    pub same_name : name value ≡ name first
    pub slots : length homes' ≡ length s.homes
    pub others : (d : ℕ) → d ≢ cell → get_elem? homes' d ≡ get_elem? s.homes d
    pub may_sign : All (MaySign signature pass) es
    pub held : (d : ℕ) (was : X) → v.held ≡ Some record { cell = d; value = was } → d ≡ cell
    pub free : (q : ℕ) (u : V) (a : X) → q ≢ pass → IsAt s.views q u → u.held ≡ Some record { cell = cell; value = a } → ⊥
    pub held' : (d : ℕ) (was : X) → w.held ≡ Some record { cell = d; value = was }
        → (d ≡ cell) × (was ≡ value) × (word ≡ 2 * length (entries value) + 1)
    pub now : (IsAt homes' cell (some (Some value)) × (word ≡ 2 * length (entries value))) ⊎ ((w.held ≡ Some record { cell = cell; value = value }) × (word ≡ 2 * length (entries value) + 1))

  module _ (s : St) (r : Rule s) (cell word pass : ℕ) (first value : X) (v w : V) (es : List E) (homes' : List (maybe.Option (Option X))) (m : Move s r cell word pass first value v w es homes') where
    abbrev log' : List (Row E)
    log' = r.log ++ as_rows pass cell es

    abbrev words' : List ℕ
    words' = set s.words cell word

    abbrev views' : List V
    views' = set s.views pass w

    abbrev Knows' : ℕ → V → Type 0
    Knows' = KnowsTruly entries name values log' words' views'

    known : KnowsTruly entries name values r.log s.words s.views pass v
    known = r.in_use pass v m.sits m.in_use

    still_in_use : w.in_use ≡ true
    still_in_use = ap (λ (u : V). u.in_use) m.same ∙ m.in_use

    still_not_ended : w.ended ≡ false
    still_not_ended = ap (λ (u : V). u.ended) m.same ∙ m.not_ended

    is_not_spent : (q : ℕ) → IsAt s.views q spent → q ≢ pass
    is_not_spent q e h = true_ne_false (sym m.in_use ∙ ap (λ (u : V). u.in_use) (same_item s.views pass v spent m.sits (ap (get_elem? s.views) (sym h) ∙ e)))

    word_here : get_or words' cell 0 ≡ word
    word_here = get_or-set_same s.words cell word 0 (let low = is_inside values cell first m.begins in let long = r.words in omega arith)

    word_else : (d : ℕ) → d ≢ cell → get_or words' d 0 ≡ get_or s.words d 0
    word_else d ne = get_or-set_other s.words cell d word 0 ne

    joined' : (l : List (Share E)) → All (IsJoined r.log s.views) l → All (IsJoined log' views') l
    joined' l all k d low = let old = all k d low in let ne = is_not_spent _ old.1 in
        (old.0 ∙ sym (same_rows r.log pass _ cell es (λ e. ne (sym e))), set_else s.views pass _ w ne ∙ old.1)

    seen' : (l : List (Sight E)) → All (IsSeen entries values r.log) l → All (IsSeen entries values log') l
    seen' l all k d low = let old = all k d low in let more = list_begins entries r.log pass cell _ es old.0 in
        (old.0, old.1, subst (Begins _) more.1 (begins-append _ _ more.0 old.2))

    others_know : (q : ℕ) (u : V) → q ≢ pass → IsAt s.views q u → u.in_use ≡ true → Knows' q u
    others_know q u ne e on = let kn = r.in_use q u e on in record {
      same_values = kn.same_values;
      same_number = kn.same_number;
      own = kn.own ∙ sym (same_rows r.log pass q cell es (λ h. ne (sym h)));
      found = λ d was h. let old = kn.found d was h in
          let ne' : d ≢ cell = λ z. m.free q u was ne e (h ∙ ap (λ (n : ℕ). Some record { cell = n; value = was }) z) in
          let l = same_list entries r.log pass cell d es old.first ne' in
          record { first = old.first; begins = old.begins; word = word_else d ne' ∙ (old.word ∙ ap (λ z. 2 * length z + 1) (sym l)); list = old.list ∙ sym l; same_name = old.same_name };
      joined = joined' u.joined kn.joined;
      seen = seen' u.seen kn.seen;
    }

    sees_it : IsSeen entries values log' record { cell = cell; list = entries value }
    sees_it = (first, m.begins, subst (Begins (entries value)) m.list (begins-refl (entries value)))

    pass_knows : Knows' pass w
    pass_knows = record {
      same_values = ap (λ (u : V). u.values) m.same ∙ known.same_values;
      same_number = ap (λ (u : V). u.number) m.same ∙ known.same_number;
      own = m.own
          ∙ (ap₂ (λ a b. a ++ b) known.own (sym (rows_of-as_rows pass cell es)) ∙ sym (rows_of-append pass r.log (as_rows pass cell es)));
      found = λ d was h. let n = m.held' d was h in let e = n.0 in record {
        first = first;
        begins = ap (get_elem? values) e ∙ m.begins;
        word = ap (λ z. get_or words' z 0) e
            ∙ (word_here ∙ (n.2 ∙ (ap (λ z. 2 * length z + 1) m.list ∙ ap (λ z. 2 * length (list_of entries log' z first) + 1) (sym e))));
        list = ap entries n.1 ∙ (m.list ∙ ap (λ z. list_of entries log' z first) (sym e));
        same_name = ap name n.1 ∙ m.same_name;
      };
      joined = joined' w.joined (subst (All (IsJoined r.log s.views)) (sym (ap (λ (u : V). u.joined) m.same)) known.joined);
      seen = subst (All (IsSeen entries values log')) (sym m.seen)
          (All-append (IsSeen entries values log') v.seen (record { cell = cell; list = entries value } ∷ []) (seen' v.seen known.seen) (all_one (IsSeen entries values log') record { cell = cell; list = entries value } sees_it));
    }

    holds_another : (q d : ℕ) (u : V) (a : X) → IsAt s.views q u → u.held ≡ Some record { cell = d; value = a } → d ≢ cell
        → q ≢ pass
    holds_another q d u a e h ne z = ne (m.held d a (ap (λ (t : V). t.held) (same_item s.views pass v u m.sits (ap (get_elem? s.views) (sym z) ∙ e)) ∙ h))

    this_cell : IsHome entries name log' words' homes' cell first ⊎ IsOut entries log' words' views' cell first
    this_cell = ⊎_elim
        (λ (h : IsAt homes' cell (some (Some value)) × (word ≡ 2 * length (entries value))). inl record { word = word_here ∙ (h.1 ∙ ap (λ z. 2 * length z) m.list); value = value; home = h.0; list = m.list; same_name = m.same_name })
        (λ (h : (w.held ≡ Some record { cell = cell; value = value }) × (word ≡ 2 * length (entries value) + 1)). inr record {
          word = word_here ∙ (h.1 ∙ ap (λ z. 2 * length z + 1) m.list);
          pass = pass;
          view = w;
          was = value;
          sits = set_here s.views pass w (is_inside s.views pass v m.sits);
          holds = h.0;
        })
        m.now

    each_cell : (d : ℕ) (y : X) → IsAt values d y
        → IsHome entries name log' words' homes' d y ⊎ IsOut entries log' words' views' d y
    each_cell d y e = dite (ℕ_discrete d cell)
        (λ (z : d ≡ cell). subst (λ (t : ℕ × X). IsHome entries name log' words' homes' t.0 t.1 ⊎ IsOut entries log' words' views' t.0 t.1)
        (λ i. (sym z i, same_item values cell first y m.begins (ap (get_elem? values) (sym z) ∙ e) i)) this_cell)
        (λ (ne : d ≢ cell). let l = same_list entries r.log pass cell d es y ne in ⊎_elim
        (λ (h : IsHome entries name r.log s.words s.homes d y). inl record { word = word_else d ne ∙ (h.word ∙ ap (λ z. 2 * length z) (sym l)); value = h.value; home = m.others d ne ∙ h.home; list = h.list ∙ sym l; same_name = h.same_name })
        (λ (o : IsOut entries r.log s.words s.views d y). inr record {
          word = word_else d ne ∙ (o.word ∙ ap (λ z. 2 * length z + 1) (sym l));
          pass = o.pass;
          view = o.view;
          was = o.was;
          sits = set_else s.views pass o.pass w (holds_another o.pass d o.view o.was o.sits o.holds ne) ∙ o.sits;
          holds = o.holds;
        })
        (r.cells d y e))

    one_holds : (d p q : ℕ) (u t : V) (a b : X) → IsAt views' p u → IsAt views' q t → u.held ≡ Some record { cell = d; value = a }
        → t.held ≡ Some record { cell = d; value = b } → p ≡ q
    one_holds d p q u t a b ep eq hu ht = ⊎_elim
        (λ (i : (p ≡ pass) × (w ≡ u)). let z : d ≡ cell = (m.held' d a (ap (λ (x : V). x.held) i.1 ∙ hu)).0 in ⊎_elim
        (λ (j : (q ≡ pass) × (w ≡ t)). i.0 ∙ sym j.0)
        (λ (j : (q ≢ pass) × IsAt s.views q t). absurd (m.free q t b j.0 j.1 (ht ∙ ap (λ (n : ℕ). Some record { cell = n; value = b }) z)))
        (at_set s.views pass q w t eq))
        (λ (i : (p ≢ pass) × IsAt s.views p u). ⊎_elim
        (λ (j : (q ≡ pass) × (w ≡ t)). let z : d ≡ cell = (m.held' d b (ap (λ (x : V). x.held) j.1 ∙ ht)).0 in absurd (m.free p u a i.0 i.1 (hu ∙ ap (λ (n : ℕ). Some record { cell = n; value = a }) z)))
        (λ (j : (q ≢ pass) × IsAt s.views q t). r.one_holds d p q u t a b i.1 j.1 hu ht)
        (at_set s.views pass q w t eq))
        (at_set s.views pass p w u ep)

    as_many : count_in_use views' ≡ count_in_use s.views
    as_many = count_in_use-same s.views pass v w m.sits m.in_use still_in_use

    has_first : HasFirst views'
    has_first = let f = r.first in dite (ℕ_discrete 0 pass)
        (λ (z : 0 ≡ pass). let is : f.view ≡ v = same_item s.views pass f.view v (ap (get_elem? s.views) (sym z) ∙ f.sits) m.sits in record {
          view = w;
          sits = ap (get_elem? views') z ∙ set_here s.views pass w (is_inside s.views pass v m.sits);
          in_use = still_in_use;
          splits = length-set s.views pass w
              ∙ (f.splits ∙ ap (λ n. n + 1) (ap (λ (u : V). u.splits) is ∙ sym (ap (λ (u : V). u.splits) m.same)));
          apart = as_many ∙ (f.apart ∙ ap (λ n. n + 1) (ap (λ (u : V). u.apart) is ∙ sym (ap (λ (u : V). u.apart) m.same)));
        })
        (λ (ne : 0 ≢ pass). record { view = f.view; sits = set_else s.views pass 0 w ne ∙ f.sits; in_use = f.in_use; splits = length-set s.views pass w ∙ f.splits; apart = as_many ∙ f.apart })

    pub moved : Rule record { words = words'; homes = homes'; views = views' }
    moved = record {
      log = log';
      words = length-set s.words cell word ∙ r.words;
      slots = m.slots ∙ r.slots;
      cells = each_cell;
      one_holds = one_holds;
      in_use = λ q u e on. ⊎_elim
          (λ (i : (q ≡ pass) × (w ≡ u)). subst (λ (t : ℕ × V). Knows' t.0 t.1) (λ k. (sym i.0 k, i.1 k)) pass_knows)
          (λ (i : (q ≢ pass) × IsAt s.views q u). others_know q u i.0 i.1 on)
          (at_set s.views pass q w u e);
      not_in_use = λ q u e off. ⊎_elim
          (λ (i : (q ≡ pass) × (w ≡ u)). absurd (true_ne_false (sym still_in_use ∙ (ap (λ (t : V). t.in_use) i.1 ∙ off))))
          (λ (i : (q ≢ pass) × IsAt s.views q u). r.not_in_use q u i.1 off)
          (at_set s.views pass q w u e);
      ended = λ q u e end. ⊎_elim
          (λ (i : (q ≡ pass) × (w ≡ u)). absurd (true_ne_false (sym end ∙ (ap (λ (t : V). t.ended) (sym i.1) ∙ still_not_ended))))
          (λ (i : (q ≢ pass) × IsAt s.views q u). let old = r.ended q u i.1 end in absurd (i.0 (old.1 ∙ sym (is_first s.views pass r.first.view v r.first.sits r.first.in_use old.2 m.sits m.in_use))))
          (at_set s.views pass q w u e);
      first = has_first;
      unborn = λ p le. let long = length-set s.views pass w in let low = is_inside s.views pass v m.sits in
          same_rows r.log pass p cell es (λ h. omega arith) ∙ r.unborn p (omega arith);
      rows = All-append (IsRow signature (length values)) r.log (as_rows pass cell es) r.rows (are_rows signature (length values) pass cell es (is_inside values cell first m.begins) m.may_sign);
      unsigned = r.unsigned;
    }
