-- The start, and the end, at which the first pass reads the log.
use Rattle.std.proofs.Common.{◌≡◌, ℕ, ◌+◌, ◌*◌, ◌<◌, ◌≢◌, true, false, List, [], ◌∷◌, map, length, get_or, set, refl, sym, ap, ◌∙◌, subst, ⊎_elim, inl, inr, arith, suc, zero, length-set}
use Rattle.std.specs.Prelude.{Option, Some, None}
use Rattle.std.specs.List.{All}
use Rattle.std.proofs.lemmas.List.{append-nil}
use mathlib.Core.Option.{some, some-injective, some-ne-none}
use lib.ListN.{get_elem?}
use lib.Seq.{set-get_or}
use Rattle.atomic_table.specs.Table.{State, Me, opening, keeps, Allows, Final, Seen}
use Rattle.atomic_table.proofs.Lists.{at_set, set_here, set_else, at_map}
use Rattle.turn_table.specs.declared.views.Row.{Row}
use Rattle.turn_table.specs.declared.views.View.{View}
use Rattle.turn_table.specs.Log.{IsAt, Begins, IsRow, rows_of, signed_by}
use Rattle.turn_table.specs.Views.{opened, spent, after_read}
use Rattle.turn_table.specs.Rule.{list_of, IsSeen, IsJoined, IsHome, IsOut, KnowsTruly, count_in_use, Keeps}
use Rattle.turn_table.specs.Steps.{Reads}
use Rattle.turn_table.specs.Ends.{Accounts}
use Rattle.turn_table.proofs.Lists.{true_ne_false, none_ne_some, is_inside, is_there, same_item, all_at, all_none, true_or_false}
use Rattle.turn_table.proofs.Rows.{signed_by-list_of}
use Rattle.turn_table.proofs.Weights.{weigh-log}
use Rattle.turn_table.proofs.Counting.{count_in_use-same, is_first}
use Rattle.turn_table.proofs.Rests.{IsNew, Rest, IsFirst, rested, still_joined, at_0, first_view, none_ended, is_not_spent, is_no_holder}

pub length-map : {A B : Type 0} (f : A → B) (l : List A) → length (map f l) ≡ length l
length-map f [] = refl
length-map f (x ∷ xs) = let h = length-map f xs in omega arith

module _ {X E N : Type 0} (entries : X → List E) (name : X → N) (signature : E → Option ℕ) (values : List X) where
  abbrev V : Type 0
  V = View X E

  abbrev St : Type 0
  St = State (Option X) V

  abbrev Rule : St → Type 0
  Rule = Keeps entries name signature values

  abbrev Unsigned : X → Type 0
  Unsigned value = All (λ (entry : E). signature entry ≡ None) (entries value)

  only_view : (p : ℕ) (v : V) → IsAt (opened values ∷ []) p v → (p ≡ 0) × (opened values ≡ v)
  only_view zero v e = (refl, some-injective (opened values) v e)
  only_view (suc p) v e = absurd (some-ne-none v (sym e))

  opened_knows : (words : List ℕ) → KnowsTruly entries name values [] words (opened values ∷ []) 0 (opened values)
  opened_knows words = record {
    same_values = refl;
    same_number = refl;
    own = refl;
    found = λ cell was h. absurd (none_ne_some record { cell = cell; value = was } h);
    joined = all_none (IsJoined [] (opened values ∷ []));
    seen = all_none (IsSeen entries values []);
  }

  pub starts : (words : List ℕ) → length words ≡ length values
      → ((cell : ℕ) (value : X) → IsAt values cell value → get_or words cell 0 ≡ 2 * length (entries value))
      → All (λ value. All (λ entry. signature entry ≡ None) (entries value)) values → Rule (opening words (map Some values) (opened values))
  starts words long counts unsigned = record {
    log = [];
    words = long;
    slots = length-map some (map Some values) ∙ length-map Some values;
    cells = λ cell x e. inl record { word = counts cell x e ∙ ap (λ l. 2 * length l) (sym (append-nil (entries x))); value = x; home = at_map some (map Some values) cell (Some x) (at_map Some values cell x e); list = sym (append-nil (entries x)); same_name = refl };
    one_holds = λ cell p q v w a b ep eq hv hw. absurd (none_ne_some record { cell = cell; value = a } (ap (λ (z : V). z.held) (only_view p v ep).1 ∙ hv));
    in_use = λ p v e on. let is = only_view p v e in
        subst (λ (t : ℕ × V). KnowsTruly entries name values [] words (opened values ∷ []) t.0 t.1) (λ i. (sym is.0 i, is.1 i)) (opened_knows words);
    not_in_use = λ p v e off. absurd (true_ne_false (ap (λ (z : V). z.in_use) (only_view p v e).1 ∙ off));
    ended = λ p v e end. absurd (true_ne_false (sym end ∙ ap (λ (z : V). z.ended) (sym (only_view p v e).1)));
    first = record { view = opened values; sits = refl; in_use = refl; splits = refl; apart = refl };
    unborn = λ p le. refl;
    rows = all_none (IsRow signature (length values));
    unsigned = unsigned;
  }

  module _ (s : St) (r : Rule s) (pass : ℕ) (v : V) (sits : IsAt s.views pass v) (is : IsFirst v) (alone : v.apart ≡ 0) where
    abbrev reader : V
    reader = after_read v r.log

    abbrev read_views : List V
    read_views = set s.views pass reader

    abbrev known : KnowsTruly entries name values r.log s.words s.views pass v
    known = r.in_use pass v sits is.in_use

    abbrev is_view : r.first.view ≡ v
    is_view = first_view s r pass v sits is

    abbrev zero_is : 0 ≡ pass
    zero_is = at_0 s r pass v sits is

    one_left : count_in_use s.views ≡ 1
    one_left = r.first.apart ∙ ap (λ n. n + 1) (ap (λ (u : V). u.apart) is_view ∙ alone)

    as_many : count_in_use read_views ≡ count_in_use s.views
    as_many = count_in_use-same s.views pass v reader sits is.in_use is.in_use

    spent_stay : (q : ℕ) → IsAt s.views q spent → IsAt read_views q spent
    spent_stay q e = set_else s.views pass q reader (is_not_spent s.views pass q v sits is.in_use e) ∙ e

    reader_knows : KnowsTruly entries name values r.log s.words read_views pass reader
    reader_knows = record {
      same_values = known.same_values;
      same_number = known.same_number;
      own = known.own;
      found = known.found;
      joined = still_joined s r read_views spent_stay v.joined known.joined;
      seen = known.seen;
    }

    read_rest : Rest s r read_views
    read_rest = record {
      each = λ q u e. ⊎_elim
          (λ (p : (q ≡ pass) × (reader ≡ u)). inr (subst (λ (t : ℕ × V). IsNew s r read_views t.0 t.1) (λ i. (sym p.0 i, p.1 i)) record { holds_nothing = is.holds_nothing; known = λ _. reader_knows; not_in_use = λ off. absurd (true_ne_false (sym is.in_use ∙ off)) }))
          (λ (p : (q ≢ pass) × IsAt s.views q u). inl p.1)
          (at_set s.views pass q reader u e);
      holders = λ q u cell was e h. set_else s.views pass q reader (is_no_holder s.views pass q v u cell was sits is.holds_nothing e h) ∙ e;
      spent_stay = spent_stay;
      no_fewer = (let n = length-set s.views pass reader in omega arith);
      ended = λ q u e end. ⊎_elim
          (λ (p : (q ≡ pass) × (reader ≡ u)). (ap (λ (z : V). z.log) (sym p.1), p.0 ∙ sym zero_is, as_many ∙ one_left))
          (λ (p : (q ≢ pass) × IsAt s.views q u). absurd (none_ended s r pass v sits is q u p.1 end))
          (at_set s.views pass q reader u e);
      first = record {
        view = reader;
        sits = ap (get_elem? read_views) zero_is ∙ set_here s.views pass reader (is_inside s.views pass v sits);
        in_use = is.in_use;
        splits = length-set s.views pass reader ∙ (r.first.splits ∙ ap (λ (u : V). u.splits + 1) is_view);
        apart = as_many ∙ (r.first.apart ∙ ap (λ (u : V). u.apart + 1) is_view);
      };
    }

    pub read_keeps : Rule record { words = s.words; homes = s.homes; views = read_views }
    read_keeps = rested s r read_views read_rest

  pub reads : (slots pass word : ℕ) (me : Me (Option X) V) → IsFirst me.0 → me.0.apart ≡ 0
      → Allows Rule slots pass me word (λ n. n) (λ _. Reads me)
  reads slots pass word me is alone s r _ sits _ = (
    after_read me.0 r.log,
    keeps,
    tt,
    subst (λ (ws : List ℕ). Rule record { words = ws; homes = s.homes; views = set s.views pass (after_read me.0 r.log) }) (sym (set-get_or s.words word 0)) (read_keeps s r pass me.0 sits is alone),
    refl,
  )

  -- the first pass at the end, when it is the only one and holds nothing
  pub record IsLast (v : V) : Type 0 where
    pub in_use : v.in_use ≡ true
    pub holds_nothing : v.held ≡ None
    pub is_0 : v.number ≡ 0
    pub alone : v.apart ≡ 0

  module _ (pass : ℕ) (v : V) (is : IsLast v) (s : St) (r : Rule s) (sits : IsAt s.views pass v) where
    abbrev knows : KnowsTruly entries name values r.log s.words s.views pass v
    knows = r.in_use pass v sits is.in_use

    abbrev here : 0 ≡ pass
    here = sym is.is_0 ∙ knows.same_number

    abbrev same_first : r.first.view ≡ v
    same_first = same_item s.views pass r.first.view v (ap (get_elem? s.views) (sym here) ∙ r.first.sits) sits

    only_first : (q : ℕ) (u : V) → IsAt s.views q u → u.in_use ≡ true → q ≡ 0
    only_first q u e on = is_first s.views q r.first.view u r.first.sits r.first.in_use (r.first.apart ∙ ap (λ n. n + 1) (ap (λ (z : V). z.apart) same_first ∙ is.alone)) e on

    no_cell_out : (cell : ℕ) (x : X) → IsOut entries r.log s.words s.views cell x → ⊥
    no_cell_out cell x o = ⊎_elim
        (λ (on : o.view.in_use ≡ true). none_ne_some record { cell = cell; value = o.was } (sym is.holds_nothing ∙ (ap (λ (z : V). z.held) (same_item s.views pass v o.view sits (ap (get_elem? s.views) (sym here ∙ sym (only_first o.pass o.view o.sits on)) ∙ o.sits)) ∙ o.holds)))
        (λ (off : o.view.in_use ≡ false). none_ne_some record { cell = cell; value = o.was } (sym (ap (λ (z : V). z.held) (r.not_in_use o.pass o.view o.sits off)) ∙ o.holds))
        (true_or_false o.view.in_use)

    pub home : (cell : ℕ) (x : X) → IsAt values cell x → IsHome entries name r.log s.words s.homes cell x
    home cell x e = ⊎_elim (λ h. h) (λ o. absurd (no_cell_out cell x o)) (r.cells cell x e)

    pub last_of : (lasts : List X) → ((cell : ℕ) (value : X) → IsAt s.homes cell (some (Some value)) → IsAt lasts cell value)
        → (cell : ℕ) (x : X) → IsAt values cell x → (last : X) × IsAt lasts cell last × (entries last ≡ list_of entries r.log cell x) × (name last ≡ name x)
    last_of lasts taken cell x e = let h = home cell x e in (h.value, taken cell h.value h.home, h.list, h.same_name)

    pub accounts : (lasts : List X) → length lasts ≡ length values
        → ((cell : ℕ) (value : X) → IsAt s.homes cell (some (Some value)) → IsAt lasts cell value)
        → Accounts entries name signature v lasts r.log
    accounts lasts long taken = let last = last_of lasts taken in
        let splits : length s.views ≡ v.splits + 1 = r.first.splits ∙ ap (λ (u : V). u.splits + 1) same_first in record {
          count = long ∙ ap length (sym knows.same_values);
          cells = λ cell x e. last cell x (ap (λ l. get_elem? l cell) (sym knows.same_values) ∙ e);
          rows = subst (λ (l : List X). All (IsRow signature (length l)) r.log) (sym knows.same_values) r.rows;
          own = ap (λ p. rows_of p r.log) here ∙ sym knows.own;
          joined = λ k d low. sym (knows.joined k d low).0;
          unborn = λ p lt. r.unborn p (omega arith);
          weights = λ weight. weigh-log weight r.log (v.splits + 1) (λ p le. r.unborn p (omega arith));
          seen = λ k d low. let old = knows.seen k d low in let now = last (get_or v.seen k d).cell old.0 old.1 in
              (now.0, now.1, subst (Begins (get_or v.seen k d).list) (sym now.2) old.2);
          signed = λ cell p y e. let x = is_there values cell (let low = is_inside lasts cell y e in omega arith) in
              let now = last cell x.0 x.1 in
              ap (λ z. signed_by signature p (entries z)) (same_item lasts cell y now.0 e now.1)
              ∙ (ap (signed_by signature p) now.2 ∙ signed_by-list_of signature p entries (length values) cell r.log x.0 (all_at Unsigned values cell x.0 r.unsigned x.1) r.rows);
        }

  pub is_home : (pass : ℕ) (v : V) (words : List ℕ) (slots : List (Option X)) → IsLast v → Final (Seen Rule pass v) words slots
      → (cell : ℕ) → cell < length slots → (value : X) × IsAt slots cell (Some value)
  is_home pass v words slots is end cell low = let s = end.0 in let r = end.1.0 in
      let x = is_there values cell (let a = r.slots in let b = end.3 in omega arith) in
      let h = home pass v is s r end.1.1 cell x.0 x.1 in
      (h.value, end.4 cell (Some h.value) h.home)

  pub ends : (pass : ℕ) (v : V) (words : List ℕ) (slots : List (Option X)) (lasts : List X) → IsLast v → v.ended ≡ true
      → Final (Seen Rule pass v) words slots → length lasts ≡ length slots
      → ((cell : ℕ) (value : X) → IsAt slots cell (Some value) → IsAt lasts cell value) → Accounts entries name signature v lasts v.log
  ends pass v words slots lasts is ended end long taken = let s = end.0 in let r = end.1.0 in
      subst (Accounts entries name signature v lasts) (sym (r.ended pass v end.1.1 ended).0)
      (accounts pass v is s r end.1.1 lasts (let a = r.slots in let b = end.3 in omega arith) (λ cell value h. taken cell value (end.4 cell (Some value) h)))

-- reading the log changes nothing else that the pass knows
pub before_reading : {X E N : Type 0} (entries : X → List E) (name : X → N) (signature : E → Option ℕ) (v w : View X E) (lasts : List X) (read log : List (Row E)) → w ≡ after_read v read → w.log ≡ log
    → Accounts entries name signature w lasts w.log → Accounts entries name signature v lasts log
before_reading {X} {E} {N} entries name signature v w lasts read log e same t = let u = subst (λ (z : View X E × List (Row E)). Accounts entries name signature z.0 lasts z.1) (λ i. (e i, same i)) t in
    record { count = u.count; cells = u.cells; rows = u.rows; own = u.own; joined = u.joined; unborn = u.unborn; weights = u.weights; seen = u.seen; signed = u.signed }
