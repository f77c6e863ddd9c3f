-- A claim keeps the rule, and finds what it tells.
use Rattle.std.proofs.Common.{◌≡◌, ℕ, ◌+◌, ◌*◌, ◌%◌, ◌<◌, eqb, true, false, List, [], length, get_or, set, refl, sym, ap, ap₂, ◌∙◌, subst, ⊎_elim, inr, arith}
use Rattle.std.specs.Prelude.{Option, Some, None}
use Rattle.std.specs.List.{All}
use Rattle.std.proofs.lemmas.List.{append-nil}
use mathlib.Core.Option.{none}
use lib.ListN.{get_elem?}
use lib.Seq.{set-get_or}
use prog.Atomic.{either}
use Rattle.atomic_table.specs.Table.{State, Me, Act, step, keeps, takes, Valid, stepped, carried_after, Allows}
use Rattle.atomic_table.proofs.Lists.{set_else, set_again, exchanged}
use Rattle.std.proofs.Common.{length-set}
use Rattle.turn_table.specs.declared.views.Held.{Held}
use Rattle.turn_table.specs.declared.views.View.{View}
use Rattle.turn_table.specs.Log.{IsAt, Begins, MaySign, given_to, rows_of, signed_by}
use Rattle.turn_table.specs.Views.{after_claim}
use Rattle.turn_table.specs.Rule.{list_of, IsHome, IsOut, Keeps}
use Rattle.turn_table.specs.Steps.{Comes, Tries}
use Rattle.turn_table.specs.Turns.{IsIdle}
use Rattle.turn_table.proofs.Lists.{none_ne_some, same_some, is_there, same_item, all_at, all_none, true_or_false}
use Rattle.turn_table.proofs.Rows.{signed_by-list_of}
use Rattle.turn_table.proofs.Moves.{moved}

module _ {X E N : Type 0} (entries : X → List E) (name : X → N) (signature : E → Option ℕ) (values : List X) where
  abbrev V : Type 0
  V = View X E

  abbrev St : Type 0
  St = State (Option X) V

  abbrev Rule : St → Type 0
  Rule = Keeps entries name signature values

  abbrev Unsigned : X → Type 0
  Unsigned value = All (λ (entry : E). signature entry ≡ None) (entries value)

  abbrev Told : St → ℕ → ℕ → Me (Option X) V → (ℕ → Me (Option X) V → Type 0) → ℕ → Type 0
  Told s cell pass me then new = (w : V) × (a : Act (Option X)) × Valid s.homes me.1 a × Rule (stepped s cell new pass me.1 w a) × then (get_or s.words cell 0) (w, carried_after me.1 a)

  unchanged : (s : St) → Rule s → (cell pass : ℕ) (me : Me (Option X) V) → IsAt s.views pass me.0
      → Rule (stepped s cell (get_or s.words cell 0) pass me.1 me.0 keeps)
  unchanged s r cell pass me sits = subst (λ (t : List ℕ × List V). Rule record { words = t.0; homes = s.homes; views = t.1 }) (λ k. (sym (set-get_or s.words cell 0) k, sym (set_again s.views pass me.0 sits) k)) r

  comes : (s : St) (r : Rule s) (pass cell : ℕ) (v : V) (first : X) → IsAt s.views pass v → v.in_use ≡ true → IsAt values cell first
      → (h : IsHome entries name r.log s.words s.homes cell first) → Comes entries name signature v cell h.value
  comes s r pass cell v first sits on begins h = let kn = r.in_use pass v sits on in record {
    first = first;
    begins = ap (λ l. get_elem? l cell) kn.same_values ∙ begins;
    same_name = h.same_name;
    grown = (given_to cell r.log, sym h.list);
    later = λ k d low z. let old = kn.seen k d low in
        let same : old.0 ≡ first = same_item values cell old.0 first (ap (get_elem? values) (sym z) ∙ old.1) begins in
        subst (Begins (get_or v.seen k d).list) (ap₂ (list_of entries r.log) z same ∙ sym h.list) old.2;
    mine = ap (signed_by signature v.number) h.list
        ∙ (signed_by-list_of signature v.number entries (length values) cell r.log first (all_at Unsigned values cell first r.unsigned begins) r.rows
        ∙ ap (λ l. signed_by signature v.number (given_to cell l)) (ap (λ p. rows_of p r.log) kn.same_number ∙ sym kn.own));
  }

  -- no other pass holds a cell whose value is home
  free : (s : St) (r : Rule s) (cell : ℕ) (first : X) → IsAt values cell first
      → IsHome entries name r.log s.words s.homes cell first → (q : ℕ) (u : V) (a : X) → IsAt s.views q u
      → u.held ≡ Some record { cell = cell; value = a } → ⊥
  free s r cell first begins h q u a e hu = ⊎_elim
      (λ (on : u.in_use ≡ true). let even = h.word in let odd = ((r.in_use q u e on).found cell a hu).word in let twice : 2 * length (list_of entries r.log cell ((r.in_use q u e on).found cell a hu).first) + 1 ≡ 2 * length (list_of entries r.log cell first) = sym odd ∙ even in absurd (omega arith))
      (λ (off : u.in_use ≡ false). none_ne_some record { cell = cell; value = a } (sym (ap (λ (z : V). z.held) (r.not_in_use q u e off)) ∙ hu))
      (true_or_false u.in_use)

  takes_it : (slots pass : ℕ) (me : Me (Option X) V) (cell word : ℕ) → cell < length values → word % 2 ≡ 0 → IsIdle me.0 → (s : St)
      → Rule s → IsAt s.views pass me.0 → get_or s.words cell 0 ≡ word
      → Told s cell pass me (Tries entries name signature (step slots cell word (word + 1) none) me) (word + 1)
  takes_it slots pass me cell word low even idle s r sits hit = let v = me.0 in let x = is_there values cell low in ⊎_elim
      (λ (h : IsHome entries name r.log s.words s.homes cell x.0).
      let w = after_claim entries v cell h.value in
      let counts : word ≡ 2 * length (entries h.value) = sym hit ∙ (h.word ∙ ap (λ z. 2 * length z) (sym h.list)) in
      let odd : word + 1 ≡ 2 * length (entries h.value) + 1 = ap (λ z. z + 1) counts in (
        w,
        takes cell (Some h.value),
        h.home,
        moved entries name signature values s r cell (word + 1) pass x.0 h.value v w [] (set s.homes cell none) record {
          begins = x.1;
          sits = sits;
          in_use = idle.in_use;
          not_ended = idle.not_ended;
          same = refl;
          own = sym (append-nil v.own);
          seen = refl;
          list = h.list ∙ ap (λ l. list_of entries l cell x.0) (sym (append-nil r.log));
          same_name = h.same_name;
          slots = length-set s.homes cell none;
          others = λ d ne. set_else s.homes cell d none ne;
          may_sign = all_none (MaySign signature pass);
          held = λ d was e. absurd (none_ne_some record { cell = d; value = was } (sym idle.holds_nothing ∙ e));
          free = λ q u a ne e hu. free s r cell x.0 x.1 h q u a e hu;
          held' = λ d was e. let q = same_some record { cell = cell; value = h.value } record { cell = d; value = was } e in
              (ap (λ (z : Held X). z.cell) (sym q), ap (λ (z : Held X). z.value) (sym q), odd);
          now = inr (refl, odd);
        },
        ((λ _. record { value = h.value; knows = refl; slot = refl; counts = hit ∙ counts; comes = comes s r pass cell v x.0 sits idle.in_use x.1 h }), λ miss. absurd (miss hit)),
      ))
      (λ (o : IsOut entries r.log s.words s.views cell x.0). let odd = sym hit ∙ o.word in absurd (omega arith))
      (r.cells cell x.0 x.1)

  pub claims : (slots pass : ℕ) (me : Me (Option X) V) (cell word : ℕ) → cell < length values → word % 2 ≡ 0 → IsIdle me.0
      → Allows Rule slots pass me cell (λ n. either (eqb n word) (word + 1) n) (Tries entries name signature (step slots cell word (word + 1) none) me)
  claims slots pass me cell word low even idle s r _ sits _ = let then = Tries entries name signature (step slots cell word (word + 1) none) me in
      exchanged (get_or s.words cell 0) word (word + 1) (Told s cell pass me then)
      (λ hit. takes_it slots pass me cell word low even idle s r sits hit)
      (λ miss. (me.0, keeps, tt, unchanged s r cell pass me sits, ((λ hit. absurd (miss hit)), λ _. refl)))
