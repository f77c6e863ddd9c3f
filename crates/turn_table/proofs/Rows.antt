-- What a log has of one cell and of one pass.
use Rattle.std.proofs.Common.{◌≡◌, ℕ, ◌≢◌, ◌<◌, eqb, eq-eqb, ne_eqb, Bool, false, List, [], ◌∷◌, ◌++◌, map, refl, sym, ap, ap₂, ◌∙◌, ⊎_elim, arith, suc, zero}
use Rattle.std.specs.Prelude.{Option, Some, None}
use Rattle.std.specs.List.{All}
use Rattle.std.proofs.lemmas.List.{map-append, append-nil, append_assoc}
use Rattle.std.proofs.lemmas.List.Elements.{filter-append}
use mathlib.Core.Logic.{dite}
use native.Mathlib.Decide.{ℕ_discrete}
use Rattle.turn_table.specs.declared.views.Row.{Row}
use Rattle.turn_table.specs.Log.{MaySign, IsRow, Begins, given_to, rows_of, as_rows, is_signed_by, signed_by}
use Rattle.turn_table.specs.Rule.{list_of}
use Rattle.turn_table.proofs.Lists.{all_rest}

module _ {E : Type 0} where
  pub given_to-append : (cell : ℕ) (a b : List (Row E)) → given_to cell (a ++ b) ≡ given_to cell a ++ given_to cell b
  given_to-append cell a b = ap (map (λ (r : Row E). r.entry)) (filter-append (λ (r : Row E). eqb r.cell cell) a b)
      ∙ map-append (λ (r : Row E). r.entry) _ _

  pub rows_of-append : (pass : ℕ) (a b : List (Row E)) → rows_of pass (a ++ b) ≡ rows_of pass a ++ rows_of pass b
  rows_of-append pass a b = filter-append (λ (r : Row E). eqb r.pass pass) a b

  pub given_to-as_rows : (pass cell : ℕ) (es : List E) → given_to cell (as_rows pass cell es) ≡ es
  given_to-as_rows pass cell [] = refl
  given_to-as_rows pass cell (e ∷ es) = rw (eq-eqb cell cell refl) (ap (λ l. e ∷ l) (given_to-as_rows pass cell es))

  pub given_to-others : (pass cell other : ℕ) (es : List E) → cell ≢ other → given_to other (as_rows pass cell es) ≡ []
  given_to-others pass cell other [] ne = refl
  given_to-others pass cell other (e ∷ es) ne = rw (ne_eqb cell other ne) (given_to-others pass cell other es ne)

  pub rows_of-as_rows : (pass cell : ℕ) (es : List E) → rows_of pass (as_rows pass cell es) ≡ as_rows pass cell es
  rows_of-as_rows pass cell [] = refl
  rows_of-as_rows pass cell (e ∷ es) = rw (eq-eqb pass pass refl) (ap (λ l. record { pass = pass; cell = cell; entry = e } ∷ l) (rows_of-as_rows pass cell es))

  pub rows_of-others : (pass other cell : ℕ) (es : List E) → pass ≢ other → rows_of other (as_rows pass cell es) ≡ []
  rows_of-others pass other cell [] ne = refl
  rows_of-others pass other cell (e ∷ es) ne = rw (ne_eqb pass other ne) (rows_of-others pass other cell es ne)

  pub are_rows : (signature : E → Option ℕ) (cells pass cell : ℕ) (es : List E) → cell < cells → All (MaySign signature pass) es
      → All (IsRow signature cells) (as_rows pass cell es)
  are_rows signature cells pass cell [] low may k d inside = absurd (omega arith)
  are_rows signature cells pass cell (e ∷ es) low may zero d inside = record { inside = low; may_sign = may zero e (omega arith) }
  are_rows signature cells pass cell (e ∷ es) low may (suc k) d inside = are_rows signature cells pass cell es low (all_rest (MaySign signature pass) e es may) k d (omega arith)

  -- where a pass gives entries to a cell, no other pass has more rows
  pub same_rows : (log : List (Row E)) (pass other cell : ℕ) (es : List E) → pass ≢ other
      → rows_of other (log ++ as_rows pass cell es) ≡ rows_of other log
  same_rows log pass other cell es ne = rows_of-append other log (as_rows pass cell es)
      ∙ (ap (λ l. rows_of other log ++ l) (rows_of-others pass other cell es ne) ∙ append-nil (rows_of other log))

  module _ {X : Type 0} (entries : X → List E) where
    -- and no other cell has a longer list
    pub same_list : (log : List (Row E)) (pass cell other : ℕ) (es : List E) (x : X) → other ≢ cell
        → list_of entries (log ++ as_rows pass cell es) other x ≡ list_of entries log other x
    same_list log pass cell other es x ne = ap (λ l. entries x ++ l)
        (given_to-append other log (as_rows pass cell es) ∙ (ap (λ l. given_to other log ++ l) (given_to-others pass cell other es (λ e. ne (sym e))) ∙ append-nil (given_to other log)))

    pub longer_list : (log : List (Row E)) (pass cell : ℕ) (es : List E) (x : X)
        → list_of entries log cell x ++ es ≡ list_of entries (log ++ as_rows pass cell es) cell x
    longer_list log pass cell es x = append_assoc (entries x) (given_to cell log) es
        ∙ ap (λ l. entries x ++ l) (ap (λ l. given_to cell log ++ l) (sym (given_to-as_rows pass cell es)) ∙ sym (given_to-append cell log (as_rows pass cell es)))

    pub list_begins : (log : List (Row E)) (pass cell other : ℕ) (es : List E) (x : X)
        → Begins (list_of entries log other x) (list_of entries (log ++ as_rows pass cell es) other x)
    list_begins log pass cell other es x = (
      given_to other (as_rows pass cell es),
      append_assoc (entries x) (given_to other log) (given_to other (as_rows pass cell es))
          ∙ ap (λ l. entries x ++ l) (sym (given_to-append other log (as_rows pass cell es))),
    )

  module _ (signature : E → Option ℕ) (pass : ℕ) where
    abbrev is_signed : Option ℕ → Bool
    is_signed o = elim o [ Some number ↦ eqb number pass | None ↦ false ]

    not_signed : (other : ℕ) (e : E) → other ≢ pass → MaySign signature other e → is_signed_by signature pass e ≡ false
    not_signed other e ne may = ⊎_elim (λ (n : signature e ≡ None). ap is_signed n) (λ (n : signature e ≡ Some other). ap is_signed n ∙ ne_eqb other pass ne) may

    abbrev signs : List E → List E
    signs = signed_by signature pass

    none_of_another : (cell : ℕ) (r : Row E) → r.pass ≢ pass → MaySign signature r.pass r.entry
        → signs (given_to cell (r ∷ [])) ≡ []
    none_of_another cell r ne may = dite (ℕ_discrete r.cell cell)
        (λ (h : r.cell ≡ cell). rw (eq-eqb r.cell cell h, not_signed r.pass r.entry ne may) refl)
        (λ (h : r.cell ≢ cell). rw (ne_eqb r.cell cell h) refl)

    signed_one : (cell : ℕ) (r : Row E) → MaySign signature r.pass r.entry
        → signs (given_to cell (r ∷ [])) ≡ signs (given_to cell (rows_of pass (r ∷ [])))
    signed_one cell r may = dite (ℕ_discrete r.pass pass)
        (λ (h : r.pass ≡ pass). rw (eq-eqb r.pass pass h) refl)
        (λ (h : r.pass ≢ pass). rw (ne_eqb r.pass pass h) (none_of_another cell r h may))

    -- the entries of a cell that are signed with the number of a pass are those of its rows that are signed
    pub signed_by-given_to : (cells cell : ℕ) (log : List (Row E)) → All (IsRow signature cells) log
        → signs (given_to cell log) ≡ signs (given_to cell (rows_of pass log))
    signed_by-given_to cells cell [] all = refl
    signed_by-given_to cells cell (r ∷ rs) all =
        ap signs (given_to-append cell (r ∷ []) rs)
        ∙ (filter-append (is_signed_by signature pass) (given_to cell (r ∷ [])) (given_to cell rs)
        ∙ (ap₂ (λ a b. a ++ b) (signed_one cell r (all zero r (omega arith)).may_sign) (signed_by-given_to cells cell rs (all_rest (IsRow signature cells) r rs all))
        ∙ (sym (filter-append (is_signed_by signature pass) (given_to cell (rows_of pass (r ∷ []))) (given_to cell (rows_of pass rs)))
        ∙ (ap signs (sym (given_to-append cell (rows_of pass (r ∷ [])) (rows_of pass rs))) ∙ ap (λ l. signs (given_to cell l)) (sym (rows_of-append pass (r ∷ []) rs))))))

    signed_by-unsigned : (es : List E) → All (λ (e : E). signature e ≡ None) es → signs es ≡ []
    signed_by-unsigned [] all = refl
    signed_by-unsigned (e ∷ es) all = rw (ap is_signed (all zero e (omega arith))) (signed_by-unsigned es (all_rest (λ (y : E). signature y ≡ None) e es all))

    -- the same of the whole list of a cell that began with no signed entry
    pub signed_by-list_of : {X : Type 0} (entries : X → List E) (cells cell : ℕ) (log : List (Row E)) (x : X)
        → All (λ (e : E). signature e ≡ None) (entries x) → All (IsRow signature cells) log
        → signs (list_of entries log cell x) ≡ signs (given_to cell (rows_of pass log))
    signed_by-list_of entries cells cell log x unsigned all = filter-append (is_signed_by signature pass) (entries x) (given_to cell log)
        ∙ (ap (λ l. l ++ signs (given_to cell log)) (signed_by-unsigned (entries x) unsigned) ∙ signed_by-given_to cells cell log all)
