-- What a cell holds stays what it is while more changes are made.
use Rattle.std.proofs.Common.{◌≡◌, ℕ, zero, suc, ◌+◌, ◌<◌, ◌≤◌, List, [], ◌∷◌, ◌++◌, length, map, take, get_or, Bool, true, false, ◌&&◌, nat_lt, refl, sym, ap, ◌∙◌, length-append, arith}
use Rattle.std.specs.Prelude.{slice_set, option_map, unwrap_or}
use Rattle.std.specs.List.{list_all}
use Rattle.std.proofs.lemmas.Bool.Decides.{nat_tests}
use Rattle.std.proofs.lemmas.List.{take_more}
use Rattle.std.proofs.lemmas.Option.{slice_get_read}
use Rattle.ops_base.specs.declared.elements.Element.{Element}
use Rattle.ops_base.specs.declared.elements.Change.{Change}
use Rattle.ops_base.specs.declared.elements.Change.TheVariants as change
use Rattle.ops_meaning.specs.Acting.{made_by, made_last, no_element}
use Rattle.act_phase.specs.Changed.{Changed, GoesOnTo}
use Rattle.act_phase.specs.State.{held_by, is_there, made_at}
use Rattle.act_phase.proofs.Counts.{made_last_push}
use Rattle.act_phase.specs.declared.state.Cell.{Cell}
use Rattle.act_phase.specs.declared.state.Cell.TheVariants as cell

pub both_true : (a b : Bool) → (a && b) ≡ true → (a ≡ true) × (b ≡ true)
both_true true b h = (refl, h)
both_true false b h = absurd (cc)

-- ---- one cell

made_stays : (changes more : List Change) (place : ℕ) → place < length changes → made_at (changes ++ more) place ≡ made_at changes place
made_stays [] more place lt = absurd (omega arith)
made_stays (c ∷ changes) more zero lt = refl
made_stays (c ∷ changes) more (suc place) lt = made_stays changes more place (omega arith)

-- the last change
pub made_at_end : (changes : List Change) (c : Change) → made_at (changes ++ c ∷ []) (length changes) ≡ made_by no_element c
made_at_end [] c = refl
made_at_end (x ∷ changes) c = made_at_end changes c

-- the change at this place adds an element, and none after it does
pub made_found : (changes : List Change) (place : ℕ) (c : Change) (e : Element) → place < length changes → c ≡ get_or changes place c → c ≡ change.Add e → made_last (take (place + 1) changes) ≡ made_last changes → made_at changes place ≡ made_last changes
made_found changes place c e within at is last =
    ap (λ o. unwrap_or (option_map (made_by no_element) o) no_element) (slice_get_read changes (length changes) place c refl within at) ∙ ap (made_by no_element) is
    ∙ sym (ap made_last (take_more changes place c within ∙ ap (λ x. take place changes ++ x ∷ []) (sym at ∙ is)) ∙ made_last_push (take place changes) (change.Add e)) ∙ last

below_from : (place n : ℕ) → nat_lt place n ≡ true → place < n
below_from place n h = grind (arith, nat_tests)

pub below_is : (place n : ℕ) → place < n → nat_lt place n ≡ true
below_is place n lt = grind (arith, nat_tests)

held_stays : (changes more : List Change) (c : Cell) → is_there (length changes) c ≡ true → held_by (changes ++ more) c ≡ held_by changes c
held_stays changes more (cell.Matched e) there = refl
held_stays changes more (cell.Made place) there = made_stays changes more place (below_from place (length changes) there)
held_stays changes more cell.Nothing there = refl

there_stays : (n m : ℕ) (c : Cell) → n ≤ m → is_there n c ≡ true → is_there m c ≡ true
there_stays n m (cell.Matched e) le there = refl
there_stays n m (cell.Made place) le there = let lt = below_from place n there in below_is place m (omega (arith, lt, le))
there_stays n m cell.Nothing le there = refl

-- ---- all cells

cells_stay : (changes more : List Change) (cells : List Cell) → list_all (is_there (length changes)) cells ≡ true → map (held_by (changes ++ more)) cells ≡ map (held_by changes) cells
cells_stay changes more [] there = refl
cells_stay changes more (c ∷ cells) there =
    let both = both_true (is_there (length changes) c) (list_all (is_there (length changes)) cells) there in
    ap (λ e. e ∷ map (held_by (changes ++ more)) cells) (held_stays changes more c both.0) ∙ ap (λ es. held_by changes c ∷ es) (cells_stay changes more cells both.1)

cells_there : (n m : ℕ) (cells : List Cell) → n ≤ m → list_all (is_there n) cells ≡ true → list_all (is_there m) cells ≡ true
cells_there n m [] le there = refl
cells_there n m (c ∷ cells) le there =
    let both = both_true (is_there n c) (list_all (is_there n) cells) there in
    ap (λ b. b && list_all (is_there m) cells) (there_stays n m c le both.0) ∙ cells_there n m cells le both.1

module _ (w v : Changed) (cells : List Cell) (p : GoesOnTo w v) (there : list_all (is_there (length w.changes)) cells ≡ true) where
  pub still_held : map (held_by v.changes) cells ≡ map (held_by w.changes) cells
  still_held = ap (λ changes. map (held_by changes) cells) p.changes ∙ cells_stay w.changes p.more cells there

  pub still_there : list_all (is_there (length v.changes)) cells ≡ true
  still_there = cells_there (length w.changes) (length v.changes) cells (omega (arith, ap length p.changes, length-append w.changes p.more)) there

-- another cell in the place of one
pub there_set : (n : ℕ) (cells : List Cell) (at : ℕ) (c : Cell) → list_all (is_there n) cells ≡ true → is_there n c ≡ true → list_all (is_there n) (slice_set cells at c) ≡ true
there_set n [] at c all one = refl
there_set n (x ∷ cells) zero c all one = ap (λ b. b && list_all (is_there n) cells) one ∙ (both_true (is_there n x) (list_all (is_there n) cells) all).1
there_set n (x ∷ cells) (suc at) c all one =
    let both = both_true (is_there n x) (list_all (is_there n) cells) all in
    ap (λ b. b && list_all (is_there n) (slice_set cells at c)) both.0 ∙ there_set n cells at c both.1 one
