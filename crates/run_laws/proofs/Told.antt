-- An instantiation binds the values of the fields that its spots name.
use Rattle.std.proofs.Common.{◌≡◌, ℕ, ◌+◌, ◌-◌, ◌<◌, ◌≤◌, ◌==◌, List, [], ◌∷◌, ◌++◌, map, take, length, Bool, true, false, cond, is_some, Option, Some, None, refl, ap, sym, ◌∙◌, subst, inl, inr, append_assoc, arith}
use Rattle.std.proofs.Math.Seq.{take-append_seam, get_or-append_seam}
use Rattle.std.proofs.lemmas.Bool.{eqb-true}
use Rattle.std.proofs.lemmas.List.{append-nil, length-append, map-append}
use Rattle.std.proofs.lemmas.Option.{slice_get-get_or}
use Rattle.std.specs.Prelude.{Contains, codes, option_and_then, slice_get, unwrap_or}
use Rattle.std.specs.Bool.{MatchBool}
use Rattle.std.specs.List.{flat_map, join_by}
use Rattle.std.specs.Option.{option_map_or}
use Rattle.ops_base.specs.declared.conditions.Condition.{Condition}
use Rattle.ops_base.specs.declared.conditions.Part.{Part}
use Rattle.ops_base.specs.declared.conditions.Part.TheVariants.{One, Group}
use Rattle.ops_base.specs.declared.conditions.Test.{Test}
use Rattle.ops_base.specs.declared.elements.Class.{Class}
use Rattle.ops_base.specs.declared.elements.Element.{Element}
use Rattle.ops_base.specs.declared.matching.Binding.{Binding}
use Rattle.ops_base.specs.declared.rules.Inst.{Inst}
use Rattle.ops_base.specs.declared.rules.Rule.{Rule}
use Rattle.ops_base.specs.declared.values.Value.{Value}
use Rattle.ops_base.specs.Matching.{after_test, after_tests, match_of, operand_holds}
use Rattle.ops_base.specs.Names.{Spellings}
use Rattle.ops_base.specs.Valid.{cells_of}
use Rattle.ops_base.specs.WorkingMemory.{HasRisingTags, field_of}
use Rattle.ops_base.proofs.Members.{IsMember, all_from_members, contains_from_member, map_member, member-map, member_cases, member_from_contains}
use Rattle.ops_meaning.specs.Acting.{element_of, no_element}
use Rattle.ops_meaning.specs.Layout.{inst_text}
use Rattle.why.specs.declared.explaining.BoundInst.{BoundInst}
use Rattle.why.specs.declared.explaining.Why.{Why}
use Rattle.why.specs.declared.explaining.Why.TheVariants.{Found}
use Rattle.why.specs.Bindings.{MeetsWith, Binds, values_in}
use Rattle.why.specs.Checking.{put_at, put_by, variable_of}
use Rattle.why.specs.Explaining.{Explains, explanation, insts_in}
use Rattle.why.specs.Partials.{parts_of}
use Rattle.why.proofs.Explanations.{computed_explains}
use Rattle.why.proofs.KnownLaws.{bound_passes, tested_passes}
use Rattle.why.proofs.Walks.{NoneMeets, TakesWith}
use Rattle.why_lines.specs.WhyLines.{binding_text, bindings_text, fields_bound, found_line, rule_lines, spots_from, spots_of}
use Rattle.run_laws.specs.Telling.{tag_at, element_at, value_at, IsThere, AreTold, told_line}
use Rattle.run_laws.proofs.Beginnings.{element_found}

-- a spot, whose type has no name here
abbrev items_of : {X : Type 0} → List X → Type 0
items_of {X} xs = X

abbrev Spot : Type 0
Spot = items_of (spots_from 1 [])

-- ---- the values that the tests of a condition bind to variables

one_puts : (t : Test) (e : Element) (bs next : List Binding) → after_test t e bs ≡ Some next → next ≡ bs ++ put_by e t
one_puts t e bs next is = by t.binds refl
  where
    tested : (h : Bool) → cond h (Some (bs ++ put_by e t)) None ≡ Some next → next ≡ bs ++ put_by e t
    tested true same = cc
    tested false same = absurd (cc)

    by : (b : Bool) → t.binds ≡ b → next ≡ bs ++ put_by e t
    by true binds = let same : Some next ≡ Some (bs ++ put_by e t) = sym is ∙ bound_passes t e bs binds in cc
    by false tests =
        tested (operand_holds t.pred (field_of e t.field) t.operand bs) (sym (tested_passes t e bs tests) ∙ is)

all_put : (ts : List Test) (e : Element) (bs next : List Binding) → after_tests ts e bs ≡ Some next → next ≡ bs ++ put_at ts e
all_put [] e bs next is = let same : bs ≡ next = cc in sym same ∙ sym (append-nil bs)
all_put (t ∷ ts) e bs next is = by (λ b h. all_put ts e b next h) (after_test t e bs) refl is
  where
    by : ((b : List Binding) → after_tests ts e b ≡ Some next → next ≡ b ++ put_at ts e) → (o : Option (List Binding)) → after_test t e bs ≡ o → option_and_then (λ b. after_tests ts e b) o ≡ Some next → next ≡ bs ++ put_at (t ∷ ts) e
    by rest None o is = absurd (cc)
    by rest (Some b) o is =
        rest b is
        ∙ ap (λ w. w ++ put_at ts e) (one_puts t e bs b o)
        ∙ append_assoc bs (put_by e t) (put_at ts e)

-- these are the values of the fields that are bound
put_values : (ts : List Test) (e : Element) → values_in (put_at ts e) ≡ map (field_of e) (fields_bound ts)
put_values [] e = refl
put_values (t ∷ ts) e =
    map-append (λ (b : Binding). b.value) (put_by e t) (put_at ts e)
    ∙ ap (λ w. values_in (put_by e t) ++ w) (put_values ts e)
    ∙ ap (λ w. w ++ map (field_of e) (fields_bound ts)) (by (variable_of t))
    ∙ sym (map-append (field_of e) (cond (is_some (variable_of t)) (t.field ∷ []) []) (fields_bound ts))
  where
    by : (o : Option ℕ) → values_in (option_map_or (λ v. record { variable = v; value = field_of e t.field } ∷ []) o []) ≡ map (field_of e) (cond (is_some o) (t.field ∷ []) [])
    by None = refl
    by (Some v) = refl

-- an element that meets a condition is of its class and passes its tests
class_and_tests : (c : Condition) (e : Element) (bs next : List Binding) → match_of c e bs ≡ Some next → (e.class ≡ c.class) × (after_tests c.tests e bs ≡ Some next)
class_and_tests c e bs next is = by (e.class == c.class) refl is
  where
    by : (b : Bool) → (e.class == c.class) ≡ b → cond b (after_tests c.tests e bs) None ≡ Some next → (e.class ≡ c.class) × (after_tests c.tests e bs ≡ Some next)
    by true same is = (eqb-true e.class c.class same, is)
    by false same is = absurd (cc)

-- ---- parts and tags before a place

cells_joined : (xs ys : List Part) → cells_of (xs ++ ys) ≡ cells_of xs ++ cells_of ys
cells_joined [] ys = refl
cells_joined (Group cs ∷ xs) ys = cells_joined xs ys
cells_joined (One c ∷ xs) ys = by (cells_joined xs ys) c.negated
  where
    by : cells_of (xs ++ ys) ≡ cells_of xs ++ cells_of ys → (b : Bool) → cond b (cells_of (xs ++ ys)) (c.class ∷ cells_of (xs ++ ys)) ≡ cond b (cells_of xs) (c.class ∷ cells_of xs) ++ cells_of ys
    by ih true = ih
    by ih false = ap (λ w. c.class ∷ w) ih

get_seam : {X : Type 0} (xs ys : List X) (y : X) → slice_get (xs ++ y ∷ ys) (length xs) ≡ Some y
get_seam xs ys y =
    let more : length (xs ++ y ∷ ys) ≡ length xs + length (y ∷ ys) = length-append xs (y ∷ ys) in
    let within : length xs < length (xs ++ y ∷ ys) = grind (arith, more) in
    slice_get-get_or (xs ++ y ∷ ys) (length xs) y within ∙ ap Some (get_or-append_seam xs y ys y)

-- These are the parts and the tags; the walk is past the earlier ones.
record IsAt (parts : List Part) (tags : List ℕ) (place : ℕ) (before rest : List Part) (taken left : List ℕ) : Type 0 where
  pub parts_are : parts ≡ before ++ rest
  pub tags_are : tags ≡ taken ++ left
  pub place_is : place - 1 ≡ length before
  pub counted : place ≡ length before + 1
  pub taken_are : length (cells_of before) ≡ length taken

module _ (wm : List Element) (rising : HasRisingTags wm) (parts : List Part) (tags : List ℕ) where
  -- one more part, which used these tags
  further : (place : ℕ) (before rest : List Part) (part : Part) (taken front left : List ℕ) → length (cells_of (part ∷ [])) ≡ length front → IsAt parts tags place before (part ∷ rest) taken (front ++ left)
      → IsAt parts tags (place + 1) (before ++ part ∷ []) rest (taken ++ front) left
  further place before rest part taken front left takes at =
      let one : length (before ++ part ∷ []) ≡ length before + length (part ∷ []) = length-append before (part ∷ []) in
      let counted = at.counted in record {
        parts_are = at.parts_are ∙ sym (append_assoc before (part ∷ []) rest);
        tags_are = at.tags_are ∙ sym (append_assoc taken front left);
        place_is = grind (arith, one, counted);
        counted = grind (arith, one, counted);
        taken_are =
            ap length (cells_joined before (part ∷ []))
            ∙ length-append (cells_of before) (cells_of (part ∷ []))
            ∙ ap (λ n. n + length (cells_of (part ∷ []))) at.taken_are
            ∙ ap (λ n. length taken + n) takes
            ∙ sym (length-append taken front);
      }

  -- the tag at the place is the next one
  next_tag : (place : ℕ) (before rest : List Part) (taken left : List ℕ) (tag : ℕ) → IsAt parts tags place before rest taken (tag ∷ left) → tag_at parts tags place ≡ Some tag
  next_tag place before rest taken left tag at =
      ap (λ n. slice_get tags (length (cells_of (take n parts)))) at.place_is
      ∙ ap (λ w. slice_get tags (length (cells_of (take (length before) w)))) at.parts_are
      ∙ ap (λ w. slice_get tags (length (cells_of w))) (take-append_seam before rest)
      ∙ ap (λ n. slice_get tags n) at.taken_are
      ∙ ap (λ w. slice_get w (length taken)) at.tags_are
      ∙ get_seam taken left tag

  next_part : (place : ℕ) (before rest : List Part) (part : Part) (taken left : List ℕ) → IsAt parts tags place before (part ∷ rest) taken left → slice_get parts (place - 1) ≡ Some part
  next_part place before rest part taken left at =
      ap (λ n. slice_get parts n) at.place_is
      ∙ ap (λ w. slice_get w (length before)) at.parts_are
      ∙ get_seam before rest part

  abbrev told_by : Spot → Value
  told_by s = value_at wm parts tags s.place s.field

  abbrev Stands : Spot → Type 0
  Stands s = IsThere wm parts tags s.place s.class

  -- The values at the end are those at the start and those of the spots, and each spot exists.
  abbrev Tells : ℕ → List Part → List Binding → List Binding → Type 0
  Tells place ps bs final =
      (values_in final ≡ values_in bs ++ map told_by (spots_from place ps)) × ((s : Spot) → IsMember s (spots_from place ps) → Stands s)

  spot_map : (e : Element) (place class : ℕ) (fs : List ℕ) → element_at wm parts tags place ≡ e → map told_by (map (λ f. record { place = place; class = class; field = f }) fs) ≡ map (field_of e) fs
  spot_map e place class [] is = refl
  spot_map e place class (f ∷ fs) is =
      ap (λ w. field_of w f ∷ map told_by (map (λ f. record { place = place; class = class; field = f }) fs)) is
      ∙ ap (λ w. field_of e f ∷ w) (spot_map e place class fs is)

  tells : (place : ℕ) (before ps : List Part) (taken left : List ℕ) (bs final : List Binding) → IsAt parts tags place before ps taken left → MeetsWith wm ps bs left final → Tells place ps bs final
  tells place before [] taken left bs final at m =
      (ap values_in m.1 ∙ sym (append-nil (values_in bs)), λ s m. absurd m)
  tells place before (Group cs ∷ ps) taken left bs final at m =
      tells (place + 1) (before ++ Group cs ∷ []) ps (taken ++ []) left bs final (further place before ps (Group cs) taken [] left refl at) m.1
  tells place before (One c ∷ ps) taken left bs final at m =
      by (λ b t l a n. tells (place + 1) (before ++ One c ∷ []) ps t l b final a n) c.negated refl m
    where
      spot : ℕ → Spot
      spot f = record { place = place; class = c.class; field = f }

      by : ((b : List Binding) (t l : List ℕ) → IsAt parts tags (place + 1) (before ++ One c ∷ []) ps t l → MeetsWith wm ps b l final → Tells (place + 1) ps b final)
          → (b : Bool) → c.negated ≡ b
          → MatchBool b (NoneMeets wm c bs × MeetsWith wm ps bs left final) (TakesWith wm c ps bs left final)
          → (values_in final ≡ values_in bs ++ map told_by (cond b [] (map (λ f. record { place = place; class = c.class; field = f }) (fields_bound c.tests)) ++ spots_from (place + 1) ps))
          × ((s : Spot) → IsMember s (cond b [] (map (λ f. record { place = place; class = c.class; field = f }) (fields_bound c.tests)) ++ spots_from (place + 1) ps) → Stands s)
      by rest true negated m =
          rest bs (taken ++ []) left (further place before ps (One c) taken [] left (ap (λ b. length (cond b [] (c.class ∷ []))) negated) at) m.1
      by rest false positive m =
          let e : Element = m.0 in
          let next : List Binding = m.1 in
          let P : List ℕ → Type 0 = λ w. IsAt parts tags place before (One c ∷ ps) taken w in
          let now : IsAt parts tags place before (One c ∷ ps) taken (e.tag ∷ m.2) = subst P m.5 at in
          let r = rest next (taken ++ e.tag ∷ []) m.2 (further place before ps (One c) taken (e.tag ∷ []) m.2 (ap (λ b. length (cond b [] (c.class ∷ []))) positive) now) m.6 in
          let tag : tag_at parts tags place ≡ Some e.tag = next_tag place before (One c ∷ ps) taken m.2 e.tag now in
          let here : element_at wm parts tags place ≡ e =
          ap (λ o. unwrap_or (option_and_then (element_of wm) o) no_element) tag
          ∙ ap (λ o. unwrap_or o no_element) (element_found wm e rising (member_from_contains e wm m.3)) in
          let met = class_and_tests c e bs next m.4 in
          let told = map told_by (spots_from (place + 1) ps) in
          let fields = fields_bound c.tests in (
            r.0
                ∙ ap (λ w. values_in w ++ told) (all_put c.tests e bs next met.1)
                ∙ ap (λ w. w ++ told) (map-append (λ (b : Binding). b.value) bs (put_at c.tests e))
                ∙ append_assoc (values_in bs) (values_in (put_at c.tests e)) told
                ∙ ap (λ w. values_in bs ++ (w ++ told)) (put_values c.tests e ∙ sym (spot_map e place c.class fields here))
                ∙ ap (λ w. values_in bs ++ w) (sym (map-append told_by (map spot fields) (spots_from (place + 1) ps))),
            λ s m'. elim (member_cases s (map spot fields) (spots_from (place + 1) ps) m') [ inl a ↦ is_there e tag here m.3 met.0 s a | inr b ↦ r.1 s b ],
          )
        where
          is_there : (e : Element) → tag_at parts tags place ≡ Some e.tag → element_at wm parts tags place ≡ e → Contains wm e → e.class ≡ c.class → (s : Spot) → IsMember s (map spot (fields_bound c.tests)) → Stands s
          is_there e tag here element class s a =
              let r = map_member spot s (fields_bound c.tests) a in
              let P : Spot → Type 0 = λ w. Stands w in
              let Q : Element → Type 0 = λ w. Contains wm w in
              let place_is = at.counted in
              let first : 1 ≤ place = grind (arith, place_is) in
              subst P (sym r.2) (record {
                counted = first;
                condition = c;
                at = next_part place before ps (One c) taken left at;
                positive = positive;
                asked = refl;
                tag = tag ∙ ap (λ (w : Element). Some w.tag) (sym here);
                element = subst Q (sym here) element;
                is_of = ap (λ (w : Element). w.class) here ∙ class;
              })

-- ---- the law

pub bound_told : (rules : List Rule) (wm : List Element) (i : Inst) (values : List Value) → HasRisingTags wm → Binds rules wm i values → AreTold rules wm i values
bound_told rules wm i values rising binds =
    let parts = parts_of rules i.rule in
    let at : IsAt parts i.tags 1 [] parts [] i.tags = record { parts_are = refl; tags_are = refl; place_is = refl; counted = refl; taken_are = refl } in
    let t = tells wm rising parts i.tags 1 [] parts [] i.tags [] binds.1 at binds.2 in record {
      values_are = binds.3 ∙ t.0;
      there = all_from_members (λ (s : Spot). IsThere wm parts i.tags s.place s.class) (spots_from 1 parts) t.1;
    }

pub explained_told : (rules : List Rule) (wm : List Element) (rule : ℕ) (found : List BoundInst) (b : BoundInst) → HasRisingTags wm → rule < length rules → explanation rules wm rule ≡ Found found → Contains found b
    → (b.inst.rule ≡ rule) × AreTold rules wm b.inst b.values
explained_told rules wm rule found b rising there is has =
    let P : Why → Type 0 = Explains rules wm rule in
    let e = subst P is (computed_explains rules wm rule there rising) in
    let listed = contains_from_member b.inst (map (λ (x : BoundInst). x.inst) found) (member-map (λ (x : BoundInst). x.inst) b found (member_from_contains b found has)) in
    ((e.sound b.inst listed).0, bound_told rules wm b.inst b.values rising (e.bound b has))

-- ---- the lines

module _ (names : Spellings) (classes : List Class) (value : Spot → Value) where
  abbrev text : Spot → List ℕ
  text s = binding_text names classes s (value s)

  further_texts : (spots : List Spot) → bindings_text names classes false spots (map value spots) ≡ flat_map (λ s. codes ";" ++ text s) spots
  further_texts [] = refl
  further_texts (s ∷ spots) =
      ap (λ w. codes ";" ++ text s ++ w) (further_texts spots)
      ∙ sym (append_assoc (codes ";") (text s) (flat_map (λ s. codes ";" ++ text s) spots))

  -- if there are as many values as spots, none of either is left out
  all_texts : (spots : List Spot) → bindings_text names classes true spots (map value spots) ≡ join_by text (codes ";") spots
  all_texts [] = refl
  all_texts (s ∷ spots) = ap (λ w. text s ++ w) (further_texts spots)

line_told : (names : Spellings) (classes : List Class) (rules : List Rule) (wm : List Element) (rule : ℕ) (b : BoundInst) → (b.inst.rule ≡ rule) × AreTold rules wm b.inst b.values
    → found_line names classes rules (spots_of rules rule) b ≡ told_line names classes rules wm b.inst
line_told names classes rules wm rule b is =
    let before : List ℕ → List ℕ = λ w. codes "why " ++ inst_text names rules b.inst ++ codes ":" ++ w in
    let value : Spot → Value = λ s. value_at wm (parts_of rules b.inst.rule) b.inst.tags s.place s.field in
    let spots = spots_of rules b.inst.rule in
    ap (λ n. found_line names classes rules (spots_of rules n) b) (sym is.0)
    ∙ ap (λ w. before (bindings_text names classes true spots w)) is.1.values_are
    ∙ ap before (all_texts names classes value spots)

each_line : (names : Spellings) (classes : List Class) (rules : List Rule) (wm : List Element) (rule : ℕ) (found : List BoundInst) → ((b : BoundInst) → IsMember b found → found_line names classes rules (spots_of rules rule) b ≡ told_line names classes rules wm b.inst)
    → map (found_line names classes rules (spots_of rules rule)) found ≡ map (told_line names classes rules wm) (insts_in found)
each_line names classes rules wm rule [] is = refl
each_line names classes rules wm rule (b ∷ found) is =
    ap (λ w. w ∷ map (found_line names classes rules (spots_of rules rule)) found) (is b (inl refl))
    ∙ ap (λ w. told_line names classes rules wm b.inst ∷ w) (each_line names classes rules wm rule found (λ c m. is c (inr m)))

pub lines_told : (names : Spellings) (classes : List Class) (rules : List Rule) (wm : List Element) (rule : ℕ) (found : List BoundInst) → HasRisingTags wm → rule < length rules → explanation rules wm rule ≡ Found found
    → rule_lines names classes rules rule (Found found) ≡ map (told_line names classes rules wm) (insts_in found)
lines_told names classes rules wm rule found rising there is =
    each_line names classes rules wm rule found (λ b m. line_told names classes rules wm rule b (explained_told rules wm rule found b rising there is (contains_from_member b found m)))
