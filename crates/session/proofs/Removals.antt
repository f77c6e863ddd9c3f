-- The removals of tags, one after another, where those that were named are known.
use Rattle.std.proofs.Common.{◌≡◌, ◌∙◌, ap, sym, refl, ℕ, List, [], ◌∷◌, ◌++◌, drop, get_or, length, ◌<◌, ◌+◌, Bool, true, false, cond, not, ◌==◌, ◌&&◌, ◌||◌, Option, Some, None, is_some, append_assoc, subst, arith}
use Rattle.std.specs.Borrow.{Bor}
use Rattle.std.specs.BTreeMap.{is_at}
use Rattle.std.specs.Option.{option_copied}
use Rattle.std.specs.Ordering.{nat_cmp}
use Rattle.std.proofs.lemmas.Bool.Decides.{nat_tests}
use Rattle.std.proofs.lemmas.List.{append-nil, drop_more}
use Rattle.ops_base.specs.declared.elements.Change.{Change}
use Rattle.ops_base.specs.declared.elements.Change.TheVariants.{Remove}
use Rattle.ops_base.specs.declared.elements.Element.{Element}
use Rattle.ops_base.specs.WorkingMemory.{without_tag, done}
use Rattle.ops_base.proofs.Changes.{done_push}
use Rattle.ops_meaning.specs.Acting.{has_tag, element_of}
use Rattle.ops_meaning.specs.Running.{removals}
use Rattle.work_store.proofs.Lists.{at_is}

-- ---- what is present

found_there : (wm : List Element) (tag : ℕ) → is_some (element_of wm tag) ≡ has_tag wm tag
found_there [] tag = refl
found_there (e ∷ wm) tag = by (e.tag == tag) (found_there wm tag)
  where
    by : (b : Bool) → is_some (element_of wm tag) ≡ has_tag wm tag → is_some (cond b (Some e) (element_of wm tag)) ≡ (b || has_tag wm tag)
    by true ih = refl
    by false ih = ih

copied_there : (r : Option (Bor Element)) → is_some r ≡ is_some (option_copied r)
copied_there None = refl
copied_there (Some e) = refl

-- what a look-up finds is there
pub looked_up : (wm : List Element) (tag : ℕ) (r : Option (Bor Element)) → option_copied r ≡ element_of wm tag → is_some r ≡ has_tag wm tag
looked_up wm tag r e = copied_there r ∙ ap is_some e ∙ found_there wm tag

-- ---- one removal less

without_step : (x tag t : ℕ) (a b : Bool) → a ≡ (b && not (t == tag)) → cond (not (x == tag)) (x == t || a) a ≡ ((x == t || b) && not (t == tag))
without_step x tag t a b e = grind (arith, nat_tests)

has_tag-without : (wm : List Element) (tag t : ℕ) → has_tag (without_tag tag wm) t ≡ (has_tag wm t && not (t == tag))
has_tag-without [] tag t = refl
has_tag-without (e ∷ wm) tag t = by (not (e.tag == tag)) ∙ without_step e.tag tag t (has_tag (without_tag tag wm) t) (has_tag wm t) (has_tag-without wm tag t)
  where
    by : (b : Bool) → has_tag (cond b (e ∷ without_tag tag wm) (without_tag tag wm)) t ≡ cond b (e.tag == t || has_tag (without_tag tag wm) t) (has_tag (without_tag tag wm) t)
    by true = refl
    by false = refl

named_step : (s g b : Bool) → ((s && not g) && not b) ≡ (s && not (cond b true g))
named_step true true true = refl
named_step true true false = refl
named_step true false true = refl
named_step true false false = refl
named_step false g b = refl

-- Some removals were found, and what is present after them is what was at the start, but for the tags that were named
-- and were there.
pub record AreFound (start : List Element) (named : ℕ → Bool) (all rest : List ℕ) (changes : List Change) : Type 0 where
  pub removed : changes ++ removals (done start changes) rest ≡ removals start all
  pub left : (t : ℕ) → has_tag (done start changes) t ≡ (has_tag start t && not (named t))

-- none yet
pub found_first : (start : List Element) (named : ℕ → Bool) (all : List ℕ) (changes : List Change) → changes ≡ [] → ((t : ℕ) → named t ≡ false) → AreFound start named all all changes
found_first start named all changes none unnamed =
    let P : List Change → Type 0 = AreFound start named all all in
    subst P (sym none) (record {
      removed = refl;
      left = λ t. sym (ap (λ b. has_tag start t && not b) (unnamed t) ∙ and_true (has_tag start t));
    })
  where
    and_true : (b : Bool) → (b && true) ≡ b
    and_true true = refl
    and_true false = refl

module _ (start : List Element) (named : ℕ → Bool) (all tags : List ℕ) (i d : ℕ) (within : i < length tags) (changes : List Change) (p : AreFound start named all (drop i tags) changes) (is : Bool) (test : is ≡ (has_tag start (get_or tags i d) && not (named (get_or tags i d)))) where
  abbrev tag : ℕ
  tag = get_or tags i d

  abbrev now : List Element
  now = done start changes

  rest_is : removals now (drop i tags) ≡ cond is (Remove tag ∷ removals (without_tag tag now) (drop (i + 1) tags)) (removals now (drop (i + 1) tags))
  rest_is =
      ap (removals now) (drop_more tags i d within)
      ∙ ap (λ b. cond b (Remove tag ∷ removals (without_tag tag now) (drop (i + 1) tags)) (removals now (drop (i + 1) tags))) (p.left tag ∙ sym test)

  -- the next is none
  pub found_none : is ≡ false → AreFound start named all (drop (i + 1) tags) changes
  found_none absent =
      record {
        removed = ap (λ rest. changes ++ rest) (sym (rest_is ∙ ap (λ b. cond b (Remove tag ∷ removals (without_tag tag now) (drop (i + 1) tags)) (removals now (drop (i + 1) tags))) absent)) ∙ p.removed;
        left = p.left;
      }

  -- the next is one
  pub found_one : (after : ℕ → Bool) (more : List Change) → is ≡ true → more ≡ changes ++ Remove tag ∷ [] → ((t : ℕ) → after t ≡ cond (is_at (nat_cmp tag) t) true (named t)) → AreFound start after all (drop (i + 1) tags) more
  found_one after more present pushed marks =
      let wm : done start (changes ++ Remove tag ∷ []) ≡ without_tag tag now = done_push start changes (Remove tag) in
      let behind = λ (w : List Element). removals w (drop (i + 1) tags) in
      let P : List Change → Type 0 = AreFound start after all (drop (i + 1) tags) in
      subst P (sym pushed) (record {
        removed =
            ap (λ w. (changes ++ Remove tag ∷ []) ++ behind w) wm
            ∙ append_assoc changes (Remove tag ∷ []) (behind (without_tag tag now))
            ∙ ap (λ rest. changes ++ rest) (sym (rest_is ∙ ap (λ b. cond b (Remove tag ∷ behind (without_tag tag now)) (behind now)) present))
            ∙ p.removed;
        left = λ t.
            ap (λ w. has_tag w t) wm ∙ has_tag-without now tag t ∙ ap (λ b. b && not (t == tag)) (p.left t)
            ∙ named_step (has_tag start t) (named t) (t == tag)
            ∙ ap (λ b. has_tag start t && not b) (sym (marks t ∙ ap (λ b. cond b true (named t)) (at_is tag t)));
      })

-- where no tag is left, all were found
pub found_last : (start : List Element) (named : ℕ → Bool) (all rest : List ℕ) (changes : List Change) → AreFound start named all rest changes → rest ≡ [] → changes ≡ removals start all
found_last start named all rest changes p none =
    sym (append-nil changes) ∙ ap (λ ts. changes ++ removals (done start changes) ts) (sym none) ∙ p.removed
