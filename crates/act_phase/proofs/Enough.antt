-- An excerpt of working memory is enough for a right side.
use Rattle.std.proofs.Common.{◌≡◌, ℕ, suc, ◌<◌, ◌≤◌, Bool, true, false, List, [], ◌∷◌, refl, sym, ◌∙◌, arith}
use Rattle.std.specs.List.{All}
use Rattle.std.proofs.lemmas.List.Elements.{All-contains}
use Rattle.ops_base.specs.declared.elements.Element.{Element}
use Rattle.ops_base.specs.declared.rules.Inst.{Inst}
use Rattle.ops_base.specs.Names.{Spellings}
use Rattle.ops_base.specs.WorkingMemory.{tags_of}
use Rattle.ops_io.specs.Coming.{Coming}
use Rattle.ops_meaning.specs.Acting.{Setting, has_tag, element_of, acted}
use Rattle.ops_meaning.specs.Kept.{WellKept}
use Rattle.ops_meaning.proofs.Lawful.{has_tag-Contains}
use Rattle.act_phase.specs.Excerpts.{IsExcerpt}
use Rattle.act_phase.proofs.Alike.{TagsAlike, acted_alike}
use Rattle.act_phase.proofs.Found.{none_there}

module _ (whole part : List Element) (last : ℕ) (tags : List ℕ) (well : WellKept whole last) (above : All (λ t. 0 < t) (tags_of whole)) (excerpt : IsExcerpt whole part tags) where
  absent : (t : ℕ) → has_tag whole t ≡ false → element_of whole t ≡ element_of part t
  absent t none = by (has_tag part t) refl
    where
      by : (b : Bool) → has_tag part t ≡ b → element_of whole t ≡ element_of part t
      by true there = absurd (let too = excerpt.within t there in cc)
      by false gone = none_there whole t none ∙ sym (none_there part t gone)

  -- there is no element of this tag
  unheard : (t : ℕ) → (has_tag whole t ≡ true → ⊥) → has_tag whole t ≡ false
  unheard t not_there = by (has_tag whole t) refl
    where
      by : (b : Bool) → has_tag whole t ≡ b → has_tag whole t ≡ false
      by true there = absurd (not_there there)
      by false gone = gone

  pub same_at_0 : element_of whole 0 ≡ element_of part 0
  same_at_0 =
      absent 0 (unheard 0 (λ there. let lt = All-contains (λ t. 0 < t) (tags_of whole) 0 above (has_tag-Contains whole 0 there) in absurd (omega (arith, lt))))

  pub same_above : (t : ℕ) → last < t → element_of whole t ≡ element_of part t
  same_above t lt =
      absent t (unheard t (λ there. let le = All-contains (λ t. t ≤ last) (tags_of whole) t well.1 (has_tag-Contains whole t there) in absurd (omega (arith, le))))

  each_alike : (ts : List ℕ) → All (λ t. element_of part t ≡ element_of whole t) ts → TagsAlike whole part last [] ts
  each_alike [] p = tt
  each_alike (t ∷ ts) p = (sym (p 0 t (omega arith)), each_alike ts (λ k d within. p (suc k) d (omega arith)))

  pub tags_alike : TagsAlike whole part last [] tags
  tags_alike = each_alike tags excerpt.same

pub excerpt_acts : (s : Setting) (column : ℕ) (i : Inst) (whole part : List Element) (last : ℕ) (names : Spellings) (coming : Coming) → WellKept whole last → All (λ t. 0 < t) (tags_of whole) → IsExcerpt whole part i.tags
    → acted s column i (record { wm = whole; last = last; names = names; coming = coming }) ≡ acted s column i (record { wm = part; last = last; names = names; coming = coming })
excerpt_acts s column i whole part last names coming well above excerpt =
    acted_alike whole part last [] s i last names coming (tags_alike whole part last i.tags well above excerpt) (same_at_0 whole part last i.tags well above excerpt) (same_above whole part last i.tags well above excerpt)
    refl refl column
