-- A link that is found, or one link more.
use Rattle.std.proofs.Common.{◌≡◌, ℕ, ◌<◌, List, [], ◌∷◌, ◌++◌, length, map, slice_get, Option, Some, refl, ap, ap₂, subst, sym, ◌∙◌, inl, inr, append-nil, get_or, Bool, false, true≢false, ◌↔◌, IsTrue}
use Rattle.net_base.specs.declared.normal.NormalPart.{NormalPart}
use Rattle.beta_net.specs.declared.links.Link.{Link}
use Rattle.beta_net.specs.declared.links.Links.{Links}
use Rattle.beta_net.specs.Codes.{part_code}
use Rattle.beta_net.specs.Linked.{IsOf, IsFit, AreLinks, IsLinked, Stands, IsNew, Adds, link_code}
use Rattle.beta_net.proofs.Lists.{same_some, get_seam, get_push, get_map, get_of, map_push}
use Rattle.beta_net.proofs.PathLemmas.{links_push}

-- a link of this parent and part has their code
pub stands_coded : (links : List Link) (codes : List ℕ) (parent : Option ℕ) (c : NormalPart) (code : ℕ) → codes ≡ map link_code links → code ≡ part_code parent c → (n : ℕ) → Stands links parent c n → slice_get codes n ≡ Some code
stands_coded links codes parent c code e q n s =
    ap (λ cs. slice_get cs n) e ∙ (get_map link_code links n s.link s.at ∙ ap Some (ap₂ part_code s.of.0 s.of.1 ∙ sym q))

pub adds_old : (t : Links) (parent : Option ℕ) (c : NormalPart) (n : ℕ) → IsLinked t → Stands t.list.items parent c n → Adds t t parent c n
adds_old t parent c n i s = record { more = []; grown = sym (append-nil t.list.items); stands = s; only = λ m l at. inr at; linked = i }

pub adds_new : (old new : Links) (l : Link) (n code : ℕ) → IsLinked old → new.list.items ≡ old.list.items ++ l ∷ [] → new.chains ≡ old.chains ++ code ∷ [] → code ≡ link_code l → n ≡ length old.list.items
    → IsFit old.list.items (length old.list.items) l → IsNew old.list.items l.parent l.part → Adds old new l.parent l.part n
adds_new old new l n code i grown codes coded at fit fresh = record {
  more = l ∷ [];
  grown = grown;
  stands = record { link = l; at = ap₂ slice_get grown at ∙ get_seam old.list.items l []; of = (refl, refl) };
  only = λ m x here. elim (get_push old.list.items l m x (ap (λ ls. slice_get ls m) (sym grown) ∙ here)) [ inl h ↦ inr h | inr h ↦ inl (h.0 ∙ sym at) ];
  linked = record {
    links = subst AreLinks (sym grown) (links_push old.list.items l i.links fit fresh);
    codes = codes ∙ (ap₂ (λ cs x. cs ++ x ∷ []) i.codes coded ∙ (sym (map_push link_code old.list.items l) ∙ ap (map link_code) (sym grown)));
  };
}

-- a link that is another does not stand for this one
pub other_link : (links : List Link) (parent : Option ℕ) (c : NormalPart) (n : ℕ) (l : Link) (b : Bool) → n < length links → l ≡ get_or links n l → (IsTrue b ↔ IsOf parent c l) → b ≡ false → Stands links parent c n → ⊥
other_link links parent c n l b lt is tells differs s =
    let same = same_some s.link l (sym s.at ∙ get_of links n l lt is) in
    true≢false (sym (tells.1 (subst (IsOf parent c) same s.of)) ∙ differs)
