-- One list of tags leads to one list of bindings.
use Rattle.std.proofs.Common.{◌≡◌, ℕ, ◌<◌, List, [], ◌∷◌, Bool, true, false, Some, refl, ap, sym, ◌∙◌, subst, inl, inr, arith}
use Rattle.std.specs.Bool.{MatchBool}
use Rattle.ops_base.specs.declared.conditions.Condition.{Condition}
use Rattle.ops_base.specs.declared.conditions.Part.{Part}
use Rattle.ops_base.specs.declared.conditions.Part.TheVariants.{One, Group}
use Rattle.ops_base.specs.declared.elements.Element.{Element}
use Rattle.ops_base.specs.declared.matching.Binding.{Binding}
use Rattle.ops_base.specs.Matching.{match_of}
use Rattle.ops_base.proofs.InOrder.{AllBefore, TagBelow}
use Rattle.ops_base.proofs.Members.{IsMember, member_from_contains}
use Rattle.why.specs.Bindings.{MeetsWith}
use Rattle.why.proofs.Walks.{NoneMeets, TakesWith}

-- of elements whose tags rise, two with one tag are one
pub same_element : (wm : List Element) (e f : Element) → AllBefore TagBelow wm → IsMember e wm → IsMember f wm → e.tag ≡ f.tag → e ≡ f
same_element [] e f a m n t = absurd m
same_element (x ∷ wm) e f a (inl i) (inl j) t = i ∙ sym j
same_element (x ∷ wm) e f a (inl i) (inr n) t =
    let below : x.tag < f.tag = a.0 f n in
    let same : e.tag ≡ x.tag = ap (λ (w : Element). w.tag) i in
    absurd (omega arith)
same_element (x ∷ wm) e f a (inr m) (inl j) t =
    let below : x.tag < e.tag = a.0 e m in
    let same : f.tag ≡ x.tag = ap (λ (w : Element). w.tag) j in
    absurd (omega arith)
same_element (x ∷ wm) e f a (inr m) (inr n) t = same_element wm e f a.1 m n t

pub binds_once : (wm : List Element) → AllBefore TagBelow wm → (ps : List Part) (bindings : List Binding) (tags : List ℕ) (one other : List Binding) → MeetsWith wm ps bindings tags one → MeetsWith wm ps bindings tags other → other ≡ one
binds_once wm rising [] bindings tags one other a b = b.1 ∙ sym a.1
binds_once wm rising (Group cs ∷ ps) bindings tags one other a b = binds_once wm rising ps bindings tags one other a.1 b.1
binds_once wm rising (One c ∷ ps) bindings tags one other a b =
    by (λ bs ts r s. binds_once wm rising ps bs ts one other r s) c.negated a b
  where
    by : ((bs : List Binding) (ts : List ℕ) → MeetsWith wm ps bs ts one → MeetsWith wm ps bs ts other → other ≡ one) → (n : Bool)
        → MatchBool n (NoneMeets wm c bindings × MeetsWith wm ps bindings tags one) (TakesWith wm c ps bindings tags one)
        → MatchBool n (NoneMeets wm c bindings × MeetsWith wm ps bindings tags other) (TakesWith wm c ps bindings tags other)
        → other ≡ one
    by rest true a b = rest bindings tags a.1 b.1
    by rest false a b =
        let begins : a.0.tag ∷ a.2 ≡ b.0.tag ∷ b.2 = sym a.5 ∙ b.5 in
        let tag : a.0.tag ≡ b.0.tag = cc in
        let later : b.2 ≡ a.2 = cc in
        let same : b.0 ≡ a.0 = same_element wm b.0 a.0 rising (member_from_contains b.0 wm b.3) (member_from_contains a.0 wm a.3) (sym tag) in
        let matched : Some b.1 ≡ Some a.1 = sym b.4 ∙ ap (λ e. match_of c e bindings) same ∙ a.4 in
        let next : b.1 ≡ a.1 = cc in
        let P : List Binding → Type 0 = λ w. MeetsWith wm ps w b.2 other in
        let Q : List ℕ → Type 0 = λ w. MeetsWith wm ps a.1 w other in
        rest a.1 a.2 a.6 (subst Q later (subst P next b.6))
