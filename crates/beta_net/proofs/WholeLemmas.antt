-- What was compiled from valid rules is a sound network of them.
use Rattle.std.proofs.Common.{◌≡◌, ℕ, zero, suc, ◌+◌, ◌-◌, List, [], ◌∷◌, length, take, drop, slice_get, slice_range, Some, true, refl, ap, ◌∙◌, subst, sym, arith}
use Rattle.std.specs.Prelude.{IfOk, Result, Ok, Err}
use Rattle.ops_base.specs.declared.elements.Class.{Class}
use Rattle.ops_base.specs.declared.commands.Command.{Command}
use Rattle.ops_base.specs.declared.rules.Rule.{Rule}
use Rattle.ops_base.specs.Valid.{is_valid}
use Rattle.net_base.specs.declared.nodes.Node.{Node}
use Rattle.net_base.specs.declared.nodes.Alpha.{Alpha}
use Rattle.net_base.specs.declared.net.Net.{Net}
use Rattle.net_base.specs.Sound.{IsSound}
use Rattle.net_base.specs.Network.{NetOf}
use Rattle.net_base.specs.Shape.{IsShape, counts_of}
use Rattle.net_base.proofs.ValidRules.{valid_rules}
use Rattle.beta_net.specs.declared.links.Link.{Link}
use Rattle.beta_net.specs.declared.paths.End.{End}
use Rattle.beta_net.specs.Built.{AreBuilt, IsDraft, IsCompiled}
use Rattle.beta_net.specs.Children.{AreOrdered, AreFilled}
use Rattle.beta_net.specs.Rights.{AreGiversBefore, AreRightless, AreGiven}
use Rattle.beta_net.proofs.ChildLemmas.{has_children, was_node}
use Rattle.beta_net.proofs.RightLemmas.{has_rights, given_children}
use Rattle.beta_net.proofs.DownLemmas.{parent_link}
use Rattle.beta_net.proofs.SoundLemmas.{AreValidRules, ends_within, filled_draft, given_draft, giver_link, sound}
use Rattle.beta_net.proofs.NetLemmas.{net_of}
use Rattle.beta_net.proofs.ShapeLemmas.{shape_is}

pub draft_ordered : (links : List Link) (ends : List End) (rules : List Rule) (alphas : List Alpha) (nodes : List Node) → AreBuilt links ends rules → IsDraft links ends alphas nodes → AreOrdered nodes
draft_ordered links ends rules alphas nodes b d n p x at e =
    (parent_link links ends alphas n x b.linked (λ k f here. (ends_within links ends rules b k f here).2.within) (d.each n x at) p e).0

pub draft_givers : (links : List Link) (ends : List End) (rules : List Rule) (alphas : List Alpha) (old new : List Node) → AreValidRules rules → AreBuilt links ends rules → IsDraft links ends alphas old → AreFilled old new (length old) → AreGiversBefore new
draft_givers links ends rules alphas old new valid b d f n g x at e = (giver_link links ends alphas new rules valid b (filled_draft links ends alphas old new f d) n x at g e).0

pub draft_rightless : (old new : List Node) → AreRightless old → AreFilled old new (length old) → AreRightless new
draft_rightless old new bare f n x at = let y = was_node old new n x f at in ap (λ (z : Node). z.rights) y.2 ∙ bare n y.0 y.1

pub compiled : (links : List Link) (ends : List End) (rules : List Rule) (alphas : List Alpha) (old mid new : List Node) → AreBuilt links ends rules → IsDraft links ends alphas old → AreFilled old mid (length old) → AreGiven mid new (length mid) → IsCompiled rules alphas new
compiled links ends rules alphas old mid new b d f g = record {
  links = links;
  ends = ends;
  built = b;
  draft = given_draft links ends alphas mid new g (filled_draft links ends alphas old mid f d);
  children = given_children mid new g (has_children old mid f);
  rights = has_rights mid new g;
}

pub all_valid : (classes : List Class) (rules templates : List Rule) (commands : List Command) (text : ℕ) → is_valid classes rules templates commands text ≡ true → AreValidRules rules
all_valid classes rules templates commands text v k r at = valid_rules classes rules templates commands text k r v at

-- ---- the rules of a range

got_in_front : {X : Type 0} (n : ℕ) (xs : List X) (k : ℕ) (x : X) → slice_get (take n xs) k ≡ Some x → slice_get xs k ≡ Some x
got_in_front zero xs k x at = cc
got_in_front (suc n) [] k x at = at
got_in_front (suc n) (y ∷ xs) zero x at = at
got_in_front (suc n) (y ∷ xs) (suc k) x at = got_in_front n xs k x at

got_behind : {X : Type 0} (n : ℕ) (xs : List X) (k m : ℕ) (x : X) → m ≡ n + k → slice_get (drop n xs) k ≡ Some x → slice_get xs m ≡ Some x
got_behind zero xs k m x e at = let same : m ≡ k = omega (arith, e) in ap (slice_get xs) same ∙ at
got_behind (suc n) [] k m x e at = at
got_behind (suc n) (y ∷ xs) k zero x e at = absurd (omega (arith, e))
got_behind (suc n) (y ∷ xs) k (suc m) x e at = got_behind n xs k m x (omega (arith, e)) at

pub range_valid : (classes : List Class) (rules templates : List Rule) (commands : List Command) (text : ℕ) → is_valid classes rules templates commands text ≡ true → (first past : ℕ) → AreValidRules (slice_range rules first past)
range_valid classes rules templates commands text v first past k r at =
    all_valid classes rules templates commands text v (first + k) r (got_behind first rules k (first + k) r refl (got_in_front (past - first) (drop first rules) k r at))

whole_front : {X : Type 0} (xs : List X) → take (length xs) xs ≡ xs
whole_front [] = refl
whole_front (x ∷ xs) = ap (λ ys. x ∷ ys) (whole_front xs)

-- all of them
pub whole_range : {X : Type 0} (xs : List X) → slice_range xs 0 (length xs) ≡ xs
whole_range xs = let all : length xs - 0 ≡ length xs = omega arith in ap (λ n. take n xs) all ∙ whole_front xs

-- one of them
first_of : {X : Type 0} (xs : List X) (n : ℕ) (x : X) → slice_get xs n ≡ Some x → take 1 (drop n xs) ≡ x ∷ []
first_of [] n x at = cc
first_of (y ∷ xs) zero x at = let same : y ≡ x = cc in ap (λ z. z ∷ []) same
first_of (y ∷ xs) (suc n) x at = first_of xs n x at

pub one_range : {X : Type 0} (xs : List X) (n : ℕ) (x : X) → slice_get xs n ≡ Some x → slice_range xs n (n + 1) ≡ x ∷ []
one_range xs n x at = let one : n + 1 - n ≡ 1 = omega arith in ap (λ k. take k (drop n xs)) one ∙ first_of xs n x at

pub compiled_sound : (rules : List Rule) (alphas : List Alpha) (nodes : List Node) → AreValidRules rules → IsCompiled rules alphas nodes → IsSound alphas nodes
compiled_sound rules alphas nodes valid c = sound c.links c.ends alphas nodes rules valid c.built c.draft c.children c.rights

pub compiled_net : (rules : List Rule) (net : Net) → AreValidRules rules → IsCompiled rules net.alphas net.nodes → NetOf net rules
compiled_net rules net valid c = net_of c.links c.ends net rules valid c.built c.draft c.children c.rights

pub compiled_shape : (rules : List Rule) (alphas : List Alpha) (nodes : List Node) → AreValidRules rules → IsCompiled rules alphas nodes → IsShape rules (counts_of alphas nodes)
compiled_shape rules alphas nodes valid c = shape_is c.links c.ends alphas nodes rules valid c.built c.draft c.children c.rights

pub same_compiled : (rules : List Rule) (alphas alphas' : List Alpha) (nodes nodes' : List Node) → alphas' ≡ alphas → nodes' ≡ nodes → IsCompiled rules alphas nodes → IsCompiled rules alphas' nodes'
same_compiled rules alphas alphas' nodes nodes' e f c = subst (λ as'. IsCompiled rules as' nodes') (sym e) (subst (IsCompiled rules alphas) (sym f) c)

pub if_ok : {T E : Type 0} (r : Result T E) (P Q : T → Type 0) → ((x : T) → P x → Q x) → IfOk r P → IfOk r Q
if_ok (Ok x) P Q f h = f x h
if_ok (Err e) P Q f h = h
