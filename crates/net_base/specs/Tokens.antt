-- The tokens at each node of a network over a working memory.
use Rattle.std.specs.Prelude.{ℕ, zero, suc, ◌+◌, ◌*◌, ◌^◌, Bool, true, false, ◌&&◌, List, [], ◌∷◌, ◌++◌, take, bytes_eq, find, slice_get, slice_index, Option, Some, None, ◌==◌, if◌then◌else◌}
use Rattle.std.specs.List.{list_all, list_any}
use Rattle.ops_base.specs.declared.values.Value.{Value}
use Rattle.ops_base.specs.declared.values.Pred.{Pred}
use Rattle.ops_base.specs.declared.conditions.Operand.{Operand}
use Rattle.ops_base.specs.declared.conditions.Operand.TheVariants.{Constant, OneOf, Variable}
use Rattle.ops_base.specs.declared.conditions.Test.{Test}
use Rattle.ops_base.specs.declared.elements.Element.{Element}
use Rattle.ops_base.specs.Values.{nil, are_same, holds_of}
use Rattle.ops_base.specs.WorkingMemory.{field_of}
use Rattle.net_base.specs.declared.nodes.Kind.{Kind}
use Rattle.net_base.specs.declared.nodes.Kind.TheVariants.{Join, Negated, Group, Terminal}
use Rattle.net_base.specs.declared.nodes.JoinTest.{JoinTest}
use Rattle.net_base.specs.declared.nodes.Node.{Node}
use Rattle.net_base.specs.declared.nodes.Alpha.{Alpha}

-- ---- elements

-- the element that a tag refers to, none if no element has the tag
abbrev pub Elements : Type 0
Elements = ℕ → Option Element

abbrev pub elements_of : List Element → Elements
elements_of wm tag = find (λ e. e.tag == tag) wm

-- a field of the element, nil if there is no element
abbrev pub field_in : Option Element → ℕ → Value
field_in None f = nil
field_in (Some e) f = field_of e f

-- ---- alpha tests

-- a variable is a field of the same element
abbrev pub alpha_operand_holds : Pred → Value → Operand → Element → Bool
alpha_operand_holds pred a (Constant c) e = holds_of pred a c
alpha_operand_holds pred a (OneOf cs) e = list_any (λ c. are_same a c) cs
alpha_operand_holds pred a (Variable f) e = holds_of pred a (field_of e f)

-- a test that binds holds
abbrev pub alpha_test_holds : Element → Test → Bool
alpha_test_holds e t = if t.binds then true else alpha_operand_holds t.pred (field_of e t.field) t.operand e

-- the element is of the alpha's class, and each of its tests holds
abbrev pub passes_alpha : Alpha → Element → Bool
passes_alpha a e = (e.class == a.class) && list_all (alpha_test_holds e) a.tests

-- ---- join tests

abbrev pub join_test_holds : Elements → List ℕ → ℕ → JoinTest → Bool
join_test_holds elements t e j =
    holds_of j.pred (field_in (elements e) j.field) (field_in (elements (slice_index t j.place)) j.other)

-- each test holds of the element with the tag e and of the elements that the left token t names
abbrev pub joins_hold : List JoinTest → Elements → List ℕ → ℕ → Bool
joins_hold tests elements t e = list_all (join_test_holds elements t e) tests

-- ---- which right tokens go with a left one

-- the right token begins with the left one, which has `width` tags
abbrev pub covers : ℕ → List ℕ → List ℕ → Bool
covers width t r = bytes_eq t (take width r)

-- At a join or a negated node, a right token is the tag of one element; at a group, it is a token of its giver.
abbrev pub goes_with : Kind → List JoinTest → Elements → List ℕ → List ℕ → Bool
goes_with Join tests elements t r = joins_hold tests elements t (slice_index r 0)
goes_with Negated tests elements t r = joins_hold tests elements t (slice_index r 0)
goes_with (Group giver width members) tests elements t r = covers width t r
goes_with (Terminal rule) tests elements t r = false

-- how many tags a right token has
abbrev pub right_width : Kind → ℕ
right_width Join = 1
right_width Negated = 1
right_width (Group giver width members) = width + members
right_width (Terminal rule) = 0

-- ---- what a node puts out

-- how many times each token occurs
abbrev pub Tokens : Type 0
Tokens = List ℕ → ℕ

-- all but the last tag of a nonempty token, and the last tag
abbrev pub front : ℕ → List ℕ → List ℕ
front x [] = []
front x (y ∷ ys) = x ∷ front y ys

abbrev pub last : ℕ → List ℕ → ℕ
last x [] = x
last x (y ∷ ys) = last y ys

-- the sum of a number for each tag below the bound
unfoldable pub sum_to : ℕ → (ℕ → ℕ) → ℕ
sum_to zero f = 0
sum_to (suc k) f = f k + sum_to k f

-- the number of right tokens that pass the test, among those that consist of these tags followed by that number of
-- further tags, each below the bound
abbrev pub count_from : ℕ → ℕ → (List ℕ → Bool) → Tokens → List ℕ → ℕ
count_from tags zero test right r = if test r then right r else 0
count_from tags (suc more) test right r = sum_to tags (λ k. count_from tags more test right (r ++ k ∷ []))

-- the number of right tokens that go with the left token, if all tags are below the bound
abbrev pub count_with : ℕ → Kind → List JoinTest → Elements → List ℕ → Tokens → ℕ
count_with tags kind tests elements t right = count_from tags (right_width kind) (goes_with kind tests elements t) right []

-- each left token with the tag of each right token that joins it
abbrev pub out_of_join : List JoinTest → Elements → Tokens → Tokens → Tokens
out_of_join tests elements left right [] = 0
out_of_join tests elements left right (x ∷ xs) =
    if joins_hold tests elements (front x xs) (last x xs) then left (front x xs) * right (last x xs ∷ []) else 0

-- each left token that no right token goes with
abbrev pub out_of_negated : ℕ → Kind → List JoinTest → Elements → Tokens → Tokens → Tokens
out_of_negated tags kind tests elements left right t = if count_with tags kind tests elements t right == 0 then left t else 0

-- what a node puts out, given its left and right tokens, if all tags are below `tags`
abbrev pub out_of : ℕ → Elements → Kind → List JoinTest → Tokens → Tokens → Tokens
out_of tags elements Join tests left right t = out_of_join tests elements left right t
out_of tags elements Negated tests left right t = out_of_negated tags Negated tests elements left right t
out_of tags elements (Group giver width members) tests left right t = out_of_negated tags (Group giver width members) tests elements left right t
out_of tags elements (Terminal rule) tests left right t = left t

-- ---- what feeds a node

-- what feeds one side of a node: nothing, the root, working memory, or a node
pub data Giver : Type 0 where
  Nothing : Giver
  Root : Giver
  Memory : Giver
  Out : ℕ → Giver

abbrev pub giver_of_parent : Option ℕ → Giver
giver_of_parent None = Root
giver_of_parent (Some p) = Out p

abbrev pub left_giver : Node → Giver
left_giver node = giver_of_parent node.parent

abbrev pub giver_of_kind : Kind → Giver
giver_of_kind Join = Memory
giver_of_kind Negated = Memory
giver_of_kind (Group giver width members) = Out giver
giver_of_kind (Terminal rule) = Nothing

abbrev pub right_giver : Node → Giver
right_giver node = giver_of_kind node.kind

-- the root gives the empty token once
abbrev pub root_gives : Tokens
root_gives [] = 1
root_gives (x ∷ xs) = 0

abbrev pub times_passed : Option Alpha → Option Element → ℕ
times_passed None e = 0
times_passed (Some a) None = 0
times_passed (Some a) (Some e) = if passes_alpha a e then 1 else 0

-- working memory gives the tag of each element that passes, once
abbrev pub memory_gives : List Element → Option Alpha → Tokens
memory_gives wm alpha [] = 0
memory_gives wm alpha (tag ∷ []) = times_passed alpha (elements_of wm tag)
memory_gives wm alpha (tag ∷ x ∷ xs) = 0

-- what a giver gives; `memory` is what working memory gives, and `outs` is what each node puts out
abbrev pub given : Giver → Tokens → (ℕ → Tokens) → Tokens
given Nothing memory outs t = 0
given Root memory outs t = root_gives t
given Memory memory outs t = memory t
given (Out p) memory outs t = outs p t

-- ---- the tokens of each node

-- of a node; `outs` is what the nodes before it put out
abbrev pub tokens_of_node : ℕ → Elements → List Element → List Alpha → (ℕ → Tokens) → Option Node → Tokens
tokens_of_node tags elements wm alphas outs None t = 0
tokens_of_node tags elements wm alphas outs (Some node) t =
    out_of tags elements node.kind node.joins
    (given (left_giver node) (memory_gives wm (slice_get alphas node.alpha)) outs)
    (given (right_giver node) (memory_gives wm (slice_get alphas node.alpha)) outs) t

-- for each node whose number is below the bound
abbrev pub tokens_below : ℕ → ℕ → Elements → List Element → List Alpha → List Node → ℕ → Tokens
tokens_below zero tags elements wm alphas nodes n t = 0
tokens_below (suc k) tags elements wm alphas nodes n t =
    tokens_of_node tags elements wm alphas (tokens_below k tags elements wm alphas nodes) (slice_get nodes n) t

-- how many times each token occurs in a node's output; the tags are below 2 ^ 64
abbrev pub tokens : List Element → List Alpha → List Node → ℕ → Tokens
tokens wm alphas nodes n t = tokens_below (suc n) (2 ^ 64) (elements_of wm) wm alphas nodes n t

abbrev pub given_in : List Element → List Alpha → List Node → (Node → Giver) → Option Node → Tokens
given_in wm alphas nodes giver None t = 0
given_in wm alphas nodes giver (Some node) t = given (giver node) (memory_gives wm (slice_get alphas node.alpha)) (tokens wm alphas nodes) t

-- how many times each token occurs at the left side of a node, and at its right side
abbrev pub left_tokens : List Element → List Alpha → List Node → ℕ → Tokens
left_tokens wm alphas nodes n t = given_in wm alphas nodes left_giver (slice_get nodes n) t

abbrev pub right_tokens : List Element → List Alpha → List Node → ℕ → Tokens
right_tokens wm alphas nodes n t = given_in wm alphas nodes right_giver (slice_get nodes n) t
