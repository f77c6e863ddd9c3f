-- Members of joined, mapped and flattened lists. A member is what the list contains, by the list's own form.
use Rattle.std.proofs.Common.{◌≡◌, List, [], ◌∷◌, ◌++◌, map, refl, ap, sym, subst, inl, inr, ◌⊎◌}
use Rattle.std.specs.List.{flat_map, All, AllByRecursion, Contains}
use Rattle.std.proofs.lemmas.List.Elements.{All-nil, All-cons, All-contains, All-contains_itself, recursion_from_All}

-- x is an item of the list
abbrev pub IsMember : {X : Type 0} → X → List X → Type 0
IsMember x [] = ⊥
IsMember x (y ∷ ys) = (x ≡ y) ⊎ IsMember x ys

-- what holds of each member holds at each index
pub all_from_members : {X : Type 0} (P : X → Type 0) (xs : List X) → ((y : X) → IsMember y xs → P y) → All P xs
all_from_members P [] h = All-nil P
all_from_members P (x ∷ xs) h = All-cons P x xs (h x (inl refl)) (all_from_members P xs (λ y m. h y (inr m)))

-- what holds of each item holds of each member
pub members_from_each : {X : Type 0} (P : X → Type 0) (xs : List X) → AllByRecursion P xs → (y : X) → IsMember y xs → P y
members_from_each P [] h y m = absurd m
members_from_each P (x ∷ xs) h y (inl e) = subst P (sym e) h.0
members_from_each P (x ∷ xs) h y (inr m) = members_from_each P xs h.1 y m

-- what a list contains is a member of it
pub member_from_contains : {X : Type 0} (x : X) (xs : List X) → Contains xs x → IsMember x xs
member_from_contains x xs h =
    All-contains (λ y. IsMember y xs) xs x (all_from_members (λ y. IsMember y xs) xs (λ y m. m)) h

-- a list contains its members
pub contains_from_member : {X : Type 0} (x : X) (xs : List X) → IsMember x xs → Contains xs x
contains_from_member x xs m =
    members_from_each (Contains xs) xs (recursion_from_All (Contains xs) xs (All-contains_itself xs)) x m

-- a member of the first list is in the two joined
pub member_left : {X : Type 0} (x : X) (xs ys : List X) → IsMember x xs → IsMember x (xs ++ ys)
member_left x [] ys m = absurd m
member_left x (y ∷ xs) ys (inl e) = inl e
member_left x (y ∷ xs) ys (inr m) = inr (member_left x xs ys m)

-- a member of the second list is in the two joined
pub member_right : {X : Type 0} (x : X) (xs ys : List X) → IsMember x ys → IsMember x (xs ++ ys)
member_right x [] ys m = m
member_right x (y ∷ xs) ys m = inr (member_right x xs ys m)

-- a member of two joined lists is in one of them
pub member_cases : {X : Type 0} (x : X) (xs ys : List X) → IsMember x (xs ++ ys) → IsMember x xs ⊎ IsMember x ys
member_cases x [] ys m = inr m
member_cases x (y ∷ xs) ys (inl e) = inl (inl e)
member_cases x (y ∷ xs) ys (inr m) = elim (member_cases x xs ys m) [ inl a ↦ inl (inr a) | inr b ↦ inr b ]

-- what one item gives is among what all give
pub member-flat_map : {X Y : Type 0} (f : X → List Y) (y : Y) (x : X) (xs : List X) → IsMember x xs → IsMember y (f x) → IsMember y (flat_map f xs)
member-flat_map f y x [] m h = absurd m
member-flat_map {X} f y x (z ∷ xs) (inl e) h =
    let P : X → Type 0 = λ w. IsMember y (f w) in member_left y (f z) (flat_map f xs) (subst P e h)
member-flat_map f y x (z ∷ xs) (inr m) h = member_right y (f z) (flat_map f xs) (member-flat_map f y x xs m h)

-- what all give, some item gives
pub flat_map_member : {X Y : Type 0} (f : X → List Y) (y : Y) (xs : List X) → IsMember y (flat_map f xs) → (x : X) × IsMember x xs × IsMember y (f x)
flat_map_member f y [] m = absurd m
flat_map_member f y (z ∷ xs) m =
    elim (member_cases y (f z) (flat_map f xs) m) [ inl a ↦ (z, inl refl, a) | inr b ↦ (let r = flat_map_member f y xs b in (r.0, inr r.1, r.2)) ]

-- the image of a member is among the images
pub member-map : {X Y : Type 0} (f : X → Y) (x : X) (xs : List X) → IsMember x xs → IsMember (f x) (map f xs)
member-map f x [] m = absurd m
member-map f x (z ∷ xs) (inl e) = inl (ap f e)
member-map f x (z ∷ xs) (inr m) = inr (member-map f x xs m)

-- each of the images is that of a member
pub map_member : {X Y : Type 0} (f : X → Y) (y : Y) (xs : List X) → IsMember y (map f xs) → (x : X) × IsMember x xs × (y ≡ f x)
map_member f y [] m = absurd m
map_member f y (z ∷ xs) (inl e) = (z, inl refl, e)
map_member f y (z ∷ xs) (inr m) = let r = map_member f y xs m in (r.0, inr r.1, r.2)
