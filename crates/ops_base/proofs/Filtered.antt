-- Members of filtered lists, and their order.
use Rattle.std.proofs.Common.{◌≡◌, List, [], ◌∷◌, Bool, true, false, cond, refl, ap, sym, ◌∙◌, inl, inr}
use Rattle.std.specs.Prelude.{filter, ◌↔◌, Contains}
use Rattle.std.specs.Bool.{Decides}
use Rattle.ops_base.proofs.Members.{IsMember, member_from_contains, contains_from_member}
use Rattle.ops_base.proofs.InOrder.{AllBefore}

-- what a filter keeps of a list is in it, and passes the test
pub filter_member : {X : Type 0} (p : X → Bool) (x : X) (xs : List X) → IsMember x (filter p xs) → IsMember x xs × (p x ≡ true)
filter_member p x [] m = absurd m
filter_member {X} p x (y ∷ xs) m = by_test (p y) refl m (λ k. filter_member p x xs k)
  where
    by_test : (b : Bool) → p y ≡ b → IsMember x (cond b (y ∷ filter p xs) (filter p xs)) → (IsMember x (filter p xs) → IsMember x xs × (p x ≡ true)) → IsMember x (y ∷ xs) × (p x ≡ true)
    by_test true t (inl e) later = (inl e, ap p e ∙ t)
    by_test true t (inr k) later = (let h = later k in (inr h.0, h.1))
    by_test false t k later = (let h = later k in (inr h.0, h.1))

-- what is in the list and passes is kept
pub member-filter : {X : Type 0} (p : X → Bool) (x : X) (xs : List X) → IsMember x xs → p x ≡ true → IsMember x (filter p xs)
member-filter p x [] m t = absurd m
member-filter {X} p x (y ∷ xs) (inl e) t = by_test (p y) (ap p (sym e) ∙ t)
  where
    by_test : (b : Bool) → b ≡ true → IsMember x (cond b (y ∷ filter p xs) (filter p xs))
    by_test true t = inl e
    by_test false t = cc
member-filter p x (y ∷ xs) (inr m) t = by_test (p y) (member-filter p x xs m t)
  where
    by_test : (b : Bool) → IsMember x (filter p xs) → IsMember x (cond b (y ∷ filter p xs) (filter p xs))
    by_test true k = inr k
    by_test false k = k

-- What passes a test and is in a list is what the filter keeps of it.
pub Contains-filter : {X : Type 0} (p : X → Bool) (P : X → Type 0) (each : (x : X) → Decides (p x) (P x)) (x : X) (xs : List X) → Contains (filter p xs) x ↔ (Contains xs x × P x)
Contains-filter p P each x xs = (
  λ h. (let k = filter_member p x xs (member_from_contains x (filter p xs) h) in (contains_from_member x xs k.0, (each x).0 k.1)),
  λ h. contains_from_member x (filter p xs) (member-filter p x xs (member_from_contains x xs h.0) ((each x).1 h.1)),
)

-- what a filter keeps stands in the order of the list
pub all_before-filter : {X : Type 0} (R : X → X → Type 0) (p : X → Bool) (xs : List X) → AllBefore R xs → AllBefore R (filter p xs)
all_before-filter R p [] a = tt
all_before-filter R p (x ∷ xs) a = by_test (p x) (all_before-filter R p xs a.1)
  where
    by_test : (b : Bool) → AllBefore R (filter p xs) → AllBefore R (cond b (x ∷ filter p xs) (filter p xs))
    by_test true later = (λ y m. a.0 y (filter_member p y xs m).0, later)
    by_test false later = later
