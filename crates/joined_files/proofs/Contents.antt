-- Contents that files may have, given what is known of them.
use Rattle.std.proofs.Common.{◌≡◌, ℕ, suc, List, [], ◌∷◌, ◌++◌, length, Option, Some, None, refl, sym, ap, subst}
use Rattle.joined_files.specs.Contents.{OfContent, OfContents}
use Rattle.joined_files.specs.Loads.{IsTold}

-- these may be the contents of the files of these names
abbrev pub AreTold : (List ℕ → Option (Option (List ℕ))) → List (List ℕ) → List (Option (List ℕ)) → Type 0
AreTold told [] [] = Unit {0}
AreTold told [] (c ∷ cs) = ⊥
AreTold told (name ∷ names) [] = ⊥
AreTold told (name ∷ names) (c ∷ cs) = IsTold (told name) c × AreTold told names cs

-- ---- what is known of one file

of_content : (known : Option (Option (List ℕ))) (P : Option (List ℕ) → Type 0) (c : Option (List ℕ)) → IsTold known c → P c → OfContent known P
of_content None P c a p = (c, p)
of_content (Some k) P c a p = subst P (sym a) p

content_of : (known : Option (Option (List ℕ))) (P : Option (List ℕ) → Type 0) → OfContent known P → (c : Option (List ℕ)) × IsTold known c × P c
content_of None P p = (p.0, tt, p.1)
content_of (Some k) P p = (k, refl, p)

pub any_content : (known : Option (Option (List ℕ))) → (c : Option (List ℕ)) × IsTold known c
any_content None = (None, tt)
any_content (Some k) = (k, refl)

-- ---- what is known of all files

module _ (told : List ℕ → Option (Option (List ℕ))) where
  pub of_contents : (names : List (List ℕ)) (P : List (Option (List ℕ)) → Type 0) (cs : List (Option (List ℕ))) → AreTold told names cs → P cs → OfContents told names P
  of_contents [] P [] a p = p
  of_contents [] P (c ∷ cs) a p = absurd a
  of_contents (name ∷ names) P [] a p = absurd a
  of_contents (name ∷ names) P (c ∷ cs) a p =
      of_content (told name) (λ c. OfContents told names (λ cs. P (c ∷ cs))) c a.0 (of_contents names (λ cs. P (c ∷ cs)) cs a.1 p)

  pub contents_of : (names : List (List ℕ)) (P : List (Option (List ℕ)) → Type 0) → OfContents told names P → (cs : List (Option (List ℕ))) × AreTold told names cs × P cs
  contents_of [] P p = ([], tt, p)
  contents_of (name ∷ names) P p =
      let one = content_of (told name) (λ c. OfContents told names (λ cs. P (c ∷ cs))) p in
      let rest = contents_of names (λ cs. P (one.0 ∷ cs)) one.2 in
      (one.0 ∷ rest.0, (one.1, rest.1), rest.2)

  pub any_contents : (names : List (List ℕ)) → (cs : List (Option (List ℕ))) × AreTold told names cs
  any_contents [] = ([], tt)
  any_contents (name ∷ names) =
      let one = any_content (told name) in
      let rest = any_contents names in
      (one.0 ∷ rest.0, (one.1, rest.1))

  -- what holds for some contents
  pub contents_map : (names : List (List ℕ)) (P Q : List (Option (List ℕ)) → Type 0) → ((cs : List (Option (List ℕ))) → P cs → Q cs) → OfContents told names P → OfContents told names Q
  contents_map names P Q f p =
      let some = contents_of names P p in of_contents names Q some.0 some.1 (f some.0 some.2)

  -- what holds for any contents
  pub contents_some : (names : List (List ℕ)) (P : List (Option (List ℕ)) → Type 0) (Q : Type 0) → ((cs : List (Option (List ℕ))) → P cs → Q) → OfContents told names P → Q
  contents_some names P Q f p = let some = contents_of names P p in f some.0 some.2

  pub contents_any : (names : List (List ℕ)) (P : List (Option (List ℕ)) → Type 0) → ((cs : List (Option (List ℕ))) → P cs) → OfContents told names P
  contents_any names P f = let some = any_contents names in of_contents names P some.0 some.1 (f some.0)

  pub told_append : (names more : List (List ℕ)) (cs ds : List (Option (List ℕ))) → AreTold told names cs → AreTold told more ds → AreTold told (names ++ more) (cs ++ ds)
  told_append [] more [] ds a b = b
  told_append [] more (c ∷ cs) ds a b = absurd a
  told_append (name ∷ names) more [] ds a b = absurd a
  told_append (name ∷ names) more (c ∷ cs) ds a b = (a.0, told_append names more cs ds a.1 b)

  pub told_length : (names : List (List ℕ)) (cs : List (Option (List ℕ))) → AreTold told names cs → length cs ≡ length names
  told_length [] [] a = refl
  told_length [] (c ∷ cs) a = absurd a
  told_length (name ∷ names) [] a = absurd a
  told_length (name ∷ names) (c ∷ cs) a = ap (λ n. suc n) (told_length names cs a.1)
