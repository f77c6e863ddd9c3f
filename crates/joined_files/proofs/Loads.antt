-- The results of loading files.
use Rattle.std.proofs.Common.{◌≡◌, ℕ, zero, suc, ◌+◌, ◌-◌, ◌<◌, ◌≤◌, List, [], ◌∷◌, ◌++◌, length, take, drop, get_or, cond, Bool, true, false, Option, Some, None, Result, Ok, Err, String, string_bytes, inl, inr, refl, sym, ap, ◌∙◌, subst, append_assoc, arith}
use Rattle.std.specs.Prelude.{OnOk}
use Rattle.std.specs.Result.{is_err}
use Rattle.std.proofs.lemmas.Bool.{false≢true, le-leb, lt-leb, lt-ltb, le-ltb}
use Rattle.std.proofs.lemmas.Grind.{common_steps}
use Rattle.std.proofs.lemmas.List.{append-nil, drop_more, drop_all, take_all, take_more, take-append-drop, length-append, length-take-le, set_at, get_or-map}
use Rattle.ops_base.specs.Valid.{longest_list}
use Rattle.ops_jobs.specs.Words.{word_bytes}
use Rattle.ops_io.specs.Outside.{LoadGives}
use Rattle.ops_io.specs.declared.outside.LoadError.{LoadError}
use Rattle.joined_files.specs.declared.parts.Part.{Part}
use Rattle.joined_files.specs.Files.{Gathered, Joined, Unread, Overlong, ends_in_line, text_of, joined, gathered, gathered_all, readable, with_part}
use Rattle.joined_files.specs.Contents.{OfContents, broken_load}
use Rattle.joined_files.specs.Loads.{IsTold, Adds, CountsUnread, AsksFor, ComesTo, AskedFor}
use Rattle.joined_files.specs.declared.files.FilesFault.{FilesFault}
use Rattle.joined_files.specs.declared.files.FilesFault.TheVariants as fault
use Rattle.joined_files.proofs.Contents.{AreTold, of_contents, any_content, any_contents, contents_any, told_append, told_length}

-- ---- one more file

joined_fits : (name text : List ℕ) (rest : List ℕ → Gathered) → length text ≤ longest_list → joined name text rest ≡ rest text
joined_fits name text rest fits = rw (le-leb (length text) longest_list fits) refl

joined_long : (name text : List ℕ) (rest : List ℕ → Gathered) → longest_list < length text → joined name text rest ≡ Overlong name
joined_long name text rest long = rw (lt-leb (length text) longest_list long) refl

text_as_long : (bytes : List ℕ) → length bytes ≤ length (text_of bytes)
text_as_long bytes = by (ends_in_line bytes)
  where
    by : (b : Bool) → length bytes ≤ length (cond b bytes (bytes ++ 10 ∷ []))
    by true = omega arith
    by false = grind (arith, common_steps)

some_list : (n : ℕ) → (xs : List ℕ) × (length xs ≡ n)
some_list zero = ([], refl)
some_list (suc n) = let xs = some_list n in (0 ∷ xs.0, grind (arith, common_steps, xs.1))

longer : (room : ℕ) (old bytes : List ℕ) → longest_list ≤ room + length old → room < length bytes → longest_list < length (old ++ text_of bytes)
longer room old bytes h long = omega (arith, length-append {A = ℕ}, text_as_long bytes)

-- a file that does not fit the room that is left
pub long_file : (known : Option (Option (List ℕ))) (room : ℕ) (old new : List ℕ) → longest_list ≤ room + length old → (let r : Result Bool LoadError = Ok false in LoadGives known room r old new) → (bytes : List ℕ) × IsTold known (Some bytes) × (longest_list < length (old ++ text_of bytes))
long_file None room old new h p =
    let xs = some_list (suc room) in (xs.0, tt, longer room old xs.0 h (omega (arith, xs.1)))
long_file (Some None) room old new h p = absurd p
long_file (Some (Some bytes)) room old new h p = (bytes, refl, longer room old bytes h p.0)

module _ (told : List ℕ → Option (Option (List ℕ))) (names : List (List ℕ)) where
  -- This many of the files were loaded, in their order, and this is their text.
  pub record Loaded (count : ℕ) (text : List ℕ) (parts : List Part) : Type 0 where
    pub contents : List (Option (List ℕ))
    pub are : AreTold told (take count names) contents
    pub rest : (more : List (Option (List ℕ))) → gathered_all names (contents ++ more) ≡ gathered text parts (drop count names) more

  -- the result for contents that may be those of the files
  pub record Comes (cs : List (Option (List ℕ))) (g : Gathered) : Type 0 where
    pub are : AreTold told names cs
    pub gathers : gathered_all names cs ≡ g

  pub loaded_none : Loaded 0 [] []
  loaded_none = record { contents = []; are = tt; rest = λ more. refl }

  module _ (i : ℕ) (text : List ℕ) (parts : List Part) (p : Loaded i text parts) where
    pub loaded_all : length names ≤ i → Comes p.contents (Joined text parts)
    loaded_all all = record {
      are = subst (λ (ns : List (List ℕ)). AreTold told ns p.contents) (take_all i names all) p.are;
      gathers =
          ap (gathered_all names) (sym (append-nil p.contents)) ∙ p.rest [] ∙ ap (λ ns. gathered text parts ns []) (drop_all i names all);
    }

    module _ (within : i < length names) (name : List ℕ) (is : name ≡ get_or names i []) where
      rest_is : drop i names ≡ name ∷ drop (i + 1) names
      rest_is = drop_more names i [] within ∙ ap (λ n. n ∷ drop (i + 1) names) (sym is)

      -- this content comes next
      goes : (c : Option (List ℕ)) (more : List (Option (List ℕ))) → gathered_all names (p.contents ++ c ∷ more) ≡ gathered text parts (name ∷ drop (i + 1) names) (c ∷ more)
      goes c more = p.rest (c ∷ more) ∙ ap (λ ns. gathered text parts ns (c ∷ more)) rest_is

      -- these are the contents of all files, whatever the files after this one contain
      all_are : (c : Option (List ℕ)) → IsTold (told name) c → AreTold told names (p.contents ++ c ∷ (any_contents told (drop (i + 1) names)).0)
      all_are c a =
          let after = any_contents told (drop (i + 1) names) in
          let A : List (List ℕ) → Type 0 = λ ns. AreTold told ns (p.contents ++ c ∷ after.0) in
          subst A (ap (λ ns. take i names ++ ns) (sym rest_is) ∙ take-append-drop i names)
          (told_append told (take i names) (name ∷ drop (i + 1) names) p.contents (c ∷ after.0) p.are (a, after.1))

      pub loaded_more : (bytes new : List ℕ) → IsTold (told name) (Some bytes) → new ≡ text ++ text_of bytes → length new ≤ longest_list → Loaded (i + 1) new (with_part parts text)
      loaded_more bytes new a e fits = record {
        contents = p.contents ++ Some bytes ∷ [];
        are = let A : List (List ℕ) → Type 0 = λ ns. AreTold told ns (p.contents ++ Some bytes ∷ []) in
            subst A (ap (λ n. take i names ++ n ∷ []) is ∙ sym (take_more names i [] within))
            (told_append told (take i names) (name ∷ []) p.contents (Some bytes ∷ []) p.are (a, tt));
        rest = λ more. let F : List ℕ → Type 0 = λ xs. length xs ≤ longest_list in
            ap (gathered_all names) (append_assoc p.contents (Some bytes ∷ []) more) ∙ goes (Some bytes) more
            ∙ joined_fits name (text ++ text_of bytes) (λ all. gathered all (with_part parts text) (drop (i + 1) names) more) (subst F e fits)
            ∙ ap (λ xs. gathered xs (with_part parts text) (drop (i + 1) names) more) (sym e);
      }

      -- a file is too long
      pub loaded_long : (bytes : List ℕ) → IsTold (told name) (Some bytes) → longest_list < length (text ++ text_of bytes) → (cs : List (Option (List ℕ))) × Comes cs (Overlong name)
      loaded_long bytes a long =
          let after = any_contents told (drop (i + 1) names) in (
            p.contents ++ Some bytes ∷ after.0,
            record {
              are = all_are (Some bytes) a;
              gathers = goes (Some bytes) after.0 ∙ joined_long name (text ++ text_of bytes) (λ all. gathered all (with_part parts text) (drop (i + 1) names) after.0) long;
            },
          )

      -- a file can't be read
      pub loaded_unread : (cs : List (Option (List ℕ))) × AreTold told names cs × (gathered_all names (readable cs (Some (i + 1))) ≡ Unread name)
      loaded_unread =
          let one = any_content (told name) in
          let after = any_contents told (drop (i + 1) names) in
          let place : length p.contents ≡ i + 1 - 1 = told_length told (take i names) p.contents p.are ∙ length-take-le i names (omega arith) ∙ omega arith in (
            p.contents ++ one.0 ∷ after.0,
            all_are one.0 one.1,
            ap (gathered_all names) (set_at p.contents one.0 after.0 None (i + 1 - 1) place) ∙ goes None after.0,
          )

-- ---- one more part

pub parts_are : (parts new : List Part) (text : List ℕ) (n : ℕ) → new ≡ parts ++ record { file = length parts; first = n } ∷ [] → n ≡ length text → new ≡ with_part parts text
parts_are parts new text n e is =
    let P : ℕ → List Part = λ m. parts ++ record { file = length parts; first = m } ∷ [] in e ∙ ap P is

pub ok_of : {T E : Type 0} (P : Type 0) (r : Result T E) → OnOk r P → is_err r ≡ false → P
ok_of P (Ok x) h e = h
ok_of P (Err x) h e = cc

-- ---- the number of the load that failed

pub none_broken : (old new : List (List ℕ)) (before now : ℕ) → now ≡ before → broken_load old new before now ≡ None
none_broken old new before now same = rw (le-ltb before now (omega arith)) refl

pub one_broken : (old new names : List (List ℕ)) (before now i : ℕ) → now ≡ before + 1 → new ≡ old ++ take (i + 1) names → i < length names → broken_load old new before now ≡ Some (i + 1)
one_broken old new names before now i rose asked within =
    let loads : length new - length old ≡ i + 1 = grind (arith, length-append {A = List ℕ}, length-take-le {A = List ℕ}, ap (λ (ns : List (List ℕ)). length ns) asked) in
    rw (lt-ltb before now (omega arith)) (ap Some loads)

-- ---- what holds after a load of a file

-- the name of an item
pub name_is : {A : Type 0} (words : List (String A)) (i : ℕ) (item : String A) (name : List ℕ) → i < length words → item ≡ get_or words i item → name ≡ string_bytes item → name ≡ get_or (word_bytes words) i []
name_is words i item name within is e =
    e ∙ ap string_bytes is ∙ sym (get_or-map string_bytes words i item [] within)

-- what is known of a file is known of it later
pub told_still : (told now : List ℕ → Option (Option (List ℕ))) (name : List ℕ) (c : Option (List ℕ)) → ((n : List ℕ) → now n ≡ told n) → IsTold (now name) c → IsTold (told name) c
told_still told now name c same p = subst (λ (k : Option (Option (List ℕ))). IsTold k c) (same name) p

pub asked_more : (asked before new names : List (List ℕ)) (i : ℕ) (name : List ℕ) → before ≡ asked ++ take i names → new ≡ before ++ name ∷ [] → i < length names → name ≡ get_or names i [] → new ≡ asked ++ take (i + 1) names
asked_more asked before new names i name e more within is =
    more ∙ ap (λ ns. ns ++ name ∷ []) e ∙ append_assoc asked (take i names) (name ∷ []) ∙ ap (λ n. asked ++ (take i names ++ n ∷ [])) is
    ∙ ap (λ ns. asked ++ ns) (sym (take_more names i [] within))

module _ (told : List ℕ → Option (Option (List ℕ))) (names asked : List (List ℕ)) (i : ℕ) (text : List ℕ) (parts : List Part) (p : Loaded told names i text parts) where
  -- all were loaded
  pub all_come : (new : List (List ℕ)) (before now : ℕ) → length names ≤ i → now ≡ before → OfContents told names (λ cs. gathered_all names (readable cs (broken_load asked new before now)) ≡ Joined text parts)
  all_come new before now all same =
      let done = loaded_all told names i text parts p all in
      of_contents told names (λ cs. gathered_all names (readable cs (broken_load asked new before now)) ≡ Joined text parts) p.contents done.are
      (ap (λ m. gathered_all names (readable p.contents m)) (none_broken asked new before now same) ∙ done.gathers)

  module _ (within : i < length names) (name : List ℕ) (is : name ≡ get_or names i []) (mid new : List (List ℕ)) (so_far : mid ≡ asked ++ take i names) where
    come : (T : Type 0) (f : FilesFault) (after : List ℕ) (before now : ℕ) → (let r : Result T FilesFault = Err f in Adds r (told name) name text after) → (let r : Result T FilesFault = Err f in CountsUnread r before now)
        → (let r : Result T FilesFault = Err f in AsksFor r name mid new) → OfContents told names (λ cs. ComesTo f (gathered_all names (readable cs (broken_load asked new before now))))
    come T (fault.Unread of) after before now a rose more =
        let next = loaded_unread told names i text parts p within name is in
        let broken = one_broken asked new names before now i rose (asked_more asked mid new names i name so_far more within is) within in
        of_contents told names (λ cs. gathered_all names (readable cs (broken_load asked new before now)) ≡ Unread of.now) next.0 next.1
        (ap (λ m. gathered_all names (readable next.0 m)) broken ∙ next.2 ∙ ap Unread (sym a))
    come T (fault.TooLong of) after before now a same more =
        let next = loaded_long told names i text parts p within name is a.0 a.1 a.2 in
        let comes = next.1 in
        of_contents told names (λ cs. gathered_all names (readable cs (broken_load asked new before now)) ≡ Overlong of.now) next.0 comes.are
        (ap (λ m. gathered_all names (readable next.0 m)) (none_broken asked new before now same) ∙ comes.gathers ∙ ap Overlong (sym a.3))
    come T fault.OutOfMemory after before now a same more =
        contents_any told names (λ cs. ComesTo fault.OutOfMemory (gathered_all names (readable cs (broken_load asked new before now)))) (λ cs. tt)

    -- the next one can't be loaded
    pub none_comes : (T : Type 0) (f : FilesFault) (after : List ℕ) (before then now : ℕ) (known : Option (Option (List ℕ))) → known ≡ told name → then ≡ before
        → (let r : Result T FilesFault = Err f in Adds r known name text after) → (let r : Result T FilesFault = Err f in CountsUnread r then now)
        → (let r : Result T FilesFault = Err f in AsksFor r name mid new) → OfContents told names (λ cs. ComesTo f (gathered_all names (readable cs (broken_load asked new before now))))
    none_comes T f after before then now known same steady a counts more =
        let r : Result T FilesFault = Err f in
        come T f after before now (subst (λ (k : Option (Option (List ℕ))). Adds r k name text after) same a) (subst (λ n. CountsUnread r n now) steady counts) more

    one_asked : new ≡ mid ++ name ∷ [] → AskedFor false names asked new
    one_asked more = record {
      loads = i + 1;
      within = omega arith;
      names = asked_more asked mid new names i name so_far more within is;
      all_of_them = λ e. absurd (false≢true e);
    }

    -- the files that were asked for in that case
    pub asked_so_far : (T : Type 0) (f : FilesFault) → (let r : Result T FilesFault = Err f in AsksFor r name mid new) → AskedFor false names asked new
    asked_so_far T (fault.Unread of) more = one_asked more
    asked_so_far T (fault.TooLong of) more = one_asked more
    asked_so_far T fault.OutOfMemory more = elim more [
      | inl none ↦ record { loads = i; within = omega arith; names = none ∙ so_far; all_of_them = λ e. absurd (false≢true e) }
      | inr one ↦ one_asked one
    ]
