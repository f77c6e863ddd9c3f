-- The ranges of files in their joined text.
use Rattle.std.proofs.Common.{◌≡◌, ℕ, zero, suc, ◌+◌, ◌<◌, ◌≤◌, List, [], ◌∷◌, ◌++◌, length, drop, slice_get, cond, Bool, true, false, Option, Some, None, refl, sym, ap, ◌∙◌, subst, append_assoc, length-append, nat_le, arith}
use Rattle.std.specs.List.{AllByRecursion}
use Rattle.std.proofs.lemmas.Bool.{le-leb, lt-leb}
use Rattle.std.proofs.lemmas.List.{append-nil}
use Rattle.ops_base.specs.Valid.{longest_list}
use Rattle.joined_files.specs.declared.parts.Part.{Part}
use Rattle.joined_files.specs.Files.{Gathered, Joined, Unread, Overlong, ends_in_line, text_of, joined, gathered, with_part}
use Rattle.joined_files.specs.Parts.{part_by, part_at}
use Rattle.joined_files.specs.Ranges.{next_place, IsOfFile, PartsAreFiles}

-- ---- the result of joining files

abbrev text_in : Gathered → List ℕ
text_in (Joined text parts) = text
text_in (Unread name) = []
text_in (Overlong name) = []

abbrev parts_in : Gathered → List Part
parts_in (Joined text parts) = parts
parts_in (Unread name) = []
parts_in (Overlong name) = []

goes_on : (name text : List ℕ) (rest : List ℕ → Gathered) (all : List ℕ) (parts : List Part) → joined name text rest ≡ Joined all parts → rest text ≡ Joined all parts
goes_on name text rest all parts = by (nat_le (length text) longest_list)
  where
    by : (b : Bool) → cond b (rest text) (Overlong name) ≡ Joined all parts → rest text ≡ Joined all parts
    by true e = e
    by false e = absurd (cc)

-- ---- lines

ends_append : (xs ys : List ℕ) → ends_in_line xs ≡ true → ends_in_line ys ≡ true → ends_in_line (xs ++ ys) ≡ true
ends_append [] ys e f = f
ends_append (x ∷ []) [] e f = e
ends_append (x ∷ []) (y ∷ ys) e f = f
ends_append (x ∷ z ∷ zs) ys e f = ends_append (z ∷ zs) ys e f

ends_with : (xs : List ℕ) → ends_in_line (xs ++ 10 ∷ []) ≡ true
ends_with [] = refl
ends_with (x ∷ []) = refl
ends_with (x ∷ y ∷ ys) = ends_with (y ∷ ys)

text_ends : (bytes : List ℕ) → ends_in_line (text_of bytes) ≡ true
text_ends bytes = by (ends_in_line bytes) refl
  where
    by : (b : Bool) → ends_in_line bytes ≡ b → ends_in_line (cond b bytes (bytes ++ 10 ∷ [])) ≡ true
    by true e = e
    by false e = ends_with bytes

-- ---- places

abbrev Begin : ℕ → List Part → Type 0
Begin at parts = AllByRecursion (λ (q : Part). q.first ≤ at) parts

begin_later : (n m : ℕ) (xs : List Part) (p : Part) → n ≤ m → p.first ≤ m → Begin n xs → Begin m (xs ++ p ∷ [])
begin_later n m [] p more h all = (h, tt)
begin_later n m (x ∷ xs) p more h all = let one : x.first ≤ n = all.0 in (omega (arith, one), begin_later n m xs p more h all.1)

begin_before : (n m : ℕ) (xs : List Part) → n ≤ m → Begin n xs → Begin m xs
begin_before n m [] more all = tt
begin_before n m (x ∷ xs) more all = let one : x.first ≤ n = all.0 in (omega (arith, one), begin_before n m xs more all.1)

stops : (text : List ℕ) (p : Part) (ys : List Part) (at : ℕ) → at < next_place text ys → part_by p ys at ≡ p
stops text p [] at h = refl
stops text p (y ∷ ys) at h = rw (lt-leb y.first at h) refl

stands : (text : List ℕ) (found p : Part) (xs ys : List Part) (at : ℕ) → Begin at xs → p.first ≤ at → at < next_place text ys → part_by found (xs ++ p ∷ ys) at ≡ p
stands text found p [] ys at all h past = ap (λ b. cond b (part_by p ys at) found) (le-leb p.first at h) ∙ stops text p ys at past
stands text found p (x ∷ xs) ys at all h past =
    ap (λ b. cond b (part_by x (xs ++ p ∷ ys) at) found) (le-leb x.first at all.0) ∙ stands text x p xs ys at all.1 h past

get_after : (xs ys : List Part) (p : Part) → slice_get (xs ++ p ∷ ys) (length xs) ≡ Some p
get_after [] ys p = refl
get_after (x ∷ xs) ys p = get_after xs ys p

drop_after : (xs ys : List Part) (p : Part) → drop (suc (length xs)) (xs ++ p ∷ ys) ≡ ys
drop_after [] ys p = refl
drop_after (x ∷ xs) ys p = drop_after xs ys p

-- ---- files

-- the text so far stays, and the next part begins where it ends
record Continues (text : List ℕ) (parts : List Part) (names : List (List ℕ)) (all : List ℕ) (all_parts : List Part) : Type 0 where
  more : List ℕ
  new : List Part
  text_is : all ≡ text ++ more
  parts_are : all_parts ≡ parts ++ new
  number : length new ≡ length names
  begins : next_place all new ≡ length text

continues : (text : List ℕ) (parts : List Part) (names : List (List ℕ)) (contents : List (Option (List ℕ))) (all : List ℕ) (all_parts : List Part)
    → gathered text parts names contents ≡ Joined all all_parts → Continues text parts names all all_parts
continues text parts [] contents all all_parts e = record {
  more = [];
  new = [];
  text_is = sym (ap text_in e) ∙ sym (append-nil text);
  parts_are = sym (ap parts_in e) ∙ sym (append-nil parts);
  number = refl;
  begins = ap (λ (xs : List ℕ). length xs) (sym (ap text_in e));
}
continues text parts (name ∷ names) [] all all_parts e = absurd (cc)
continues text parts (name ∷ names) (None ∷ contents) all all_parts e = absurd (cc)
continues text parts (name ∷ names) (Some bytes ∷ contents) all all_parts e =
    let rest = goes_on name (text ++ text_of bytes) (λ xs. gathered xs (with_part parts text) names contents) all all_parts e in
    let later = continues (text ++ text_of bytes) (with_part parts text) names contents all all_parts rest in
    let part : Part = record { file = length parts; first = length text } in
    record {
      more = text_of bytes ++ later.more;
      new = part ∷ later.new;
      text_is = later.text_is ∙ append_assoc text (text_of bytes) later.more;
      parts_are = later.parts_are ∙ append_assoc parts (part ∷ []) later.new;
      number = ap suc later.number;
      begins = refl;
    }

-- the file that comes next
next_file : (text : List ℕ) (parts : List Part) (names : List (List ℕ)) (bytes : List ℕ) (all : List ℕ) (all_parts : List Part)
    → Continues (text ++ text_of bytes) (with_part parts text) names all all_parts → ends_in_line text ≡ true → Begin (length text) parts
    → IsOfFile all all_parts (length parts) bytes
next_file text parts names bytes all all_parts later line begin =
    let part : Part = record { file = length parts; first = length text } in
    let are : all_parts ≡ parts ++ part ∷ later.new = later.parts_are ∙ append_assoc parts (part ∷ []) later.new in
    let ends : next_place all later.new ≡ length text + length (text_of bytes) = later.begins ∙ length-append text (text_of bytes) in
    let next : length parts + 1 ≡ suc (length parts) = omega arith in
    let dropped : drop (length parts + 1) all_parts ≡ later.new =
    ap (λ n. drop n all_parts) next ∙ ap (λ (ps : List Part). drop (suc (length parts)) ps) are ∙ drop_after parts later.new part in
    record {
      before = text;
      after = later.more;
      range = later.text_is;
      part = ap (λ ps. slice_get ps (length parts)) are ∙ get_after parts later.new part;
      past = ap (next_place all) dropped ∙ ends;
      lines = line;
      places = λ at h past. ap (λ ps. part_at ps at) are
          ∙ stands all (record { file = 0; first = 0 }) part parts later.new at (begin_before (length text) at parts h begin) h (omega (arith, ends, past));
    }

file_of : (k number : ℕ) (text : List ℕ) (parts : List Part) (names : List (List ℕ)) (contents : List (Option (List ℕ))) (all : List ℕ) (all_parts : List Part)
    → gathered text parts names contents ≡ Joined all all_parts → k < length names → number ≡ length parts + k → ends_in_line text ≡ true → Begin (length text) parts
    → (bytes : List ℕ) × (slice_get contents k ≡ Some (Some bytes)) × IsOfFile all all_parts number bytes
file_of k number text parts [] contents all all_parts e within is line begin = absurd (omega (arith, within))
file_of k number text parts (name ∷ names) [] all all_parts e within is line begin = absurd (cc)
file_of k number text parts (name ∷ names) (None ∷ contents) all all_parts e within is line begin = absurd (cc)
file_of zero number text parts (name ∷ names) (Some bytes ∷ contents) all all_parts e within is line begin =
    let rest = goes_on name (text ++ text_of bytes) (λ xs. gathered xs (with_part parts text) names contents) all all_parts e in
    let later = continues (text ++ text_of bytes) (with_part parts text) names contents all all_parts rest in
    let here : length parts ≡ number = omega (arith, is) in
    (bytes, refl, subst (λ n. IsOfFile all all_parts n bytes) here (next_file text parts names bytes all all_parts later line begin))
file_of (suc k) number text parts (name ∷ names) (Some bytes ∷ contents) all all_parts e within is line begin =
    let rest = goes_on name (text ++ text_of bytes) (λ xs. gathered xs (with_part parts text) names contents) all all_parts e in
    let longer = length-append text (text_of bytes) in
    let one_more = length-append parts (record { file = length parts; first = length text } ∷ []) in
    file_of k number (text ++ text_of bytes) (with_part parts text) names contents all all_parts rest (omega (arith, within)) (omega (arith, is, one_more))
    (ends_append text (text_of bytes) line (text_ends bytes))
    (begin_later (length text) (length (text ++ text_of bytes)) parts (record { file = length parts; first = length text }) (omega (arith, longer)) (omega (arith, longer)) begin)

pub are_files : PartsAreFiles
are_files names contents text parts e =
    let all = continues [] [] names contents text parts e in
    record {
      number = ap (λ (ps : List Part). length ps) all.parts_are ∙ all.number;
      each = λ k within. file_of k k [] [] names contents text parts e within (omega arith) refl tt;
    }
