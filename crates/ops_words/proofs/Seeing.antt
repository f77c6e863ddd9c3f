-- What a word is, to the definition and to `clap`.
use Rattle.std.proofs.Common.{◌≡◌, ◌==◌, ℕ, Bool, true, false, List, [], ◌∷◌, Option, Some, None, refl, sym, subst}
use Rattle.std.specs.Prelude.{encode_utf8_all, slice_get}
use Rattle.std.specs.Char.{encode_utf8}
use Rattle.std.specs.List.{list_any, before_first, after_first}
use Rattle.std.specs.Str.{IsUtf8, bytes_eq, chars, is_utf8}
use Rattle.std.proofs.lemmas.Bool.{and_parts, eqb-true, true≢false}
use Rattle.std.proofs.lemmas.Str.{is_utf8-from_IsUtf8}
use Rattle.clap.specs.Lexer.{long_of, short_of}
use Rattle.clap.specs.Walk.{Held, Text}
use Rattle.clap.specs.Faults.{bundle_fault, flags_fault, flag_word_fault}
use Rattle.clap.specs.declared.error.kind.ErrorKind.{ErrorKind}
use Rattle.clap.specs.declared.error.kind.ErrorKind.TheVariants.{TooManyValues, UnknownArgument}
use Rattle.ops_jobs.specs.CommandLine.{ends_options, gives, opens, raises, unknown, names, is_dashed, is_flag, is_option, sort_of}
use Rattle.ops_words.proofs.Lookups.{top, long_flag, no_argument}

abbrev pub two_dashes : Text
two_dashes = 45 ∷ 45 ∷ []

-- the word is no `--`, and `clap` finds no argument for it, or one that takes no value
pub record IsUnknown (word : Text) : Type 0 where
  pub kind : ErrorKind
  pub other : bytes_eq word two_dashes ≡ false
  pub fails : (h : Held) → h.skip ≡ 0 → flag_word_fault top.rules false (long_of word) word h ≡ kind ∷ []

-- the word is an option, with its value or none
pub record IsLong (word option : Text) (value : Option Text) : Type 0 where
  pub known : is_option option ≡ true
  pub other : bytes_eq word two_dashes ≡ false
  pub long : long_of word ≡ Some (option, value)

-- the word is a flag
pub record IsFlag (word flag : Text) : Type 0 where
  pub known : is_flag flag ≡ true
  pub other : bytes_eq word two_dashes ≡ false
  pub long : long_of word ≡ Some (flag, None)

-- the word is no option and no flag
pub record IsPlain (word : Text) : Type 0 where
  pub other : bytes_eq word two_dashes ≡ false
  pub long : long_of word ≡ None
  pub short : short_of word ≡ None

-- the sort of a word, with what `clap` makes of it
pub data Seen (word : Text) : Type 0 where
  sees_end : sort_of word ≡ ends_options → is_dashed word ≡ true → bytes_eq word two_dashes ≡ true → Seen word
  sees_given : (option value : Text) → sort_of word ≡ gives option value → is_dashed word ≡ true → IsLong word option (Some value) → Seen word
  sees_opener : (option : Text) → sort_of word ≡ opens option → is_dashed word ≡ true → IsLong word option None → Seen word
  sees_flag : (flag : Text) → sort_of word ≡ raises flag → is_dashed word ≡ true → IsFlag word flag → Seen word
  sees_unknown : sort_of word ≡ unknown → is_dashed word ≡ true → IsUnknown word → Seen word
  sees_name : sort_of word ≡ names → is_dashed word ≡ false → IsPlain word → Seen word

-- ---- a text has a first character

some_first : (cs : List ℕ) (b : ℕ) (bs : List ℕ) → bytes_eq (encode_utf8_all (45 ∷ cs)) (45 ∷ b ∷ bs) ≡ true → (c : ℕ) × (slice_get cs 0 ≡ Some c)
unfolding encode_utf8
some_first [] b bs e = absurd (true≢false (sym e))
some_first (c ∷ cs) b bs e = (c, refl)

first_char : (b : ℕ) (bs : List ℕ) → IsUtf8 (45 ∷ b ∷ bs) → (c : ℕ) × (slice_get (chars (b ∷ bs)) 0 ≡ Some c)
unfolding chars is_utf8
first_char b bs utf8 =
    some_first (chars (b ∷ bs)) b bs (and_parts _ _ (is_utf8-from_IsUtf8 (45 ∷ b ∷ bs) utf8)).1

-- ---- no argument has a short name

short_fails : (b c : ℕ) (bs : Text) (h : Held) → h.skip ≡ 0 → slice_get (chars (b ∷ bs)) 0 ≡ Some c → bundle_fault top.rules false (b ∷ bs) h ≡ UnknownArgument ∷ []
unfolding flags_fault
short_fails b c bs h none first = rw (none, first) refl

-- ---- the word after its first byte

one_dash : (b : ℕ) (bs : Text) → (b == 45) ≡ false → IsUtf8 (45 ∷ b ∷ bs) → Seen (45 ∷ b ∷ bs)
one_dash b bs differs utf8 =
    let first = first_char b bs utf8 in
    let short : short_of (45 ∷ b ∷ bs) ≡ Some (b ∷ bs) = rw differs refl in
    let long : long_of (45 ∷ b ∷ bs) ≡ None = rw differs refl in
    sees_unknown (rw differs refl) refl (record {
      kind = UnknownArgument;
      other = rw differs refl;
      fails = λ h none. rw (long, short) (short_fails b first.0 bs h none first.1);
    })

long_word : (b : ℕ) (bs : Text) → Seen (45 ∷ 45 ∷ b ∷ bs)
long_word b bs = named (is_option name) refl (is_flag name) refl
  where
    word : Text
    word = 45 ∷ 45 ∷ b ∷ bs

    name : Text
    name = before_first (λ c. c == 61) (b ∷ bs)

    valued : (t : Bool) → list_any (λ c. c == 61) (b ∷ bs) ≡ t → is_option name ≡ true → Seen word
    valued true has known = sees_given name (after_first (λ c. c == 61) (b ∷ bs)) (rw (known, has) refl) refl (record {
      known = known;
      other = refl;
      long = rw has refl;
    })
    valued false has known = sees_opener name (rw (known, has) refl) refl (record { known = known; other = refl; long = rw has refl })

    raised : (t : Bool) → list_any (λ c. c == 61) (b ∷ bs) ≡ t → is_option name ≡ false → is_flag name ≡ true → Seen word
    raised true has other known = sees_unknown (rw (other, known, has) refl) refl (record {
      kind = TooManyValues;
      other = refl;
      fails = λ h none. rw (has, long_flag name known) refl;
    })
    raised false has other known = sees_flag name (rw (other, known, has) refl) refl (record { known = known; other = refl; long = rw has refl })

    named : (s : Bool) → is_option name ≡ s → (t : Bool) → is_flag name ≡ t → Seen word
    named true known t e = valued (list_any (λ c. c == 61) (b ∷ bs)) refl known
    named false other true known = raised (list_any (λ c. c == 61) (b ∷ bs)) refl other known
    named false other false strange = sees_unknown (rw (other, strange) refl) refl (record {
      kind = UnknownArgument;
      other = refl;
      fails = λ h none. rw (no_argument name other strange) refl;
    })

dashed : (b : ℕ) (bs : Text) → IsUtf8 (45 ∷ b ∷ bs) → Seen (45 ∷ b ∷ bs)
dashed b bs = go (b == 45) refl bs
  where
    more : (cs : Text) → Seen (45 ∷ 45 ∷ cs)
    more [] = sees_end refl refl refl
    more (c ∷ cs) = long_word c cs

    go : (t : Bool) → (b == 45) ≡ t → (cs : Text) → IsUtf8 (45 ∷ b ∷ cs) → Seen (45 ∷ b ∷ cs)
    go true e cs utf8 = subst (λ x. Seen (45 ∷ x ∷ cs)) (sym (eqb-true b 45 e)) (more cs)
    go false e cs utf8 = one_dash b cs e utf8

single : (a : ℕ) → Seen (a ∷ [])
single a = go (a == 45) refl
  where
    go : (t : Bool) → (a == 45) ≡ t → Seen (a ∷ [])
    go true e = sees_name (rw e refl) refl (record { other = rw e refl; long = rw e refl; short = rw e refl })
    go false e = sees_name (rw e refl) refl (record { other = rw e refl; long = rw e refl; short = rw e refl })

pub see : (word : Text) → IsUtf8 word → Seen word
see [] utf8 = sees_name refl refl (record { other = refl; long = refl; short = refl })
see (a ∷ []) utf8 = single a
see (a ∷ b ∷ bs) utf8 = go (a == 45) refl utf8
  where
    go : (t : Bool) → (a == 45) ≡ t → IsUtf8 (a ∷ b ∷ bs) → Seen (a ∷ b ∷ bs)
    go true e is =
        let dash : a ≡ 45 = eqb-true a 45 e in
        subst (λ x. Seen (x ∷ b ∷ bs)) (sym dash) (dashed b bs (subst (λ x. IsUtf8 (x ∷ b ∷ bs)) dash is))
    go false e is = sees_name (rw e refl) e (record { other = rw e refl; long = rw e refl; short = rw e refl })
