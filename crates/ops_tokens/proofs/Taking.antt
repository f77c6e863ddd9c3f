-- A part of what `accept` takes grows by a byte, or stops.
use Rattle.std.proofs.Common.{◌≡◌, ℕ, ◌+◌, ◌≤◌, true, false, is_some, List, [], ◌∷◌, ◌++◌, length, Option, Some, None, Ok, Err, refl, ◌∙◌, subst, arith}
use Rattle.std.specs.List.{list_all}
use Rattle.std.proofs.lemmas.Bool.{and_from}
use Rattle.std.proofs.lemmas.List.{append-nil, length_push}
use Rattle.std.proofs.lemmas.List.Folds.{list_all-append}
use Rattle.ops_io.specs.Coming.{Inlet, Took}
use Rattle.ops_io.proofs.ComingLemmas.{took_nothing, took_then}
use Rattle.ops_tokens.specs.Accepting.{most_accepted}
use Rattle.ops_tokens.specs.Taking.{is_of, Ends, Refuses, TakesOne, Taken, Stopped}
use Rattle.ops_tokens.specs.declared.accept.AcceptFault.{AcceptFault}
use Rattle.ops_tokens.specs.declared.accept.AcceptFault.TheVariants as fault
use Rattle.ops_tokens.specs.declared.parts.Part.{Part}
use Rattle.ops_tokens.specs.declared.parts.Part.TheVariants as part

-- nothing more was taken
pub took_no_more : (old mid new : Inlet) (bytes : List ℕ) → Took old mid bytes → Took mid new [] → Took old new bytes
took_no_more old mid new bytes p q = subst (Took old new) (append-nil bytes) (took_then old mid new bytes [] p q)

pub taken_nothing : (p : Part) (before : ℕ) (a : Inlet) → before ≤ most_accepted → Taken p before a a []
taken_nothing p before a le = record { took = took_nothing a; of_part = refl; within = omega arith; faults = refl }

pub taken_more : (p : Part) (before : ℕ) (old mid new : Inlet) (bytes : List ℕ) (b : ℕ) → Taken p before old mid bytes → TakesOne p (before + length bytes) (Ok (Some b)) mid new → Taken p before old new (bytes ++ b ∷ [])
taken_more p before old mid new bytes b t one = record {
  took = took_then old mid new bytes (b ∷ []) t.took one.0;
  of_part = list_all-append (is_of p) bytes (b ∷ []) ∙ and_from (list_all (is_of p) bytes) (list_all (is_of p) (b ∷ [])) t.of_part (and_from (is_of p b) true one.1 refl);
  within = omega (arith, one.2, length_push bytes b);
  faults = one.3 ∙ t.faults;
}

pub taken_end : (p : Part) (before taken : ℕ) (old mid new : Inlet) (bytes : List ℕ) → Taken p before old mid bytes → TakesOne p taken (Ok None) mid new → Taken p before old new bytes × Ends p new.buffer
taken_end p before taken old mid new bytes t none =
    (record { took = took_no_more old mid new bytes t.took none.0; of_part = t.of_part; within = t.within; faults = none.2 ∙ t.faults }, none.1)

refuses_before : (why : AcceptFault) (p : Part) (taken : ℕ) (old mid new : Inlet) → mid.faults ≡ old.faults → Refuses why p taken mid new → Refuses why p taken old new
refuses_before fault.TooLong p taken old mid new e r = (r.0, r.1, r.2 ∙ e)
refuses_before fault.Read p taken old mid new e r = (r.0, omega (arith, r.1))
refuses_before fault.OutOfMemory p taken old mid new e r = r ∙ e

pub taken_stopped : (why : AcceptFault) (p : Part) (before : ℕ) (old mid new : Inlet) (bytes : List ℕ) → Taken p before old mid bytes → TakesOne p (before + length bytes) (Err why) mid new → Stopped why p before old new
taken_stopped why p before old mid new bytes t one = record {
  bytes = bytes;
  took = took_no_more old mid new bytes t.took one.0;
  of_part = t.of_part;
  within = t.within;
  refuses = refuses_before why p (before + length bytes) old mid new t.faults one.1;
}

-- memory ran out
pub taken_short : (p : Part) (before : ℕ) (old new : Inlet) (bytes : List ℕ) → Taken p before old new bytes → Stopped fault.OutOfMemory p before old new
taken_short p before old new bytes t = record { bytes = bytes; took = t.took; of_part = t.of_part; within = t.within; refuses = t.faults }

-- ---- a part whose bytes are kept

-- a byte more was taken
pub read_more : (p : Part) (before taken : ℕ) (o : Option ℕ) (b : ℕ) (old mid new : Inlet) (bytes : List ℕ) → taken ≡ before + length bytes → o ≡ Some b → Taken p before old mid bytes → TakesOne p taken (Ok o) mid new → Taken p before old new (bytes ++ b ∷ [])
read_more p before taken None b old mid new bytes n e t one = absurd cc
read_more p before taken (Some d) b old mid new bytes n e t one =
    let same : d ≡ b = cc in
    subst (λ (x : ℕ). Taken p before old new (bytes ++ x ∷ [])) same (taken_more p before old mid new bytes d t (subst (λ (k : ℕ). TakesOne p k (Ok (Some d)) mid new) n one))

pub read_end : (p : Part) (before taken : ℕ) (o : Option ℕ) (old mid new : Inlet) (bytes : List ℕ) → ((b : ℕ) → o ≡ Some b → ⊥) → Taken p before old mid bytes → TakesOne p taken (Ok o) mid new → Taken p before old new bytes × Ends p new.buffer
read_end p before taken (Some b) old mid new bytes e t one = absurd (e b refl)
read_end p before taken None old mid new bytes e t none = taken_end p before taken old mid new bytes t none

pub read_stopped : (why : AcceptFault) (p : Part) (before taken : ℕ) (old mid new : Inlet) (bytes : List ℕ) → taken ≡ before + length bytes → Taken p before old mid bytes → TakesOne p taken (Err why) mid new → Stopped why p before old new
read_stopped why p before taken old mid new bytes n t one = taken_stopped why p before old mid new bytes t (subst (λ (k : ℕ). TakesOne p k (Err why) mid new) n one)

-- ---- white space, which is counted

-- this many bytes of white space were taken
abbrev pub Counted : ℕ → Inlet → Inlet → Type 0
Counted count old new = (bytes : List ℕ) × (count ≡ length bytes) × Taken part.Space 0 old new bytes

pub counted_more : (count : ℕ) (o : Option ℕ) (old mid new : Inlet) → true ≡ is_some o → Counted count old mid → TakesOne part.Space count (Ok o) mid new → Counted (count + 1) old new
counted_more count None old mid new e h one = absurd cc
counted_more count (Some b) old mid new e (bytes, size, t) one =
    let all : Taken part.Space 0 old new (bytes ++ b ∷ []) = taken_more part.Space 0 old mid new bytes b t (one.0, one.1, omega (arith, one.2), one.3) in
    (bytes ++ b ∷ [], omega (arith, length_push bytes b), all)

pub counted_end : (count : ℕ) (o : Option ℕ) (old mid new : Inlet) → false ≡ is_some o → Counted count old mid → TakesOne part.Space count (Ok o) mid new → (bytes : List ℕ) × Taken part.Space 0 old new bytes × (count ≡ length bytes) × Ends part.Space new.buffer
counted_end count (Some b) old mid new e h one = absurd cc
counted_end count None old mid new e (bytes, size, t) none = let all = taken_end part.Space 0 count old mid new bytes t none in (bytes, all.0, size, all.1)

pub counted_stopped : (why : AcceptFault) (count : ℕ) (old mid new : Inlet) → Counted count old mid → TakesOne part.Space count (Err why) mid new → Stopped why part.Space 0 old new
counted_stopped why count old mid new (bytes, size, t) one =
    let n : count ≡ 0 + length bytes = omega arith in
    taken_stopped why part.Space 0 old mid new bytes t (subst (λ (k : ℕ). TakesOne part.Space k (Err why) mid new) n one)
