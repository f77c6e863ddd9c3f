-- What the parts that were taken, one after the other, make of a call of `accept`.
use Rattle.std.proofs.Common.{◌≡◌, ℕ, ◌+◌, ◌<◌, ◌≤◌, true, false, not, List, [], ◌∷◌, ◌++◌, length, take, drop, map, codes, Option, Some, None, Result, Ok, Err, IsTrue, SomeIff, ℤ, refl, sym, ap, ◌∙◌, subst, arith, inl, inr, ◌⊎◌}
use Rattle.std.specs.Prelude.{◌&&◌}
use Rattle.std.specs.List.{list_all}
use Rattle.std.proofs.lemmas.Bool.{both_ways, cond-true, cond-false, false_from_ne_true, eqb-true, not-false}
use Rattle.std.proofs.lemmas.List.{append_assoc, length-append, length_push, length-map, take_at}
use Rattle.ops_base.specs.declared.values.Value.{Value}
use Rattle.ops_base.specs.declared.values.Value.TheVariants as value
use Rattle.ops_base.specs.Names.{Spellings}
use Rattle.ops_io.specs.Input.{InputState, IsFirst}
use Rattle.ops_io.specs.Coming.{Coming, Inlet, preceded_by, Took, MayCome}
use Rattle.ops_io.proofs.ComingLemmas.{took_nothing, took_then, first_still, end_still, comes_after_last, comes_whole, comes_failed, comes_first, comes_none}
use Rattle.ops_tokens.specs.Bytes.{is_white, is_bar}
use Rattle.ops_tokens.specs.Numbers.{whole_value, is_in_range}
use Rattle.ops_tokens.specs.Spellings.{is_whole}
use Rattle.ops_tokens.specs.Accepting.{most_accepted, Atom, Number, Spelled, shown, atom_of_run, Accepted, accepted_as, accepted, Answers, Counts, TakesAtMost, Accepts}
use Rattle.ops_tokens.specs.Taking.{is_of, GoesOn, Ends, Refuses, TakesOne, Taken, Stopped, GivesAtom, accepted_behind, AcceptsBehind}
use Rattle.ops_tokens.specs.declared.accept.AcceptFault.{AcceptFault}
use Rattle.ops_tokens.specs.declared.accept.AcceptFault.TheVariants as fault
use Rattle.ops_tokens.specs.declared.parts.Part.{Part}
use Rattle.ops_tokens.specs.declared.parts.Part.TheVariants as part
use Rattle.ops_tokens.proofs.Taking.{took_no_more}
use Rattle.ops_tokens.proofs.Accepting.{accepted-space, space-too_long, nothing-read, nothing-more, accepted-run, run-read, run-too_long, no_bar, accepted-quoted, accepted-unclosed, quoted-read, quoted-too_long, bar-too_long}

-- ---- what stands next

stands_still : (p : Part) (old new : Inlet) → GoesOn p old.buffer → Took old new [] → GoesOn p new.buffer
stands_still p old new (b, first, is) t = (b, first_still old new b first t, is)

pub ends_still : (p : Part) (old new : Inlet) → Ends p old.buffer → Took old new [] → Ends p new.buffer
ends_still p old new (inl end) t = inl (end_still old new end.0 end.1 t)
ends_still p old new (inr (b, first, other)) t = inr (b, first_still old new b first t, other)

same_first : (xs : List ℕ) (a b : ℕ) → IsFirst (Some a) xs → IsFirst (Some b) xs → a ≡ b
same_first xs a b e f = cc

not_both : (xs : List ℕ) (b : ℕ) → xs ≡ [] → IsFirst (Some b) xs → ⊥
not_both xs b e f = cc

-- a part does not end where a byte of it stands
apart : (p : Part) (s : InputState) → Ends p s → GoesOn p s → ⊥
apart p s (inl end) (b, first, is) = not_both s.held b end.0 first
apart p s (inr (a, first_other, other)) (b, first, is) =
    both_ways (is_of p b) (subst (λ (x : ℕ). is_of p x ≡ false) (same_first s.held a b first_other first) other) is

-- what comes where a part ends
ends_comes : (p : Part) (i : Inlet) (c : Coming) → Ends p i.buffer → MayCome i c → ((c.bytes ≡ []) × (c.fails ≡ false)) ⊎ ((b : ℕ) × (x : List ℕ) × (c.bytes ≡ b ∷ x) × (is_of p b ≡ false))
ends_comes p i c (inl end) m = inl (comes_none i c end.0 end.1 m)
ends_comes p i c (inr (b, first, other)) m = let h = comes_first i c b first m in inr (b, h.0, h.1, other)

-- bytes between bars end without a bar only at the end of the input
only_end : (s : InputState) → Ends part.Quoted s → Ends part.Bar s → (s.held ≡ []) × IsTrue s.ended
only_end s (inl end) other = end
only_end s (inr quoted) (inl end) = end
only_end s (inr (a, first_a, bar)) (inr (b, first_b, other)) =
    absurd (both_ways (is_bar b) other (not-false (is_bar b) (subst (λ (x : ℕ). not (is_bar x) ≡ false) (same_first s.held a b first_a first_b) bar)))

-- ---- calls after white space

gives_behind : (n : ℕ) (r : Result Value AcceptFault) (before now : Spellings) (old new : Inlet) (taken : List ℕ) (atom : Atom) → Took old new taken → n + length taken ≤ most_accepted → new.faults ≡ old.faults → GivesAtom r before now atom
    → ((c : Coming) → MayCome new c → accepted_behind n before (preceded_by taken c) ≡ Ok (accepted_as before c atom)) → AcceptsBehind n r before now old new
gives_behind n (Ok v) before now old new taken atom took le faults gives is = record { taken = taken; took = took; within = le; counts = faults; answers = λ c h. is c (comes_whole old new c faults h) ∙ ap Ok (gives c) }
gives_behind n (Err fault.OutOfMemory) before now old new taken atom took le faults gives is = record { taken = taken; took = took; within = le; counts = faults; answers = λ c h. tt }
gives_behind n (Err fault.TooLong) before now old new taken atom took le faults gives is = absurd gives
gives_behind n (Err fault.Read) before now old new taken atom took le faults gives is = absurd gives

-- A call that is refused, after bytes that it took: where that is too long, and where a read failed.
refused_behind : (why : AcceptFault) (p : Part) (m n : ℕ) (names : Spellings) (old mid new : Inlet) (taken : List ℕ) → Took old new taken → n + length taken ≡ m → m ≤ most_accepted → mid.faults ≡ old.faults → Refuses why p m mid new
    → (m ≡ most_accepted → (c : Coming) (b : ℕ) (x : List ℕ) → c.bytes ≡ b ∷ x → is_of p b ≡ true → accepted_behind n names (preceded_by taken c) ≡ Err fault.TooLong)
    → (accepted_behind n names (preceded_by taken (record { bytes = []; fails = true })) ≡ Err fault.Read) → AcceptsBehind n (Err why) names names old new
refused_behind fault.TooLong p m n names old mid new taken took size le faults refuses long failed =
    let same : new.faults ≡ old.faults = refuses.2 ∙ faults in
    record {
      taken = taken;
      took = took;
      within = size ∙ refuses.0;
      counts = same;
      answers = λ c h. let first = comes_first new c refuses.1.0 refuses.1.1 (comes_whole old new c same h) in long refuses.0 c refuses.1.0 first.0 first.1 refuses.1.2;
    }
refused_behind fault.Read p m n names old mid new taken took size le faults refuses long failed =
    let more : new.faults ≡ old.faults + 1 = omega (arith, refuses.1) in
    let none : List ℕ → Coming = λ s. record { bytes = s; fails = true } in
    record {
      taken = taken;
      took = took;
      within = omega (arith, size, le);
      counts = more;
      answers = λ c h. ap (λ (d : Coming). accepted_behind n names (preceded_by taken d)) (comes_failed old new c more h ∙ ap none refuses.0) ∙ failed;
    }
refused_behind fault.OutOfMemory p m n names old mid new taken took size le faults refuses long failed = record { taken = taken; took = took; within = omega (arith, size, le); counts = refuses ∙ faults; answers = λ c h. tt }

-- the end of the input
pub end_accepts : (n : ℕ) (r : Result Value AcceptFault) (before now : Spellings) (i : Inlet) → n ≤ most_accepted → i.buffer.held ≡ [] → IsTrue i.buffer.ended → GivesAtom r before now (Spelled (codes "end-of-file")) → AcceptsBehind n r before now i i
end_accepts n r before now i le none ended gives =
    gives_behind n r before now i i [] (Spelled (codes "end-of-file")) (took_nothing i) (omega arith) refl gives (λ c m. let h = comes_none i c none ended m in nothing-more n before c le h.0 h.1)

-- ---- a run

pub run_stopped : (why : AcceptFault) (n : ℕ) (names : Spellings) (old new : Inlet) → Stopped why part.Run n old new → AcceptsBehind n (Err why) names names old new
run_stopped why n names old new s =
    refused_behind why part.Run (n + length s.bytes) n names old old new s.bytes s.took refl s.within refl s.refuses
    (λ size c b x e is. run-too_long n names c s.bytes b x size s.of_part e is)
    (run-read n names s.bytes s.within s.of_part)

pub run_accepts : (n : ℕ) (r : Result Value AcceptFault) (before now : Spellings) (old new : Inlet) (bytes : List ℕ) → GoesOn part.Run old.buffer → Taken part.Run n old new bytes → Ends part.Run new.buffer → GivesAtom r before now (atom_of_run bytes) → AcceptsBehind n r before now old new
run_accepts n r before now old new [] stands t ends gives = absurd (apart part.Run new.buffer ends (stands_still part.Run old new stands t.took))
run_accepts n r before now old new (b ∷ bytes) stands t ends gives =
    gives_behind n r before now old new (b ∷ bytes) (atom_of_run (b ∷ bytes)) t.took t.within t.faults gives
    (λ c m. accepted-run n before c b bytes t.within t.of_part (ends_comes part.Run new c ends m))

-- it is a number, or it is not
pub gives_number : (names : Spellings) (bytes : List ℕ) (n : ℤ) → SomeIff (Some n) (IsTrue (is_whole bytes && is_in_range (whole_value bytes))) (whole_value bytes) → GivesAtom (Ok (value.Whole n)) names names (atom_of_run bytes)
gives_number names bytes n h rest =
    ap (accepted_as names rest) (cond-true (is_whole bytes && is_in_range (whole_value bytes)) (Number (whole_value bytes)) (Spelled (map shown bytes)) h.0)
    ∙ ap (λ (z : ℤ). record { value = value.Whole z; names = names; coming = rest }) (sym h.1)

pub gives_symbol : (r : Result Value AcceptFault) (before now : Spellings) (bytes spelling : List ℕ) → (IsTrue (is_whole bytes && is_in_range (whole_value bytes)) → ⊥) → spelling ≡ map shown bytes → GivesAtom r before now (Spelled spelling) → GivesAtom r before now (atom_of_run bytes)
gives_symbol r before now bytes spelling none e gives =
    let P : Atom → Type 0 = GivesAtom r before now in
    let other : (is_whole bytes && is_in_range (whole_value bytes)) ≡ false = false_from_ne_true _ none in
    subst P (ap Spelled e ∙ sym (cond-false (is_whole bytes && is_in_range (whole_value bytes)) (Number (whole_value bytes)) (Spelled (map shown bytes)) other)) gives

-- bytes that were written over by how they stand in a symbol
pub shown_over : (bytes over : List ℕ) (n : ℕ) → over ≡ map shown bytes → n ≡ length bytes → take n (over ++ drop (length over) bytes) ≡ map shown bytes
shown_over bytes over n e size = take_at over (drop (length over) bytes) n (ap length e ∙ length-map bytes shown ∙ sym size) ∙ e

-- ---- an atom after a bar

-- the bar was taken
pub record Opened (n : ℕ) (old new : Inlet) : Type 0 where
  pub took : Took old new (124 ∷ [])
  pub below : n < most_accepted
  pub faults : new.faults ≡ old.faults

pub opened : (n : ℕ) (old new : Inlet) (o : Option ℕ) → GoesOn part.Bar old.buffer → TakesOne part.Bar n (Ok o) old new → Opened n old new
opened n old new None stands none = absurd (apart part.Bar new.buffer none.1 (stands_still part.Bar old new stands none.0))
opened n old new (Some b) stands one = record { took = subst (λ (x : ℕ). Took old new (x ∷ [])) (eqb-true b 124 one.1) one.0; below = one.2; faults = one.3 }

pub bar_stopped : (why : AcceptFault) (n : ℕ) (names : Spellings) (old new : Inlet) → n ≤ most_accepted → TakesOne part.Bar n (Err why) old new → AcceptsBehind n (Err why) names names old new
bar_stopped why n names old new le one =
    refused_behind why part.Bar n n names old old new [] one.0 (omega arith) le refl one.1
    (λ size c b x e is. bar-too_long n names c x (omega arith) (e ∙ ap (λ (y : ℕ). y ∷ x) (eqb-true b 124 is)))
    (nothing-read n names le)

stopped_behind : (why : AcceptFault) (p : Part) (n : ℕ) (names : Spellings) (old inside mid new : Inlet) (q : List ℕ) → Opened n old inside → Took inside new q → mid.faults ≡ inside.faults → list_all no_bar q ≡ true → n + 1 + length q ≤ most_accepted → Refuses why p (n + 1 + length q) mid new → AcceptsBehind n (Err why) names names old new
stopped_behind why p n names old inside mid new q o took faults all le refuses =
    refused_behind why p (n + 1 + length q) n names old mid new (124 ∷ q) (took_then old inside new (124 ∷ []) q o.took took) (omega arith) le (faults ∙ o.faults) refuses
    (λ size c b x e is. quoted-too_long n names c q b x size all e)
    (quoted-read n names q le all)

pub quoted_stopped : (why : AcceptFault) (n : ℕ) (names : Spellings) (old inside new : Inlet) → Opened n old inside → Stopped why part.Quoted (n + 1) inside new → AcceptsBehind n (Err why) names names old new
quoted_stopped why n names old inside new o s = stopped_behind why part.Quoted n names old inside inside new s.bytes o s.took refl s.of_part s.within s.refuses

pub close_stopped : (why : AcceptFault) (n taken : ℕ) (names : Spellings) (old inside mid new : Inlet) (q : List ℕ) → Opened n old inside → Taken part.Quoted (n + 1) inside mid q → taken ≡ n + 1 + length q → TakesOne part.Bar taken (Err why) mid new → AcceptsBehind n (Err why) names names old new
close_stopped why n taken names old inside mid new q o t size one =
    stopped_behind why part.Bar n names old inside mid new q o (took_no_more inside mid new q t.took one.0) t.faults t.of_part t.within (subst (λ (k : ℕ). Refuses why part.Bar k mid new) size one.1)

pub quoted_accepts : (n taken : ℕ) (r : Result Value AcceptFault) (before now : Spellings) (old inside mid new : Inlet) (q : List ℕ) (c : Option ℕ) → Opened n old inside → Taken part.Quoted (n + 1) inside mid q → Ends part.Quoted mid.buffer → taken ≡ n + 1 + length q → TakesOne part.Bar taken (Ok c) mid new
    → GivesAtom r before now (Spelled (map shown q)) → AcceptsBehind n r before now old new
quoted_accepts n taken r before now old inside mid new q (Some b) o t ends size one gives =
    let closed : Took mid new (124 ∷ []) = subst (λ (x : ℕ). Took mid new (x ∷ [])) (eqb-true b 124 one.1) one.0 in
    gives_behind n r before now old new (124 ∷ (q ++ 124 ∷ [])) (Spelled (map shown q))
    (took_then old inside new (124 ∷ []) (q ++ 124 ∷ []) o.took (took_then inside mid new q (124 ∷ []) t.took closed)) (let long = length_push q 124 in omega (arith, one.2, size, long)) (one.3 ∙ t.faults ∙ o.faults) gives
    (λ c m. accepted-quoted n before c q (omega (arith, one.2)) t.of_part)
quoted_accepts n taken r before now old inside mid new q None o t ends size none gives =
    let end = only_end new.buffer (ends_still part.Quoted mid new ends none.0) none.1 in
    gives_behind n r before now old new (124 ∷ q) (Spelled (map shown q))
    (took_then old inside new (124 ∷ []) q o.took (took_no_more inside mid new q t.took none.0)) (omega (arith, t.within)) (none.2 ∙ t.faults ∙ o.faults) gives
    (λ c m. let h = comes_none new c end.0 end.1 m in accepted-unclosed n before c q t.within t.of_part h.0 h.1)

-- ---- the whole

behind_space_is : (count : ℕ) (names : Spellings) (w taken : List ℕ) (c : Coming) → list_all is_white w ≡ true → count ≡ length w → accepted names (preceded_by (w ++ taken) c) ≡ accepted_behind count names (preceded_by taken c)
behind_space_is count names w taken c white size =
    ap (λ (s : List ℕ). accepted names (record c { bytes = s })) (append_assoc w taken c.bytes)
    ∙ accepted-space w names (preceded_by taken c) white
    ∙ ap (λ (n : ℕ). accepted_behind n names (preceded_by taken c)) (sym size)

-- White space was taken, and then the call went on.
pub accepts : (count : ℕ) (r : Result Value AcceptFault) (before now : Spellings) (start mid new : Inlet) (w : List ℕ) → Taken part.Space 0 start mid w → count ≡ length w → AcceptsBehind count r before now mid new → Accepts r before now start new
accepts count r before now start mid new w t size a = record {
  taken = w ++ a.taken;
  took = took_then start mid new w a.taken t.took a.took;
  within = subst (TakesAtMost r) (ap (λ n. n + length a.taken) size ∙ sym (length-append w a.taken)) a.within;
  counts = subst (λ (k : ℕ). Counts r k new.faults) t.faults a.counts;
  answers = λ c h. subst (λ (what : Result Accepted AcceptFault). Answers r now c what) (sym (behind_space_is count before w a.taken c t.of_part size)) (a.answers c (comes_after_last start mid new c t.faults h));
}

-- The white space was not all.
pub space_stopped : (why : AcceptFault) (names : Spellings) (start new : Inlet) → Stopped why part.Space 0 start new → Accepts (Err why) names names start new
space_stopped why names start new s =
    let n : ℕ = length s.bytes in
    let all : AcceptsBehind 0 (Err why) names names start new =
    refused_behind why part.Space (0 + length s.bytes) 0 names start start new s.bytes s.took refl s.within refl s.refuses
    (λ size c b x e is. white s.bytes c s.of_part ∙ space-too_long (length s.bytes) names c b x (omega arith) e is)
    (white s.bytes (record { bytes = []; fails = true }) s.of_part ∙ nothing-read (length s.bytes) names (let le = s.within in omega arith)) in
    accepts 0 (Err why) names names start start new [] (record { took = took_nothing start; of_part = refl; within = omega arith; faults = refl }) refl all
  where
    white : (w : List ℕ) (c : Coming) → list_all is_white w ≡ true → accepted_behind 0 names (preceded_by w c) ≡ accepted_behind (length w) names c
    white w c is = sym (behind_space_is 0 names [] w c refl refl) ∙ accepted-space w names c is

-- Looking at the next byte changes nothing.
pub space_still : (start mid new : Inlet) (w : List ℕ) → Taken part.Space 0 start mid w → Took mid new [] → new.faults ≡ mid.faults → Taken part.Space 0 start new w
space_still start mid new w t took faults = record { took = took_no_more start mid new w t.took took; of_part = t.of_part; within = t.within; faults = faults ∙ t.faults }

pub space_failed : (start mid new : Inlet) (w : List ℕ) → Taken part.Space 0 start mid w → Took mid new [] → new.buffer.held ≡ [] → new.faults ≡ mid.faults + 1 → Stopped fault.Read part.Space 0 start new
space_failed start mid new w t took none faults =
    let e = t.faults in
    record { bytes = w; took = took_no_more start mid new w t.took took; of_part = t.of_part; within = t.within; refuses = (none, omega arith) }
