-- How takings of an input add up, and what may still come after them: the laws that a caller's loop stands on.
use Rattle.std.proofs.Common.{◌≡◌, ℕ, ◌+◌, ◌<◌, Bool, true, false, List, [], ◌∷◌, ◌++◌, length, drop, Option, Some, None, IfSome, IsTrue, refl, sym, ap, ◌∙◌, subst, append_assoc, arith, inl, inr, ◌⊎◌}
use Rattle.std.specs.Prelude.{nat_lt}
use Rattle.std.specs.Io.KnownBytes.{prepend_known, IsAtEnd}
use Rattle.std.proofs.lemmas.Bool.{false≢true, true≢false, ltb-true, lt-ltb, le-ltb}
use Rattle.std.proofs.lemmas.List.{append-nil, append_cancel_left, length-append, nil_from_length}
use Rattle.ops_io.specs.Input.{InputState, IsFirst, StaysAhead}
use Rattle.ops_io.specs.Coming.{Coming, Inlet, inlet, preceded_by, Took, IsBehind, MayCome, ComesBehind, ComesAfter}

prepend_known-nothing : (k : Option (List ℕ)) → prepend_known [] k ≡ k
prepend_known-nothing None = refl
prepend_known-nothing (Some xs) = refl

prepend_known-twice : (a b : List ℕ) (k : Option (List ℕ)) → prepend_known a (prepend_known b k) ≡ prepend_known (a ++ b) k
prepend_known-twice a b None = refl
prepend_known-twice a b (Some xs) = ap Some (sym (append_assoc a b xs))

at_end_still : (got : List ℕ) (before now : Option (List ℕ)) → before ≡ prepend_known got now → IsAtEnd before → IsAtEnd now
at_end_still got before None e h = tt
at_end_still got before (Some ys) e h =
    let none : got ++ ys ≡ [] = subst IsAtEnd e h in
    nil_from_length ys (omega (arith, ap length none, length-append got ys))

-- ---- what was taken

pub took_nothing : (a : Inlet) → Took a a []
took_nothing a = record { got = []; bytes = append-nil a.buffer.held; left = sym (prepend_known-nothing a.left); ended = λ e. inl e; closed = λ e. (refl, e, refl) }

-- Two takings are one.
pub took_then : (old mid new : Inlet) (a b : List ℕ) → Took old mid a → Took mid new b → Took old new (a ++ b)
took_then old mid new a b p q = record {
  got = p.got ++ q.got;
  bytes = sym (append_assoc old.buffer.held p.got q.got) ∙ ap (λ w. w ++ q.got) p.bytes ∙ append_assoc a mid.buffer.held q.got ∙ ap (λ w. a ++ w) q.bytes ∙ sym (append_assoc a b new.buffer.held);
  left = p.left ∙ ap (prepend_known p.got) q.left ∙ prepend_known-twice p.got q.got new.left;
  ended = λ e. elim (q.ended e) [
    | inl m ↦ elim (p.ended m) [ inl o ↦ inl o | inr n ↦ inr (at_end_still q.got mid.left new.left q.left n) ]
    | inr n ↦ inr n
  ];
  closed = λ e. let m = p.closed e in let n = q.closed m.1 in (ap (λ w. w ++ q.got) m.0 ∙ n.0, n.1, n.2 ∙ m.2);
}

-- A call that shows the next byte takes nothing.
pub took_by_next : (old new : Inlet) → StaysAhead old.buffer new.buffer old.left new.left → (IsTrue old.buffer.ended → (new.buffer ≡ old.buffer) × (new.faults ≡ old.faults)) → Took old new []
took_by_next old new s unread = record {
  got = s.got;
  bytes = sym s.held;
  left = s.left;
  ended = λ e. elim (s.ended e) [ inl o ↦ inl o | inr n ↦ inr n.1 ];
  closed = λ e.
      let u = unread e in
      let same : new.buffer.held ≡ old.buffer.held = ap (λ (b : InputState). b.held) u.0 in (
        append_cancel_left old.buffer.held s.got [] (sym s.held ∙ same ∙ sym (append-nil old.buffer.held)),
        subst IsTrue (ap (λ (b : InputState). b.ended) (sym u.0)) e,
        u.1,
      );
}

-- The byte that is shown is taken.
pub took_by_take : (old : Inlet) (buffer : InputState) (byte : ℕ) → IsFirst (Some byte) old.buffer.held → buffer ≡ record old.buffer { held = drop 1 old.buffer.held } → Took old (inlet buffer old.left old.faults) (byte ∷ [])
took_by_take old buffer byte first is =
    let held : buffer.held ≡ drop 1 old.buffer.held = ap (λ (b : InputState). b.held) is in
    let ended : buffer.ended ≡ old.buffer.ended = ap (λ (b : InputState). b.ended) is in
    record {
      got = [];
      bytes = append-nil old.buffer.held ∙ first ∙ ap (λ w. byte ∷ w) (sym held);
      left = sym (prepend_known-nothing old.left);
      ended = λ e. inl (subst IsTrue ended e);
      closed = λ e. (refl, subst IsTrue (sym ended) e, refl);
    }

is_first : (xs : List ℕ) (b : ℕ) (rest : List ℕ) → xs ≡ b ∷ rest → xs ≡ b ∷ drop 1 xs
is_first xs b rest e = e ∙ ap (λ (w : List ℕ). b ∷ w) (sym (ap (drop 1) e))

-- Where nothing is taken the byte that stands next does so still,
pub first_still : (old new : Inlet) (byte : ℕ) → IsFirst (Some byte) old.buffer.held → Took old new [] → IsFirst (Some byte) new.buffer.held
first_still old new byte first t = is_first new.buffer.held byte (drop 1 old.buffer.held ++ t.got) (sym t.bytes ∙ ap (λ w. w ++ t.got) first)

-- and the end is one still.
pub end_still : (old new : Inlet) → old.buffer.held ≡ [] → IsTrue old.buffer.ended → Took old new [] → (new.buffer.held ≡ []) × IsTrue new.buffer.ended
end_still old new none ended t = let k = t.closed ended in (sym t.bytes ∙ ap (λ w. w ++ t.got) none ∙ k.0, k.1)

-- ---- what may come

-- after bytes that are after bytes
pub precede_twice : (a b : List ℕ) (c : Coming) → preceded_by a (preceded_by b c) ≡ preceded_by (a ++ b) c
precede_twice a b c = ap (λ bytes. let d : Coming = record c { bytes = bytes } in d) (sym (append_assoc a b c.bytes))

left_before : (got more : List ℕ) (before now : Option (List ℕ)) → before ≡ prepend_known got now → IfSome now (λ bytes. bytes ≡ more) → IfSome before (λ bytes. bytes ≡ got ++ more)
left_before got more before None e h = subst (λ (k : Option (List ℕ)). IfSome k (λ bytes. bytes ≡ got ++ more)) (sym e) tt
left_before got more before (Some ys) e h = subst (λ (k : Option (List ℕ)). IfSome k (λ bytes. bytes ≡ got ++ more)) (sym e) (ap (λ w. got ++ w) h)

none_left : (more : List ℕ) (now : Option (List ℕ)) → IsAtEnd now → more ≡ [] → IfSome now (λ bytes. bytes ≡ more)
none_left more None end none = tt
none_left more (Some ys) end none = end ∙ sym none

behind_before : (o m fails : Bool) (got more : List ℕ) (before now : Option (List ℕ)) → before ≡ prepend_known got now → (IsTrue m → IsTrue o ⊎ IsAtEnd now) → (IsTrue o → (got ≡ []) × IsTrue m)
    → IsBehind m fails now more → IsBehind o fails before (got ++ more)
behind_before true true fails got more before now left ended closed h = (ap (λ w. w ++ more) (closed refl).0 ∙ h.0, h.1)
behind_before true false fails got more before now left ended closed h = absurd (false≢true (closed refl).1)
behind_before false true true got more before now left ended closed h = absurd (true≢false h.1)
behind_before false true false got more before now left ended closed h =
    elim (ended refl) [ inl o ↦ absurd (false≢true o) | inr end ↦ left_before got more before now left (none_left more now end h.0) ]
behind_before false false false got more before now left ended closed h = left_before got more before now left h
behind_before false false true got more before now left ended closed h = (h.0, left ∙ ap (prepend_known got) h.1 ∙ prepend_known-twice got more h.0)

-- What may come after a taking may have come before it, after what was taken.
pub may_come_before : (old mid : Inlet) (a : List ℕ) (c : Coming) → Took old mid a → MayCome mid c → MayCome old (preceded_by a c)
may_come_before old mid a c t m = record {
  more = t.got ++ m.more;
  bytes = ap (λ w. a ++ w) m.bytes ∙ sym (append_assoc a mid.buffer.held m.more) ∙ ap (λ w. w ++ m.more) (sym t.bytes) ∙ append_assoc old.buffer.held t.got m.more;
  behind = behind_before old.buffer.ended mid.buffer.ended c.fails t.got m.more old.left mid.left t.left t.ended (λ e. let k = t.closed e in (k.0, k.1)) m.behind;
}

-- What comes after a call comes after it and calls before it in which no read failed, and the other way round.
pub comes_after_before : (old mid new : Inlet) (c : Coming) → mid.faults ≡ old.faults → ComesAfter mid new c → ComesAfter old new c
comes_after_before old mid new c e h = subst (λ (n : ℕ). ComesBehind (nat_lt n new.faults) new c) e h

pub comes_after_last : (old mid new : Inlet) (c : Coming) → mid.faults ≡ old.faults → ComesAfter old new c → ComesAfter mid new c
comes_after_last old mid new c e h = subst (λ (n : ℕ). ComesBehind (nat_lt n new.faults) new c) (sym e) h

-- where a read failed in it, what comes before a call is what was taken and what is held, and then that failure
failed_before : (ended : Bool) (old new : Inlet) (got : List ℕ) → old.buffer.ended ≡ ended → old.faults < new.faults → old.left ≡ prepend_known got new.left → (IsTrue old.buffer.ended → new.faults ≡ old.faults) → IsBehind ended true old.left got
failed_before true old new got e more left closed = absurd (let same : new.faults ≡ old.faults = closed e in omega arith)
failed_before false old new got e more left closed = (new.left, left)

comes_by : (failed : Bool) (old new : Inlet) (b : List ℕ) (c : Coming) → nat_lt old.faults new.faults ≡ failed → Took old new b → ComesBehind failed new c → MayCome old (preceded_by b c)
comes_by false old new b c e t h = may_come_before old new b c t h
comes_by true old new b c e t h =
    let P : Coming → Type 0 = λ d. MayCome old (preceded_by b d) in
    subst P (sym h) (record {
      more = t.got;
      bytes = sym t.bytes;
      behind = failed_before old.buffer.ended old new t.got refl (ltb-true old.faults new.faults e) t.left (λ o. (t.closed o).2);
    })

-- What comes after a call may have come before it, after what the call took.
pub comes_before : (old new : Inlet) (b : List ℕ) (c : Coming) → Took old new b → ComesAfter old new c → MayCome old (preceded_by b c)
comes_before old new b c t h = comes_by (nat_lt old.faults new.faults) old new b c refl t h

-- Of two calls, in the first of which no read failed, the second's is the first's too.
pub comes_between : (old mid new : Inlet) (a b : List ℕ) (c : Coming) → Took old mid a → mid.faults ≡ old.faults → Took mid new b → ComesAfter mid new c → ComesAfter old new c × MayCome mid (preceded_by b c)
comes_between old mid new a b c t e u h = (comes_after_before old mid new c e h, comes_before mid new b c u h)

-- where no read failed
pub comes_whole : (old new : Inlet) (c : Coming) → new.faults ≡ old.faults → ComesAfter old new c → MayCome new c
comes_whole old new c e h = subst (λ (b : Bool). ComesBehind b new c) (le-ltb old.faults new.faults (omega arith)) h

-- the other way round
pub steady_comes : (old new : Inlet) (c : Coming) → new.faults ≡ old.faults → MayCome new c → ComesAfter old new c
steady_comes old new c e h = subst (λ (b : Bool). ComesBehind b new c) (sym (le-ltb old.faults new.faults (omega arith))) h

-- where a read failed
pub comes_failed : (old new : Inlet) (c : Coming) → new.faults ≡ old.faults + 1 → ComesAfter old new c → c ≡ record { bytes = new.buffer.held; fails = true }
comes_failed old new c e h = subst (λ (b : Bool). ComesBehind b new c) (lt-ltb old.faults new.faults (omega arith)) h

-- what the source has left, or nothing where that is not known
end_behind : (ended : Bool) (left : Option (List ℕ)) → (more : List ℕ) × IsBehind ended false left more
end_behind true left = ([], (refl, refl))
end_behind false None = ([], tt)
end_behind false (Some bytes) = (bytes, refl)

-- any input may end without a failure
pub may_end : (i : Inlet) → (c : Coming) × MayCome i c × (c.fails ≡ false)
may_end i =
    let m = end_behind i.buffer.ended i.left in
    (record { bytes = i.buffer.held ++ m.0; fails = false }, record { more = m.0; bytes = refl; behind = m.1 }, refl)

-- where all that may come fails, a read has failed
pub fails_rose : (old new : Inlet) → ((c : Coming) → ComesAfter old new c → c.fails ≡ true) → old.faults < new.faults
fails_rose old new all = by (nat_lt old.faults new.faults) refl
  where
    by : (b : Bool) → nat_lt old.faults new.faults ≡ b → old.faults < new.faults
    by true e = ltb-true old.faults new.faults e
    by false e =
        let m = may_end new in
        let after : ComesAfter old new m.0 = subst (λ (b : Bool). ComesBehind b new m.0) (sym e) m.1 in
        absurd (true≢false (sym (all m.0 after) ∙ m.2))

-- a byte that is held comes first
pub comes_first : (i : Inlet) (c : Coming) (byte : ℕ) → IsFirst (Some byte) i.buffer.held → MayCome i c → (rest : List ℕ) × (c.bytes ≡ byte ∷ rest)
comes_first i c byte first m = (drop 1 i.buffer.held ++ m.more, m.bytes ∙ ap (λ w. w ++ m.more) first)

none_behind : (ended fails : Bool) (left : Option (List ℕ)) (more : List ℕ) → IsTrue ended → IsBehind ended fails left more → (more ≡ []) × (fails ≡ false)
none_behind true fails left more e h = h
none_behind false fails left more e h = absurd (false≢true e)

-- nothing comes where the end was seen and nothing is held
pub comes_none : (i : Inlet) (c : Coming) → i.buffer.held ≡ [] → IsTrue i.buffer.ended → MayCome i c → (c.bytes ≡ []) × (c.fails ≡ false)
comes_none i c none ended m =
    let h = none_behind i.buffer.ended c.fails i.left m.more ended m.behind in
    (m.bytes ∙ ap (λ w. w ++ m.more) none ∙ h.0, h.1)
