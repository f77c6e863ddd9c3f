-- What a call answers over the input that its source had.
use Rattle.std.proofs.Common.{◌≡◌, ℕ, Bool, true, false, List, [], ◌++◌, Option, Some, None, IsTrue, refl, sym, ap, ◌∙◌, subst, nat_lt, append_assoc, inl, inr, ◌⊎◌}
use Rattle.std.specs.Io.KnownBytes.{prepend_known, IsAtEnd}
use Rattle.std.proofs.KnownBytes.{prepend_known-nil}
use Rattle.std.proofs.lemmas.Bool.{false≢true}
use Rattle.ops_io.specs.Input.{InputState}
use Rattle.ops_io.specs.Coming.{Coming, Inlet, preceded_by, Took, IsBehind, MayCome, ComesBehind, ComesAfter}
use Rattle.ops_top.specs.Calls.{OfInput}
use Rattle.session.proofs.Comings.{some_failing}

pub input_map : (old new : Option (List ℕ)) (failed : Bool) (P Q : Coming → Type 0) → ((coming : Coming) → P coming → Q coming) → OfInput old new failed P → OfInput old new failed Q
input_map None new failed P Q f p = (p.0, p.1, f p.0 p.2)
input_map (Some left) new false P Q f p = f (record { bytes = left; fails = false }) p
input_map (Some left) new true P Q f p = (p.0, p.1, f (record { bytes = p.0; fails = true }) p.2)

-- what holds whatever the input is
pub input_some : (old new : Option (List ℕ)) (failed : Bool) (P : Coming → Type 0) (Q : Type 0) → ((coming : Coming) → P coming → Q) → OfInput old new failed P → Q
input_some None new failed P Q f p = f p.0 p.2
input_some (Some left) new false P Q f p = f (record { bytes = left; fails = false }) p
input_some (Some left) new true P Q f p = f (record { bytes = p.0; fails = true }) p.2

pub input_any : (old new : Option (List ℕ)) (failed : Bool) (P : Coming → Type 0) (got : List ℕ) → old ≡ prepend_known got new → ((coming : Coming) → P coming) → OfInput old new failed P
input_any None new failed P got e f = let z : Coming = record { bytes = []; fails = failed } in (z, refl, f z)
input_any (Some left) new false P got e f = f (record { bytes = left; fails = false })
input_any (Some left) new true P got e f = (got, e, f (record { bytes = got; fails = true }))

-- no byte of it was taken
pub input_untouched : (left : Option (List ℕ)) (failed : Bool) (P : Coming → Type 0) → ((coming : Coming) → P coming) → OfInput left left failed P
input_untouched left failed P f = input_any left left failed P [] (sym (prepend_known-nil left)) f

-- ---- a call that began with an empty buffer

module _ (before now : Inlet) (taken : List ℕ) (took : Took before now taken) (empty : before.buffer ≡ record { held = []; ended = false }) (P : Coming → Type 0) (p : (z : Coming) → ComesAfter before now z → P (preceded_by taken z)) where
  got_is : took.got ≡ taken ++ now.buffer.held
  got_is = ap (λ (b : InputState). b.held ++ took.got) (sym empty) ∙ took.bytes

  failed_read : nat_lt before.faults now.faults ≡ true → P (record { bytes = took.got; fails = true })
  failed_read failed =
      let z : Coming = record { bytes = now.buffer.held; fails = true } in
      let C : Bool → Type 0 = λ b. ComesBehind b now z in
      let Q : List ℕ → Type 0 = λ xs. P (record { bytes = xs; fails = true }) in
      subst Q (sym got_is) (p z (subst C (sym failed) refl))

  ended_behind : (ended : Bool) (left : Option (List ℕ)) (rest : List ℕ) → left ≡ Some rest → (IsTrue ended → IsTrue before.buffer.ended ⊎ IsAtEnd left) → IsBehind ended false left rest
  ended_behind true left rest is ended = elim (ended refl) [
    | inl seen ↦ absurd (false≢true (sym (ap (λ (b : InputState). b.ended) empty) ∙ seen))
    | inr end ↦ (subst IsAtEnd is end, refl)
  ]
  ended_behind false left rest is ended = subst (λ (k : Option (List ℕ)). IsBehind false false k rest) (sym is) refl

  whole_read : (left rest : List ℕ) → now.left ≡ Some rest → left ≡ took.got ++ rest → nat_lt before.faults now.faults ≡ false → P (record { bytes = left; fails = false })
  whole_read left rest is all whole =
      let z : Coming = record { bytes = now.buffer.held ++ rest; fails = false } in
      let may : MayCome now z = record { more = rest; bytes = refl; behind = ended_behind now.buffer.ended now.left rest is took.ended } in
      let C : Bool → Type 0 = λ b. ComesBehind b now z in
      let Q : List ℕ → Type 0 = λ xs. P (record { bytes = xs; fails = false }) in
      let bytes : left ≡ taken ++ (now.buffer.held ++ rest) = all ∙ ap (λ xs. xs ++ rest) got_is ∙ append_assoc taken now.buffer.held rest in
      subst Q (sym bytes) (p z (subst C (sym whole) may))

  by : (old new : Option (List ℕ)) (failed : Bool) → before.left ≡ old → now.left ≡ new → nat_lt before.faults now.faults ≡ failed → old ≡ prepend_known took.got new → OfInput old new failed P
  by None new failed o n f e = let z = some_failing before now in (preceded_by taken z.0, z.2 ∙ f, p z.0 z.1)
  by (Some left) new true o n f e = (took.got, e, failed_read f)
  by (Some left) None false o n f e = absurd (cc)
  by (Some left) (Some rest) false o n f e = whole_read left rest n (cc) f

  -- it answers over the input that the source had
  pub over_input : OfInput before.left now.left (nat_lt before.faults now.faults) P
  over_input = by before.left now.left (nat_lt before.faults now.faults) refl refl refl took.left
