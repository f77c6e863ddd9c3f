-- Where the lines of a shard begin and end.
use Rattle.std.proofs.Common.{◌≡◌, ℕ, zero, suc, ◌+◌, ◌-◌, ◌*◌, ◌/◌, ◌<◌, ◌≤◌, ◌⊎◌, ◌↔◌, List, [], ◌∷◌, ◌++◌, All, inl, inr, length, length-append, refl, ap, subst, sym, ◌∙◌, arith, slice_get, Some}
use Rattle.std.proofs.Math.Nat.{le-div_iff_mul-le, mul-div_cancel_left, mul-le-mul_left}
use Rattle.std.proofs.lemmas.Bool.{cases_lt}
use Rattle.std.proofs.lemmas.List.Elements.{All-nil, All-push}
use Rattle.std.proofs.lemmas.List.Sums.{sum_by-cons, sum_by_push}
use Rattle.rounds_engine.specs.declared.shards.Shard.{Shard}
use Rattle.rounds_engine.specs.Sharing.{AreDealt, FollowOn, HasLine, IsFirstLine, lines_of, shard_of}

-- ---- first lines

pub first_at_0 : (s lines : ℕ) → IsFirstLine s lines 0 0
first_at_0 s lines i = (λ h. omega arith, λ h. omega arith)

-- no line before the last one is past all shards
not_past : (s lines first : ℕ) → 0 < s → 0 < lines → s ≤ first * s / lines → lines ≤ first
not_past s lines first some room h =
    let a : s * lines ≤ first * s = (le-div_iff_mul-le room).0 h in
    elim (cases_lt first lines) [
      | inl low ↦ (let b : s * suc first ≤ s * lines = mul-le-mul_left s low in absurd (omega (arith, a, b, some)))
      | inr high ↦ high
    ]

pub first_at_end : (s lines first : ℕ) → 0 < s → 0 < lines → IsFirstLine s lines s first → first ≡ lines
first_at_end s lines first some room is =
    let a = not_past s lines first some room ((is first).0 (omega arith)) in
    let e = mul-div_cancel_left s room in
    let b = (is lines).1 (omega (arith, e)) in omega (arith, a, b)

pub first_rises : (s lines k first next : ℕ) → IsFirstLine s lines k first → IsFirstLine s lines (k + 1) next → first ≤ next
first_rises s lines k first next is more = let a = (more next).0 (omega arith) in (is next).1 (omega (arith, a))

-- the lines from that of shard k up to that of the next one are those of shard k
pub has_its_lines : (s lines k first next : ℕ) → IsFirstLine s lines k first → IsFirstLine s lines (k + 1) next → (i : ℕ)
    → ((first ≤ i) × (i < first + (next - first))) ↔ (shard_of s lines i ≡ k)
has_its_lines s lines k first next is more i =
    let rises = first_rises s lines k first next is more in (
      λ h.
          let a = (is i).0 h.0 in
          elim (cases_lt (shard_of s lines i) (k + 1)) [
            | inl low ↦ omega (arith, a, low)
            | inr high ↦ (let b = (more i).1 high in absurd (omega (arith, b, rises, h.1)))
          ],
      λ h. (
        (is i).1 (omega (arith, h)),
        elim (cases_lt i next) [
          | inl low ↦ omega (arith, low, rises)
          | inr high ↦ (let b = (more i).0 high in absurd (omega (arith, b, h)))
        ],
      ),
    )

-- ---- lists of shards

pub get_push : {X : Type 0} (xs : List X) (y : X) (k : ℕ) (x : X) → slice_get (xs ++ y ∷ []) k ≡ Some x → (slice_get xs k ≡ Some x) ⊎ ((k ≡ length xs) × (y ≡ x))
get_push [] y zero x at = inr (refl, cc)
get_push [] y (suc k) x at = absurd (cc)
get_push (z ∷ xs) y zero x at = inl at
get_push (z ∷ xs) y (suc k) x at = elim (get_push xs y k x at) [ inl p ↦ inl p | inr q ↦ inr (ap suc q.0, q.1) ]

pub FollowOn-push : (i : ℕ) (xs : List Shard) (y : Shard) → FollowOn i xs → y.first ≡ i + lines_of xs → FollowOn i (xs ++ y ∷ [])
FollowOn-push i [] y follow e = (omega (arith, e), tt)
FollowOn-push i (x ∷ xs) y follow e =
    (follow.0, FollowOn-push (i + x.count) xs y follow.1 (let a = sum_by-cons (λ (z : Shard). z.count) x xs in omega (arith, e, a)))

pub AreDealt-push : (s lines : ℕ) (xs : List Shard) (y : Shard) → AreDealt s lines xs → ((i : ℕ) → HasLine y i ↔ (shard_of s lines i ≡ length xs)) → AreDealt s lines (xs ++ y ∷ [])
AreDealt-push s lines xs y dealt own k i x at = elim (get_push xs y k x at) [
  | inl p ↦ dealt k i x p
  | inr q ↦ subst (λ (z : Shard). HasLine z i ↔ (shard_of s lines i ≡ k)) q.1 (subst (λ j. HasLine y i ↔ (shard_of s lines i ≡ j)) (sym q.0) (own i))
]

-- ---- one shard more

-- shards without tasks up to shard k, which have the lines before line `first`
pub record HaveLines (s lines k first : ℕ) (xs : List Shard) : Type 0 where
  pub begins : IsFirstLine s lines k first
  pub follow : FollowOn 0 xs
  pub total : lines_of xs ≡ first
  pub count : length xs ≡ k
  pub dealt : AreDealt s lines xs
  pub bare : All (λ (x : Shard). x.tasks.items ≡ []) xs

pub no_lines : (s lines : ℕ) (xs : List Shard) → xs ≡ [] → HaveLines s lines 0 0 xs
no_lines s lines xs is = subst (HaveLines s lines 0 0) (sym is) (record {
  begins = first_at_0 s lines;
  follow = tt;
  total = refl;
  count = refl;
  dealt = λ k i x at. absurd (cc);
  bare = All-nil (λ (x : Shard). x.tasks.items ≡ []);
})

pub more_lines : (s lines k first next : ℕ) (xs ys : List Shard) (y : Shard) → HaveLines s lines k first xs → IsFirstLine s lines (k + 1) next → y.first ≡ first → y.count ≡ next - first → y.tasks.items ≡ []
    → ys ≡ xs ++ y ∷ [] → HaveLines s lines (k + 1) next ys
more_lines s lines k first next xs ys y have more y_first y_count none is = subst (HaveLines s lines (k + 1) next) (sym is) (record {
  begins = more;
  follow = FollowOn-push 0 xs y have.follow (let a = have.total in omega (arith, a, y_first));
  total = (let a = sum_by_push (λ (z : Shard). z.count) xs y in let b = have.total in let c = first_rises s lines k first next have.begins more in omega (arith, a, b, c, y_count));
  count = (let a = length-append xs (y ∷ []) in let b = have.count in omega (arith, a, b));
  dealt = AreDealt-push s lines xs y have.dealt own;
  bare = All-push (λ (x : Shard). x.tasks.items ≡ []) xs y have.bare none;
})
  where
    own : (i : ℕ) → HasLine y i ↔ (shard_of s lines i ≡ length xs)
    own i =
        let h = has_its_lines s lines k first next have.begins more i in (
          λ has. h.0 (omega (arith, has.0, y_first), omega (arith, has.1, y_first, y_count)) ∙ sym have.count,
          λ e. (let r = h.1 (e ∙ have.count) in (omega (arith, r.0, y_first), omega (arith, r.1, y_first, y_count))),
        )
