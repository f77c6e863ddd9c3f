-- Lines whose tokens have known codes.
use Rattle.std.proofs.Common.{◌≡◌, ◌≢◌, ℕ, ◌⊎◌, inl, inr, true, List, pos, Option, Some, None, IsSome, refl, sym, subst, ◌∙◌}
use Rattle.net_base.specs.declared.tasks.Side.{Side}
use Rattle.net_base.specs.declared.tasks.Task.{Task}
use Rattle.token_line.specs.declared.line.Line.{Line}
use Rattle.token_line.specs.declared.tokens.TokenCount.{TokenCount}
use Rattle.token_line.specs.Bags.{is_at}
use Rattle.token_line.specs.Coded.{HasCodes}
use Rattle.token_line.specs.Lines.{IsAlone, IsFiled, KeepsCodes, KeepsCodesBut, filed_in, sum_in}
use Rattle.token_line.proofs.Filed.{kept_under, nothing}
use Rattle.token_line.proofs.LineLemmas.{at_task}

module _ (f : List ℕ → ℕ) where
  pub coded_none : (line : Line) → ((n c : ℕ) (s : Side) (t : List ℕ) → filed_in line n c s t ≡ None) → HasCodes f line
  coded_none line none n c s t some = absurd (nothing (filed_in line n c s t) (none n c s t) some)

  pub coded_alone : (line : Line) → HasCodes f line → (n c : ℕ) (s : Side) (t : List ℕ) → c ≡ f t → IsAlone line n c s t
  coded_alone line codes n c s t own d ne = by (filed_in line n d s t) refl
    where
      by : (o : Option TokenCount) → filed_in line n d s t ≡ o → o ≡ None
      by None q = refl
      by (Some k) q = absurd (ne (codes n d s t (subst IsSome (sym q) refl) ∙ sym own))

  pub coded_but : (old new : Line) (code : ℕ) (x : Task) → HasCodes f old → code ≡ f x.token → KeepsCodesBut old new code x → HasCodes f new
  coded_but old new code x codes own kept n c s t some = by (kept n c s t some)
    where
      by : IsFiled old n c s t ⊎ ((c ≡ code) × (is_at n s t x ≡ true)) → c ≡ f t
      by (inl before) = codes n c s t before
      by (inr here) = at_task (λ m d u. c ≡ f u) x n s t here.1 (here.0 ∙ own)

  pub coded_same : (old new : Line) → HasCodes f old → KeepsCodes old new → HasCodes f new
  coded_same old new codes kept n c s t some = codes n c s t (kept n c s t some)

-- where all tokens have one code, each that has a sum other than 0 is kept under it
pub coded_filed : (k : ℕ) (line : Line) → HasCodes (λ t. k) line → (n : ℕ) (s : Side) (t : List ℕ) → sum_in line n s t ≢ pos 0 → IsFiled line n k s t
coded_filed k line codes n s t some =
    let kept = kept_under line n s t some in
    subst (λ c. IsFiled line n c s t) (codes n kept.0 s t kept.1) kept.1
