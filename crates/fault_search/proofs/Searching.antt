-- The search, one fault at a time.
use Rattle.std.proofs.Common.{◌≡◌, ℕ, suc, ◌+◌, ◌-◌, ◌<◌, ◌≤◌, List, [], ◌∷◌, ◌++◌, length, Some, None, sym, ap, ◌∙◌, arith, append_assoc, length-append}
use Rattle.std.proofs.lemmas.List.{append-nil}
use Rattle.fault_search.specs.declared.first.PlacedFault.{PlacedFault}
use Rattle.fault_search.specs.First.{fault_of_text}
use Rattle.fault_search.specs.Search.{text_after, found_in, found_by, faults_of}

pub begins : (most : ℕ) (text left : List ℕ) → left ≡ text → faults_of most text ≡ [] ++ faults_of (most - 0) left
begins most text left e =
    let same : most ≡ most - 0 = omega arith in
    ap (λ n. faults_of n text) same ∙ ap (faults_of (most - 0)) (sym e)

module _ (most : ℕ) (text left : List ℕ) (found : List PlacedFault) (sofar : faults_of most text ≡ found ++ faults_of (most - length found) left) where
  pub all_found : most ≤ length found → found ≡ faults_of most text
  all_found h =
      let none : most - length found ≡ 0 = omega arith in
      sym (sofar ∙ ap (λ n. found ++ faults_of n left) none ∙ append-nil found)

  module _ (room : length found < most) where
    opened : faults_of most text ≡ found ++ found_by (faults_of (most - (length found + 1))) left (fault_of_text left)
    opened =
        let one : most - length found ≡ suc (most - (length found + 1)) = omega arith in
        sofar ∙ ap (λ n. found ++ faults_of n left) one

    pub none_left : None ≡ fault_of_text left → found ≡ faults_of most text
    none_left is = sym (opened ∙ ap (λ o. found ++ found_by (faults_of (most - (length found + 1))) left o) (sym is) ∙ append-nil found)

    module _ (f : PlacedFault) (is : Some f ≡ fault_of_text left) (new : List PlacedFault) (adds : new ≡ found ++ f ∷ []) where
      one_opened : faults_of most text ≡ found ++ f ∷ found_in (faults_of (most - (length found + 1))) (text_after left f.at)
      one_opened = opened ∙ ap (λ o. found ++ found_by (faults_of (most - (length found + 1))) left o) (sym is)

      pub last_one : None ≡ text_after left f.at → new ≡ faults_of most text
      last_one ends = adds ∙ sym (one_opened ∙ ap (λ t. found ++ f ∷ found_in (faults_of (most - (length found + 1))) t) (sym ends))

      pub one_more : (next : List ℕ) → Some next ≡ text_after left f.at → faults_of most text ≡ new ++ faults_of (most - length new) next
      one_more next goes =
          let size = ap length adds ∙ length-append found (f ∷ []) in
          let count : most - (length found + 1) ≡ most - length new = omega (arith, size) in
          one_opened ∙ ap (λ t. found ++ f ∷ found_in (faults_of (most - (length found + 1))) t) (sym goes)
          ∙ sym (append_assoc found (f ∷ []) (faults_of (most - (length found + 1)) next))
          ∙ ap (λ xs. xs ++ faults_of (most - (length found + 1)) next) (sym adds)
          ∙ ap (λ n. new ++ faults_of n next) count
