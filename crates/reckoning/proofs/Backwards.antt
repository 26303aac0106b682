-- Marks joined from the last to the first, as a fold over the marks in reverse.
use Rattle.std.proofs.Common.{◌≡◌, ℕ, List, [], ◌∷◌, reverse, refl, sym}
use Rattle.std.specs.List.{fold}
use Rattle.std.proofs.lemmas.List.{reverse-append}
use Rattle.std.proofs.lemmas.Grind.{fold-append}
use Rattle.reckoning.specs.Meaning.{Meaning}
use Rattle.reckoning.specs.Worths.{joined_from, low_worth, high_worth}

-- whatever joins them
module _ (join : ℕ → ℕ → ℕ) where
  joined_as_fold : (start : ℕ) (marks : List ℕ) → fold (λ worth mark. join mark worth) start (reverse marks) ≡ joined_from join start marks
  joined_as_fold start [] = refl
  joined_as_fold start (mark ∷ marks) = rw (reverse-append (mark ∷ []) marks, fold-append, joined_as_fold start marks) refl

-- so both worths are
module _ (r : Meaning) (marks : List ℕ) where
  pub low_worth_as_fold : low_worth r marks ≡ fold (λ worth mark. r.low mark worth) 0 (reverse marks)
  low_worth_as_fold = sym (joined_as_fold r.low 0 marks)

  pub high_worth_as_fold : high_worth r marks ≡ fold (λ worth mark. r.high mark worth) r.ceiling (reverse marks)
  high_worth_as_fold = sym (joined_as_fold r.high r.ceiling marks)
