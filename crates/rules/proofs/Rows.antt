-- Rows along a model, and what is left of them as the first is issued.
use Rattle.std.proofs.Common.{◌≡◌, ℕ, zero, suc, ◌-◌, ◌<◌, true, List, [], ◌∷◌, ◌++◌, take, Some, Option, refl, ap, arith}
use Rattle.std.specs.List.{AllByRecursion}
use Rattle.model.specs.Meaning.{Meaning, Laws}
use Rattle.reckoning.specs.Worths.{AreMarks}
use Rattle.rules.specs.Sequences.{last_setting, marks_along, end_along}
use Rattle.rules.specs.Station.{settings_of, marks_of, rows_of}
use Rattle.rules.specs.declared.answers.Row.{Row}

-- rows whose settings are below K and whose marks are the model's, from a state on
abbrev pub Along : {S : Type 0} → Meaning S → S → List Row → Type 0
Along m s [] = Unit {0}
Along m s (w ∷ rest) = (w.setting < m.settings) × (w.mark ≡ m.mark s w.setting) × Along m (m.next s w.setting) rest

module _ {S : Type 0} (m : Meaning S) where
  pub along_take : (k : ℕ) (s : S) (rows : List Row) → Along m s rows → Along m s (take k rows)
  along_take zero s rows h = tt
  along_take (suc k) s [] h = tt
  along_take (suc k) s (w ∷ rest) h = (h.0, h.1, along_take k (m.next s w.setting) rest h.2)

  pub along_append : (s : S) (front back : List Row) → Along m s front → Along m (end_along m s (settings_of front)) back → Along m s (front ++ back)
  along_append s [] back h k = k
  along_append s (w ∷ front) back h k = (h.0, h.1, along_append (m.next s w.setting) front back h.2 k)

  pub along_path : (s : S) (path : List ℕ) → AllByRecursion (λ k. k < m.settings) path → Along m s (rows_of path (marks_along m s path))
  along_path s [] below = tt
  along_path s (k ∷ path) below = (below.0, refl, along_path (m.next s k) path below.1)

  pub along_below : (s : S) (rows : List Row) → Along m s rows → AllByRecursion (λ k. k < m.settings) (settings_of rows)
  along_below s [] h = tt
  along_below s (w ∷ rest) h = (h.0, along_below (m.next s w.setting) rest h.2)

  pub along_marks : Laws S m → (s : S) (rows : List Row) → m.known s ≡ true → Along m s rows → AreMarks (marks_of rows)
  along_marks law s [] known h = tt
  along_marks law s (w ∷ rest) known h = (
    let e = h.1 in let l = law.small_marks s w.setting known h.0 in omega arith,
    along_marks law (m.next s w.setting) rest (law.next_known s w.setting known h.0) h.2,
  )

  pub marks_of_path : (s : S) (path : List ℕ) → marks_of (rows_of path (marks_along m s path)) ≡ marks_along m s path
  marks_of_path s [] = refl
  marks_of_path s (k ∷ path) = ap (λ (l : List ℕ). m.mark s k ∷ l) (marks_of_path (m.next s k) path)

  -- the end of the kept rows stays where it is as the first of them is issued
  pub end_issued : (s : S) (w : Row) (rest : List Row) (k : ℕ) → (k ≡ 0 → ⊥) →
      end_along m s (settings_of (take k (w ∷ rest))) ≡ end_along m (m.next s w.setting) (settings_of (take (k - 1) rest))
  end_issued s w rest zero n = absurd (n refl)
  end_issued s w rest (suc k) n =
      let e : k ≡ suc k - 1 = omega arith in
      ap (λ (j : ℕ). end_along m (m.next s w.setting) (settings_of (take j rest))) e

-- and so does the setting before it
pub last_issued : (before : Option ℕ) (w : Row) (rest : List Row) (k : ℕ) → (k ≡ 0 → ⊥) →
    last_setting before (settings_of (take k (w ∷ rest))) ≡ last_setting (Some w.setting) (settings_of (take (k - 1) rest))
last_issued before w rest zero n = absurd (n refl)
last_issued before w rest (suc k) n = let e : k ≡ suc k - 1 = omega arith in ap (λ (j : ℕ). last_setting (Some w.setting) (settings_of (take j rest))) e

pub marks_of_both : (front back : List Row) → marks_of (front ++ back) ≡ marks_of front ++ marks_of back
marks_of_both [] back = refl
marks_of_both (w ∷ front) back = ap (λ (l : List ℕ). w.mark ∷ l) (marks_of_both front back)
