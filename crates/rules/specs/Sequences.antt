-- Sequences of settings from a start: which are allowed, and what the model gives along them.
use Rattle.std.specs.Prelude.{◌≡◌, ℕ, ◌+◌, ◌<◌, Bool, true, cond, List, [], ◌∷◌, ◌++◌, Some, None, Option, ◌==◌, nat_le}
use Rattle.std.specs.List.{AllByRecursion}
use Rattle.model.specs.Meaning.{Meaning}

-- Where a search starts: a state, the setting before it or none, and the switch limit S.
pub record Start (S : Type 0) : Type 0 where
  pub state : S
  pub before : Option ℕ
  pub limit : ℕ

-- 1 where a setting differs from the one before it; with none before, any setting is free
abbrev pub switch : Option ℕ → ℕ → ℕ
switch None k = 0
switch (Some before) k = cond (before == k) 0 1

-- how many places of a sequence differ from the setting before them
abbrev pub switches : Option ℕ → List ℕ → ℕ
switches before [] = 0
switches before (k ∷ rest) = switch before k + switches (Some k) rest

-- the one test of what the limit allows: at most S places differ from the setting before them
abbrev pub allows : {S : Type 0} → Start S → List ℕ → Bool
allows start path = nat_le (switches start.before path) start.limit

-- An allowed sequence, under K settings: each setting is below K, and the limit allows it.
pub record Allowed {S : Type 0} (K : ℕ) (start : Start S) (path : List ℕ) : Type 0 where
  pub below_k : AllByRecursion (λ k. k < K) path
  pub within_limit : allows start path ≡ true

-- a setting below K, or none
abbrev pub Below : Option ℕ → ℕ → Type 0
Below None K = Unit {0}
Below (Some k) K = k < K

-- the setting that comes before whatever follows a sequence
abbrev pub last_setting : Option ℕ → List ℕ → Option ℕ
last_setting before [] = before
last_setting before (k ∷ rest) = last_setting (Some k) rest

-- the marks that the model gives along a sequence from a state, and the state at its end
abbrev pub marks_along : {S : Type 0} → Meaning S → S → List ℕ → List ℕ
marks_along m s [] = []
marks_along m s (k ∷ rest) = m.mark s k ∷ marks_along m (m.next s k) rest

abbrev pub end_along : {S : Type 0} → Meaning S → S → List ℕ → S
end_along m s [] = s
end_along m s (k ∷ rest) = end_along m (m.next s k) rest

-- The laws of the test, which is all that the proofs about searches use of it.
pub record LimitLaws {S : Type 0} (start : Start S) : Type 0 where
  pub nothing_is_allowed : allows start [] ≡ true
  pub front_is_allowed : (front rest : List ℕ) → allows start (front ++ rest) ≡ true → allows start front ≡ true
  pub setting_before_may_repeat : (path : List ℕ) (k : ℕ) → last_setting start.before path ≡ Some k → allows start path ≡ true → allows start (path ++ (k ∷ [])) ≡ true
  pub first_is_free_with_none_before : (k : ℕ) → start.before ≡ None → allows start (k ∷ []) ≡ true
