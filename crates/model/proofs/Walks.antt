-- A walk, step by step, and that it goes through from a known state under settings below K.
use Rattle.std.proofs.Common.{◌≡◌, ℕ, suc, ◌+◌, ◌<◌, ◌≤◌, true, List, [], ◌∷◌, length, get_or, drop, Ok, Err, Result, sym, ap, ◌∙◌, subst, arith, MatchResult}
use Rattle.std.proofs.lemmas.List.{at_drop_more, at_drop_all}
use Rattle.std.proofs.lemmas.Bool.{cond-true, lt-ltb}
use Rattle.model.specs.declared.walking.WalkFault.{WalkFault}
use Rattle.model.specs.Meaning.{Meaning, Laws, step}
use Rattle.model.specs.Walk.{walk, walk_from, onward, at_place, WalksToKnown}

module _ {S : Type 0} (m : Meaning S) (s : S) (ks : List ℕ) (i : ℕ) where
  -- the walk over what is left begins with the step by the setting at i
  walk_next : i < length ks → walk_from m i s (drop i ks) ≡ onward (at_place i (step m s (get_or ks i 0))) (λ t. walk_from m (i + 1) t (drop (i + 1) ks))
  walk_next h = at_drop_more (walk_from m i s) ks i 0 h

  pub walk_granted : (t : S) → i < length ks → at_place i (step m s (get_or ks i 0)) ≡ Ok t → walk_from m (i + 1) t (drop (i + 1) ks) ≡ walk_from m i s (drop i ks)
  walk_granted t h e = sym (walk_next h ∙ ap (λ r. onward r (λ t. walk_from m (i + 1) t (drop (i + 1) ks))) e)

  pub walk_refused : (f : WalkFault) → i < length ks → at_place i (step m s (get_or ks i 0)) ≡ Err f → walk_from m i s (drop i ks) ≡ Err f
  walk_refused f h e = walk_next h ∙ ap (λ r. onward r (λ t. walk_from m (i + 1) t (drop (i + 1) ks))) e

  pub walk_ends : length ks ≤ i → walk_from m i s (drop i ks) ≡ Ok s
  walk_ends h = at_drop_all (walk_from m i s) ks i h

-- a step from a known state under a setting below K is granted
pub step_granted : {S : Type 0} (m : Meaning S) (s : S) (k : ℕ) → m.known s ≡ true → k < m.settings → step m s k ≡ Ok (m.mark s k, m.next s k)
step_granted m s k e h = cond-true (m.known s) _ _ e ∙ cond-true _ _ _ (lt-ltb k m.settings h)

granted : {S : Type 0} (m : Meaning S) → Laws S m → (i : ℕ) (s : S) (ks : List ℕ) → WalksToKnown m s ks (walk_from m i s ks)
granted m l i s [] e below = e
granted {S} m l i s (k ∷ ks) e below =
    let first : k < m.settings = below 0 (omega arith) in
    let rest = granted m l (i + 1) (m.next s k) ks (l.next_known s k e first) (λ j h. below (suc j) (omega arith)) in
    let Good : Result S WalkFault → Type 0 = λ r. MatchResult r (λ t. m.known t ≡ true) (λ _. ⊥) in
    subst (λ r. Good (onward (at_place i r) (λ t. walk_from m (i + 1) t ks))) (sym (step_granted m s k e first)) rest

pub walk_known : {S : Type 0} (m : Meaning S) → Laws S m → (s : S) (ks : List ℕ) (r : Result S WalkFault) → r ≡ walk m s ks → WalksToKnown m s ks r
walk_known {S} m l s ks r e = subst (λ (x : Result S WalkFault). WalksToKnown m s ks x) (sym e) (granted m l 0 s ks)
