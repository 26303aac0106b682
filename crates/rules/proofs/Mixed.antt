-- What every station keeps since its making, whatever models and reckonings its calls are handed.
use Rattle.std.proofs.Common.{◌≡◌, ℕ, zero, suc, ◌-◌, ◌<◌, ◌≤◌, Bool, true, false, cond, eqb, ltb, List, [], ◌∷◌, ◌++◌, length, get_or, take, set, Some, None, Ok, Option, Result, sym, refl, ap, ◌∙◌, subst, inl, ⊎_elim, arith, length-append, length-set, length-take}
use Rattle.std.specs.List.{AllByRecursion}
use Rattle.std.proofs.lemmas.Bool.{cond_both, eqb-false, ltb-false, cases_eq, cases_lt}
use Rattle.std.proofs.ByRecursion.{All-append, All-set, All-weaker, All-get_or, All-take}
use Rattle.std.proofs.lemmas.List.{get_or_append_left, get_or-append_right, get_or-set_same, get_or-set_other, get_or_default}
use Rattle.model.specs.Meaning.{Meaning, Laws}
use Rattle.reckoning.specs.Meaning.{Meaning as Reckoning}
use Rattle.reckoning.specs.Worths.{low_worth, high_worth}
use Rattle.rules.specs.Limits.{greatest_depth, most_kept, most_rows, most_node_cells}
use Rattle.rules.specs.Sequences.{Start, Allowed, Below}
use Rattle.rules.specs.Trees.{Node, depth, root, node, child, children, closed, first_refusal}
use Rattle.rules.specs.Leaves.{Any, Leaf, best_leaf, next_leaf, low_of, high_of, plan, expand_next}
use Rattle.rules.specs.Work.{is_near, refused_by, ending, ended_or, work, Worked}
use Rattle.rules.specs.Station.{Search, Station, View, Closed, Live, settings_of, rows_of, made}
use Rattle.rules.specs.Calls.{Call, begin_call, work_call, take_call, abandon_call, issue_call, observe_call, row_call, outcome, after, replaces, planned_rows, rows_taken, one_less_kept, issue_leaves}
use Rattle.rules.specs.Runs.{Turn, run, OnOpen}
use Rattle.rules.specs.Mixed.{OnLive, UnderAnyMix, PathWithin, SearchWithin, WithinLimits, ChildOf, TreeGrown, PathsGrown, Reckoned, WorthsOfOwnMarks, WorkCounted}
use Rattle.rules.specs.declared.answers.Row.{Row}
use Rattle.rules.specs.declared.answers.Stop.{Stop}
use Rattle.rules.specs.declared.answers.Stop.TheVariants.{Near, Spent, Deep, Full}
use Rattle.rules.specs.declared.fault.StepFault.{StepFault}
use Rattle.rules.proofs.Sequences.{nothing_allowed, last_below}
use Rattle.rules.proofs.Leaves.{any_map, all_there, best_leaf_is}
use Rattle.rules.proofs.Trees.{children_all}
use Rattle.rules.proofs.CallCases.{made_cases, begun_cases, worked_cases, taken_cases, abandoned_cases, issued_cases, observed_cases}
use Rattle.rules.proofs.Counting.{length_expanded, expansion_leaves_leaf, expansion_within, work_counts}

-- a node that stands for another: the same path and state, and expanded if the other is
record SamePath {S : Type 0} (n old : Node S) : Type 0 where
  settings_same : n.settings ≡ old.settings
  marks_same : n.marks ≡ old.marks
  state_same : n.state ≡ old.state
  still_expanded : old.expanded ≡ true → n.expanded ≡ true

-- what an expansion leaves at the number of a node that was there
at_old : {S : Type 0} (tree more : List (Node S)) (i : ℕ) (d e : Node S) (k : ℕ) → i < length tree → k < length tree →
    SamePath (get_or (set tree i (closed (get_or tree i e)) ++ more) k d) (get_or tree k d)
at_old {S} tree more i d e k in-i in-k =
    let c = closed (get_or tree i e) in
    let l = length-set tree i c in
    let there : get_or (set tree i c ++ more) k d ≡ get_or (set tree i c) k d = get_or_append_left (set tree i c) more d k (omega arith) in
    subst (λ (x : Node S). SamePath x (get_or tree k d)) (sym there)
    (⊎_elim
    (λ (same : k ≡ i).
    let written : get_or (set tree i c) k d ≡ c = ap (λ (j : ℕ). get_or (set tree i c) j d) same ∙ get_or-set_same tree i c d in-i in
    let old : get_or tree k d ≡ get_or tree i e = ap (λ (j : ℕ). get_or tree j d) same ∙ get_or_default tree i d e in-i in
    subst (λ (x : Node S). SamePath x (get_or tree k d)) (sym written)
    (subst (λ (y : Node S). SamePath c y) (sym old) (record { settings_same = refl; marks_same = refl; state_same = refl; still_expanded = λ h. refl })))
    (λ (other : k ≡ i → ⊥).
    subst (λ (x : Node S). SamePath x (get_or tree k d)) (sym (get_or-set_other tree i k c d other))
    (record { settings_same = refl; marks_same = refl; state_same = refl; still_expanded = λ h. h }))
    (cases_eq k i))

module _ {S : Type 0} (turns : List (Turn S)) where
  child_moved : (p n oldp oldn : Node S) → SamePath p oldp → SamePath n oldn → ChildOf turns oldp oldn → ChildOf turns p n
  child_moved p n oldp oldn sp sn c = record {
    parent_expanded = sp.still_expanded c.parent_expanded;
    setting = c.setting;
    mark = c.mark;
    one_setting_more = sn.settings_same ∙ c.one_setting_more ∙ ap (λ (l : List ℕ). l ++ (c.setting ∷ [])) (sym sp.settings_same);
    one_mark_more = sn.marks_same ∙ c.one_mark_more ∙ ap (λ (l : List ℕ). l ++ (c.mark ∷ [])) (sym sp.marks_same);
    by_a_model_handed = any_map
        (λ t. (c.mark ≡ t.model.mark oldp.state c.setting) × (oldn.state ≡ t.model.next oldp.state c.setting))
        (λ t. (c.mark ≡ t.model.mark p.state c.setting) × (n.state ≡ t.model.next p.state c.setting))
        (λ t h. (
          h.0 ∙ ap (λ (s : S). t.model.mark s c.setting) (sym sp.state_same),
          sn.state_same ∙ h.1 ∙ ap (λ (s : S). t.model.next s c.setting) (sym sp.state_same),
        )) turns c.by_a_model_handed;
  }

  -- this model and this reckoning were handed to a call
  abbrev Handed : Meaning S → Reckoning → Type 0
  Handed m r = Any (λ t. (t.model ≡ m) × (t.reckoning ≡ r)) turns

  reckoned : (m : Meaning S) (r : Reckoning) → Handed m r → (n : Node S) → n.low ≡ low_worth r n.marks → n.high ≡ high_worth r n.marks → Reckoned turns n
  reckoned m r handed n low high =
      any_map (λ t. (t.model ≡ m) × (t.reckoning ≡ r)) (λ t. (n.low ≡ low_worth t.reckoning n.marks) × (n.high ≡ high_worth t.reckoning n.marks))
      (λ t h. (low ∙ ap (λ (x : Reckoning). low_worth x n.marks) (sym h.1), high ∙ ap (λ (x : Reckoning). high_worth x n.marks) (sym h.1))) turns handed

  child_of_closed : (m : Meaning S) (r : Reckoning) → Handed m r → (n : Node S) (k : ℕ) → ChildOf turns (closed n) (child m r n k)
  child_of_closed m r handed n k = record {
    parent_expanded = refl;
    setting = k;
    mark = m.mark n.state k;
    one_setting_more = refl;
    one_mark_more = refl;
    by_a_model_handed = any_map (λ t. (t.model ≡ m) × (t.reckoning ≡ r)) (λ t. (m.mark n.state k ≡ t.model.mark n.state k) × (m.next n.state k ≡ t.model.next n.state k))
        (λ t h. (ap (λ (x : Meaning S). x.mark n.state k) (sym h.0), ap (λ (x : Meaning S). x.next n.state k) (sym h.0))) turns handed;
  }

  record TreeFits (K cells : ℕ) (start : Start S) (tree : List (Node S)) : Type 0 where
    within : AllByRecursion (PathWithin K start) tree
    few : length tree ≤ cells
    leaf : Any Leaf tree
    worths : AllByRecursion (Reckoned turns) tree
    grown : TreeGrown turns start tree

  all_allowed : (K : ℕ) (start : Start S) (tree : List (Node S)) → AllByRecursion (PathWithin K start) tree → AllByRecursion (λ n. Allowed K start n.settings) tree
  all_allowed K start tree within = All-weaker (PathWithin K start) (λ n. Allowed K start n.settings) (λ n h. h.allowed) tree within

  first_fits : (m : Meaning S) (r : Reckoning) → Handed m r → (K cells : ℕ) (start : Start S) → 1 ≤ cells → TreeFits K cells start (root r.ceiling start ∷ [])
  first_fits m r handed K cells start room = record {
    within = (record { allowed = nothing_allowed K start; not_too_deep = omega arith; mark_for_each_setting = refl }, tt);
    few = room;
    leaf = inl refl;
    worths = (reckoned m r handed (root r.ceiling start) refl refl, tt);
    grown = record { start_first = λ d. (refl, refl, refl); parents_before = λ d i l. absurd (omega arith) };
  }

  module _ (m : Meaning S) (r : Reckoning) (handed : Handed m r) (start : Start S) (cells : ℕ) (some : 1 ≤ m.settings) (below : Below start.before m.settings) where
    expansion_grown : (tree : List (Node S)) → Any Leaf tree → TreeGrown turns start tree → TreeGrown turns start (expand_next m r start tree)
    expansion_grown tree leaf g =
        let i = next_leaf tree in
        let n = node start tree i in
        let more = children m r start n m.settings in
        let within = (best_leaf_is high_of tree (root 0 start) leaf).0 in
        let kids : AllByRecursion (ChildOf turns (closed n)) more = children_all m r start (ChildOf turns (closed n)) n m.settings (λ k l w. child_of_closed m r handed n k) in
        record {
          start_first = λ d.
              let old = g.start_first d in
              let same = at_old tree more i d (root 0 start) 0 within (omega arith) in
              (same.settings_same ∙ old.0, same.marks_same ∙ old.1, same.state_same ∙ old.2);
          parents_before = λ d k l. ⊎_elim
              (λ (old : suc k < length tree).
              let p = g.parents_before d k old in
              let before : p.0 ≤ k = p.1 in (
                p.0,
                p.1,
                child_moved (get_or (set tree i (closed n) ++ more) p.0 d) (get_or (set tree i (closed n) ++ more) (suc k) d) (get_or tree p.0 d) (get_or tree (suc k) d)
                    (at_old tree more i d (root 0 start) p.0 within (omega arith)) (at_old tree more i d (root 0 start) (suc k) within old) p.2,
              ))
              (λ (new : length tree ≤ suc k).
              let written = length-set tree i (closed n) in
              let size = length-append (set tree i (closed n)) more in
              let child_is : get_or (set tree i (closed n) ++ more) (suc k) d ≡ get_or more (suc k - length tree) d = get_or-append_right (set tree i (closed n)) more (length tree) (suc k) d written new in
              let parent_is : get_or (set tree i (closed n) ++ more) i d ≡ closed n =
              get_or_append_left (set tree i (closed n)) more d i (omega arith) ∙ get_or-set_same tree i (closed n) d within in (
                i,
                omega arith,
                subst (λ (x : Node S). ChildOf turns x (get_or (set tree i (closed n) ++ more) (suc k) d)) (sym parent_is)
                    (subst (λ (x : Node S). ChildOf turns (closed n) x) (sym child_is) (All-get_or (ChildOf turns (closed n)) more (suc k - length tree) d (omega arith) kids)),
              ))
              (cases_lt (suc k) (length tree));
        }

    expansion_fits : (tree : List (Node S)) → TreeFits m.settings cells start tree → (depth (node start tree (next_leaf tree)) ≡ greatest_depth → ⊥) → m.settings ≤ cells - length tree →
        TreeFits m.settings cells start (expand_next m r start tree)
    expansion_fits tree t not_deep room =
        let i = next_leaf tree in
        let n = node start tree i in
        let within = (best_leaf_is high_of tree (root 0 start) t.leaf).0 in
        record {
          within = expansion_within m r start some below tree t.leaf not_deep t.within;
          few = let l = length_expanded m r start tree in let f = t.few in omega arith;
          leaf = expansion_leaves_leaf m r start some below tree t.leaf (all_allowed m.settings start tree t.within);
          worths = All-append (Reckoned turns) (set tree i (closed n)) (children m r start n m.settings)
              (All-set (Reckoned turns) tree i (closed n) (All-get_or (Reckoned turns) tree i (root 0 start) within t.worths) t.worths)
              (children_all m r start (Reckoned turns) n m.settings (λ k l w. reckoned m r handed (child m r n k) refl refl));
          grown = expansion_grown tree t.leaf t.grown;
        }

    -- no stop applies before an expansion
    going_on : (near none deep full : Bool) (refusal : Option StepFault) →
        cond near (Some (Ok Near)) (cond none (Some (Ok Spent)) (cond deep (Some (Ok Deep)) (cond full (Some (Ok Full)) (refused_by refusal)))) ≡ None → (deep ≡ false) × (full ≡ false)
    going_on true none deep full refusal h = cc
    going_on false true deep full refusal h = cc
    going_on false false true full refusal h = cc
    going_on false false false true refusal h = cc
    going_on false false false false refusal h = (refl, refl)

    work_fits : (wanted : Option ℕ) (n : ℕ) (tree : List (Node S)) → TreeFits m.settings cells start tree → TreeFits m.settings cells start (work m r start cells wanted n tree).tree
    work_fits wanted zero tree t = by_end (ending m start cells wanted 0 tree)
      where
        by_end : (o : Option (Result Stop StepFault)) → TreeFits m.settings cells start (ended_or o tree (record { end = Ok Spent; tree = tree })).tree
        by_end None = t
        by_end (Some e) = t
    work_fits wanted (suc n) tree t =
        by_end (ending m start cells wanted (suc n) tree) refl (work m r start cells wanted n (expand_next m r start tree)) (λ d f. work_fits wanted n (expand_next m r start tree) (expansion_fits tree t d f))
      where
        by_end : (o : Option (Result Stop StepFault)) → ending m start cells wanted (suc n) tree ≡ o → (w : Worked S) →
            ((depth (node start tree (next_leaf tree)) ≡ greatest_depth → ⊥) → m.settings ≤ cells - length tree → TreeFits m.settings cells start w.tree) →
            TreeFits m.settings cells start (ended_or o tree w).tree
        by_end (Some x) e w f = t
        by_end None e w f =
            let g = going_on (is_near wanted tree) (eqb (suc n) 0) (eqb (depth (node start tree (next_leaf tree))) greatest_depth) (ltb (cells - length tree) m.settings)
            (first_refusal m start (next_leaf tree) (node start tree (next_leaf tree)) m.settings) e in
            f (eqb-false (depth (node start tree (next_leaf tree))) greatest_depth g.0) (ltb-false (cells - length tree) m.settings g.1)

  record SearchFits (st : Station S) (q : Search S) : Type 0 where
    kept_few : q.kept ≤ most_kept
    kept_rows : q.kept ≤ length st.rows
    before_below : Below q.start.before st.settings
    tree_fits : TreeFits st.settings st.cells q.start q.tree

  record StationFits (st : Station S) : Type 0 where
    some_settings : 1 ≤ st.settings
    some_cells : 1 ≤ st.cells
    few_cells : st.cells ≤ most_node_cells
    few_rows : length st.rows ≤ most_rows
    rows_below : AllByRecursion (λ w. w.setting < st.settings) st.rows
    last_is_below : Below st.last st.settings
    search_fits : OnOpen (SearchFits st) st.search

  -- settings of rows below K, and rows of a path below K
  settings_below : (K : ℕ) (rows : List Row) → AllByRecursion (λ w. w.setting < K) rows → AllByRecursion (λ k. k < K) (settings_of rows)
  settings_below K [] h = tt
  settings_below K (w ∷ rows) h = (h.0, settings_below K rows h.1)

  path_rows_below : (K : ℕ) (path marks : List ℕ) → AllByRecursion (λ k. k < K) path → AllByRecursion (λ w. w.setting < K) (rows_of path marks)
  path_rows_below K [] marks h = tt
  path_rows_below K (k ∷ path) [] h = tt
  path_rows_below K (k ∷ path) (mark ∷ marks) h = (h.0, path_rows_below K path marks h.1)

  length_rows_of : (path marks : List ℕ) → length (rows_of path marks) ≤ length path
  length_rows_of [] marks = omega arith
  length_rows_of (k ∷ path) [] = omega arith
  length_rows_of (k ∷ path) (mark ∷ marks) = let h = length_rows_of path marks in omega arith

  module _ (m : Meaning S) (r : Reckoning) (handed : Handed m r) (st : Station S) (k : StationFits st) where
    begin_fits : (keep : ℕ) → StationFits (outcome m r (begin_call keep) st).1
    begin_fits keep =
        begun_cases m r st keep (λ out. StationFits out.1) (λ e. k)
        (λ few within same end walked. record {
          some_settings = k.some_settings;
          some_cells = k.some_cells;
          few_cells = k.few_cells;
          few_rows = k.few_rows;
          rows_below = k.rows_below;
          last_is_below = k.last_is_below;
          search_fits = record {
            kept_few = few;
            kept_rows = within;
            before_below = last_below st.settings st.last (settings_of (take keep st.rows)) k.last_is_below
                (settings_below st.settings (take keep st.rows) (All-take (λ w. w.setting < st.settings) keep st.rows k.rows_below));
            tree_fits = first_fits m r handed st.settings st.cells _ k.some_cells;
          };
        })

    work_call_fits : (number : ℕ) (wanted : Option ℕ) → StationFits (outcome m r (work_call number wanted) st).1
    work_call_fits number wanted =
        worked_cases m r st number wanted (λ out. StationFits out.1) (λ e. k)
        (λ q e same answer.
        let f : SearchFits st q = subst (OnOpen (SearchFits st)) e k.search_fits in
        let back = sym same in
        let tree = (work m r q.start st.cells wanted number q.tree).tree in
        record {
          some_settings = k.some_settings;
          some_cells = k.some_cells;
          few_cells = k.few_cells;
          few_rows = k.few_rows;
          rows_below = k.rows_below;
          last_is_below = k.last_is_below;
          search_fits = record {
            kept_few = f.kept_few;
            kept_rows = f.kept_rows;
            before_below = f.before_below;
            tree_fits = subst (λ (x : ℕ). TreeFits x st.cells q.start tree) same
                (work_fits m r handed q.start st.cells (let s = k.some_settings in omega arith) (subst (Below q.start.before) back f.before_below) wanted number q.tree
                (subst (λ (x : ℕ). TreeFits x st.cells q.start q.tree) back f.tree_fits));
          };
        })

    take_fits : StationFits (outcome m r take_call st).1
    take_fits =
        taken_cases m r st (λ out. StationFits out.1) (λ e. k)
        (λ q e.
        let f : SearchFits st q = subst (OnOpen (SearchFits st)) e k.search_fits in
        let p = plan q.start q.tree in
        let best = (best_leaf_is low_of q.tree (root 0 q.start) f.tree_fits.leaf).0 in
        let path : PathWithin st.settings q.start p = All-get_or (PathWithin st.settings q.start) q.tree (best_leaf low_of q.tree) (root 0 q.start) best f.tree_fits.within in
        let front = take q.kept st.rows in
        let rows : (length (rows_taken r st q) ≤ most_rows) × AllByRecursion (λ w. w.setting < st.settings) (rows_taken r st q) =
        cond_both (replaces r st q) (front ++ planned_rows q) st.rows (λ l. (length l ≤ most_rows) × AllByRecursion (λ w. w.setting < st.settings) l)
        (λ h. (
          let a = length-append front (planned_rows q) in let b = length-take q.kept st.rows in let c = length_rows_of p.settings p.marks in
              let d = path.not_too_deep in let u = f.kept_few in omega arith,
          All-append (λ w. w.setting < st.settings) front (planned_rows q) (All-take (λ w. w.setting < st.settings) q.kept st.rows k.rows_below) (path_rows_below st.settings p.settings p.marks path.allowed.below_k),
        ))
        (λ h. (k.few_rows, k.rows_below)) in
        record {
          some_settings = k.some_settings;
          some_cells = k.some_cells;
          few_cells = k.few_cells;
          few_rows = rows.0;
          rows_below = rows.1;
          last_is_below = k.last_is_below;
          search_fits = tt;
        })

    abandon_fits : StationFits (outcome m r abandon_call st).1
    abandon_fits =
        abandoned_cases m r st (λ out. StationFits out.1) (λ e. k)
        (record { some_settings = k.some_settings; some_cells = k.some_cells; few_cells = k.few_cells; few_rows = k.few_rows; rows_below = k.rows_below; last_is_below = k.last_is_below; search_fits = tt })

    issue_fits : StationFits (outcome m r issue_call st).1
    issue_fits =
        issued_cases m r st (λ out. StationFits out.1) (λ e. k)
        (λ w rest rows some same p stepped.
        let size : length st.rows ≡ suc (length rest) = ap length rows in
        let below : AllByRecursion (λ w. w.setting < st.settings) (w ∷ rest) = subst (AllByRecursion (λ w. w.setting < st.settings)) rows k.rows_below in
        record {
          some_settings = k.some_settings;
          some_cells = k.some_cells;
          few_cells = k.few_cells;
          few_rows = let f = k.few_rows in omega arith;
          rows_below = below.1;
          last_is_below = below.0;
          search_fits = one_less w rest size p.1 st.search k.search_fits;
        })
      where
        one_less : (w : Row) (rest : List Row) → length st.rows ≡ suc (length rest) → (s : S) → (o : Option (Search S)) → OnOpen (SearchFits st) o → OnOpen (SearchFits (issue_leaves st w rest s)) (one_less_kept o)
        one_less w rest size s None f = tt
        one_less w rest size s (Some q) f = record {
          kept_few = let a = f.kept_few in omega arith;
          kept_rows = let a = f.kept_rows in omega arith;
          before_below = f.before_below;
          tree_fits = f.tree_fits;
        }

    observe_fits : (s : S) → StationFits (outcome m r (observe_call s) st).1
    observe_fits s =
        observed_cases m r st s (λ out. StationFits out.1) (λ e. k) k
        (λ known. record {
          some_settings = k.some_settings;
          some_cells = k.some_cells;
          few_cells = k.few_cells;
          few_rows = omega arith;
          rows_below = tt;
          last_is_below = k.last_is_below;
          search_fits = tt;
        })

  call_fits : (t : Turn S) → Handed t.model t.reckoning → (c : Call S) (st : Station S) → StationFits st → StationFits (outcome t.model t.reckoning c st).1
  call_fits t h (begin_call keep) st k = begin_fits t.model t.reckoning h st k keep
  call_fits t h (work_call number wanted) st k = work_call_fits t.model t.reckoning h st k number wanted
  call_fits t h take_call st k = take_fits t.model t.reckoning h st k
  call_fits t h abandon_call st k = abandon_fits t.model t.reckoning h st k
  call_fits t h issue_call st k = issue_fits t.model t.reckoning h st k
  call_fits t h (observe_call s) st k = observe_fits t.model t.reckoning h st k s
  call_fits t h (row_call number) st k = k

  after_fits : (t : Turn S) → Handed t.model t.reckoning → (v : View S) → OnLive StationFits v → OnLive StationFits (after t.model t.reckoning t.call v)
  after_fits t h (Closed cause) k = tt
  after_fits t h (Live st) k = call_fits t h t.call st k

  run_fits : (ts : List (Turn S)) → AllByRecursion (λ t. Handed t.model t.reckoning) ts → (v : View S) → OnLive StationFits v → OnLive StationFits (run ts v)
  run_fits [] h v k = k
  run_fits (t ∷ ts) h v k = run_fits ts h.1 (after t.model t.reckoning t.call v) (after_fits t h.0 v k)

  all_handed : AllByRecursion (λ t. Handed t.model t.reckoning) turns
  all_handed = all_there (λ t u. (u.model ≡ t.model) × (u.reckoning ≡ t.reckoning)) (λ t. (refl, refl)) turns

  made_fits : (m : Meaning S) → Laws S m → (s : S) (limit cells : ℕ) → OnLive StationFits (made m s limit cells)
  made_fits m law s limit cells =
      made_cases m s limit cells (OnLive StationFits) (λ c. tt)
      (λ known low enough. record {
        some_settings = law.one_setting;
        some_cells = let k = law.one_setting in omega arith;
        few_cells = omega arith;
        few_rows = omega arith;
        rows_below = tt;
        last_is_below = tt;
        search_fits = tt;
      })

  mixed : (m : Meaning S) → Laws S m → (s : S) (limit cells : ℕ) → OnLive StationFits (run turns (made m s limit cells))
  mixed m law s limit cells = run_fits turns all_handed (made m s limit cells) (made_fits m law s limit cells)

  -- what follows of a station and of its open search
  on_live : (P : Station S → Type 0) → ((st : Station S) → StationFits st → P st) → (v : View S) → OnLive StationFits v → OnLive P v
  on_live P f (Closed cause) k = tt
  on_live P f (Live st) k = f st k

  on_open : (st : Station S) (P : Search S → Type 0) → ((q : Search S) → SearchFits st q → P q) → (o : Option (Search S)) → OnOpen (SearchFits st) o → OnOpen P o
  on_open st P f None h = tt
  on_open st P f (Some q) h = f q h

module _ {S : Type 0} where
  pub within_limits : UnderAnyMix S WithinLimits
  within_limits m law s limit cells turns =
      on_live turns (WithinLimits turns)
      (λ st k. record {
        cells_at_most_65536 = k.few_cells;
        rows_at_most_64 = k.few_rows;
        rows_below_k = k.rows_below;
        last_below_k = k.last_is_below;
        search_within = on_open turns st (SearchWithin st)
            (λ q f. record {
              kept_at_most_32 = f.kept_few;
              kept_at_most_rows = f.kept_rows;
              before_below_k = f.before_below;
              nodes_at_most_cells = f.tree_fits.few;
              paths_within = f.tree_fits.within;
              some_leaf = f.tree_fits.leaf;
            }) st.search k.search_fits;
      })
      (run turns (made m s limit cells)) (mixed turns m law s limit cells)

  pub paths_grown : UnderAnyMix S PathsGrown
  paths_grown m law s limit cells turns =
      on_live turns (PathsGrown turns)
      (λ st k. on_open turns st (λ q. TreeGrown turns q.start q.tree) (λ q f. f.tree_fits.grown) st.search k.search_fits)
      (run turns (made m s limit cells)) (mixed turns m law s limit cells)

  pub worths_of_own_marks : UnderAnyMix S WorthsOfOwnMarks
  worths_of_own_marks m law s limit cells turns =
      on_live turns (WorthsOfOwnMarks turns)
      (λ st k. on_open turns st (λ q. AllByRecursion (Reckoned turns) q.tree) (λ q f. f.tree_fits.worths) st.search k.search_fits)
      (run turns (made m s limit cells)) (mixed turns m law s limit cells)

  pub work_counted : UnderAnyMix S WorkCounted
  work_counted m law s limit cells turns =
      on_live turns (WorkCounted turns)
      (λ st k. on_open turns st _
      (λ q f w r number wanted same.
      let back = sym same in
      work_counts w r q.start (let a = k.some_settings in omega arith) (subst (Below q.start.before) back f.before_below) st.cells wanted number q.tree f.tree_fits.leaf
      (subst (λ (x : ℕ). AllByRecursion (λ n. Allowed x q.start n.settings) q.tree) back (all_allowed turns st.settings q.start q.tree f.tree_fits.within)))
      st.search k.search_fits)
      (run turns (made m s limit cells)) (mixed turns m law s limit cells)
