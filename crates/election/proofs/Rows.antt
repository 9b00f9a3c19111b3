-- Tables with a row for each node, and lists of nodes. Assumes nothing.
use Rattle.std.proofs.Common.{◌≡◌, ℕ, zero, suc, ◌+◌, ◌<◌, ◌≤◌, Bool, true, false, ◌⊎◌, List, [], ◌∷◌, map, length, get_or, set, replicate, sum_by, sym, refl, ap, ◌∙◌, ap₂, inl, inr, ⊎_elim, arith, length-append}
use lib.ListN.{length-map}
use Rattle.std.specs.List.{ContainsAt}
use Rattle.std.proofs.ByRecursion.{has_append_right}
use Rattle.std.proofs.lemmas.List.{get_or-set_other, get_or-set_same, take_all}
use Rattle.std.proofs.lemmas.Bool.{cases_Bool, cases_eq, eq-eqb, ne_eqb}
use Rattle.base.specs.NodeSets.{members}
use Rattle.wave.specs.Lone.{at_node}
use Rattle.wave.specs.declared.step.Step.{Step}
use Rattle.rules.specs.Sums.{one, total}
use Rattle.rules.proofs.Totals.{total_at, total_list}
use Rattle.extinction.specs.Elections.{letter, letters}
use Rattle.tables.specs.Tables.{sends}

-- ---- rows

module _ {A : Type 0} where
  pub at_same : (f : ℕ → A) (node : ℕ) (a : A) → at_node f node a node ≡ a
  at_same f node a = rw (eq-eqb node node refl) refl

  pub at_other : (f : ℕ → A) (node : ℕ) (a : A) (v : ℕ) → (v ≡ node → ⊥) → at_node f node a v ≡ f v
  at_other f node a v other = rw (ne_eqb v node other) refl

  pub get_or_all : (k v : ℕ) (x : A) → get_or (replicate k x) v x ≡ x
  get_or_all zero v x = refl
  get_or_all (suc k) zero x = refl
  get_or_all (suc k) (suc v) x = get_or_all k v x

-- a row is written, read by a function of rows: the written one at its place, the others as before
pub written : {A B : Type 0} (read : A → B) (xs : List A) (node : ℕ) (a d : A) (f : ℕ → B) → node < length xs → ((v : ℕ) → read (get_or xs v d) ≡ f v) → (v : ℕ) → read (get_or (set xs node a) v d) ≡ at_node f node (read a) v
written read xs node a d f within is v = ⊎_elim (λ same. ap (λ w. read (get_or (set xs node a) w d)) same ∙ ap read (get_or-set_same xs node a d within) ∙ sym (at_same f node (read a)) ∙ ap (at_node f node (read a)) (sym same)) (λ other. ap read (get_or-set_other xs node v a d other) ∙ is v ∙ sym (at_other f node (read a) v other)) (cases_eq v node)

-- ---- sums

-- a sum that grows at one node
pub total_more : (f : ℕ → ℕ) (node k more : ℕ) → node < k → total (at_node f node (f node + more)) k ≡ total f k + more
total_more f node k more within =
    omega (arith, total_at f (at_node f node (f node + more)) node k within (at_other f node (f node + more)), at_same f node (f node + more))

-- how many pass a test, among the nodes below k
pub ones_most : (p : ℕ → Bool) (k : ℕ) → total (λ i. one (p i)) k ≤ k
unfolding total
ones_most p zero = omega arith
ones_most p (suc k) = ⊎_elim (λ passes. omega (arith, ones_most p k, ap one passes)) (λ fails. omega (arith, ones_most p k, ap one fails)) (cases_Bool (p k))

pub ones_more : (p : ℕ → Bool) (node k : ℕ) → node < k → p node ≡ false → total (λ i. one (at_node p node true i)) k ≡ total (λ i. one (p i)) k + 1
ones_more p node k within out =
    omega (arith, total_at (λ i. one (p i)) (λ i. one (at_node p node true i)) node k within (λ i other. ap one (at_other p node true i other)), ap one (at_same p node true), ap one out)

pub sum_total : {A : Type 0} (f : A → ℕ) (xs : List A) (d : A) → sum_by f xs ≡ total (λ v. f (get_or xs v d)) (length xs)
sum_total f xs d = ap (sum_by f) (sym (take_all (length xs) xs (omega arith))) ∙ total_list f xs d (length xs) (omega arith)

-- ---- what a step sends

pub letters_sent : {T : Type 0} (s node : ℕ) (step : Step) (holding : T) → length (letters s node step holding) ≡ sends step
letters_sent s node step holding =
    length-append (map (letter s node 1 holding) (members step.first_kind)) (map (letter s node 2 holding) (members step.second_kind)) ∙ ap₂ ◌+◌ (length-map (members step.first_kind) (letter s node 1 holding)) (length-map (members step.second_kind) (letter s node 2 holding))

-- ---- lists of nodes

pub has_first : (x : ℕ) (xs : List ℕ) → ContainsAt (x ∷ xs) x
has_first x xs = (0, omega arith, λ d. refl)

pub has_later : (x y : ℕ) (xs : List ℕ) → ContainsAt xs y → ContainsAt (x ∷ xs) y
has_later x y xs = has_append_right (x ∷ []) xs y

pub has_cases : (x y : ℕ) (xs : List ℕ) → ContainsAt (x ∷ xs) y → (x ≡ y) ⊎ ContainsAt xs y
has_cases x y xs (zero, within, is) = inl (is 0)
has_cases x y xs (suc k, within, is) = inr (k, omega arith, is)
