-- The sample networks keep the rules. Assumes nothing.
use Rattle.std.proofs.Common.{◌≡◌, ℕ, zero, suc, ◌-◌, ◌<◌, ◌≤◌, Bool, true, ◌&&◌, ltb, cond, ⊎_elim, refl, subst, arith}
use Rattle.std.proofs.lemmas.Bool.{and_parts, cases_lt}
use Rattle.std.proofs.lemmas.Bool.Decides.{nat_tests}
use Rattle.network.specs.Links.{linked}
use Rattle.network.specs.Making.{Lawful}
use Rattle.network.specs.Paths.{Path, here, onward}
use Rattle.network.specs.declared.link.Link.{Link}
use Rattle.network.proofs.Faults.{linked_symmetric}
use Rattle.network.proofs.Graphs.{connected_from}
use Rattle.network.proofs.Made.{lawful_from}
use Rattle.samples.specs.Samples.{link, mesh, path_links, triangle_links}

pub is_link : (l : Link) (a b : ℕ) → l.first ≡ a → l.second ≡ b → l ≡ link a b
is_link l a b first second i = record { first = first i; second = second i }

pub path_lawful : Lawful 3 path_links
path_lawful = lawful_from 3 path_links refl refl (connected_from 3 0 (linked_symmetric path_links) reach)
  where
    reach : (b : ℕ) → b < 3 → Path (linked path_links) 0 b
    reach zero inside = here
    reach (suc zero) inside = onward here refl
    reach (suc (suc zero)) inside = onward {a = 1} (onward here refl) refl
    reach (suc (suc (suc b))) inside = absurd (omega (arith, inside))

pub triangle_lawful : Lawful 3 triangle_links
triangle_lawful = lawful_from 3 triangle_links refl refl (connected_from 3 0 (linked_symmetric triangle_links) reach)
  where
    reach : (b : ℕ) → b < 3 → Path (linked triangle_links) 0 b
    reach zero inside = here
    reach (suc zero) inside = onward here refl
    reach (suc (suc zero)) inside = onward here refl
    reach (suc (suc (suc b))) inside = absurd (omega (arith, inside))

-- ---- the mesh

-- a node that a link joins to node b + 1
abbrev near : ℕ → ℕ
near b = cond (ltb b 24) b (b - 7)

abbrev upto : (ℕ → Bool) → ℕ → Bool
upto f zero = true
upto f (suc n) = upto f n && f n

upto_at : (f : ℕ → Bool) (n : ℕ) → upto f n ≡ true → (b : ℕ) → b < n → f b ≡ true
upto_at f zero all b inside = absurd (omega (arith, inside))
upto_at f (suc n) all b inside =
    let parts = and_parts (upto f n) (f n) all in
    ⊎_elim (λ lower. upto_at f n parts.0 b lower) (λ not_lower. subst (λ k. f k ≡ true) (omega (arith, inside, not_lower)) parts.1) (cases_lt b n)

joined_near : (b : ℕ) → b < 31 → linked mesh (near b) (suc b) ≡ true
joined_near = upto_at (λ b. linked mesh (near b) (suc b)) 31 refl

near_below : (b : ℕ) → near b ≤ b
near_below b = grind (arith, nat_tests)

reach_mesh : (most b : ℕ) → b ≤ most → b < 32 → Path (linked mesh) 0 b
reach_mesh most zero few inside = here
reach_mesh zero (suc b) few inside = absurd (omega (arith, few))
reach_mesh (suc most) (suc b) few inside = onward {a = near b} (reach_mesh most (near b) (omega (arith, few, near_below b)) (omega (arith, inside, near_below b))) (joined_near b (omega (arith, inside)))

pub mesh_lawful : Lawful 32 mesh
mesh_lawful = lawful_from 32 mesh refl refl (connected_from 32 0 (linked_symmetric mesh) (λ b inside. reach_mesh b b (omega arith) inside))
