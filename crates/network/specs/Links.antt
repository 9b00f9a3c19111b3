-- Lists of links, as they are given. Assumes nothing.
use Rattle.std.specs.Prelude.{ℕ, Bool, false, cond, ◌&&◌, ◌||◌, List, [], ◌∷◌, ◌++◌, Some, None, Option, ◌==◌, nat_lt, slice_index_or}
use Rattle.base.specs.declared.refusal.Refusal.{Refusal}
use Rattle.base.specs.declared.refusal.Refusal.TheVariants.{EndsOutOfOrder, LinkRepeated}
use Rattle.network.specs.declared.link.Link.{Link}

-- a link joins its two ends, either way round
abbrev pub joins : Link → ℕ → ℕ → Bool
joins l a b = (l.first == a && l.second == b) || (l.first == b && l.second == a)

-- one of the links joins a and b
abbrev pub linked : List Link → ℕ → ℕ → Bool
linked [] a b = false
linked (l ∷ links) a b = joins l a b || linked links a b

abbrev pub no_link : Link
no_link = record { first = 0; second = 0 }

-- the link at a place of the list
abbrev pub link_at : List Link → ℕ → Link
link_at links k = slice_index_or links k no_link

-- both ends are nodes, and the first is the lower
abbrev pub fits : ℕ → Link → Bool
fits nodes l = nat_lt l.first l.second && nat_lt l.second nodes

-- what is wrong with a link, where `joined` tells what the links before it join
abbrev pub fault : ℕ → (ℕ → ℕ → Bool) → Link → Option Refusal
fault nodes joined l = cond (fits nodes l) (cond (joined l.first l.second) (Some LinkRepeated) None) (Some EndsOutOfOrder)

abbrev pub or_else : Option Refusal → Option Refusal → Option Refusal
or_else (Some why) other = Some why
or_else None other = other

-- the first fault of the links behind those in `before`
abbrev pub first_fault : ℕ → List Link → List Link → Option Refusal
first_fault nodes before [] = None
first_fault nodes before (l ∷ links) = or_else (fault nodes (linked before) l) (first_fault nodes (before ++ (l ∷ [])) links)
