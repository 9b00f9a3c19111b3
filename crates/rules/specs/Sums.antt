-- Sums over the nodes below a number. Assumes nothing.
use Rattle.std.specs.Prelude.{ℕ, zero, suc, ◌+◌, Bool, cond}

-- 1 where a test holds, else 0
abbrev pub one : Bool → ℕ
one b = cond b 1 0

unfoldable pub total : (ℕ → ℕ) → ℕ → ℕ
total f zero = 0
total f (suc k) = total f k + f k
