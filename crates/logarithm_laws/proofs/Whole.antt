-- Whole numbers as floats keep their order; and the sign of a value, by its order with zero. Assumes nothing.
use Rattle.std.proofs.Common.{ℕ, suc, ◌+◌, ◌*◌, ◌<◌, ◌≤◌, Bool, true, false, T, ℤ, pos, negsuc, neg_ℤ, ◌≤ℤ◌, refl, inl, inr, zero-lt-suc, mul-pos, zero-mul, arith, pow_pos}
use Rattle.std.proofs.lemmas.Int.{ints}
use lib.Ieee.{Float, fin, Format, up, down, round, of_int, le}
use lib.Ieee.Fits.{up_pos}
use Rattle.numeric.proofs.Rounding.{Is, rnd_mono, le_of_Le}
use Rattle.numeric.proofs.Intervals.{mk, In}
use Rattle.numeric.proofs.Order.{zero_f, no_N}

-- k lies between -l and h
abbrev pub Between : ℕ → ℕ → ℤ → Type 0
Between l h k = (neg_ℤ (pos l) ≤ℤ k) × (k ≤ℤ pos h)

-- the whole numbers -n and n as floats
abbrev pub minus_whole : Format → ℕ → Float
minus_whole f n = round f true n 1

abbrev pub whole : Format → ℕ → Float
whole f n = round f false n 1

is_whole : (f : Format) (n : ℕ) → Is f (whole f n) n 0 1
is_whole f n = inl (n, (omega arith), refl)

is_minus : (f : Format) (n : ℕ) → Is f (minus_whole f n) 0 n 1
is_minus f n = inr (n, (omega arith), refl)

pub of_int_in : (f : Format) (l h : ℕ) (k : ℤ) → Between l h k → In (of_int f k) (mk (minus_whole f l) (whole f h))
unfolding of_int
of_int_in f l h (pos n) b =
    let u : n ≤ h = omega (arith, ints) in (
      rnd_mono f (minus_whole f l) (whole f n) 0 l 1 n 0 1 (pow_pos 0) (pow_pos 0) (is_minus f l) (is_whole f n) (omega arith),
      rnd_mono f (whole f n) (whole f h) n 0 1 h 0 1 (pow_pos 0) (pow_pos 0) (is_whole f n) (is_whole f h) (omega arith),
    )
of_int_in f l h (negsuc n) b =
    let d : suc n ≤ l = omega (arith, ints) in (
      rnd_mono f (minus_whole f l) (minus_whole f (suc n)) 0 l 1 0 (suc n) 1 (pow_pos 0) (pow_pos 0) (is_minus f l) (is_minus f (suc n)) (omega arith),
      rnd_mono f (minus_whole f (suc n)) (whole f h) 0 (suc n) 1 h 0 1 (pow_pos 0) (pow_pos 0) (is_minus f (suc n)) (is_whole f h) (omega arith),
    )

-- ---- zero
-- a zero is not above zero
pub zero_under : (s : Bool) (e : ℤ) → T (le (fin s 0 e) zero_f)
zero_under true e = le_of_Le (fin true 0 e) zero_f tt tt (go (up e) (down e))
  where
    go : (u d : ℕ) → 0 * 1 + 0 * d ≤ 0 * 1 * d + 0 * u * 1
    go u d = omega arith
zero_under false e = le_of_Le (fin false 0 e) zero_f tt tt (go (up e) (down e))
  where
    go : (u d : ℕ) → 0 * u * 1 + 0 * d ≤ 0 * 1 * d + 0 * 1
    go u d = let z = zero-mul u in omega arith

-- and zero not above a value below zero
pub above_negative : (m : ℕ) (e : ℤ) → T (le zero_f (fin true (suc m) e)) → ⊥
above_negative m e h =
    let z = no_N (fin true (suc m) e) tt h in
    let l : 0 < suc m * up e = mul-pos (zero-lt-suc m) (up_pos e) in
    omega arith
