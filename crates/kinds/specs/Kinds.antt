-- What a kind of figure means, and what each kind owes.
use Rattle.std.specs.Prelude.{◌≡◌, ℕ, ◌≤◌, Bool, true, false, List, [], ◌∷◌, map, length}

-- A kind is a type of values with these functions.
pub record Meaning (K : Type 0) : Type 0 where
  -- the values that a figure may have: the numbers of the kind
  pub number : K → Bool
  pub infinite : K → Bool
  pub nought : K
  -- the sign turned
  pub turned : K → K
  pub at_most : K → K → Bool
  pub greater : K → K → Bool
  pub plus : K → K → K
  -- divided by a count
  pub over : K → ℕ → K

module _ {K : Type 0} (k : Meaning K) where
  -- the same number: both zeros of the floats are one
  abbrev pub Same : K → K → Type 0
  Same x y = (k.at_most x y ≡ true) × (k.at_most y x ≡ true)

  -- a running sum from zero; the list has the last summand first
  abbrev pub sum : List K → K
  sum [] = k.nought
  sum (x ∷ earlier) = k.plus (sum earlier) x

  -- what may be summed: each summand is a finite number, and each sum before it is finite
  abbrev pub Summable : List K → Type 0
  Summable [] = Unit {0}
  Summable (x ∷ earlier) = Summable earlier × (k.infinite (sum earlier) ≡ false) × (k.number x ≡ true) × (k.infinite x ≡ false)

  -- All that a kind owes. The last three speak of the running sum of at most 4,096 numbers, and of
  -- that of the same numbers with their signs turned.
  pub record Lawful : Type 0 where
    pub turned_number : (x : K) → k.number (k.turned x) ≡ k.number x
    pub turned_infinite : (x : K) → k.infinite (k.turned x) ≡ k.infinite x
    pub sum_infinite : (xs : List K) → length xs ≤ 4096 → Summable xs → k.infinite (sum (map k.turned xs)) ≡ k.infinite (sum xs)
    pub sum_turned : (xs : List K) → length xs ≤ 4096 → Summable xs → k.infinite (sum xs) ≡ false → Same (sum (map k.turned xs)) (k.turned (sum xs))
    pub mean_turned : (xs : List K) → length xs ≤ 4096 → Summable xs → k.infinite (sum xs) ≡ false → (c : ℕ) → 1 ≤ c → c ≤ 4096 → Same (k.over (sum (map k.turned xs)) c) (k.turned (k.over (sum xs) c))
